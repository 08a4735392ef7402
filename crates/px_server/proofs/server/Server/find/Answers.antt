use Rattle.std.proofs.Common.{rules, ◌≡◌, ◌∙◌, None, subst}
use Rattle.px_calls.specs.Calls.{DidFind}
use Rattle.px_calls.specs.Causes.{Refuses, find_cause}
use Rattle.px_calls.specs.declared.fault.StepFault.TheVariants.{Closed, Memory, NoTable}
use Rattle.px_server.specs.Shown.{Shown, known_by, shown_of}
use Rattle.px_server.proofs.Found.{closed_by, did_find, found_no_memory, found_no_table}
use Rattle.px_server.proofs.Released.{none_of}
use Rattle.px_server.proofs.server.Server.find.Goals.{in-Ok, in-Err}
use Rattle.px_server.proofs.server.Server.find.Goals as goal

pub returns-in-Some-clause-refused : goal.returns-in-Some-clause-refused
returns-in-Some-clause-refused g c =
    let s = c.self.inside in
    let b = g.B.Based.base in
    let told = c.self.invariant.0.told in
    let v : Shown = shown_of s.seat s.trail.entries s.late s.closed s.groups.items s.lookback s.raising (g.D.Disk.calls s.disk) (g.D.Disk.faults s.disk) in
    subst (λ (w : Shown). Refuses (find_cause c.args.name.now) (known_by b g.B.Based.damaged w) (known_by b g.B.Based.damaged w) (Closed c.in-Some.call)) c.self.view_is
    (closed_by (known_by b g.B.Based.damaged v) told.legal s.closed told.closing c.in-Some.call c.in-Some.is)

pub returns-in_default-table_place-clause-refused : goal.returns-in_default-table_place-clause-refused
returns-in_default-table_place-clause-refused g c =
    let s = c.self.inside in
    let b = g.B.Based.base in
    let told = c.self.invariant.0.told in
    let v : Shown = shown_of s.seat s.trail.entries s.late s.closed s.groups.items s.lookback s.raising (g.D.Disk.calls s.disk) (g.D.Disk.faults s.disk) in
    let running : s.closed ≡ None = none_of s.closed (λ x is. search rules) in
    subst (λ (w : Shown). Refuses (find_cause c.args.name.now) (known_by b g.B.Based.damaged w) (known_by b g.B.Based.damaged w) NoTable) c.self.view_is
    (found_no_table (known_by b g.B.Based.damaged v) told.legal s.closed told.closing s.standing told.agrees running c.args.name.now c.in_default-table_place.ensures.none)

pub returns-clause-ok : goal.returns-clause-ok
returns-clause-ok g c =
    let s = c.self.inside in
    let b = g.B.Based.base in
    let told = c.self.invariant.0.told in
    let v : Shown = shown_of s.seat s.trail.entries s.late s.closed s.groups.items s.lookback s.raising (g.D.Disk.calls s.disk) (g.D.Disk.faults s.disk) in
    let running : s.closed ≡ None = none_of s.closed (λ x is. search rules) in
    elim c.match-found.branch [
      | in-Ok w ↦ rw w.result-is (subst (λ (u : Shown). DidFind (known_by b g.B.Based.damaged u) (known_by b g.B.Based.damaged u) c.args.name.now w.in-Ok.table) c.self.view_is
          (did_find (known_by b g.B.Based.damaged v) told.legal s.closed told.closing s.standing told.agrees running c.args.name.now w.in-Ok.table c.in-Some-table_place.place c.in-Some-table_place.ensures.found c.in-Some-table_place.ensures.named
          w.in-Ok.ensures.table w.in-Ok.ensures.indexes (w.in-Ok.ensures.at ∙ c.len.ensures)))
      | in-Err w ↦ rw w.result-is tt
    ]

pub returns-clause-refused : goal.returns-clause-refused
returns-clause-refused g c =
    let s = c.self.inside in
    let b = g.B.Based.base in
    let told = c.self.invariant.0.told in
    let v : Shown = shown_of s.seat s.trail.entries s.late s.closed s.groups.items s.lookback s.raising (g.D.Disk.calls s.disk) (g.D.Disk.faults s.disk) in
    let running : s.closed ≡ None = none_of s.closed (λ x is. search rules) in
    elim c.match-found.branch [
      | in-Ok w ↦ rw w.result-is tt
      | in-Err w ↦ rw w.result-is (subst (λ (u : Shown). Refuses (find_cause c.args.name.now) (known_by b g.B.Based.damaged u) (known_by b g.B.Based.damaged u) Memory) c.self.view_is
          (found_no_memory (known_by b g.B.Based.damaged v) told.legal s.closed told.closing s.standing told.agrees running c.args.name.now))
    ]
