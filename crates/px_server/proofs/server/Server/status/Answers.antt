use Rattle.std.proofs.Common.{rules, ◌≡◌, None, List, map, refl, sym, ap, subst, ◌∙◌}
use Rattle.px_calls.specs.Calls.{DidCount}
use Rattle.px_calls.specs.Causes.{Refuses, status_cause}
use Rattle.px_calls.specs.declared.fault.StepFault.TheVariants.{Closed, Memory, NoTable}
use Rattle.px_standing.proofs.Looked.{lacks}
use Rattle.px_tables.specs.declared.index.Index.{Index}
use Rattle.px_recovery.specs.Tables.{indexes_of}
use Rattle.px_repairs.proofs.Handing.{got_some}
use Rattle.px_server.specs.Counts.{CountKeys, count_as}
use Rattle.px_server.specs.Shown.{HasLogged, Shown, known_by, shown_of}
use Rattle.px_server.proofs.Found.{closed_by}
use Rattle.px_server.proofs.Counted.{counts_no_memory, counts_no_table, did_count, has_logged}
use Rattle.px_server.proofs.PointOpened.{own, told_here}
use Rattle.px_server.proofs.Released.{none_of, place_in}
use Rattle.px_server.proofs.server.Server.status.Goals.{in-Ok, in-Err}
use Rattle.px_server.proofs.server.Server.status.Goals as goal

pub returns-in-Some-clause-refused : goal.returns-in-Some-clause-refused
returns-in-Some-clause-refused g c =
    let s = c.self.inside in
    let b = g.B.Based.base in
    let told = c.self.invariant.0.told in
    let v : Shown = shown_of s.seat s.trail.entries s.late s.closed s.groups.items s.lookback s.raising (g.D.Disk.calls s.disk) (g.D.Disk.faults s.disk) in
    subst (λ (w : Shown). Refuses (status_cause g.B.Founded.sound c.args.table.0) (known_by b g.B.Based.damaged w) (known_by b g.B.Based.damaged w) (Closed c.in-Some.call)) c.self.view_is
    (closed_by (known_by b g.B.Based.damaged v) told.legal s.closed told.closing c.in-Some.call c.in-Some.is)

pub returns-in_default-numbered_place-clause-refused : goal.returns-in_default-numbered_place-clause-refused
returns-in_default-numbered_place-clause-refused g c =
    let s = c.self.inside in
    let b = g.B.Based.base in
    let told = c.self.invariant.0.told in
    let v : Shown = shown_of s.seat s.trail.entries s.late s.closed s.groups.items s.lookback s.raising (g.D.Disk.calls s.disk) (g.D.Disk.faults s.disk) in
    let running : s.closed ≡ None = none_of s.closed (λ x is. search rules) in
    subst (λ (w : Shown). Refuses (status_cause g.B.Founded.sound c.args.table.0) (known_by b g.B.Based.damaged w) (known_by b g.B.Based.damaged w) NoTable) c.self.view_is
    (counts_no_table (known_by b g.B.Based.damaged v) told.legal s.closed told.closing running s.standing told.agrees c.args.table g.B.Founded.sound (lacks b s.trail.entries s.standing told.agrees c.args.table.0 c.in_default-numbered_place.ensures.none))

pub returns-clause-ok : goal.returns-clause-ok
returns-clause-ok g c =
    let s = c.self.inside in
    let b = g.B.Based.base in
    let kept = c.self.invariant.0 in
    let told = kept.told in
    let v : Shown = shown_of s.seat s.trail.entries s.late s.closed s.groups.items s.lookback s.raising (g.D.Disk.calls s.disk) (g.D.Disk.faults s.disk) in
    let running : s.closed ≡ None = none_of s.closed (λ x is. search rules) in
    let place = c.in-Some-numbered_place in
    elim c.match-counts_of.branch [
      | in-Ok w ↦ rw w.result-is (subst (λ (u : Shown). DidCount (known_by b g.B.Based.damaged u) (known_by b g.B.Based.damaged u) c.args.table
          (record { last = c.index-group.result.now.last; horizon = c.index-group.result.now.horizon; cells = w.cells_in.result; files = w.files_in.result; indexes = w.in-Ok.indexes })) c.self.view_is
          (did_count (known_by b g.B.Based.damaged v) told.legal s.closed told.closing running s.standing told.agrees c.args.table place.place place.ensures.found place.ensures.numbered c.index-group.result.now
          (own g.D.Disk b g.B.Founded.sound g.B.Founded.premise g.B.Founded.began s.disk s.catalog s.standing s.groups.items s.trail s.late s.closed kept running c.args.table place.place c.index-group.result.now place.ensures.found place.ensures.numbered (sym c.index-group.ensures))
          (told_here g.D.Disk b g.B.Founded.sound g.B.Founded.premise g.B.Founded.began s.disk s.catalog s.standing s.groups.items s.trail s.late s.closed kept running c.args.table place.place c.index-group.result.now place.ensures.found place.ensures.numbered (sym c.index-group.ensures))
          (record { last = c.index-group.result.now.last; horizon = c.index-group.result.now.horizon; cells = w.cells_in.result; files = w.files_in.result; indexes = w.in-Ok.indexes }) refl refl
          (w.in-Ok.ensures.indexes ∙ ap (λ (xs : List Index). map count_as (indexes_of c.args.table.0 xs)) c.as_slice.ensures)))
      | in-Err w ↦ rw w.result-is tt
    ]

pub returns-clause-counted : goal.returns-clause-counted
returns-clause-counted g c =
    let s = c.self.inside in
    let b = g.B.Based.base in
    let kept = c.self.invariant.0 in
    let running : s.closed ≡ None = none_of s.closed (λ x is. search rules) in
    let place = c.in-Some-numbered_place in
    let inside = place_in s.groups.items s.standing.tables kept.each.stand place.place place.ensures.found in
    elim c.match-counts_of.branch [
      | in-Ok w ↦ rw w.result-is (subst (λ (u : Shown). HasLogged u.logged c.args.table.0 w.cells_in.result) c.self.view_is
          (has_logged s.groups.items place.place c.index-group.result.now inside (sym c.index-group.ensures) c.args.table
          (own g.D.Disk b g.B.Founded.sound g.B.Founded.premise g.B.Founded.began s.disk s.catalog s.standing s.groups.items s.trail s.late s.closed kept running c.args.table place.place c.index-group.result.now place.ensures.found place.ensures.numbered (sym c.index-group.ensures))
          w.cells_in.result w.cells_in.ensures))
      | in-Err w ↦ rw w.result-is tt
    ]

pub returns-clause-refused : goal.returns-clause-refused
returns-clause-refused g c =
    let s = c.self.inside in
    let b = g.B.Based.base in
    let told = c.self.invariant.0.told in
    let v : Shown = shown_of s.seat s.trail.entries s.late s.closed s.groups.items s.lookback s.raising (g.D.Disk.calls s.disk) (g.D.Disk.faults s.disk) in
    let running : s.closed ≡ None = none_of s.closed (λ x is. search rules) in
    elim c.match-counts_of.branch [
      | in-Ok w ↦ rw w.result-is tt
      | in-Err w ↦ rw w.result-is (subst (λ (u : Shown). Refuses (status_cause g.B.Founded.sound c.args.table.0) (known_by b g.B.Based.damaged u) (known_by b g.B.Based.damaged u) Memory) c.self.view_is
          (counts_no_memory (known_by b g.B.Based.damaged v) told.legal s.closed told.closing running s.standing told.agrees c.args.table g.B.Founded.sound))
    ]

pub returns-clause-keys : goal.returns-clause-keys
returns-clause-keys g c =
    let s = c.self.inside in
    let b = g.B.Based.base in
    let kept = c.self.invariant.0 in
    let running : s.closed ≡ None = none_of s.closed (λ x is. search rules) in
    let place = c.in-Some-numbered_place in
    let inside = place_in s.groups.items s.standing.tables kept.each.stand place.place place.ensures.found in
    elim c.match-counts_of.branch [
      | in-Ok w ↦ rw w.result-is (subst (λ (u : Shown). CountKeys u.groups c.args.table w.in-Ok.indexes) c.self.view_is (record {
        place = place.place;
        group = c.index-group.result.now;
        at = got_some s.groups.items place.place c.index-group.result.now c.index-group.result.now inside c.index-group.ensures;
        id = own g.D.Disk b g.B.Founded.sound g.B.Founded.premise g.B.Founded.began s.disk s.catalog s.standing s.groups.items s.trail s.late s.closed kept running c.args.table place.place c.index-group.result.now place.ensures.found place.ensures.numbered (sym c.index-group.ensures);
        counts = w.in-Ok.ensures.keys;
      }))
      | in-Err w ↦ rw w.result-is tt
    ]
