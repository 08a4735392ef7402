use Rattle.std.proofs.Common.{rules, ◌≡◌, Bool, None, [], ◌∷◌, ◌++◌, refl, sym, ap, subst, ◌∙◌}
use Rattle.std.specs.List.{slice_set}
use Rattle.std.proofs.lemmas.Result.{err_from_is_err_and}
use Rattle.px_calls.specs.Calls.{DidOpen}
use Rattle.px_calls.specs.Causes.{Refuses, open_cause}
use Rattle.px_calls.specs.declared.fault.StepFault.{StepFault}
use Rattle.px_calls.specs.declared.fault.StepFault.TheVariants.{Closed, Memory, NoTable}
use Rattle.px_tables.specs.declared.found.Found.{Found}
use Rattle.px_trail.specs.declared.entry.Act.TheVariants.{Opened as OpenedAct}
use Rattle.px_trail.specs.Recorded.{Recorded}
use Rattle.px_region.specs.declared.region.Region.{Region}
use Rattle.px_group.specs.declared.group.Group.{Group}
use Rattle.px_standing.proofs.Looked.{lacks}
use Rattle.px_server.specs.Looks.{rows_looked}
use Rattle.px_server.specs.Points.{IsPointOf}
use Rattle.px_server.specs.Shown.{Shown, known_by, shown_of}
use Rattle.px_server.proofs.Found.{closed_by}
use Rattle.px_server.proofs.Lists.{sum_kept}
use Rattle.px_server.proofs.PointOpened.{did_open, no_point, one_there, open_no_memory, open_no_table, opens, opens_none, own, right_here, told_here}
use Rattle.px_server.proofs.Released.{none_of, place_in}
use Rattle.px_server.proofs.Stamping.{more_by_clock, same_by_clock}
use Rattle.px_server.specs.DeviceCalls.{Blames}
use Rattle.px_server.proofs.DeviceCalls.{none_by, no_point_blames}
use Rattle.px_server.proofs.server.Server.open_point.Goals as goal

pub returns-in-Some-clause-refused : goal.returns-in-Some-clause-refused
returns-in-Some-clause-refused g c =
    let s = c.self.inside in
    let b = g.B.Based.base in
    let told = c.self.invariant.0.told in
    let v : Shown = shown_of s.seat s.trail.entries s.late s.closed s.groups.items s.lookback s.raising (g.D.Disk.calls s.disk) (g.D.Disk.faults s.disk) in
    subst (λ (w : Shown). Refuses (open_cause c.args.table.0 c.args.scn) (known_by b g.B.Based.damaged w) (known_by b g.B.Based.damaged w) (Closed c.in-Some.call)) c.self.view_is
    (closed_by (known_by b g.B.Based.damaged v) told.legal s.closed told.closing c.in-Some.call c.in-Some.is)

pub returns-in_default-numbered_place-clause-refused : goal.returns-in_default-numbered_place-clause-refused
returns-in_default-numbered_place-clause-refused g c =
    let s = c.self.inside in
    let b = g.B.Based.base in
    let told = c.self.invariant.0.told in
    let v : Shown = shown_of s.seat s.trail.entries s.late s.closed s.groups.items s.lookback s.raising (g.D.Disk.calls s.disk) (g.D.Disk.faults s.disk) in
    let running : s.closed ≡ None = none_of s.closed (λ x is. search rules) in
    subst (λ (w : Shown). Refuses (open_cause c.args.table.0 c.args.scn) (known_by b g.B.Based.damaged w) (known_by b g.B.Based.damaged w) NoTable) c.self.view_is
    (open_no_table (known_by b g.B.Based.damaged v) told.legal s.closed told.closing running c.args.table.0 c.args.scn (lacks b s.trail.entries s.standing told.agrees c.args.table.0 c.in_default-numbered_place.ensures.none))

pub returns-in_err-stamp-clause-refused : goal.returns-in_err-stamp-clause-refused
returns-in_err-stamp-clause-refused g c =
    let s = c.self.inside in
    let b = g.B.Based.base in
    let kept = c.self.invariant.0 in
    let told = kept.told in
    let v : Shown = shown_of s.seat s.trail.entries s.late s.closed s.groups.items s.lookback s.raising (g.D.Disk.calls s.disk) (g.D.Disk.faults s.disk) in
    let running : s.closed ≡ None = none_of s.closed (λ x is. search rules) in
    let place = c.in-Some-numbered_place in
    let p = err_from_is_err_and c.from_residual.result c.from_residual.ensures.1 in
    let refused : Refuses (open_cause c.args.table.0 c.args.scn) (known_by b g.B.Based.damaged v) (known_by b g.B.Based.damaged v) c.in_err-stamp.field-0.0 =
    no_point (known_by b g.B.Based.damaged v) told.legal s.closed told.closing running c.index.result.now
    (right_here g.D.Disk b g.B.Founded.sound g.B.Founded.premise g.B.Founded.began s.disk s.catalog s.standing s.groups.items s.trail s.late s.closed kept running c.args.table place.place c.index.result.now place.ensures.found place.ensures.numbered (sym c.index.ensures))
    (told_here g.D.Disk b g.B.Founded.sound g.B.Founded.premise g.B.Founded.began s.disk s.catalog s.standing s.groups.items s.trail s.late s.closed kept running c.args.table place.place c.index.result.now place.ensures.found place.ensures.numbered (sym c.index.ensures))
    c.args.table
    (own g.D.Disk b g.B.Founded.sound g.B.Founded.premise g.B.Founded.began s.disk s.catalog s.standing s.groups.items s.trail s.late s.closed kept running c.args.table place.place c.index.result.now place.ensures.found place.ensures.numbered (sym c.index.ensures))
    c.args.scn c.in_err-stamp.field-0.0 c.in_err-stamp.ensures.none
    in
    rw p.1 (subst (λ (f : StepFault). Refuses (open_cause c.args.table.0 c.args.scn) (known_by b g.B.Based.damaged c.args.self.now) (known_by b g.B.Based.damaged c.args.self.now) f) (sym p.2)
    (subst (λ (w : Shown). Refuses (open_cause c.args.table.0 c.args.scn) (known_by b g.B.Based.damaged w) (known_by b g.B.Based.damaged w) c.in_err-stamp.field-0.0) c.self.view_is refused))

pub returns-in_default-found-clause-refused : goal.returns-in_default-found-clause-refused
returns-in_default-found-clause-refused g c =
    let s = c.self.inside in
    let b = g.B.Based.base in
    let told = c.self.invariant.0.told in
    let v : Shown = shown_of s.seat s.trail.entries s.late s.closed s.groups.items s.lookback s.raising (g.D.Disk.calls s.disk) (g.D.Disk.faults s.disk) in
    let running : s.closed ≡ None = none_of s.closed (λ x is. search rules) in
    subst (λ (w : Shown). Refuses (open_cause c.args.table.0 c.args.scn) (known_by b g.B.Based.damaged w) (known_by b g.B.Based.damaged w) Memory) c.self.view_is
    (open_no_memory (known_by b g.B.Based.damaged v) told.legal s.closed told.closing running c.args.table.0 c.args.scn)

pub invariant_of-self : goal.invariant_of-self
invariant_of-self g c =
    let s = c.self.inside in
    let running : s.closed ≡ None = none_of s.closed (λ x is. search rules) in
    let trail : c.note_point.new.trail ≡ s.trail = search rules in
    let place = c.in-Some-numbered_place in (
      opens_none g.D.Disk g.B.Based.base g.B.Founded.sound g.B.Founded.premise g.B.Founded.began s.disk s.catalog s.standing s.groups.items s.trail s.late s.closed c.self.invariant.0 running c.args.table place.place c.index_mut.result.now place.ensures.found place.ensures.numbered (sym c.index_mut.ensures.value)
          c.note_point.new.group c.in-Err.ensures.same (search rules) c.note_point.new.trail (search rules),
      (c.self.invariant.1.0, same_by_clock g.C.Clock g.B.Founded.times g.B.Based.base g.B.Founded.lookback s.lookback s.clock s.trail.entries c.self.invariant.1.1 c.note_point.new.trail.entries (ap (λ (t : Recorded). t.entries) trail)),
    )

pub returns-in-Err-clause-refused : goal.returns-in-Err-clause-refused
returns-in-Err-clause-refused g c =
    let s = c.self.inside in
    let b = g.B.Based.base in
    let told = c.self.invariant.0.told in
    let v : Shown = shown_of s.seat s.trail.entries s.late s.closed s.groups.items s.lookback s.raising (g.D.Disk.calls s.disk) (g.D.Disk.faults s.disk) in
    let running : s.closed ≡ None = none_of s.closed (λ x is. search rules) in
    let trail : c.note_point.new.trail ≡ s.trail = search rules in
    subst (λ (f : StepFault). Refuses (open_cause c.args.table.0 c.args.scn) (known_by b g.B.Based.damaged c.args.self.now) (known_by b g.B.Based.damaged (record v { entries = c.note_point.new.trail.entries })) f) (sym c.in-Err.ensures.memory)
    (subst (λ (r : Recorded). Refuses (open_cause c.args.table.0 c.args.scn) (known_by b g.B.Based.damaged c.args.self.now) (known_by b g.B.Based.damaged (record v { entries = r.entries })) Memory) (sym trail)
    (subst (λ (w : Shown). Refuses (open_cause c.args.table.0 c.args.scn) (known_by b g.B.Based.damaged w) (known_by b g.B.Based.damaged v) Memory) c.self.view_is
    (open_no_memory (known_by b g.B.Based.damaged v) told.legal s.closed told.closing running c.args.table.0 c.args.scn)))

pub invariant_of-self-2 : goal.invariant_of-self-2
invariant_of-self-2 g c =
    let s = c.self.inside in
    let kept = c.self.invariant.0 in
    let running : s.closed ≡ None = none_of s.closed (λ x is. search rules) in
    let place = c.in-Some-numbered_place in
    let made = c.in_default-note_point.ensures in
    let inside = place_in s.groups.items s.standing.tables kept.each.stand place.place place.ensures.found in
    let same : c.index.result.now ≡ c.index_mut.result.now = one_there s.groups.items place.place c.index.result.now c.index_mut.result.now inside (sym c.index.ensures) (sym c.index_mut.ensures.value) in
    let point = subst (λ (x : Group). IsPointOf x c.args.scn c.in_ok-stamp.stamp) same c.in_ok-stamp.ensures.point in (
      opens g.D.Disk g.B.Based.base g.B.Founded.sound g.B.Founded.premise g.B.Founded.began s.disk s.catalog s.standing s.groups.items s.trail s.late s.closed kept running c.args.table place.place c.index_mut.result.now place.ensures.found place.ensures.numbered (sym c.index_mut.ensures.value)
          c.args.scn c.in_ok-stamp.stamp point g.met.D.Disk.told g.met.D.Disk.up_to_now s.seat c.call_count.result c.call_count.ensures c.note_point.new.group made.opened made.count c.note_point.new.trail
          (made.entries ∙ ap (λ (v : Bool). s.trail.entries ++ record { seat = s.seat; calls = c.call_count.result; act = OpenedAct c.args.table c.in_ok-stamp.stamp v } ∷ []) c.is_some-scn.ensures) made.room,
      (c.self.invariant.1.0, more_by_clock g.C.Clock g.B.Founded.times g.B.Based.base g.B.Founded.lookback s.lookback s.clock s.trail.entries c.self.invariant.1.1 c.note_point.new.trail.entries (record { seat = s.seat; calls = c.call_count.result; act = OpenedAct c.args.table c.in_ok-stamp.stamp c.is_some-scn.result }) made.entries refl),
    )

pub returns-clause-ok : goal.returns-clause-ok
returns-clause-ok g c =
    let s = c.self.inside in
    let b = g.B.Based.base in
    let kept = c.self.invariant.0 in
    let running : s.closed ≡ None = none_of s.closed (λ x is. search rules) in
    let place = c.in-Some-numbered_place in
    let made = c.in_default-note_point.ensures in
    let inside = place_in s.groups.items s.standing.tables kept.each.stand place.place place.ensures.found in
    let same : c.index.result.now ≡ c.index_mut.result.now = one_there s.groups.items place.place c.index.result.now c.index_mut.result.now inside (sym c.index.ensures) (sym c.index_mut.ensures.value) in
    let point = subst (λ (x : Group). IsPointOf x c.args.scn c.in_ok-stamp.stamp) same c.in_ok-stamp.ensures.point in
    let f : Found = record { table = c.in-Ok.found.table; indexes = c.in-Ok.found.indexes; at = c.len-2.result } in
    let v : Shown = shown_of s.seat s.trail.entries s.late s.closed s.groups.items s.lookback s.raising (g.D.Disk.calls s.disk) (g.D.Disk.faults s.disk) in
    let v' : Shown = record v { entries = c.note_point.new.trail.entries } in
    subst (λ (w : Shown). DidOpen (known_by b g.B.Based.damaged w) (known_by b g.B.Based.damaged v') c.args.table c.args.scn (record { table = c.args.table; stamp = c.in_ok-stamp.stamp; scn = c.is_some-scn.result; found = f })) c.self.view_is
    (subst (λ (q : Bool). DidOpen (known_by b g.B.Based.damaged v) (known_by b g.B.Based.damaged v') c.args.table c.args.scn (record { table = c.args.table; stamp = c.in_ok-stamp.stamp; scn = q; found = f })) (sym c.is_some-scn.ensures)
    (did_open g.D.Disk b g.B.Founded.sound g.B.Founded.premise g.B.Founded.began s.disk s.catalog s.standing s.groups.items s.trail s.late s.closed kept running c.args.table place.place c.index_mut.result.now place.ensures.found place.ensures.numbered (sym c.index_mut.ensures.value)
    c.args.scn c.in_ok-stamp.stamp point g.met.D.Disk.told g.met.D.Disk.up_to_now s.seat c.call_count.result c.call_count.ensures g.B.Based.damaged c.note_point.new.trail
    (made.entries ∙ ap (λ (v : Bool). s.trail.entries ++ record { seat = s.seat; calls = c.call_count.result; act = OpenedAct c.args.table c.in_ok-stamp.stamp v } ∷ []) c.is_some-scn.ensures)
    (invariant_of-self-2 g c).0.told f c.in-Ok.ensures.table c.in-Ok.ensures.indexes c.len-2.ensures))

pub returns-in-Err-clause-unlooked : goal.returns-in-Err-clause-unlooked
returns-in-Err-clause-unlooked g c =
    let s = c.self.inside in
    let place = c.in-Some-numbered_place in
    let l = place_in s.groups.items s.standing.tables c.self.invariant.0.each.stand place.place place.ensures.found in
    subst (λ (w : Shown). rows_looked (slice_set s.groups.items place.place c.note_point.new.group) ≡ rows_looked w.groups) c.self.view_is
    (sum_kept (λ (h : Group). h.rows.looked) s.groups.items place.place c.index_mut.result.now c.note_point.new.group l (sym c.index_mut.ensures.value) (ap (λ (r : Region). r.looked) c.in-Err.ensures.same.rows))

pub returns-clause-unlooked : goal.returns-clause-unlooked
returns-clause-unlooked g c =
    let s = c.self.inside in
    let place = c.in-Some-numbered_place in
    let l = place_in s.groups.items s.standing.tables c.self.invariant.0.each.stand place.place place.ensures.found in
    subst (λ (w : Shown). rows_looked (slice_set s.groups.items place.place c.note_point.new.group) ≡ rows_looked w.groups) c.self.view_is
    (sum_kept (λ (h : Group). h.rows.looked) s.groups.items place.place c.index_mut.result.now c.note_point.new.group l (sym c.index_mut.ensures.value) (ap (λ (r : Region). r.looked) c.in_default-note_point.ensures.same.rows))

-- ---- the calls of the disk

pub returns-in-Err-clause-counts : goal.returns-in-Err-clause-counts
returns-in-Err-clause-counts g c = none_by c.self.view_is refl refl

pub returns-clause-counts : goal.returns-clause-counts
returns-clause-counts g c = none_by c.self.view_is refl refl

pub returns-in_err-stamp-clause-blames : goal.returns-in_err-stamp-clause-blames
returns-in_err-stamp-clause-blames g c = (let e = err_from_is_err_and c.from_residual.result c.from_residual.ensures.1 in rw e.1 (subst (Blames c.args.self.now c.args.self.now) (sym e.2) (no_point_blames c.args.self.now c.args.self.now c.index.result.now c.args.scn c.in_err-stamp.field-0.0 c.in_err-stamp.ensures.none)))

pub returns-in-Err-clause-blames : goal.returns-in-Err-clause-blames
returns-in-Err-clause-blames g c = subst (Blames c.args.self.now (record c.args.self.now { calls = g.D.Disk.calls c.self.inside.disk; faults = g.D.Disk.faults c.self.inside.disk })) (sym c.in-Err.ensures.memory) tt
