use Rattle.std.proofs.Common.{◌≡◌, ◌<◌, ◌∙◌, Some, [], ◌∷◌, ◌++◌, length, slice_get, refl, sym, ap, subst, arith}
use Rattle.std.specs.List.{slice_set}
use Rattle.px_values.specs.declared.name.TableId.{TableId}
use Rattle.px_trail.specs.Batches.{IsBatchIn, Marking as InMarking}
use Rattle.px_trail.specs.declared.entry.Act.TheVariants.{Phase as PhaseAct, Shut}
use Rattle.px_trail.specs.declared.entry.Entry.{Entry}
use Rattle.px_trail.proofs.Batches.{in_marking}
use Rattle.px_calls.specs.Calls.{Finds}
use Rattle.px_calls.specs.Causes.{Refuses, write_cause}
use Rattle.px_calls.specs.Known.{Adds}
use Rattle.px_calls.specs.Requires.{TicketIn}
use Rattle.px_calls.specs.declared.fault.StepFault.TheVariants.{Closed}
use Rattle.px_group.specs.declared.group.Begun.{Begun}
use Rattle.px_group.specs.declared.group.Group.{Group}
use Rattle.px_group.specs.declared.group.Phase.TheVariants.{Marking}
use Rattle.px_server.specs.CallsLeft.{calls_left}
use Rattle.px_server.specs.Kept.{IsKept}
use Rattle.px_server.specs.Shown.{Shown, known_by, shown_of}
use Rattle.px_server.proofs.CallsLeft.{fewer, mark_less}
use Rattle.px_server.proofs.Found.{closed_by}
use Rattle.px_server.proofs.MarkSteps.{marked_all, marked_more, marks_all, marks_kept, marks_shut}
use Rattle.px_server.proofs.Seen.{one_more, stays}
use Rattle.px_server.proofs.Stamping.{more_by_clock}
use Rattle.px_server.proofs.Ticketed.{batch_is, batch_somewhere, own_table, same_read, stands_somewhere, there}
use Rattle.px_server.proofs.DeviceCalls.{made_by, rose_by, marked_passes}
use Rattle.px_server.proofs.server.Server.mark.Goals as goal

pub returns-in-Some-clause-refused : goal.returns-in-Some-clause-refused
returns-in-Some-clause-refused g c =
    let s = c.self.inside in
    let b = g.B.Based.base in
    let told = c.self.invariant.0.told in
    let v : Shown = shown_of s.seat s.trail.entries s.late s.closed s.groups.items s.lookback s.raising (g.D.Disk.calls s.disk) (g.D.Disk.faults s.disk) in
    subst (λ (w : Shown). Refuses write_cause (known_by b g.B.Based.damaged w) (known_by b g.B.Based.damaged w) (Closed c.in-Some.call)) c.self.view_is
    (closed_by (known_by b g.B.Based.damaged v) told.legal s.closed told.closing c.in-Some.call c.in-Some.is)

pub unreachable-requires : goal.unreachable-requires
unreachable-requires g c =
    let s = c.self.inside in
    let mine : IsBatchIn s.trail.entries s.seat c.args.t.now.table.0 c.args.t.now.stamp InMarking = subst (λ (v : Shown). TicketIn (known_by g.B.Based.base g.B.Based.damaged v) c.args.t.now InMarking) (sym c.self.view_is) c.requires in
    stands_somewhere g.D.Disk g.B.Based.base g.B.Founded.sound g.B.Founded.premise g.B.Founded.began s.disk s.catalog s.standing s.groups.items s.trail s.late s.closed c.self.invariant.0 c.args.t.now s.seat Marking mine (in_marking mine.batch mine.phase).0 c.in_default-numbered_place.ensures.none

pub unreachable-requires-in_default-batch_place : goal.unreachable-requires-in_default-batch_place
unreachable-requires-in_default-batch_place g c =
    let s = c.self.inside in
    let mine : IsBatchIn s.trail.entries s.seat c.args.t.now.table.0 c.args.t.now.stamp InMarking = subst (λ (v : Shown). TicketIn (known_by g.B.Based.base g.B.Based.damaged v) c.args.t.now InMarking) (sym c.self.view_is) c.requires in
    batch_somewhere g.D.Disk g.B.Based.base g.B.Founded.sound g.B.Founded.premise g.B.Founded.began s.disk s.catalog s.standing s.groups.items s.trail s.late s.closed c.self.invariant.0 c.args.t.now s.seat Marking mine (in_marking mine.batch mine.phase).0 c.in_default.is c.in-Some-numbered_place.place c.in-Some-numbered_place.ensures.found c.in-Some-numbered_place.ensures.numbered c.index.result.now c.index.ensures
    c.in_default-batch_place.ensures.none

pub mark-outcome-requires-clause-marking : goal.mark-outcome-requires-clause-marking
mark-outcome-requires-clause-marking g c =
    let s = c.self.inside in
    let mine : IsBatchIn s.trail.entries s.seat c.args.t.now.table.0 c.args.t.now.stamp InMarking = subst (λ (v : Shown). TicketIn (known_by g.B.Based.base g.B.Based.damaged v) c.args.t.now InMarking) (sym c.self.view_is) c.requires in
    let inside = there g.D.Disk g.B.Based.base g.B.Founded.sound g.B.Founded.premise g.B.Founded.began s.disk s.catalog s.standing s.groups.items s.trail s.late s.closed c.self.invariant.0 c.args.t.now s.seat Marking mine (in_marking mine.batch mine.phase).0 c.in_default.is c.in-Some-numbered_place.place c.in-Some-numbered_place.ensures.found c.in-Some-numbered_place.ensures.numbered c.index.result.now c.index.ensures in
    let same : c.index.result.now ≡ c.index_mut-group.result.now = same_read s.groups.items c.in-Some-numbered_place.place c.index.result.now c.index_mut-group.result.now inside c.index.ensures c.index_mut-group.ensures.value in
    batch_is g.D.Disk g.B.Based.base g.B.Founded.sound g.B.Founded.premise g.B.Founded.began s.disk s.catalog s.standing s.groups.items s.trail s.late s.closed c.self.invariant.0 c.args.t.now s.seat Marking mine (in_marking mine.batch mine.phase).0 c.in_default.is c.in-Some-numbered_place.place c.in-Some-numbered_place.ensures.found c.in-Some-numbered_place.ensures.numbered c.index_mut-group.result.now c.index_mut-group.ensures.value
    c.in-Some-batch_place.batch (subst (λ (h : Group). c.in-Some-batch_place.batch < length h.batches.items) same c.in-Some-batch_place.ensures.found.0)
    (subst (λ (h : Group). (x : Begun) → slice_get h.batches.items c.in-Some-batch_place.batch ≡ Some x → x.batch.stamp ≡ c.args.t.now.stamp) same c.in-Some-batch_place.ensures.found.1)

pub invariant_of-self : goal.invariant_of-self
invariant_of-self g c =
    let s = c.self.inside in
    let place = c.in-Some-numbered_place.place in
    let h = c.index_mut-group.result.now in
    let mine : IsBatchIn s.trail.entries s.seat c.args.t.now.table.0 c.args.t.now.stamp InMarking = subst (λ (v : Shown). TicketIn (known_by g.B.Based.base g.B.Based.damaged v) c.args.t.now InMarking) (sym c.self.view_is) c.requires in
    let inside = there g.D.Disk g.B.Based.base g.B.Founded.sound g.B.Founded.premise g.B.Founded.began s.disk s.catalog s.standing s.groups.items s.trail s.late s.closed c.self.invariant.0 c.args.t.now s.seat Marking mine (in_marking mine.batch mine.phase).0 c.in_default.is place c.in-Some-numbered_place.ensures.found c.in-Some-numbered_place.ensures.numbered h c.index_mut-group.ensures.value in
    let w = marked_more g.D.Disk h c.mark-outcome.new.group s.disk c.mark-outcome.new.disk c.in-Some-batch_place.batch c.mark-outcome.result c.in-Ok.marked c.in-Ok.is c.in-More.is c.mark-outcome.ensures.steps in (
      marks_kept g.D.Disk g.met.D.Disk.told g.met.D.Disk.up_to_now g.B.Based.base g.B.Founded.sound g.B.Founded.premise g.B.Founded.began s.disk s.catalog s.standing s.groups.items s.trail s.late s.closed c.self.invariant.0 c.in_default.is
          place h c.mark-outcome.new.group inside (sym c.index_mut-group.ensures.value) c.in-Some-batch_place.batch c.mark-outcome.new.disk w w.hands.writes.horizon,
      ((let was = c.self.invariant.1.0 in let more = c.mark-outcome.ensures.frame in omega (arith, was, more)), c.self.invariant.1.1),
    )

pub invariant_of-self-in-AllMarked : goal.invariant_of-self-in-AllMarked
invariant_of-self-in-AllMarked g c =
    let s = c.self.inside in
    let place = c.in-Some-numbered_place.place in
    let h = c.index_mut-group.result.now in
    let mine : IsBatchIn s.trail.entries s.seat c.args.t.now.table.0 c.args.t.now.stamp InMarking = subst (λ (v : Shown). TicketIn (known_by g.B.Based.base g.B.Based.damaged v) c.args.t.now InMarking) (sym c.self.view_is) c.requires in
    let inside = there g.D.Disk g.B.Based.base g.B.Founded.sound g.B.Founded.premise g.B.Founded.began s.disk s.catalog s.standing s.groups.items s.trail s.late s.closed c.self.invariant.0 c.args.t.now s.seat Marking mine (in_marking mine.batch mine.phase).0 c.in_default.is place c.in-Some-numbered_place.ensures.found c.in-Some-numbered_place.ensures.numbered h c.index_mut-group.ensures.value in
    let own : h.table.id ≡ c.args.t.now.table = own_table g.D.Disk g.B.Based.base g.B.Founded.sound g.B.Founded.premise g.B.Founded.began s.disk s.catalog s.standing s.groups.items s.trail s.late s.closed c.self.invariant.0 c.args.t.now s.seat Marking mine (in_marking mine.batch mine.phase).0 c.in_default.is place c.in-Some-numbered_place.ensures.found c.in-Some-numbered_place.ensures.numbered h c.index_mut-group.ensures.value in
    let phase : IsBatchIn s.trail.entries s.seat h.table.id.0 c.args.t.now.stamp InMarking = subst (λ (x : TableId). IsBatchIn s.trail.entries s.seat x.0 c.args.t.now.stamp InMarking) (sym own) mine in
    let same : c.index.result.now ≡ h = same_read s.groups.items place c.index.result.now h inside c.index.ensures c.index_mut-group.ensures.value in
    let e : Entry = record { seat = s.seat; calls = c.call_count-calls.result; act = PhaseAct c.args.t.now.table c.args.t.now.stamp 1 } in
    let all = marked_all g.D.Disk h c.mark-outcome.new.group s.disk c.mark-outcome.new.disk c.in-Some-batch_place.batch c.mark-outcome.result c.in-Ok.marked c.in-Ok.is c.in-AllMarked.is c.mark-outcome.ensures.steps in (
      marks_all g.D.Disk g.met.D.Disk.told g.met.D.Disk.up_to_now g.B.Based.base g.B.Founded.sound g.B.Founded.premise g.B.Founded.began s.disk s.catalog s.standing s.groups.items s.trail s.late s.closed c.self.invariant.0 c.in_default.is
          place h c.mark-outcome.new.group inside (sym c.index_mut-group.ensures.value) c.in-Some-batch_place.batch c.mark-outcome.new.disk c.args.t.now.stamp
          (subst (λ (q : Group). (x : Begun) → slice_get q.batches.items c.in-Some-batch_place.batch ≡ Some x → x.batch.stamp ≡ c.args.t.now.stamp) same c.in-Some-batch_place.ensures.found.1)
          e c.call_count-calls.ensures c.push.new.self (subst (λ (x : Entry). c.push.new.self.entries ≡ s.trail.entries ++ x ∷ []) c.done.ensures c.push.ensures.entries) c.push.ensures.room all (λ o. o.hands.writes.horizon)
          (ap (λ (x : TableId). PhaseAct x c.args.t.now.stamp 1) (sym own)) phase,
      ((let was = c.self.invariant.1.0 in let more = c.mark-outcome.ensures.frame in omega (arith, was, more)), more_by_clock g.C.Clock g.B.Founded.times g.B.Based.base g.B.Founded.lookback s.lookback s.clock s.trail.entries c.self.invariant.1.1 c.push.new.self.entries e (subst (λ (x : Entry). c.push.new.self.entries ≡ s.trail.entries ++ x ∷ []) c.done.ensures c.push.ensures.entries) refl),
    )

pub invariant_of-self-in-Err : goal.invariant_of-self-in-Err
invariant_of-self-in-Err g c =
    let s = c.self.inside in
    let place = c.in-Some-numbered_place.place in
    let h = c.index_mut-group.result.now in
    let mine : IsBatchIn s.trail.entries s.seat c.args.t.now.table.0 c.args.t.now.stamp InMarking = subst (λ (v : Shown). TicketIn (known_by g.B.Based.base g.B.Based.damaged v) c.args.t.now InMarking) (sym c.self.view_is) c.requires in
    let inside = there g.D.Disk g.B.Based.base g.B.Founded.sound g.B.Founded.premise g.B.Founded.began s.disk s.catalog s.standing s.groups.items s.trail s.late s.closed c.self.invariant.0 c.args.t.now s.seat Marking mine (in_marking mine.batch mine.phase).0 c.in_default.is place c.in-Some-numbered_place.ensures.found c.in-Some-numbered_place.ensures.numbered h c.index_mut-group.ensures.value in
    let shut : Entry = record { seat = s.seat; calls = c.call_count-calls.result; act = Shut c.call_count-calls.result } in
    let kept = marks_shut g.D.Disk g.met.D.Disk.told g.met.D.Disk.up_to_now g.B.Based.base g.B.Founded.sound g.B.Founded.premise g.B.Founded.began s.disk s.catalog s.standing s.groups.items s.trail s.late s.closed c.self.invariant.0 c.in_default.is
    place h c.mark-outcome.new.group inside (sym c.index_mut-group.ensures.value) c.in-Some-batch_place.batch c.mark-outcome.new.disk
    shut c.call_count-calls.result refl c.call_count-calls.ensures (c.in-Err.ensures.failed refl) c.shut.new.trail c.shut.ensures.entries c.shut.ensures.room c.in-Err.ensures.steps in (
      subst (λ o. IsKept g.D.Disk g.B.Based.base g.B.Founded.sound g.B.Founded.premise g.B.Founded.began c.mark-outcome.new.disk s.catalog s.standing (Rattle.std.specs.List.slice_set s.groups.items place c.mark-outcome.new.group) c.shut.new.trail o (Some c.call_count-calls.result))
          (sym (c.self.invariant.0.server.unlate c.in_default.is)) kept,
      ((let was = c.self.invariant.1.0 in let more = c.mark-outcome.ensures.frame in omega (arith, was, more)), more_by_clock g.C.Clock g.B.Founded.times g.B.Based.base g.B.Founded.lookback s.lookback s.clock s.trail.entries c.self.invariant.1.1 c.shut.new.trail.entries shut c.shut.ensures.entries refl),
    )

pub returns-in-More-clause-ok : goal.returns-in-More-clause-ok
returns-in-More-clause-ok g c =
    let s = c.self.inside in
    let told = c.self.invariant.0.told in
    let v : Shown = shown_of s.seat s.trail.entries s.late s.closed s.groups.items s.lookback s.raising (g.D.Disk.calls s.disk) (g.D.Disk.faults s.disk) in
    subst (λ (w : Shown). Finds (known_by g.B.Based.base g.B.Based.damaged w) (known_by g.B.Based.base g.B.Based.damaged v)) c.self.view_is
    (record { sees = stays (known_by g.B.Based.base g.B.Based.damaged v) told.legal; running = told.closing ∙ c.in_default.is })

pub returns-in-AllMarked-clause-ok : goal.returns-in-AllMarked-clause-ok
returns-in-AllMarked-clause-ok g c =
    let s = c.self.inside in
    let told = c.self.invariant.0.told in
    let v : Shown = shown_of s.seat s.trail.entries s.late s.closed s.groups.items s.lookback s.raising (g.D.Disk.calls s.disk) (g.D.Disk.faults s.disk) in
    let v' : Shown = record v { entries = c.push.new.self.entries } in
    let act = PhaseAct c.args.t.now.table c.args.t.now.stamp 1 in
    subst (λ (w : Shown). Adds (known_by g.B.Based.base g.B.Based.damaged w) (known_by g.B.Based.base g.B.Based.damaged v') act) c.self.view_is
    (one_more (known_by g.B.Based.base g.B.Based.damaged v) c.push.new.self.entries c.call_count-calls.result act told.legal
    (subst (λ (x : Entry). c.push.new.self.entries ≡ s.trail.entries ++ x ∷ []) c.done.ensures c.push.ensures.entries) (invariant_of-self-in-AllMarked g c).0.told.legal)

pub returns-in-Err-clause-refused : goal.returns-in-Err-clause-refused
returns-in-Err-clause-refused g c =
    let s = c.self.inside in
    let told = c.self.invariant.0.told in
    let v : Shown = shown_of s.seat s.trail.entries s.late s.closed s.groups.items s.lookback s.raising (g.D.Disk.calls s.disk) (g.D.Disk.faults s.disk) in
    let v' : Shown = record v { entries = c.shut.new.trail.entries; closed = Some c.call_count-calls.result } in
    let act = Shut c.call_count-calls.result in (
      tt,
      (
        c.call_count-calls.result,
        subst (λ (w : Shown). Adds (known_by g.B.Based.base g.B.Based.damaged w) (known_by g.B.Based.base g.B.Based.damaged v') act) c.self.view_is
            (one_more (known_by g.B.Based.base g.B.Based.damaged v) c.shut.new.trail.entries c.call_count-calls.result act told.legal c.shut.ensures.entries (invariant_of-self-in-Err g c).0.told.legal),
      ),
    )

pub returns-in-More-clause-fewer : goal.returns-in-More-clause-fewer
returns-in-More-clause-fewer g c =
    let s = c.self.inside in
    let place = c.in-Some-numbered_place.place in
    let h = c.index_mut-group.result.now in
    let t = c.args.t.now in
    let mine : IsBatchIn s.trail.entries s.seat t.table.0 t.stamp InMarking = subst (λ (v : Shown). TicketIn (known_by g.B.Based.base g.B.Based.damaged v) t InMarking) (sym c.self.view_is) c.requires in
    let inside = there g.D.Disk g.B.Based.base g.B.Founded.sound g.B.Founded.premise g.B.Founded.began s.disk s.catalog s.standing s.groups.items s.trail s.late s.closed c.self.invariant.0 t s.seat Marking mine (in_marking mine.batch mine.phase).0 c.in_default.is place c.in-Some-numbered_place.ensures.found c.in-Some-numbered_place.ensures.numbered h c.index_mut-group.ensures.value in
    let own : h.table.id ≡ t.table = own_table g.D.Disk g.B.Based.base g.B.Founded.sound g.B.Founded.premise g.B.Founded.began s.disk s.catalog s.standing s.groups.items s.trail s.late s.closed c.self.invariant.0 t s.seat Marking mine (in_marking mine.batch mine.phase).0 c.in_default.is place c.in-Some-numbered_place.ensures.found c.in-Some-numbered_place.ensures.numbered h c.index_mut-group.ensures.value in
    let same : c.index.result.now ≡ h = same_read s.groups.items place c.index.result.now h inside c.index.ensures c.index_mut-group.ensures.value in
    let stamp : (x : Begun) → slice_get h.batches.items c.in-Some-batch_place.batch ≡ Some x → x.batch.stamp ≡ t.stamp = subst (λ (q : Group). (x : Begun) → slice_get q.batches.items c.in-Some-batch_place.batch ≡ Some x → x.batch.stamp ≡ t.stamp) same c.in-Some-batch_place.ensures.found.1 in
    subst (λ (w : Shown). calls_left (slice_set s.groups.items place c.mark-outcome.new.group) t < calls_left w.groups t) c.self.view_is
    (fewer s.groups.items place h c.mark-outcome.new.group inside (sym c.index_mut-group.ensures.value) t
    (mark_less g.D.Disk c.in-Some-batch_place.batch t.table.0 t.stamp h c.mark-outcome.new.group s.disk c.mark-outcome.new.disk c.mark-outcome.result c.in-Ok.marked c.in-Ok.is c.mark-outcome.ensures.steps stamp (ap (λ (x : TableId). x.0) own)))

pub returns-in-AllMarked-clause-fewer : goal.returns-in-AllMarked-clause-fewer
returns-in-AllMarked-clause-fewer g c =
    let s = c.self.inside in
    let place = c.in-Some-numbered_place.place in
    let h = c.index_mut-group.result.now in
    let t = c.args.t.now in
    let mine : IsBatchIn s.trail.entries s.seat t.table.0 t.stamp InMarking = subst (λ (v : Shown). TicketIn (known_by g.B.Based.base g.B.Based.damaged v) t InMarking) (sym c.self.view_is) c.requires in
    let inside = there g.D.Disk g.B.Based.base g.B.Founded.sound g.B.Founded.premise g.B.Founded.began s.disk s.catalog s.standing s.groups.items s.trail s.late s.closed c.self.invariant.0 t s.seat Marking mine (in_marking mine.batch mine.phase).0 c.in_default.is place c.in-Some-numbered_place.ensures.found c.in-Some-numbered_place.ensures.numbered h c.index_mut-group.ensures.value in
    let own : h.table.id ≡ t.table = own_table g.D.Disk g.B.Based.base g.B.Founded.sound g.B.Founded.premise g.B.Founded.began s.disk s.catalog s.standing s.groups.items s.trail s.late s.closed c.self.invariant.0 t s.seat Marking mine (in_marking mine.batch mine.phase).0 c.in_default.is place c.in-Some-numbered_place.ensures.found c.in-Some-numbered_place.ensures.numbered h c.index_mut-group.ensures.value in
    let same : c.index.result.now ≡ h = same_read s.groups.items place c.index.result.now h inside c.index.ensures c.index_mut-group.ensures.value in
    let stamp : (x : Begun) → slice_get h.batches.items c.in-Some-batch_place.batch ≡ Some x → x.batch.stamp ≡ t.stamp = subst (λ (q : Group). (x : Begun) → slice_get q.batches.items c.in-Some-batch_place.batch ≡ Some x → x.batch.stamp ≡ t.stamp) same c.in-Some-batch_place.ensures.found.1 in
    subst (λ (w : Shown). calls_left (slice_set s.groups.items place c.mark-outcome.new.group) t < calls_left w.groups t) c.self.view_is
    (fewer s.groups.items place h c.mark-outcome.new.group inside (sym c.index_mut-group.ensures.value) t
    (mark_less g.D.Disk c.in-Some-batch_place.batch t.table.0 t.stamp h c.mark-outcome.new.group s.disk c.mark-outcome.new.disk c.mark-outcome.result c.in-Ok.marked c.in-Ok.is c.mark-outcome.ensures.steps stamp (ap (λ (x : TableId). x.0) own)))

-- ---- the calls of the disk

pub returns-in-More-clause-counts : goal.returns-in-More-clause-counts
returns-in-More-clause-counts g c = made_by g.D.Disk c.self.inside.disk c.mark-outcome.new.disk (marked_passes g.D.Disk c.self.inside.disk c.mark-outcome.new.disk c.index_mut-group.result.now c.mark-outcome.new.group c.in-Some-batch_place.batch c.mark-outcome.result c.mark-outcome.ensures.steps) (omega arith) c.self.view_is refl refl refl refl

pub returns-in-AllMarked-clause-counts : goal.returns-in-AllMarked-clause-counts
returns-in-AllMarked-clause-counts g c = made_by g.D.Disk c.self.inside.disk c.mark-outcome.new.disk (marked_passes g.D.Disk c.self.inside.disk c.mark-outcome.new.disk c.index_mut-group.result.now c.mark-outcome.new.group c.in-Some-batch_place.batch c.mark-outcome.result c.mark-outcome.ensures.steps) (omega arith) c.self.view_is refl refl refl refl

pub returns-in-Err-clause-counts : goal.returns-in-Err-clause-counts
returns-in-Err-clause-counts g c = made_by g.D.Disk c.self.inside.disk c.mark-outcome.new.disk (marked_passes g.D.Disk c.self.inside.disk c.mark-outcome.new.disk c.index_mut-group.result.now c.mark-outcome.new.group c.in-Some-batch_place.batch c.mark-outcome.result c.mark-outcome.ensures.steps) (omega arith) c.self.view_is refl refl refl refl

pub returns-in-Err-clause-blames : goal.returns-in-Err-clause-blames
returns-in-Err-clause-blames g c = rose_by g.D.Disk c.self.inside.disk c.mark-outcome.new.disk (c.in-Err.ensures.failed refl) c.self.view_is refl
