use Rattle.std.proofs.Common.{◌≡◌, ◌<◌, ◌≤◌, ◌∙◌, Option, Some, List, [], ◌∷◌, ◌++◌, length, refl, sym, ap, subst, slice_get, arith}
use Rattle.std.specs.List.{slice_set}
use Rattle.px_values.specs.declared.name.TableId.{TableId}
use Rattle.px_trail.specs.declared.entry.Act.TheVariants.{Shut, Wrote}
use Rattle.px_trail.specs.declared.entry.Entry.{Entry}
use Rattle.px_trail.specs.Batches.{IsBatchIn, Verifying as InVerifying, Writing as InWriting}
use Rattle.px_trail.specs.Count.{counted_act}
use Rattle.px_trail.proofs.Batches.{in_writing}
use Rattle.px_calls.specs.Calls.{DidWrite}
use Rattle.px_calls.specs.Causes.{Refuses, rows_cause}
use Rattle.px_calls.specs.declared.fault.StepFault.TheVariants.{Closed, NotYet, WriteFault}
use Rattle.px_calls.specs.declared.ticket.Writes.TheVariants.{AllWritten}
use Rattle.px_group.specs.declared.group.Group.{Group}
use Rattle.px_group.specs.declared.group.Begun.{Begun}
use Rattle.px_group.specs.declared.group.Phase.TheVariants.{Writing}
use Rattle.px_batching.specs.Steps.{IsBlocked, IsUnblocked}
use Rattle.px_server.specs.CallsLeft.{calls_left}
use Rattle.px_server.specs.Kept.{IsKept}
use Rattle.px_server.specs.Shown.{Shown, known_by, shown_of}
use Rattle.px_server.proofs.CallsLeft.{fewer, write_less}
use Rattle.px_server.proofs.Found.{closed_by}
use Rattle.px_server.proofs.RowsTold.{blocked_waits, did_write, not_yet, unwritten_kept, write_failed, writing_there, wrote_in, wrote_kept}
use Rattle.px_server.proofs.Stamping.{more_by_clock}
use Rattle.px_server.proofs.Ticketed.{batch_somewhere, own_table, same_read, stands_somewhere, there, ticket_in}
use Rattle.px_server.proofs.DeviceCalls.{made_by, rose_by}
use Rattle.px_server.proofs.server.Server.write.Goals as goal

pub returns-in-Some-clause-refused : goal.returns-in-Some-clause-refused
returns-in-Some-clause-refused g c =
    let s = c.self.inside in
    let b = g.B.Based.base in
    let told = c.self.invariant.0.told in
    let t = c.args.t.now in
    let v : Shown = shown_of s.seat s.trail.entries s.late s.closed s.groups.items s.lookback s.raising (g.D.Disk.calls s.disk) (g.D.Disk.faults s.disk) in
    subst (λ (w : Shown). Refuses (rows_cause t.table.0 t.stamp) (known_by b g.B.Based.damaged w) (known_by b g.B.Based.damaged w) (Closed c.in-Some.call)) c.self.view_is
    (closed_by (known_by b g.B.Based.damaged v) told.legal s.closed told.closing c.in-Some.call c.in-Some.is)

pub unreachable-requires : goal.unreachable-requires
unreachable-requires g c =
    let s = c.self.inside in
    let b = g.B.Based.base in
    let t = c.args.t.now in
    let v : Shown = shown_of s.seat s.trail.entries s.late s.closed s.groups.items s.lookback s.raising (g.D.Disk.calls s.disk) (g.D.Disk.faults s.disk) in
    let mine : IsBatchIn s.trail.entries s.seat t.table.0 t.stamp InWriting = ticket_in b g.B.Based.damaged t InWriting v c.args.self.now c.self.view_is c.requires in
    stands_somewhere g.D.Disk b g.B.Founded.sound g.B.Founded.premise g.B.Founded.began s.disk s.catalog s.standing s.groups.items s.trail s.late s.closed c.self.invariant.0 t s.seat Writing mine (in_writing mine.batch mine.phase).0 c.in_default-numbered_place.ensures.none

pub unreachable-requires-in_default-batch_place : goal.unreachable-requires-in_default-batch_place
unreachable-requires-in_default-batch_place g c =
    let s = c.self.inside in
    let b = g.B.Based.base in
    let t = c.args.t.now in
    let v : Shown = shown_of s.seat s.trail.entries s.late s.closed s.groups.items s.lookback s.raising (g.D.Disk.calls s.disk) (g.D.Disk.faults s.disk) in
    let mine : IsBatchIn s.trail.entries s.seat t.table.0 t.stamp InWriting = ticket_in b g.B.Based.damaged t InWriting v c.args.self.now c.self.view_is c.requires in
    batch_somewhere g.D.Disk b g.B.Founded.sound g.B.Founded.premise g.B.Founded.began s.disk s.catalog s.standing s.groups.items s.trail s.late s.closed c.self.invariant.0 t s.seat Writing mine (in_writing mine.batch mine.phase).0
    c.in_default.is c.in-Some-numbered_place.place c.in-Some-numbered_place.ensures.found c.in-Some-numbered_place.ensures.numbered c.index.result.now c.index.ensures c.in_default-batch_place.ensures.none

pub returns-in-Some-blocker-clause-refused : goal.returns-in-Some-blocker-clause-refused
returns-in-Some-blocker-clause-refused g c =
    let s = c.self.inside in
    let b = g.B.Based.base in
    let told = c.self.invariant.0.told in
    let t = c.args.t.now in
    let v : Shown = shown_of s.seat s.trail.entries s.late s.closed s.groups.items s.lookback s.raising (g.D.Disk.calls s.disk) (g.D.Disk.faults s.disk) in
    let mine : IsBatchIn s.trail.entries s.seat t.table.0 t.stamp InWriting = ticket_in b g.B.Based.damaged t InWriting v c.args.self.now c.self.view_is c.requires in
    let place = c.in-Some-numbered_place.place in
    let m = c.in-Some-batch_place.batch in
    let h = c.index.result.now in
    let inside = there g.D.Disk b g.B.Founded.sound g.B.Founded.premise g.B.Founded.began s.disk s.catalog s.standing s.groups.items s.trail s.late s.closed c.self.invariant.0 t s.seat Writing mine (in_writing mine.batch mine.phase).0
    c.in_default.is place c.in-Some-numbered_place.ensures.found c.in-Some-numbered_place.ensures.numbered h c.index.ensures in
    let same : c.index-2.result.now ≡ h = same_read s.groups.items place c.index-2.result.now h inside c.index-2.ensures c.index.ensures in
    let blocked : IsBlocked h m c.in-Some-blocker.stamp = subst (λ (x : Group). IsBlocked x m c.in-Some-blocker.stamp) same c.in-Some-blocker.ensures.blocked in
    subst (λ (w : Shown). Refuses (rows_cause t.table.0 t.stamp) (known_by b g.B.Based.damaged w) (known_by b g.B.Based.damaged w) (NotYet c.in-Some-blocker.stamp)) c.self.view_is
    (not_yet (known_by b g.B.Based.damaged v) told.legal t (told.closing ∙ c.in_default.is) c.in-Some-blocker.stamp
    (blocked_waits g.D.Disk g.met.D.Disk.told g.met.D.Disk.up_to_now b g.B.Founded.sound g.B.Founded.premise g.B.Founded.began s.disk s.catalog s.standing s.groups.items s.trail s.late s.closed c.self.invariant.0 t s.seat mine
    c.in_default.is place c.in-Some-numbered_place.ensures.found c.in-Some-numbered_place.ensures.numbered h c.index.ensures m c.in-Some-batch_place.ensures.found.0 c.in-Some-batch_place.ensures.found.1
    c.in-Some-blocker.stamp blocked))

pub write-outcome-requires-clause-writing : goal.write-outcome-requires-clause-writing
write-outcome-requires-clause-writing g c =
    let s = c.self.inside in
    let b = g.B.Based.base in
    let told = c.self.invariant.0.told in
    let t = c.args.t.now in
    let v : Shown = shown_of s.seat s.trail.entries s.late s.closed s.groups.items s.lookback s.raising (g.D.Disk.calls s.disk) (g.D.Disk.faults s.disk) in
    let mine : IsBatchIn s.trail.entries s.seat t.table.0 t.stamp InWriting = ticket_in b g.B.Based.damaged t InWriting v c.args.self.now c.self.view_is c.requires in
    let place = c.in-Some-numbered_place.place in
    let m = c.in-Some-batch_place.batch in
    let h = c.index.result.now in
    let inside = there g.D.Disk b g.B.Founded.sound g.B.Founded.premise g.B.Founded.began s.disk s.catalog s.standing s.groups.items s.trail s.late s.closed c.self.invariant.0 t s.seat Writing mine (in_writing mine.batch mine.phase).0
    c.in_default.is place c.in-Some-numbered_place.ensures.found c.in-Some-numbered_place.ensures.numbered h c.index.ensures in
    let y = c.index_mut-group.result.now in
    let one : y ≡ h = same_read s.groups.items place y h inside c.index_mut-group.ensures.value c.index.ensures in
    let l : m < length y.batches.items = subst (λ (x : Group). m < length x.batches.items) (sym one) c.in-Some-batch_place.ensures.found.0 in
    let stamp : (x : Begun) → slice_get y.batches.items m ≡ Some x → x.batch.stamp ≡ t.stamp = subst (λ (z : Group). (x : Begun) → slice_get z.batches.items m ≡ Some x → x.batch.stamp ≡ t.stamp) (sym one) c.in-Some-batch_place.ensures.found.1 in
    writing_there g.D.Disk g.met.D.Disk.told g.met.D.Disk.up_to_now b g.B.Founded.sound g.B.Founded.premise g.B.Founded.began s.disk s.catalog s.standing s.groups.items s.trail s.late s.closed c.self.invariant.0 t s.seat mine
    c.in_default.is place c.in-Some-numbered_place.ensures.found c.in-Some-numbered_place.ensures.numbered y c.index_mut-group.ensures.value m l stamp

pub push-requires-clause-bytes : goal.push-requires-clause-bytes
push-requires-clause-bytes g c = subst (λ (x : Entry). counted_act x.act ≤ c.self.inside.trail.bytes_room) (sym c.wrote.ensures) (omega arith)

pub invariant_of-self : goal.invariant_of-self
invariant_of-self g c =
    let s = c.self.inside in
    let b = g.B.Based.base in
    let told = c.self.invariant.0.told in
    let t = c.args.t.now in
    let v : Shown = shown_of s.seat s.trail.entries s.late s.closed s.groups.items s.lookback s.raising (g.D.Disk.calls s.disk) (g.D.Disk.faults s.disk) in
    let mine : IsBatchIn s.trail.entries s.seat t.table.0 t.stamp InWriting = ticket_in b g.B.Based.damaged t InWriting v c.args.self.now c.self.view_is c.requires in
    let place = c.in-Some-numbered_place.place in
    let m = c.in-Some-batch_place.batch in
    let h = c.index.result.now in
    let inside = there g.D.Disk b g.B.Founded.sound g.B.Founded.premise g.B.Founded.began s.disk s.catalog s.standing s.groups.items s.trail s.late s.closed c.self.invariant.0 t s.seat Writing mine (in_writing mine.batch mine.phase).0
    c.in_default.is place c.in-Some-numbered_place.ensures.found c.in-Some-numbered_place.ensures.numbered h c.index.ensures in
    let y = c.index_mut-group.result.now in
    let one : y ≡ h = same_read s.groups.items place y h inside c.index_mut-group.ensures.value c.index.ensures in
    let two : c.index-2.result.now ≡ h = same_read s.groups.items place c.index-2.result.now h inside c.index-2.ensures c.index.ensures in
    let free : IsUnblocked y m = subst (λ (x : Group). IsUnblocked x m) (two ∙ sym one) c.in_default-blocker.ensures.free in
    let l : m < length y.batches.items = subst (λ (x : Group). m < length x.batches.items) (sym one) c.in-Some-batch_place.ensures.found.0 in
    let stamp : (x : Begun) → slice_get y.batches.items m ≡ Some x → x.batch.stamp ≡ t.stamp = subst (λ (z : Group). (x : Begun) → slice_get z.batches.items m ≡ Some x → x.batch.stamp ≡ t.stamp) (sym one) c.in-Some-batch_place.ensures.found.1 in (
      wrote_kept g.D.Disk g.met.D.Disk.told g.met.D.Disk.up_to_now b g.B.Founded.sound g.B.Founded.premise g.B.Founded.began s.disk s.catalog s.standing s.groups.items s.trail s.late s.closed c.self.invariant.0 t s.seat mine
          c.in_default.is place c.in-Some-numbered_place.ensures.found c.in-Some-numbered_place.ensures.numbered y c.index_mut-group.ensures.value m l stamp
          c.write-outcome.new.group c.write-outcome.new.disk free c.in-Ok.rows c.in-Ok.ensures.rows c.call_count-calls.result c.call_count-calls.ensures c.in-Ok.ensures.written c.push.new.self
          (c.push.ensures.entries ∙ ap (λ (e : Entry). s.trail.entries ++ e ∷ []) c.wrote.ensures) c.push.ensures.room,
      ((let f = c.write-outcome.ensures.frame in let w = c.self.invariant.1.0 in omega (arith, f, w)), more_by_clock g.C.Clock g.B.Founded.times g.B.Based.base g.B.Founded.lookback s.lookback s.clock s.trail.entries c.self.invariant.1.1 c.push.new.self.entries (record { seat = s.seat; calls = c.call_count-calls.result; act = Wrote t.table t.stamp c.in-Ok.rows }) (c.push.ensures.entries ∙ ap (λ (e : Entry). s.trail.entries ++ e ∷ []) c.wrote.ensures) refl),
    )

pub invariant_of-self-in-Err : goal.invariant_of-self-in-Err
invariant_of-self-in-Err g c =
    let s = c.self.inside in
    let b = g.B.Based.base in
    let told = c.self.invariant.0.told in
    let t = c.args.t.now in
    let v : Shown = shown_of s.seat s.trail.entries s.late s.closed s.groups.items s.lookback s.raising (g.D.Disk.calls s.disk) (g.D.Disk.faults s.disk) in
    let mine : IsBatchIn s.trail.entries s.seat t.table.0 t.stamp InWriting = ticket_in b g.B.Based.damaged t InWriting v c.args.self.now c.self.view_is c.requires in
    let place = c.in-Some-numbered_place.place in
    let m = c.in-Some-batch_place.batch in
    let h = c.index.result.now in
    let inside = there g.D.Disk b g.B.Founded.sound g.B.Founded.premise g.B.Founded.began s.disk s.catalog s.standing s.groups.items s.trail s.late s.closed c.self.invariant.0 t s.seat Writing mine (in_writing mine.batch mine.phase).0
    c.in_default.is place c.in-Some-numbered_place.ensures.found c.in-Some-numbered_place.ensures.numbered h c.index.ensures in
    let y = c.index_mut-group.result.now in
    let one : y ≡ h = same_read s.groups.items place y h inside c.index_mut-group.ensures.value c.index.ensures in
    let two : c.index-2.result.now ≡ h = same_read s.groups.items place c.index-2.result.now h inside c.index-2.ensures c.index.ensures in
    let free : IsUnblocked y m = subst (λ (x : Group). IsUnblocked x m) (two ∙ sym one) c.in_default-blocker.ensures.free in
    let l : m < length y.batches.items = subst (λ (x : Group). m < length x.batches.items) (sym one) c.in-Some-batch_place.ensures.found.0 in
    let stamp : (x : Begun) → slice_get y.batches.items m ≡ Some x → x.batch.stamp ≡ t.stamp = subst (λ (z : Group). (x : Begun) → slice_get z.batches.items m ≡ Some x → x.batch.stamp ≡ t.stamp) (sym one) c.in-Some-batch_place.ensures.found.1 in (
      subst (λ (o : Option Entry). IsKept g.D.Disk b g.B.Founded.sound g.B.Founded.premise g.B.Founded.began c.write-outcome.new.disk s.catalog s.standing (slice_set s.groups.items place c.write-outcome.new.group) c.shut.new.trail o (Some c.call_count-calls.result))
          (sym (c.keep.ensures ∙ ap Some c.wrote-in-Err.ensures))
          (unwritten_kept g.D.Disk g.met.D.Disk.told g.met.D.Disk.up_to_now b g.B.Founded.sound g.B.Founded.premise g.B.Founded.began s.disk s.catalog s.standing s.groups.items s.trail s.late s.closed c.self.invariant.0 t s.seat mine
          c.in_default.is place c.in-Some-numbered_place.ensures.found c.in-Some-numbered_place.ensures.numbered y c.index_mut-group.ensures.value m l stamp
          c.write-outcome.new.group c.write-outcome.new.disk free c.in-Err.field-0.rows c.in-Err.ensures.late c.call_count-calls.result c.call_count-calls.ensures c.in-Err.ensures.hands (c.in-Err.ensures.failed refl) c.shut.new.trail
          c.shut.ensures.entries c.shut.ensures.room),
      ((let f = c.write-outcome.ensures.frame in let w = c.self.invariant.1.0 in omega (arith, f, w)), more_by_clock g.C.Clock g.B.Founded.times g.B.Based.base g.B.Founded.lookback s.lookback s.clock s.trail.entries c.self.invariant.1.1 c.shut.new.trail.entries (record { seat = s.seat; calls = c.call_count-calls.result; act = Shut c.call_count-calls.result }) c.shut.ensures.entries refl),
    )

pub returns-in-Ok-clause-ok : goal.returns-in-Ok-clause-ok
returns-in-Ok-clause-ok g c =
    let s = c.self.inside in
    let b = g.B.Based.base in
    let told = c.self.invariant.0.told in
    let t = c.args.t.now in
    let v : Shown = shown_of s.seat s.trail.entries s.late s.closed s.groups.items s.lookback s.raising (g.D.Disk.calls s.disk) (g.D.Disk.faults s.disk) in
    let mine : IsBatchIn s.trail.entries s.seat t.table.0 t.stamp InWriting = ticket_in b g.B.Based.damaged t InWriting v c.args.self.now c.self.view_is c.requires in
    let place = c.in-Some-numbered_place.place in
    let m = c.in-Some-batch_place.batch in
    let h = c.index.result.now in
    let inside = there g.D.Disk b g.B.Founded.sound g.B.Founded.premise g.B.Founded.began s.disk s.catalog s.standing s.groups.items s.trail s.late s.closed c.self.invariant.0 t s.seat Writing mine (in_writing mine.batch mine.phase).0
    c.in_default.is place c.in-Some-numbered_place.ensures.found c.in-Some-numbered_place.ensures.numbered h c.index.ensures in
    let y = c.index_mut-group.result.now in
    let one : y ≡ h = same_read s.groups.items place y h inside c.index_mut-group.ensures.value c.index.ensures in
    let two : c.index-2.result.now ≡ h = same_read s.groups.items place c.index-2.result.now h inside c.index-2.ensures c.index.ensures in
    let free : IsUnblocked y m = subst (λ (x : Group). IsUnblocked x m) (two ∙ sym one) c.in_default-blocker.ensures.free in
    let l : m < length y.batches.items = subst (λ (x : Group). m < length x.batches.items) (sym one) c.in-Some-batch_place.ensures.found.0 in
    let stamp : (x : Begun) → slice_get y.batches.items m ≡ Some x → x.batch.stamp ≡ t.stamp = subst (λ (z : Group). (x : Begun) → slice_get z.batches.items m ≡ Some x → x.batch.stamp ≡ t.stamp) (sym one) c.in-Some-batch_place.ensures.found.1 in
    let after : c.push.new.self.entries ≡ s.trail.entries ++ record { seat = s.seat; calls = c.call_count-calls.result; act = Wrote t.table t.stamp c.in-Ok.rows } ∷ [] = c.push.ensures.entries ∙ ap (λ (e : Entry). s.trail.entries ++ e ∷ []) c.wrote.ensures in
    let v' : Shown = record v { entries = c.push.new.self.entries } in
    let next : IsBatchIn c.push.new.self.entries s.seat t.table.0 t.stamp InVerifying = subst (λ (es : List Entry). IsBatchIn es s.seat t.table.0 t.stamp InVerifying) (sym after)
    (wrote_in g.D.Disk g.met.D.Disk.told g.met.D.Disk.up_to_now b g.B.Founded.sound g.B.Founded.premise g.B.Founded.began s.disk s.catalog s.standing s.groups.items s.trail s.late s.closed c.self.invariant.0 t s.seat mine
    c.in_default.is place c.in-Some-numbered_place.ensures.found c.in-Some-numbered_place.ensures.numbered y c.index_mut-group.ensures.value m l stamp
    c.write-outcome.new.group c.write-outcome.new.disk free c.in-Ok.rows c.in-Ok.ensures.rows c.call_count-calls.result c.call_count-calls.ensures c.in-Ok.ensures.written) in
    subst (λ (w : Shown). DidWrite (known_by b g.B.Based.damaged w) (known_by b g.B.Based.damaged v') t AllWritten) c.self.view_is
    (did_write (known_by b g.B.Based.damaged v) told.legal t c.push.new.self.entries c.call_count-calls.result c.in-Ok.rows after (invariant_of-self g c).0.told.legal next)

pub returns-in-Err-clause-refused : goal.returns-in-Err-clause-refused
returns-in-Err-clause-refused g c =
    let s = c.self.inside in
    let b = g.B.Based.base in
    let told = c.self.invariant.0.told in
    let t = c.args.t.now in
    let v : Shown = shown_of s.seat s.trail.entries s.late s.closed s.groups.items s.lookback s.raising (g.D.Disk.calls s.disk) (g.D.Disk.faults s.disk) in
    let v' : Shown = record v { entries = c.shut.new.trail.entries; late = c.keep.new.late; closed = Some c.call_count-calls.result } in
    subst (λ (w : Shown). Refuses (rows_cause t.table.0 t.stamp) (known_by b g.B.Based.damaged w) (known_by b g.B.Based.damaged v') WriteFault) c.self.view_is
    (write_failed (known_by b g.B.Based.damaged v) told.legal t c.shut.new.trail.entries c.call_count-calls.result c.call_count-calls.result c.shut.ensures.entries (invariant_of-self-in-Err g c).0.told.legal)

pub returns-in-Some-clause-no_more : goal.returns-in-Some-clause-no_more
returns-in-Some-clause-no_more g c = λ stamp is. omega arith

pub returns-in-Some-blocker-clause-no_more : goal.returns-in-Some-blocker-clause-no_more
returns-in-Some-blocker-clause-no_more g c = λ stamp is. omega arith

pub returns-in-Err-clause-no_more : goal.returns-in-Err-clause-no_more
returns-in-Err-clause-no_more g c = λ stamp is. absurd cc

pub returns-in-Ok-clause-fewer : goal.returns-in-Ok-clause-fewer
returns-in-Ok-clause-fewer g c =
    let s = c.self.inside in
    let b = g.B.Based.base in
    let t = c.args.t.now in
    let v : Shown = shown_of s.seat s.trail.entries s.late s.closed s.groups.items s.lookback s.raising (g.D.Disk.calls s.disk) (g.D.Disk.faults s.disk) in
    let mine : IsBatchIn s.trail.entries s.seat t.table.0 t.stamp InWriting = ticket_in b g.B.Based.damaged t InWriting v c.args.self.now c.self.view_is c.requires in
    let place = c.in-Some-numbered_place.place in
    let m = c.in-Some-batch_place.batch in
    let h = c.index.result.now in
    let inside = there g.D.Disk b g.B.Founded.sound g.B.Founded.premise g.B.Founded.began s.disk s.catalog s.standing s.groups.items s.trail s.late s.closed c.self.invariant.0 t s.seat Writing mine (in_writing mine.batch mine.phase).0
    c.in_default.is place c.in-Some-numbered_place.ensures.found c.in-Some-numbered_place.ensures.numbered h c.index.ensures in
    let y = c.index_mut-group.result.now in
    let own : y.table.id ≡ t.table = own_table g.D.Disk b g.B.Founded.sound g.B.Founded.premise g.B.Founded.began s.disk s.catalog s.standing s.groups.items s.trail s.late s.closed c.self.invariant.0 t s.seat Writing mine (in_writing mine.batch mine.phase).0
    c.in_default.is place c.in-Some-numbered_place.ensures.found c.in-Some-numbered_place.ensures.numbered y c.index_mut-group.ensures.value in
    let one : y ≡ h = same_read s.groups.items place y h inside c.index_mut-group.ensures.value c.index.ensures in
    let stamp : (x : Begun) → slice_get y.batches.items m ≡ Some x → x.batch.stamp ≡ t.stamp = subst (λ (z : Group). (x : Begun) → slice_get z.batches.items m ≡ Some x → x.batch.stamp ≡ t.stamp) (sym one) c.in-Some-batch_place.ensures.found.1 in
    subst (λ (w : Shown). calls_left (slice_set s.groups.items place c.write-outcome.new.group) t < calls_left w.groups t) c.self.view_is
    (fewer s.groups.items place y c.write-outcome.new.group inside (sym c.index_mut-group.ensures.value) t
    (write_less g.D.Disk m t.table.0 t.stamp y c.write-outcome.new.group s.disk c.write-outcome.new.disk c.in-Ok.ensures.written stamp (ap (λ (x : TableId). x.0) own)))

-- ---- the calls of the disk

pub returns-in-Ok-clause-counts : goal.returns-in-Ok-clause-counts
returns-in-Ok-clause-counts g c = made_by g.D.Disk c.self.inside.disk c.write-outcome.new.disk (c.in-Ok.ensures.written.hands.writes.counts) (omega arith) c.self.view_is refl refl refl refl

pub returns-in-Err-clause-counts : goal.returns-in-Err-clause-counts
returns-in-Err-clause-counts g c = made_by g.D.Disk c.self.inside.disk c.write-outcome.new.disk (c.in-Err.ensures.hands.writes.counts) (omega arith) c.self.view_is refl refl refl refl

pub returns-in-Err-clause-blames : goal.returns-in-Err-clause-blames
returns-in-Err-clause-blames g c = rose_by g.D.Disk c.self.inside.disk c.write-outcome.new.disk (c.in-Err.ensures.failed refl) c.self.view_is refl
