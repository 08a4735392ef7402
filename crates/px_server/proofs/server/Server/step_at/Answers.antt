use Rattle.std.proofs.Common.{◌≡◌, ◌<◌, ◌∙◌, None, Some, get_or, length, refl, sym, ap, subst, arith}
use Rattle.std.specs.List.{slice_set}
use Rattle.px_trail.specs.declared.entry.Act.TheVariants.{Shut}
use Rattle.px_calls.specs.Calls.{DidWork}
use Rattle.px_calls.specs.Causes.{Refuses, upkeep_cause}
use Rattle.px_calls.specs.declared.fault.StepFault.TheVariants.{Memory, WriteFault}
use Rattle.px_calls.specs.declared.status.Work.TheVariants.{Did}
use Rattle.px_group.specs.declared.group.Group.{Group}
use Rattle.px_server.specs.Looks.{rows_looked}
use Rattle.px_server.specs.Shown.{Shown, known_by, shown_of}
use Rattle.px_server.specs.Sights.{have_doubt}
use Rattle.px_server.specs.Upkeep.{IsOrderedBy}
use Rattle.px_server.proofs.Acted.{right_at}
use Rattle.px_server.proofs.Lists.{sum_kept}
use Rattle.px_server.proofs.Sighted.{put_tables, stepped_table}
use Rattle.px_server.proofs.Stamping.{more_by_clock}
use Rattle.px_server.proofs.Stepped.{did_work, stepped, stopped, work_failed, work_no_memory}
use Rattle.px_server.proofs.Upkept.{stepped_ordered}
use Rattle.px_server.proofs.DeviceCalls.{made_by, rose_by, steps_passes, stepped_passes}
use Rattle.px_server.proofs.server.Server.step_at.Goals as goal

pub index_mut-requires : goal.index_mut-requires
index_mut-requires g c =
    let inside : c.args.place < length c.self.inside.groups.items = subst (λ (w : Shown). c.args.place < length w.groups) (sym c.self.view_is) c.requires.place in
    omega (arith, inside, c.self.inside.groups.ok.0)

pub step_table-requires : goal.step_table-requires
step_table-requires g c = c.requires.region c.index_mut.result.now (subst (λ (w : Shown). get_or w.groups c.args.place c.index_mut.result.now ≡ c.index_mut.result.now) c.self.view_is (sym c.index_mut.ensures.value))

pub invariant_of-self : goal.invariant_of-self
invariant_of-self g c =
    let s = c.self.inside in
    let running : s.closed ≡ None = ap (λ (w : Shown). w.closed) c.self.view_is ∙ c.requires.running in
    let inside : c.args.place < length s.groups.items = subst (λ (w : Shown). c.args.place < length w.groups) (sym c.self.view_is) c.requires.place in (
      stepped g.D.Disk g.met.D.Disk.told g.met.D.Disk.up_to_now g.B.Based.base g.B.Founded.sound g.B.Founded.premise g.B.Founded.began s.disk s.catalog s.standing s.groups.items s.trail s.late s.closed c.self.invariant.0 running
          c.args.place c.index_mut.result.now c.step_table.new.group inside (sym c.index_mut.ensures.value) c.step_table.new.disk c.in-Ok.ensures.ok,
      c.self.invariant.1,
    )

pub invariant_of-self-in-Err-Memory : goal.invariant_of-self-in-Err-Memory
invariant_of-self-in-Err-Memory g c =
    let s = c.self.inside in
    let running : s.closed ≡ None = ap (λ (w : Shown). w.closed) c.self.view_is ∙ c.requires.running in
    let inside : c.args.place < length s.groups.items = subst (λ (w : Shown). c.args.place < length w.groups) (sym c.self.view_is) c.requires.place in (
      stepped g.D.Disk g.met.D.Disk.told g.met.D.Disk.up_to_now g.B.Based.base g.B.Founded.sound g.B.Founded.premise g.B.Founded.began s.disk s.catalog s.standing s.groups.items s.trail s.late s.closed c.self.invariant.0 running
          c.args.place c.index_mut.result.now c.step_table.new.group inside (sym c.index_mut.ensures.value) c.step_table.new.disk ((rw c.in-Err-Memory.field-0-is at c.in-Err-Memory.ensures.refused) refl),
      c.self.invariant.1,
    )

pub invariant_of-self-in-Err-WriteFault : goal.invariant_of-self-in-Err-WriteFault
invariant_of-self-in-Err-WriteFault g c =
    let s = c.self.inside in
    let running : s.closed ≡ None = ap (λ (w : Shown). w.closed) c.self.view_is ∙ c.requires.running in
    let inside : c.args.place < length s.groups.items = subst (λ (w : Shown). c.args.place < length w.groups) (sym c.self.view_is) c.requires.place in
    let failed = (rw c.in-Err-WriteFault.field-0-is at c.in-Err-WriteFault.ensures.failed) refl in (
      stopped g.D.Disk g.met.D.Disk.told g.met.D.Disk.up_to_now g.B.Based.base g.B.Founded.sound g.B.Founded.premise g.B.Founded.began s.disk s.catalog s.standing s.groups.items s.trail s.late s.closed c.self.invariant.0 running
          c.args.place c.index_mut.result.now c.step_table.new.group inside (sym c.index_mut.ensures.value) c.step_table.new.disk failed.0 c.call_count-calls.result s.seat c.call_count-calls.ensures failed.1 c.shut.new.trail c.shut.ensures.entries c.shut.ensures.room,
      (c.self.invariant.1.0, more_by_clock g.C.Clock g.B.Founded.times g.B.Based.base g.B.Founded.lookback s.lookback s.clock s.trail.entries c.self.invariant.1.1 c.shut.new.trail.entries (record { seat = s.seat; calls = c.call_count-calls.result; act = Shut c.call_count-calls.result }) c.shut.ensures.entries refl),
    )

pub returns-in-Ok-clause-ok : goal.returns-in-Ok-clause-ok
returns-in-Ok-clause-ok g c =
    let s = c.self.inside in
    let b = g.B.Based.base in
    let told = c.self.invariant.0.told in
    let v : Shown = shown_of s.seat s.trail.entries s.late s.closed s.groups.items s.lookback s.raising (g.D.Disk.calls s.disk) (g.D.Disk.faults s.disk) in
    let running : s.closed ≡ None = ap (λ (w : Shown). w.closed) c.self.view_is ∙ c.requires.running in
    subst (λ (w : Shown). DidWork (known_by b g.B.Based.damaged w) (known_by b g.B.Based.damaged v) Did) c.self.view_is (did_work (known_by b g.B.Based.damaged v) told.legal (told.closing ∙ running) Did)

pub returns-in-Ok-clause-ordered : goal.returns-in-Ok-clause-ordered
returns-in-Ok-clause-ordered g c =
    let s = c.self.inside in
    let raised : s.raising ≡ None = ap (λ (w : Shown). w.raising) c.self.view_is ∙ c.requires.raised in
    let inside : c.args.place < length s.groups.items = subst (λ (w : Shown). c.args.place < length w.groups) (sym c.self.view_is) c.requires.place in
    let then = slice_set s.groups.items c.args.place c.step_table.new.group in
    λ job was.
    let was_here : IsOrderedBy (shown_of s.seat s.trail.entries s.late s.closed s.groups.items s.lookback None (g.D.Disk.calls s.disk) (g.D.Disk.faults s.disk)) job =
    subst (λ o. IsOrderedBy (shown_of s.seat s.trail.entries s.late s.closed s.groups.items s.lookback o (g.D.Disk.calls s.disk) (g.D.Disk.faults s.disk)) job) raised (subst (λ (w : Shown). IsOrderedBy w job) (sym c.self.view_is) was) in
    subst (λ o. IsOrderedBy (shown_of s.seat s.trail.entries s.late s.closed then s.lookback o (g.D.Disk.calls c.step_table.new.disk) (g.D.Disk.faults c.step_table.new.disk)) job) (sym raised)
    (stepped_ordered g.D.Disk s.groups.items c.args.place c.index_mut.result.now c.step_table.new.group inside (sym c.index_mut.ensures.value) c.in-Ok.ensures.ordered c.in-Ok.ensures.to_forget s.seat s.trail.entries s.trail.entries s.late s.closed s.lookback (g.D.Disk.calls s.disk) (g.D.Disk.faults s.disk) (g.D.Disk.calls c.step_table.new.disk) (g.D.Disk.faults c.step_table.new.disk) job was_here)

pub returns-in-Err-Memory-clause-refused : goal.returns-in-Err-Memory-clause-refused
returns-in-Err-Memory-clause-refused g c =
    let s = c.self.inside in
    let b = g.B.Based.base in
    let told = c.self.invariant.0.told in
    let v : Shown = shown_of s.seat s.trail.entries s.late s.closed s.groups.items s.lookback s.raising (g.D.Disk.calls s.disk) (g.D.Disk.faults s.disk) in
    let running : s.closed ≡ None = ap (λ (w : Shown). w.closed) c.self.view_is ∙ c.requires.running in
    subst (λ (w : Shown). Refuses (upkeep_cause g.B.Founded.sound) (known_by b g.B.Based.damaged w) (known_by b g.B.Based.damaged v) Memory) c.self.view_is (work_no_memory (known_by b g.B.Based.damaged v) told.legal g.B.Founded.sound (told.closing ∙ running))

pub returns-in-Err-WriteFault-clause-refused : goal.returns-in-Err-WriteFault-clause-refused
returns-in-Err-WriteFault-clause-refused g c =
    let s = c.self.inside in
    let b = g.B.Based.base in
    let told = c.self.invariant.0.told in
    let v : Shown = shown_of s.seat s.trail.entries s.late s.closed s.groups.items s.lookback s.raising (g.D.Disk.calls s.disk) (g.D.Disk.faults s.disk) in
    let v' : Shown = record v { entries = c.shut.new.trail.entries; closed = Some c.call_count-calls.result } in
    subst (λ (w : Shown). Refuses (upkeep_cause g.B.Founded.sound) (known_by b g.B.Based.damaged w) (known_by b g.B.Based.damaged v') WriteFault) c.self.view_is
    (work_failed (known_by b g.B.Based.damaged v) told.legal g.B.Founded.sound c.shut.new.trail.entries c.call_count-calls.result c.call_count-calls.result c.shut.ensures.entries (invariant_of-self-in-Err-WriteFault g c).0.told.legal)

pub returns-in-Ok-clause-unlooked : goal.returns-in-Ok-clause-unlooked
returns-in-Ok-clause-unlooked g c =
    let s = c.self.inside in
    let inside : c.args.place < length s.groups.items = subst (λ (w : Shown). c.args.place < length w.groups) (sym c.self.view_is) c.requires.place in
    subst (λ (w : Shown). rows_looked (slice_set s.groups.items c.args.place c.step_table.new.group) ≡ rows_looked w.groups) c.self.view_is
    (sum_kept (λ (h : Group). h.rows.looked) s.groups.items c.args.place c.index_mut.result.now c.step_table.new.group inside (sym c.index_mut.ensures.value) c.step_table.ensures.looked)

pub returns-in-Err-Memory-clause-unlooked : goal.returns-in-Err-Memory-clause-unlooked
returns-in-Err-Memory-clause-unlooked g c =
    let s = c.self.inside in
    let inside : c.args.place < length s.groups.items = subst (λ (w : Shown). c.args.place < length w.groups) (sym c.self.view_is) c.requires.place in
    subst (λ (w : Shown). rows_looked (slice_set s.groups.items c.args.place c.step_table.new.group) ≡ rows_looked w.groups) c.self.view_is
    (sum_kept (λ (h : Group). h.rows.looked) s.groups.items c.args.place c.index_mut.result.now c.step_table.new.group inside (sym c.index_mut.ensures.value) c.step_table.ensures.looked)

pub returns-in-Err-WriteFault-clause-unlooked : goal.returns-in-Err-WriteFault-clause-unlooked
returns-in-Err-WriteFault-clause-unlooked g c =
    let s = c.self.inside in
    let inside : c.args.place < length s.groups.items = subst (λ (w : Shown). c.args.place < length w.groups) (sym c.self.view_is) c.requires.place in
    subst (λ (w : Shown). rows_looked (slice_set s.groups.items c.args.place c.step_table.new.group) ≡ rows_looked w.groups) c.self.view_is
    (sum_kept (λ (h : Group). h.rows.looked) s.groups.items c.args.place c.index_mut.result.now c.step_table.new.group inside (sym c.index_mut.ensures.value) c.step_table.ensures.looked)

pub returns-in-Ok-clause-doubts : goal.returns-in-Ok-clause-doubts
returns-in-Ok-clause-doubts g c = λ p v.
    let s = c.self.inside in
    let running : s.closed ≡ None = ap (λ (w : Shown). w.closed) c.self.view_is ∙ c.requires.running in
    let inside : c.args.place < length s.groups.items = subst (λ (w : Shown). c.args.place < length w.groups) (sym c.self.view_is) c.requires.place in
    let right = right_at g.D.Disk g.B.Based.base g.B.Founded.sound g.B.Founded.premise g.B.Founded.began s.disk s.catalog s.standing s.groups.items s.trail s.late s.closed c.self.invariant.0 c.args.place c.index_mut.result.now inside (sym c.index_mut.ensures.value) running in
    subst (λ (w : Shown). have_doubt (slice_set s.groups.items c.args.place c.step_table.new.group) p v ≡ have_doubt w.groups p v) c.self.view_is
    (put_tables p v s.groups.items c.args.place c.index_mut.result.now c.step_table.new.group inside (sym c.index_mut.ensures.value) (stepped_table p v g.D.Disk c.index_mut.result.now c.step_table.new.group s.disk c.step_table.new.disk right c.in-Ok.ensures.ok))

-- ---- the calls of the disk

pub returns-in-Ok-clause-counts : goal.returns-in-Ok-clause-counts
returns-in-Ok-clause-counts g c = made_by g.D.Disk c.self.inside.disk c.step_table.new.disk (stepped_passes g.D.Disk c.self.inside.disk c.step_table.new.disk c.index_mut.result.now c.step_table.new.group c.in-Ok.ensures.ok) (omega arith) c.self.view_is refl refl refl refl

pub returns-in-Err-Memory-clause-counts : goal.returns-in-Err-Memory-clause-counts
returns-in-Err-Memory-clause-counts g c = made_by g.D.Disk c.self.inside.disk c.step_table.new.disk (stepped_passes g.D.Disk c.self.inside.disk c.step_table.new.disk c.index_mut.result.now c.step_table.new.group ((rw c.in-Err-Memory.field-0-is at c.in-Err-Memory.ensures.refused) refl)) (omega arith) c.self.view_is refl refl refl refl

pub returns-in-Err-WriteFault-clause-counts : goal.returns-in-Err-WriteFault-clause-counts
returns-in-Err-WriteFault-clause-counts g c = made_by g.D.Disk c.self.inside.disk c.step_table.new.disk (steps_passes g.D.Disk c.self.inside.disk c.step_table.new.disk c.index_mut.result.now c.step_table.new.group ((rw c.in-Err-WriteFault.field-0-is at c.in-Err-WriteFault.ensures.failed) refl).0) (omega arith) c.self.view_is refl refl refl refl

pub returns-in-Err-WriteFault-clause-blames : goal.returns-in-Err-WriteFault-clause-blames
returns-in-Err-WriteFault-clause-blames g c = rose_by g.D.Disk c.self.inside.disk c.step_table.new.disk (((rw c.in-Err-WriteFault.field-0-is at c.in-Err-WriteFault.ensures.failed) refl).1) c.self.view_is refl
