use Rattle.std.proofs.Common.{◌∙◌, Some, refl, ap, subst, arith}
use Rattle.px_trail.specs.declared.entry.Act.TheVariants.{Shut}
use Rattle.px_calls.specs.Calls.{DidWork}
use Rattle.px_calls.specs.Causes.{Refuses, upkeep_cause}
use Rattle.px_calls.specs.declared.fault.StepFault.TheVariants.{Closed, Memory, WriteFault}
use Rattle.px_calls.specs.declared.status.Work.TheVariants.{Did}
use Rattle.px_server.specs.Shown.{Shown, known_by, shown_of}
use Rattle.px_server.proofs.Found.{closed_by}
use Rattle.px_server.proofs.Renewed.{renewal_stopped, renewed}
use Rattle.px_server.proofs.Stamping.{more_by_clock}
use Rattle.px_server.proofs.Stepped.{did_work, work_failed, work_no_memory}
use Rattle.px_server.proofs.DeviceCalls.{made_by, rose_by}
use Rattle.px_server.proofs.server.Server.renew_catalog.Goals as goal

pub returns-in-Some-clause-refused : goal.returns-in-Some-clause-refused
returns-in-Some-clause-refused g c =
    let s = c.self.inside in
    let b = g.B.Based.base in
    let told = c.self.invariant.0.told in
    let v : Shown = shown_of s.seat s.trail.entries s.late s.closed s.groups.items s.lookback s.raising (g.D.Disk.calls s.disk) (g.D.Disk.faults s.disk) in
    subst (λ (w : Shown). Refuses (upkeep_cause g.B.Founded.sound) (known_by b g.B.Based.damaged w) (known_by b g.B.Based.damaged w) (Closed c.in-Some.call)) c.self.view_is
    (closed_by (known_by b g.B.Based.damaged v) told.legal s.closed told.closing c.in-Some.call c.in-Some.is)

pub returns-then-self-clause-ok : goal.returns-then-self-clause-ok
returns-then-self-clause-ok g c =
    let s = c.self.inside in
    let b = g.B.Based.base in
    let told = c.self.invariant.0.told in
    let v : Shown = shown_of s.seat s.trail.entries s.late s.closed s.groups.items s.lookback s.raising (g.D.Disk.calls s.disk) (g.D.Disk.faults s.disk) in
    subst (λ (w : Shown). DidWork (known_by b g.B.Based.damaged w) (known_by b g.B.Based.damaged v) Did) c.self.view_is (did_work (known_by b g.B.Based.damaged v) told.legal (told.closing ∙ c.in_default.is) Did)

pub invariant_of-self-in-Ok-Made : goal.invariant_of-self-in-Ok-Made
invariant_of-self-in-Ok-Made g c =
    let s = c.self.inside in (
      renewed g.D.Disk g.met.D.Disk.told g.met.D.Disk.up_to_now g.B.Based.base g.B.Founded.sound g.B.Founded.premise g.B.Founded.began s.disk s.catalog s.standing s.groups.items s.trail s.late s.closed c.self.invariant.0 c.in_default.is
          c.renew_step.new.disk c.renew_step.new.catalog c.renew_step.ensures.renews c.in-Ok-Made.ensures.ok,
      c.self.invariant.1,
    )

pub invariant_of-self-in-Ok-InVain : goal.invariant_of-self-in-Ok-InVain
invariant_of-self-in-Ok-InVain g c =
    let s = c.self.inside in (
      renewed g.D.Disk g.met.D.Disk.told g.met.D.Disk.up_to_now g.B.Based.base g.B.Founded.sound g.B.Founded.premise g.B.Founded.began s.disk s.catalog s.standing s.groups.items s.trail s.late s.closed c.self.invariant.0 c.in_default.is
          c.renew_step.new.disk c.renew_step.new.catalog c.renew_step.ensures.renews c.in-Ok-InVain.ensures.ok,
      c.self.invariant.1,
    )

pub invariant_of-self-in-Ok-Unmade : goal.invariant_of-self-in-Ok-Unmade
invariant_of-self-in-Ok-Unmade g c =
    let s = c.self.inside in (
      renewed g.D.Disk g.met.D.Disk.told g.met.D.Disk.up_to_now g.B.Based.base g.B.Founded.sound g.B.Founded.premise g.B.Founded.began s.disk s.catalog s.standing s.groups.items s.trail s.late s.closed c.self.invariant.0 c.in_default.is
          c.renew_step.new.disk c.renew_step.new.catalog c.renew_step.ensures.renews c.in-Ok-Unmade.ensures.ok,
      c.self.invariant.1,
    )

pub invariant_of-self-in-Err-Memory : goal.invariant_of-self-in-Err-Memory
invariant_of-self-in-Err-Memory g c =
    let s = c.self.inside in (
      renewed g.D.Disk g.met.D.Disk.told g.met.D.Disk.up_to_now g.B.Based.base g.B.Founded.sound g.B.Founded.premise g.B.Founded.began s.disk s.catalog s.standing s.groups.items s.trail s.late s.closed c.self.invariant.0 c.in_default.is
          c.renew_step.new.disk c.renew_step.new.catalog c.renew_step.ensures.renews ((rw c.in-Err-Memory.field-0-is at c.in-Err-Memory.ensures.refused) refl),
      c.self.invariant.1,
    )

pub invariant_of-self-in-Err-WriteFault : goal.invariant_of-self-in-Err-WriteFault
invariant_of-self-in-Err-WriteFault g c =
    let s = c.self.inside in
    let rose = (rw c.in-Err-WriteFault.field-0-is at c.in-Err-WriteFault.ensures.failed) refl in (
      renewal_stopped g.D.Disk g.met.D.Disk.told g.met.D.Disk.up_to_now g.B.Based.base g.B.Founded.sound g.B.Founded.premise g.B.Founded.began s.disk s.catalog s.standing s.groups.items s.trail s.late s.closed c.self.invariant.0 c.in_default.is
          c.renew_step.new.disk c.renew_step.new.catalog c.renew_step.ensures.renews c.call_count-calls.result s.seat c.call_count-calls.ensures rose c.shut.new.trail c.shut.ensures.entries c.shut.ensures.room,
      (c.self.invariant.1.0, more_by_clock g.C.Clock g.B.Founded.times g.B.Based.base g.B.Founded.lookback s.lookback s.clock s.trail.entries c.self.invariant.1.1 c.shut.new.trail.entries (record { seat = s.seat; calls = c.call_count-calls.result; act = Shut c.call_count-calls.result }) c.shut.ensures.entries refl),
    )

pub returns-in-Ok-Made-clause-ok : goal.returns-in-Ok-Made-clause-ok
returns-in-Ok-Made-clause-ok g c =
    let s = c.self.inside in
    let b = g.B.Based.base in
    let told = c.self.invariant.0.told in
    let v : Shown = shown_of s.seat s.trail.entries s.late s.closed s.groups.items s.lookback s.raising (g.D.Disk.calls s.disk) (g.D.Disk.faults s.disk) in
    subst (λ (w : Shown). DidWork (known_by b g.B.Based.damaged w) (known_by b g.B.Based.damaged v) Did) c.self.view_is (did_work (known_by b g.B.Based.damaged v) told.legal (told.closing ∙ c.in_default.is) Did)

pub returns-in-Ok-InVain-clause-ok : goal.returns-in-Ok-InVain-clause-ok
returns-in-Ok-InVain-clause-ok g c =
    let s = c.self.inside in
    let b = g.B.Based.base in
    let told = c.self.invariant.0.told in
    let v : Shown = shown_of s.seat s.trail.entries s.late s.closed s.groups.items s.lookback s.raising (g.D.Disk.calls s.disk) (g.D.Disk.faults s.disk) in
    subst (λ (w : Shown). DidWork (known_by b g.B.Based.damaged w) (known_by b g.B.Based.damaged v) Did) c.self.view_is (did_work (known_by b g.B.Based.damaged v) told.legal (told.closing ∙ c.in_default.is) Did)

pub returns-in-Ok-Unmade-clause-ok : goal.returns-in-Ok-Unmade-clause-ok
returns-in-Ok-Unmade-clause-ok g c =
    let s = c.self.inside in
    let b = g.B.Based.base in
    let told = c.self.invariant.0.told in
    let v : Shown = shown_of s.seat s.trail.entries s.late s.closed s.groups.items s.lookback s.raising (g.D.Disk.calls s.disk) (g.D.Disk.faults s.disk) in
    subst (λ (w : Shown). DidWork (known_by b g.B.Based.damaged w) (known_by b g.B.Based.damaged v) Did) c.self.view_is (did_work (known_by b g.B.Based.damaged v) told.legal (told.closing ∙ c.in_default.is) Did)

pub returns-in-Err-Memory-clause-refused : goal.returns-in-Err-Memory-clause-refused
returns-in-Err-Memory-clause-refused g c =
    let s = c.self.inside in
    let b = g.B.Based.base in
    let told = c.self.invariant.0.told in
    let v : Shown = shown_of s.seat s.trail.entries s.late s.closed s.groups.items s.lookback s.raising (g.D.Disk.calls s.disk) (g.D.Disk.faults s.disk) in
    subst (λ (w : Shown). Refuses (upkeep_cause g.B.Founded.sound) (known_by b g.B.Based.damaged w) (known_by b g.B.Based.damaged v) Memory) c.self.view_is (work_no_memory (known_by b g.B.Based.damaged v) told.legal g.B.Founded.sound (told.closing ∙ c.in_default.is))

pub returns-in-Err-WriteFault-clause-refused : goal.returns-in-Err-WriteFault-clause-refused
returns-in-Err-WriteFault-clause-refused g c =
    let s = c.self.inside in
    let b = g.B.Based.base in
    let told = c.self.invariant.0.told in
    let v : Shown = shown_of s.seat s.trail.entries s.late s.closed s.groups.items s.lookback s.raising (g.D.Disk.calls s.disk) (g.D.Disk.faults s.disk) in
    let v' : Shown = record v { entries = c.shut.new.trail.entries; closed = Some c.call_count-calls.result } in
    subst (λ (w : Shown). Refuses (upkeep_cause g.B.Founded.sound) (known_by b g.B.Based.damaged w) (known_by b g.B.Based.damaged v') WriteFault) c.self.view_is
    (work_failed (known_by b g.B.Based.damaged v) told.legal g.B.Founded.sound c.shut.new.trail.entries c.call_count-calls.result c.call_count-calls.result c.shut.ensures.entries (invariant_of-self-in-Err-WriteFault g c).0.told.legal)

pub returns-in-Ok-Made-clause-groups : goal.returns-in-Ok-Made-clause-groups
returns-in-Ok-Made-clause-groups g c = ap (λ (w : Shown). w.groups) c.self.view_is

pub returns-in-Ok-InVain-clause-groups : goal.returns-in-Ok-InVain-clause-groups
returns-in-Ok-InVain-clause-groups g c = ap (λ (w : Shown). w.groups) c.self.view_is

pub returns-in-Ok-Unmade-clause-groups : goal.returns-in-Ok-Unmade-clause-groups
returns-in-Ok-Unmade-clause-groups g c = ap (λ (w : Shown). w.groups) c.self.view_is

pub returns-in-Err-Memory-clause-groups : goal.returns-in-Err-Memory-clause-groups
returns-in-Err-Memory-clause-groups g c = ap (λ (w : Shown). w.groups) c.self.view_is

pub returns-in-Err-WriteFault-clause-groups : goal.returns-in-Err-WriteFault-clause-groups
returns-in-Err-WriteFault-clause-groups g c = ap (λ (w : Shown). w.groups) c.self.view_is

-- ---- the calls of the disk

pub returns-in-Ok-Made-clause-counts : goal.returns-in-Ok-Made-clause-counts
returns-in-Ok-Made-clause-counts g c = made_by g.D.Disk c.self.inside.disk c.renew_step.new.disk (c.renew_step.ensures.renews.counts) (omega arith) c.self.view_is refl refl refl refl

pub returns-in-Ok-InVain-clause-counts : goal.returns-in-Ok-InVain-clause-counts
returns-in-Ok-InVain-clause-counts g c = made_by g.D.Disk c.self.inside.disk c.renew_step.new.disk (c.renew_step.ensures.renews.counts) (omega arith) c.self.view_is refl refl refl refl

pub returns-in-Ok-Unmade-clause-counts : goal.returns-in-Ok-Unmade-clause-counts
returns-in-Ok-Unmade-clause-counts g c = made_by g.D.Disk c.self.inside.disk c.renew_step.new.disk (c.renew_step.ensures.renews.counts) (omega arith) c.self.view_is refl refl refl refl

pub returns-in-Err-Memory-clause-counts : goal.returns-in-Err-Memory-clause-counts
returns-in-Err-Memory-clause-counts g c = made_by g.D.Disk c.self.inside.disk c.renew_step.new.disk (c.renew_step.ensures.renews.counts) (omega arith) c.self.view_is refl refl refl refl

pub returns-in-Err-WriteFault-clause-counts : goal.returns-in-Err-WriteFault-clause-counts
returns-in-Err-WriteFault-clause-counts g c = made_by g.D.Disk c.self.inside.disk c.renew_step.new.disk (c.renew_step.ensures.renews.counts) (omega arith) c.self.view_is refl refl refl refl

pub returns-in-Err-WriteFault-clause-blames : goal.returns-in-Err-WriteFault-clause-blames
returns-in-Err-WriteFault-clause-blames g c = rose_by g.D.Disk c.self.inside.disk c.renew_step.new.disk ((rw c.in-Err-WriteFault.field-0-is at c.in-Err-WriteFault.ensures.failed) refl) c.self.view_is refl
