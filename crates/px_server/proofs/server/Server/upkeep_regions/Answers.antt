use Rattle.std.proofs.Common.{◌≡◌, ◌<◌, ◌∙◌, List, get_or, length, sym, ap, subst}
use Rattle.px_calls.specs.Calls.{DidWork}
use Rattle.px_calls.specs.declared.status.Work.TheVariants.{Idle}
use Rattle.px_group.specs.declared.group.Group.{Group}
use Rattle.px_server.specs.Shown.{Shown, known_by, shown_of}
use Rattle.px_server.specs.Upkeep.{AreFree}
use Rattle.px_server.specs.declared.upkeep.Chore.TheVariants as chore
use Rattle.px_server.proofs.Answered.{if_ok}
use Rattle.px_server.proofs.Stepped.{did_work}
use Rattle.px_server.proofs.Upkept.{idle_done}
use Rattle.px_server.proofs.DeviceCalls.{quiet_by}
use Rattle.px_server.proofs.server.Server.upkeep_regions.Goals as goal

-- the first step that is due

pub step_at-requires-clause-place : goal.step_at-requires-clause-place
step_at-requires-clause-place g c = subst (λ (w : Shown). c.in-Some.place < length w.groups) c.self.view_is (subst (λ (gs : List Group). c.in-Some.place < length gs) c.as_slice.ensures.value c.in-Some.ensures.some.0)

pub step_at-requires-clause-region : goal.step_at-requires-clause-region
step_at-requires-clause-region g c = λ h is. c.in-Some.ensures.some.1 h (subst (λ (gs : List Group). get_or gs c.in-Some.place h ≡ h) (sym c.as_slice.ensures.value) (subst (λ (w : Shown). get_or w.groups c.in-Some.place h ≡ h) (sym c.self.view_is) is))

pub returns-in-Some-clause-doubts : goal.returns-in-Some-clause-doubts
returns-in-Some-clause-doubts g c = if_ok _ _ c.step_at.result (λ w told p open_ v. told p v) c.step_at.ensures.doubts

-- the first compaction that is wanted

pub begin_at-requires-clause-place : goal.begin_at-requires-clause-place
begin_at-requires-clause-place g c = subst (λ (w : Shown). c.in-Some-busy_table.place < length w.groups) c.self.view_is (subst (λ (gs : List Group). c.in-Some-busy_table.place < length gs) c.as_slice-2.ensures.value c.in-Some-busy_table.ensures.some.0)

pub begin_at-requires-clause-region : goal.begin_at-requires-clause-region
begin_at-requires-clause-region g c = λ h is. c.in-Some-busy_table.ensures.some.1 h (subst (λ (gs : List Group). get_or gs c.in-Some-busy_table.place h ≡ h) (sym c.as_slice-2.ensures.value) (subst (λ (w : Shown). get_or w.groups c.in-Some-busy_table.place h ≡ h) (sym c.self.view_is) is))

-- nothing is left to do

pub returns-in-None-clause-ok : goal.returns-in-None-clause-ok
returns-in-None-clause-ok g c =
    let s = c.self.inside in
    let b = g.B.Based.base in
    let told = c.self.invariant.0.told in
    let v : Shown = shown_of s.seat s.trail.entries s.late s.closed s.groups.items s.lookback s.raising (g.D.Disk.calls s.disk) (g.D.Disk.faults s.disk) in
    let running : s.closed ≡ _ = ap (λ (w : Shown). w.closed) c.self.view_is ∙ c.requires.running in
    subst (λ (w : Shown). DidWork (known_by b g.B.Based.damaged w) (known_by b g.B.Based.damaged w) Idle) c.self.view_is (did_work (known_by b g.B.Based.damaged v) told.legal (told.closing ∙ running) Idle)

pub returns-in-None-clause-done : goal.returns-in-None-clause-done
returns-in-None-clause-done g c = λ idle job.
    let due = subst (λ (w : Shown). AreFree chore.Due w.groups) c.self.view_is (subst (AreFree chore.Due) c.as_slice.ensures.value c.in_default.ensures.none) in
    let wanted = subst (λ (w : Shown). AreFree chore.Wanted w.groups) c.self.view_is (subst (AreFree chore.Wanted) c.as_slice-2.ensures.value c.in-None.ensures.none) in
    idle_done c.args.self.now due wanted c.requires.raised job

-- ---- the calls of the disk

pub returns-in-Some-busy_table-clause-counts : goal.returns-in-Some-busy_table-clause-counts
returns-in-Some-busy_table-clause-counts g c = quiet_by c.begin_at.ensures.counts
