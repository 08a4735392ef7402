use Rattle.std.specs.Prelude.{◌≢◌}
use Rattle.std.proofs.Common.{◌≡◌, ℕ, Ok, Option, None, Some, ap, refl, subst, sym, ◌∙◌}
use Rattle.px_outside.specs.OnDisk.{LeavesOnly}
use Rattle.px_outside.proofs.Moments.{touches_more}
use Rattle.px_wal.specs.Batches.{batches_above, cells_over}
use Rattle.px_wal.specs.Files.{HasFile}
use Rattle.px_wal.specs.Manifest.{named_snapshot}
use Rattle.px_flushing.specs.Flushing.{MayForget, ReadsFrom, forgetting_horizon, naming_of}
use Rattle.px_flushing.specs.declared.flushing.FlushStep.TheVariants.{Forgot, More}
use Rattle.px_flushing.specs.declared.job.Job.TheVariants as job
use Rattle.px_flushing.proofs.Compacting.{forgot_none, goes_before, goes_same, horizon_same, reads_from}
use Rattle.px_flushing.proofs.Going.{by_fields, more_only, under_is}
use Rattle.px_flushing.proofs.Parts.{parts_leave}
use Rattle.px_flushing.proofs.flushing.Flushing.step.Goals as goal

pub returns-in-None-clause-done : goal.returns-in-None-clause-done
returns-in-None-clause-done g c = λ batches lists has may other.
    let self = c.args.self.now in (
      lists,
      c.begin.ensures.done batches lists (by_fields g.D.Disk c.args.manifest.now c.args.wal.now self.number self.files.items None c.args.disk.now batches lists _ has.parts tt refl refl (sym c.take.ensures.after)),
      goes_same c.begin.result _ _ c.begin.ensures.unnamed.2 refl,
      forgot_none c.begin.result _ lists c.begin.ensures.unnamed.2,
    )

pub returns-in-None-clause-any_moment : goal.returns-in-None-clause-any_moment
returns-in-None-clause-any_moment g c = λ batches lists has may.
    let self = c.args.self.now in
    reads_from (forgetting_horizon self.flush) g.D.Disk self.number (named_snapshot c.args.manifest.now).horizon c.args.disk.now c.begin.new.disk (cells_over (named_snapshot c.args.manifest.now).flushed batches lists)
    (parts_leave g.D.Disk self.number c.args.manifest.now c.args.wal.now c.args.disk.now batches self.files.items lists has.parts c.begin.new.disk (λ file. ⊥) c.begin.ensures.touches (λ file own never. never))

pub returns-in-None-clause-forgot : goal.returns-in-None-clause-forgot
returns-in-None-clause-forgot g c = λ h e. absurd (c.begin.ensures.unnamed.2 h e)

pub returns-in-None-clause-keeps : goal.returns-in-None-clause-keeps
returns-in-None-clause-keeps g c = λ h e. absurd (c.begin.ensures.unnamed.2 h e)

pub returns-in-None-clause-horizon : goal.returns-in-None-clause-horizon
returns-in-None-clause-horizon g c = horizon_same c.begin.result _ _ c.begin.ensures.unnamed.2 refl

pub returns-in-None-clause-named : goal.returns-in-None-clause-named
returns-in-None-clause-named g c = λ batches lists cells bytes has is. absurd (c.begin.ensures.unnamed.0 cells bytes is)

pub returns-in-None-clause-sound : goal.returns-in-None-clause-sound
returns-in-None-clause-sound g c = λ batches lists has.
    let self = c.args.self.now in
    c.begin.ensures.sound batches lists (by_fields g.D.Disk c.args.manifest.now c.args.wal.now self.number self.files.items None c.args.disk.now batches lists _ has.parts tt refl refl (sym c.take.ensures.after))

pub returns-in-None-clause-touches : goal.returns-in-None-clause-touches
returns-in-None-clause-touches g c = λ batches lists has.
    touches_more g.D.Disk.calls g.D.Disk.left g.D.Disk.seen c.args.disk.now c.begin.new.disk (λ file. ⊥) (HasFile c.args.self.now.number) (λ file never. absurd never) c.begin.ensures.touches

-- ---- a flush goes on

pub returns-in-Some-Flush-clause-done : goal.returns-in-Some-Flush-clause-done
returns-in-Some-Flush-clause-done g c = λ batches lists has may other.
    let begun = under_is g.D.Disk c.args.manifest.now c.args.wal.now c.args.self.now c.args.disk.now batches lists (Some (job.Flush c.in-Some-Flush.flush)) has (sym c.take.ensures.value ∙ c.in-Some-Flush.is ∙ ap (λ j. Some j) c.in-Some-Flush.field-0-is) in
    goes_before g.D.Disk c.go_on.result c.args.manifest.now c.go_on.new.manifest c.args.wal.now _ c.go_on.new.disk batches lists c.go_on.ensures.only.2 (c.go_on.ensures.done c.args.wal.now batches lists has.parts begun other)

pub returns-in-Some-Flush-clause-forgot : goal.returns-in-Some-Flush-clause-forgot
returns-in-Some-Flush-clause-forgot g c = λ h e. absurd (c.go_on.ensures.only.2 h e)

pub returns-in-Some-Flush-clause-keeps : goal.returns-in-Some-Flush-clause-keeps
returns-in-Some-Flush-clause-keeps g c = λ h e. absurd (c.go_on.ensures.only.2 h e)

pub returns-in-Some-Flush-clause-horizon : goal.returns-in-Some-Flush-clause-horizon
returns-in-Some-Flush-clause-horizon g c = horizon_same c.go_on.result _ _ c.go_on.ensures.only.2 c.go_on.ensures.horizon

pub returns-in-Some-Flush-clause-any_moment : goal.returns-in-Some-Flush-clause-any_moment
returns-in-Some-Flush-clause-any_moment g c = λ batches lists has may.
    let begun = under_is g.D.Disk c.args.manifest.now c.args.wal.now c.args.self.now c.args.disk.now batches lists (Some (job.Flush c.in-Some-Flush.flush)) has (sym c.take.ensures.value ∙ c.in-Some-Flush.is ∙ ap (λ j. Some j) c.in-Some-Flush.field-0-is) in
    reads_from (forgetting_horizon c.args.self.now.flush) g.D.Disk c.args.self.now.number (named_snapshot c.args.manifest.now).horizon c.args.disk.now c.go_on.new.disk (cells_over (named_snapshot c.args.manifest.now).flushed batches lists)
    (c.go_on.ensures.any_moment c.args.wal.now batches lists has.parts begun)

pub returns-in-Some-Flush-clause-named : goal.returns-in-Some-Flush-clause-named
returns-in-Some-Flush-clause-named g c = λ batches lists cells bytes has e.
    let begun = under_is g.D.Disk c.args.manifest.now c.args.wal.now c.args.self.now c.args.disk.now batches lists (Some (job.Flush c.in-Some-Flush.flush)) has (sym c.take.ensures.value ∙ c.in-Some-Flush.is ∙ ap (λ j. Some j) c.in-Some-Flush.field-0-is) in
    c.go_on.ensures.named batches cells bytes begun e

pub returns-in-Some-Flush-clause-touches : goal.returns-in-Some-Flush-clause-touches
returns-in-Some-Flush-clause-touches g c = λ batches lists has.
    let begun = under_is g.D.Disk c.args.manifest.now c.args.wal.now c.args.self.now c.args.disk.now batches lists (Some (job.Flush c.in-Some-Flush.flush)) has (sym c.take.ensures.value ∙ c.in-Some-Flush.is ∙ ap (λ j. Some j) c.in-Some-Flush.field-0-is) in
    c.go_on.ensures.touches c.args.wal.now batches lists has.parts begun

-- ---- a compaction goes on

pub returns-in-Some-Gather-clause-done : goal.returns-in-Some-Gather-clause-done
returns-in-Some-Gather-clause-done g c = λ batches lists has may other.
    let gathering = under_is g.D.Disk c.args.manifest.now c.args.wal.now c.args.self.now c.args.disk.now batches lists (Some (job.Gather c.in-Some-Gather.gather)) has (sym c.take.ensures.value ∙ c.in-Some-Gather.is ∙ ap (λ j. Some j) c.in-Some-Gather.field-0-is) in
    let none : (h : ℕ) → c.gather.result ≢ Ok (Forgot h) = λ h e. (let same : Forgot h ≡ More = more_only _ (Forgot h) c.gather.ensures.more e in cc) in
    (lists, c.gather.ensures.done c.args.wal.now batches lists has.parts gathering, goes_same c.gather.result _ _ none refl, forgot_none c.gather.result _ lists none)

pub returns-in-Some-Gather-clause-any_moment : goal.returns-in-Some-Gather-clause-any_moment
returns-in-Some-Gather-clause-any_moment g c = λ batches lists has may.
    let self = c.args.self.now in
    reads_from (forgetting_horizon self.flush) g.D.Disk self.number (named_snapshot c.args.manifest.now).horizon c.args.disk.now c.gather.new.disk (cells_over (named_snapshot c.args.manifest.now).flushed batches lists)
    (parts_leave g.D.Disk self.number c.args.manifest.now c.args.wal.now c.args.disk.now batches self.files.items lists has.parts c.gather.new.disk (λ file. ⊥) c.gather.ensures.touches (λ file own never. never))

pub returns-in-Some-Gather-clause-forgot : goal.returns-in-Some-Gather-clause-forgot
returns-in-Some-Gather-clause-forgot g c = λ h e. (let same : Forgot h ≡ More = more_only _ (Forgot h) c.gather.ensures.more e in cc)

pub returns-in-Some-Gather-clause-keeps : goal.returns-in-Some-Gather-clause-keeps
returns-in-Some-Gather-clause-keeps g c = λ h e. (let same : Forgot h ≡ More = more_only _ (Forgot h) c.gather.ensures.more e in cc)

pub returns-in-Some-Gather-clause-horizon : goal.returns-in-Some-Gather-clause-horizon
returns-in-Some-Gather-clause-horizon g c = horizon_same c.gather.result _ _ (λ h e. (let same : Forgot h ≡ More = more_only _ (Forgot h) c.gather.ensures.more e in cc)) refl

pub returns-in-Some-Merge-clause-done : goal.returns-in-Some-Merge-clause-done
returns-in-Some-Merge-clause-done g c = λ batches lists has may other.
    let is = sym c.take.ensures.value ∙ c.in-Some-Merge.is ∙ ap (λ j. Some j) c.in-Some-Merge.field-0-is in
    let merging = under_is g.D.Disk c.args.manifest.now c.args.wal.now c.args.self.now c.args.disk.now batches lists (Some (job.Merge c.in-Some-Merge.merge)) has is in
    c.merge.ensures.done c.args.wal.now batches lists has.parts merging (subst (λ (o : Option ℕ). MayForget o (batches_above (named_snapshot c.args.manifest.now).flushed batches)) (ap forgetting_horizon is) may) other

pub returns-in-Some-Merge-clause-forgot : goal.returns-in-Some-Merge-clause-forgot
returns-in-Some-Merge-clause-forgot g c = λ h e.
    let w = c.merge.ensures.forgot h e in
    (w.0, ap forgetting_horizon (sym c.take.ensures.value ∙ c.in-Some-Merge.is ∙ ap (λ j. Some j) c.in-Some-Merge.field-0-is) ∙ w.1, w.2)

pub returns-in-Some-Merge-clause-keeps : goal.returns-in-Some-Merge-clause-keeps
returns-in-Some-Merge-clause-keeps g c = λ h e.
    let w = c.merge.ensures.keeps h e in
    (c.in-Some-Merge.merge.frozen, ap naming_of (sym c.take.ensures.value ∙ c.in-Some-Merge.is ∙ ap (λ j. Some j) c.in-Some-Merge.field-0-is) ∙ w.0, w.1)

pub returns-in-Some-Merge-clause-any_moment : goal.returns-in-Some-Merge-clause-any_moment
returns-in-Some-Merge-clause-any_moment g c = λ batches lists has may.
    let self = c.args.self.now in
    let is = sym c.take.ensures.value ∙ c.in-Some-Merge.is ∙ ap (λ j. Some j) c.in-Some-Merge.field-0-is in
    let merging = under_is g.D.Disk c.args.manifest.now c.args.wal.now self c.args.disk.now batches lists (Some (job.Merge c.in-Some-Merge.merge)) has is in
    subst (λ (o : Option ℕ). LeavesOnly g.D.Disk c.args.disk.now c.merge.new.disk (λ moment image. ReadsFrom o self.number image (named_snapshot c.args.manifest.now).horizon (cells_over (named_snapshot c.args.manifest.now).flushed batches lists))) (sym (ap forgetting_horizon is))
    (c.merge.ensures.any_moment c.args.wal.now batches lists has.parts merging (subst (λ (o : Option ℕ). MayForget o (batches_above (named_snapshot c.args.manifest.now).flushed batches)) (ap forgetting_horizon is) may))

pub returns-in-Some-Merge-clause-touches : goal.returns-in-Some-Merge-clause-touches
returns-in-Some-Merge-clause-touches g c = λ batches lists has.
    let merging = under_is g.D.Disk c.args.manifest.now c.args.wal.now c.args.self.now c.args.disk.now batches lists (Some (job.Merge c.in-Some-Merge.merge)) has (sym c.take.ensures.value ∙ c.in-Some-Merge.is ∙ ap (λ j. Some j) c.in-Some-Merge.field-0-is) in
    c.merge.ensures.touches c.args.wal.now batches lists has.parts merging
