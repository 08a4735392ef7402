use Rattle.std.proofs.Common.{◌≡◌, ◌≤◌, ℕ, ap, refl, sym, subst, ◌∙◌, Ok, arith}
use Rattle.px_merge.specs.Kept.{IsKeptList}
use Rattle.px_wal.specs.Batches.{batches_above}
use Rattle.px_wal.specs.Form.{batch_byte_count, cell_count}
use Rattle.px_wal.specs.Manifest.{named_snapshot}
use Rattle.px_wal.specs.Snapshot.{SnapshotData}
use Rattle.px_region.specs.Faults.{job_fault}
use Rattle.px_region.specs.Stamps.{HaveLeast}
use Rattle.px_region.specs.declared.fault.JobFault.TheVariants.{Memory}
use Rattle.px_region.proofs.Holding.{flush_same, flush_went, leaves_from, touches_files}
use Rattle.px_region.proofs.Left.{forgot_by, forgot_holds, forgot_only, goes_forgot, may_allow, may_forget}
use Rattle.px_region.proofs.Right.{named_kept}
use Rattle.px_region.proofs.Steps.{goes_done, goes_merged, goes_more, goes_named, horizon_merged, horizon_named, left_over, some_not, some_one, unwritten}
use Rattle.px_region.proofs.region.Region.files_step.Goals as goal

pub returns-in-Ok-More-clause-done : goal.returns-in-Ok-More-clause-done
returns-in-Ok-More-clause-done g c = λ s holds other.
    let is = c.in-Ok-More.field-0-is in
    let went = c.in-Ok-More.ensures.done holds.batches holds.lists holds.has (may_forget _ c.args.self.now.stamps _ c.requires.above holds.least) (λ e. cc) in
    let same = c.in-Ok-More.ensures.still (λ cells bytes e. cc) (λ e. cc) (λ h e. cc) in
    flush_same g.D.Disk c.args.self.now c.args.disk.now s holds c.step.new.disk c.step.new.manifest c.step.new.self went.0 _ went.1 (goes_more _ _ _ (ap (λ r. Ok r) c.in-Ok-More.field-0-is) went.2) c.step.ensures.number same refl refl refl refl refl refl refl refl refl

pub returns-in-Ok-More-clause-any_moment : goal.returns-in-Ok-More-clause-any_moment
returns-in-Ok-More-clause-any_moment g c = λ s holds.
    leaves_from g.D.Disk c.args.self.now c.args.disk.now s holds _ c.step.new.disk (c.step.ensures.any_moment holds.batches holds.lists holds.has (may_forget _ c.args.self.now.stamps _ c.requires.above holds.least))

pub returns-in-Ok-More-clause-touches : goal.returns-in-Ok-More-clause-touches
returns-in-Ok-More-clause-touches g c = λ s holds. touches_files g.D.Disk c.args.self.now c.args.disk.now s holds c.step.new.disk (c.step.ensures.touches holds.batches holds.lists holds.has)

pub returns-in-Ok-Done-clause-done : goal.returns-in-Ok-Done-clause-done
returns-in-Ok-Done-clause-done g c = λ s holds other.
    let is = c.in-Ok-Done.field-0-is in
    let went = c.in-Ok-Done.ensures.done holds.batches holds.lists holds.has (may_forget _ c.args.self.now.stamps _ c.requires.above holds.least) (λ e. cc) in
    let same = c.in-Ok-Done.ensures.still (λ cells bytes e. cc) (λ e. cc) (λ h e. cc) in
    flush_same g.D.Disk c.args.self.now c.args.disk.now s holds c.step.new.disk c.step.new.manifest c.step.new.self went.0 _ went.1 (goes_done _ _ _ (ap (λ r. Ok r) c.in-Ok-Done.field-0-is) went.2) c.step.ensures.number same refl refl refl refl refl refl refl refl refl

pub returns-in-Ok-Done-clause-any_moment : goal.returns-in-Ok-Done-clause-any_moment
returns-in-Ok-Done-clause-any_moment g c = λ s holds.
    leaves_from g.D.Disk c.args.self.now c.args.disk.now s holds _ c.step.new.disk (c.step.ensures.any_moment holds.batches holds.lists holds.has (may_forget _ c.args.self.now.stamps _ c.requires.above holds.least))

pub returns-in-Ok-Done-clause-touches : goal.returns-in-Ok-Done-clause-touches
returns-in-Ok-Done-clause-touches g c = λ s holds. touches_files g.D.Disk c.args.self.now c.args.disk.now s holds c.step.new.disk (c.step.ensures.touches holds.batches holds.lists holds.has)

-- ---- a compaction ended

pub returns-in-Ok-Merged-clause-done : goal.returns-in-Ok-Merged-clause-done
returns-in-Ok-Merged-clause-done g c = λ s holds other.
    let is = c.in-Ok-Merged.field-0-is in
    let went = c.in-Ok-Merged.ensures.done holds.batches holds.lists holds.has (may_forget _ c.args.self.now.stamps _ c.requires.above holds.least) (λ e. cc) in
    let merged = c.in-Ok-Merged.ensures.merged (ap (λ r. Ok r) c.in-Ok-Merged.field-0-is) in
    let same = ap (λ (n : SnapshotData). n.flushed) merged.1.is in
    flush_went g.D.Disk c.args.self.now c.args.disk.now s holds c.step.new.disk c.step.new.manifest c.step.new.self went.0 _ _ _ _ went.1 (goes_merged _ _ _ (ap (λ r. Ok r) c.in-Ok-Merged.field-0-is) went.2) c.step.ensures.number (horizon_merged _ _ _ (ap (λ r. Ok r) c.in-Ok-Merged.field-0-is) c.in-Ok-Merged.ensures.horizon)
    (holds.counted ∙ ap (λ (n : ℕ). cell_count (batches_above n holds.batches)) (sym same)) (holds.weighed ∙ ap (λ (n : ℕ). batch_byte_count (batches_above n holds.batches)) (sym same)) (subst (λ (n : ℕ). HaveLeast c.args.self.now.stamps (batches_above n holds.batches)) (sym same) holds.least)
    refl refl refl refl refl refl refl refl refl

pub returns-in-Ok-Merged-clause-any_moment : goal.returns-in-Ok-Merged-clause-any_moment
returns-in-Ok-Merged-clause-any_moment g c = λ s holds.
    leaves_from g.D.Disk c.args.self.now c.args.disk.now s holds _ c.step.new.disk (c.step.ensures.any_moment holds.batches holds.lists holds.has (may_forget _ c.args.self.now.stamps _ c.requires.above holds.least))

pub returns-in-Ok-Merged-clause-touches : goal.returns-in-Ok-Merged-clause-touches
returns-in-Ok-Merged-clause-touches g c = λ s holds. touches_files g.D.Disk c.args.self.now c.args.disk.now s holds c.step.new.disk (c.step.ensures.touches holds.batches holds.lists holds.has)

-- ---- a flush ended

pub returns-in-Ok-Named-clause-done : goal.returns-in-Ok-Named-clause-done
returns-in-Ok-Named-clause-done g c = λ s holds other.
    let went = c.in-Ok-Named.ensures.done holds.batches holds.lists holds.has (may_forget _ c.args.self.now.stamps _ c.requires.above holds.least) (λ e. cc) in
    let rose = c.in-Ok-Named.ensures.named holds.batches holds.lists c.in-Ok-Named.cells c.in-Ok-Named.bytes holds.has (ap (λ r. Ok r) c.in-Ok-Named.field-0-is) in
    let to : c.flushed-flushed.result ≡ (named_snapshot c.step.new.manifest).flushed = c.flushed-flushed.ensures in
    let le : (named_snapshot c.args.self.now.manifest).flushed ≤ c.flushed-flushed.result = (let l = rose.1.later in omega (arith, l, to)) in
    let least = c.flush.ensures (named_snapshot c.args.self.now.manifest).flushed holds.batches le holds.least in
    flush_went g.D.Disk c.args.self.now c.args.disk.now s holds c.step.new.disk c.step.new.manifest c.step.new.self went.0 _ _ _ _ went.1 (goes_named _ c.in-Ok-Named.cells c.in-Ok-Named.bytes _ _ (ap (λ r. Ok r) c.in-Ok-Named.field-0-is) went.2) c.step.ensures.number (horizon_named _ c.in-Ok-Named.cells c.in-Ok-Named.bytes _ _ (ap (λ r. Ok r) c.in-Ok-Named.field-0-is) c.in-Ok-Named.ensures.horizon)
    (left_over _ _ _ _ c.saturating_sub-self.ensures _ holds.counted rose.1.counted) (left_over _ _ _ _ c.saturating_sub-self-in-Ok-Named.ensures _ holds.weighed rose.1.weighed) (subst (λ (n : ℕ). HaveLeast c.flush.new.self (batches_above n holds.batches)) to least)
    refl refl refl refl refl refl refl refl refl

pub returns-in-Ok-Named-clause-any_moment : goal.returns-in-Ok-Named-clause-any_moment
returns-in-Ok-Named-clause-any_moment g c = λ s holds.
    leaves_from g.D.Disk c.args.self.now c.args.disk.now s holds _ c.step.new.disk (c.step.ensures.any_moment holds.batches holds.lists holds.has (may_forget _ c.args.self.now.stamps _ c.requires.above holds.least))

pub returns-in-Ok-Named-clause-touches : goal.returns-in-Ok-Named-clause-touches
returns-in-Ok-Named-clause-touches g c = λ s holds. touches_files g.D.Disk c.args.self.now c.args.disk.now s holds c.step.new.disk (c.step.ensures.touches holds.batches holds.lists holds.has)

-- ---- what the horizon hides is forgotten

pub returns-in-Ok-Forgot-clause-forgot : goal.returns-in-Ok-Forgot-clause-forgot
returns-in-Ok-Forgot-clause-forgot g c = λ s holds e.
    let self = c.args.self.now in
    let h = c.in-Ok-Forgot.horizon in
    let went = c.in-Ok-Forgot.ensures.done holds.batches holds.lists holds.has (may_forget _ self.stamps _ c.requires.above holds.least) (λ e. cc) in
    let told = c.in-Ok-Forgot.ensures.forgot h (ap (λ r. Ok r) c.in-Ok-Forgot.field-0-is) in
    let whole = goes_forgot _ h _ _ (ap (λ r. Ok r) c.in-Ok-Forgot.field-0-is) went.2 in
    let only = forgot_only _ h _ _ (ap (λ r. Ok r) c.in-Ok-Forgot.field-0-is) went.3 in
    let allows = may_allow _ h self.stamps told.1 c.requires.above in
    let goes = c.thin.ensures.held c.step.new.manifest self.wal c.step.new.disk holds.batches went.0 went.1 in (
      forgot_holds g.D.Disk self c.args.disk.now s holds c.step.new.disk c.step.new.manifest h c.step.new.self went.0 c.thin.new.store.cells told.2 went.1 whole only allows c.thin.ensures.left c.thin.ensures.sorted c.thin.new.flushing _ goes (c.thin.ensures.number ∙ c.step.ensures.number) refl refl refl refl refl refl refl refl refl,
      forgot_by g.D.Disk self c.args.disk.now s holds c.step.new.disk c.step.new.manifest h c.step.new.self went.0 c.thin.new.store.cells told.2 went.1 whole only allows c.thin.ensures.left c.thin.ensures.sorted _ told.1,
    )

pub returns-in-Ok-Forgot-clause-only : goal.returns-in-Ok-Forgot-clause-only
returns-in-Ok-Forgot-clause-only g c = λ e. some_not _ c.in-Ok-Forgot.horizon (c.in-Ok-Forgot.ensures.forgot c.in-Ok-Forgot.horizon (ap (λ r. Ok r) c.in-Ok-Forgot.field-0-is)).1

pub returns-in-Ok-Forgot-clause-forgot_at : goal.returns-in-Ok-Forgot-clause-forgot_at
returns-in-Ok-Forgot-clause-forgot_at g c = λ h some e.
    let told = c.in-Ok-Forgot.ensures.forgot c.in-Ok-Forgot.horizon (ap (λ r. Ok r) c.in-Ok-Forgot.field-0-is) in
    some_one _ _ _ told.1 some

pub returns-in-Ok-Forgot-clause-forgot_read : goal.returns-in-Ok-Forgot-clause-forgot_read
returns-in-Ok-Forgot-clause-forgot_read g c = λ h some e.
    let is = ap (λ r. Ok r) c.in-Ok-Forgot.field-0-is in
    let told = c.in-Ok-Forgot.ensures.forgot c.in-Ok-Forgot.horizon is in
    let keeps = c.in-Ok-Forgot.ensures.keeps c.in-Ok-Forgot.horizon is in
    let same = some_one _ c.in-Ok-Forgot.horizon h told.1 some in
    let right = named_kept _ _ c.in-Ok-Forgot.horizon keeps.0 c.args.self.now.store.cells c.thin.new.store.cells told.1 keeps.1 (c.thin.ensures.left keeps.0 keeps.2) c.requires.right in
    subst (λ (n : ℕ). IsKeptList c.args.self.now.store.cells n c.thin.new.store.cells) same right

pub returns-in-Ok-Forgot-clause-any_moment : goal.returns-in-Ok-Forgot-clause-any_moment
returns-in-Ok-Forgot-clause-any_moment g c = λ s holds.
    leaves_from g.D.Disk c.args.self.now c.args.disk.now s holds _ c.step.new.disk (c.step.ensures.any_moment holds.batches holds.lists holds.has (may_forget _ c.args.self.now.stamps _ c.requires.above holds.least))

pub returns-in-Ok-Forgot-clause-touches : goal.returns-in-Ok-Forgot-clause-touches
returns-in-Ok-Forgot-clause-touches g c = λ s holds. touches_files g.D.Disk c.args.self.now c.args.disk.now s holds c.step.new.disk (c.step.ensures.touches holds.batches holds.lists holds.has)

pub returns-in-Ok-Forgot-clause-done : goal.returns-in-Ok-Forgot-clause-done
returns-in-Ok-Forgot-clause-done g c = λ s holds other. absurd (other refl)

pub returns-in-Ok-Forgot-clause-read : goal.returns-in-Ok-Forgot-clause-read
returns-in-Ok-Forgot-clause-read g c = λ other. absurd (other refl)

pub returns-in-Ok-Forgot-clause-horizon : goal.returns-in-Ok-Forgot-clause-horizon
returns-in-Ok-Forgot-clause-horizon g c = λ other. absurd (other refl)

pub returns-in-Ok-Forgot-clause-wanted : goal.returns-in-Ok-Forgot-clause-wanted
returns-in-Ok-Forgot-clause-wanted g c = λ other. absurd (other refl)

-- ---- a fault

pub returns-in-Err-clause-any_moment : goal.returns-in-Err-clause-any_moment
returns-in-Err-clause-any_moment g c = λ s holds.
    leaves_from g.D.Disk c.args.self.now c.args.disk.now s holds _ c.step.new.disk (c.step.ensures.any_moment holds.batches holds.lists holds.has (may_forget _ c.args.self.now.stamps _ c.requires.above holds.least))

pub returns-in-Err-clause-touches : goal.returns-in-Err-clause-touches
returns-in-Err-clause-touches g c = λ s holds. touches_files g.D.Disk c.args.self.now c.args.disk.now s holds c.step.new.disk (c.step.ensures.touches holds.batches holds.lists holds.has)

pub returns-in-Err-clause-refused : goal.returns-in-Err-clause-refused
returns-in-Err-clause-refused g c = λ s holds memory.
    let kept : job_fault c.in-Err.fault ≡ Memory = sym c.of_flush.ensures ∙ cc in
    let went = c.in-Err.ensures.done holds.batches holds.lists holds.has (may_forget _ c.args.self.now.stamps _ c.requires.above holds.least) (λ e. unwritten c.in-Err.fault kept (cc)) in
    let same = c.in-Err.ensures.still (λ cells bytes e. cc) (λ e. cc) (λ h e. cc) in
    flush_same g.D.Disk c.args.self.now c.args.disk.now s holds c.step.new.disk c.step.new.manifest c.step.new.self went.0 _ went.1 went.2 c.step.ensures.number same refl refl refl refl refl refl refl refl refl
