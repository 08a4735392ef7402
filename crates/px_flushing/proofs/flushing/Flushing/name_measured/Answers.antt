use Rattle.std.proofs.Common.{◌≡◌, ℕ, Option, ◌∷◌, Some, None, drop, ap, sym, subst, ◌∙◌}
use Rattle.px_outside.specs.OnDisk.{LeavesOnly}
use Rattle.px_wal.specs.Batches.{batches_above, cells_over}
use Rattle.px_wal.specs.Manifest.{named_snapshot}
use Rattle.px_flushing.specs.Flushing.{HasForgottenFiles, MayForget, ReadsFrom}
use Rattle.px_flushing.specs.declared.flushing.FlushStep.TheVariants.{Done, Forgot, Merged, Named}
use Rattle.px_flushing.specs.declared.stage.Stage.TheVariants as stage
use Rattle.px_flushing.proofs.Compacting.{goes_before, horizon_same, kept_goes, kept_named, kept_still, merged_by, merging_with, only_this, reads_from}
use Rattle.px_flushing.proofs.Going.{named_goes, ok_at, ok_then, ok_told}
use Rattle.px_flushing.proofs.flushing.Flushing.name_measured.Goals as goal

-- ---- without a horizon

pub returns-in-None-clause-done : goal.returns-in-None-clause-done
returns-in-None-clause-done g c = λ wal batches lists parts merging may other.
    let self = c.args.self.now in
    let same_job = merging_with g.D.Disk c.args.self.now.number (named_snapshot c.args.manifest.now) lists c.args.disk.now c.args.count c.args.horizon None c.args.frozen c.args.local (stage.Measured c.args.file c.args.len) c.in-None.is merging in
    goes_before g.D.Disk c.name_one.result c.args.manifest.now c.name_one.new.manifest wal c.name_one.new.self c.name_one.new.disk batches lists (λ h e. (let same : Forgot h ≡ Merged = only_this _ Merged (Forgot h) _ _ c.name_one.ensures.named e in cc))
    (named_goes g.D.Disk c.args.manifest.now c.name_one.new.manifest wal c.name_one.new.self c.name_one.new.disk batches lists (c.args.frozen.cells ∷ drop c.args.count lists) c.name_one.result (c.name_one.ensures.done wal batches lists parts same_job)
    (c.name_one.ensures.kept wal batches lists parts same_job)
    (ok_then _ _ _ _ _ c.name_one.ensures.named
    (λ is. merged_by g.D.Disk self.number c.args.manifest.now c.args.disk.now batches lists c.args.count c.args.frozen c.args.local c.args.len c.args.file same_job (named_snapshot c.name_one.new.manifest) is))
    other)

pub returns-in-None-clause-any_moment : goal.returns-in-None-clause-any_moment
returns-in-None-clause-any_moment g c = λ wal batches lists parts merging may.
    let self = c.args.self.now in
    let same_job = merging_with g.D.Disk c.args.self.now.number (named_snapshot c.args.manifest.now) lists c.args.disk.now c.args.count c.args.horizon None c.args.frozen c.args.local (stage.Measured c.args.file c.args.len) c.in-None.is merging in
    reads_from c.args.horizon g.D.Disk self.number (named_snapshot c.args.manifest.now).horizon c.args.disk.now c.name_one.new.disk (cells_over (named_snapshot c.args.manifest.now).flushed batches lists) (c.name_one.ensures.any_moment wal batches lists parts same_job)

pub returns-in-None-clause-only : goal.returns-in-None-clause-only
returns-in-None-clause-only g c = (
  λ e. (let same : Done ≡ Merged = only_this _ Merged Done _ _ c.name_one.ensures.named e in cc),
  λ cells bytes e. (let same : Named cells bytes ≡ Merged = only_this _ Merged (Named cells bytes) _ _ c.name_one.ensures.named e in cc),
)

pub returns-in-None-clause-merged : goal.returns-in-None-clause-merged
returns-in-None-clause-merged g c = λ e.
    let w = ok_told _ _ Merged _ _ c.name_one.ensures.named e in
    (w.1, record { count = c.args.count; some = ok_at _ Merged _ c.name_one.ensures.some e; local = c.args.local; len = c.args.len; file = c.args.file; is = w.2 })

pub returns-in-None-clause-forgot : goal.returns-in-None-clause-forgot
returns-in-None-clause-forgot g c = λ h e. (let same : Forgot h ≡ Merged = only_this _ Merged (Forgot h) _ _ c.name_one.ensures.named e in cc)

pub returns-in-None-clause-keeps : goal.returns-in-None-clause-keeps
returns-in-None-clause-keeps g c = λ h e. (let same : Forgot h ≡ Merged = only_this _ Merged (Forgot h) _ _ c.name_one.ensures.named e in cc)

pub returns-in-None-clause-horizon : goal.returns-in-None-clause-horizon
returns-in-None-clause-horizon g c = (
  horizon_same c.name_one.result _ _ (λ h e. (let same : Forgot h ≡ Merged = only_this _ Merged (Forgot h) _ _ c.name_one.ensures.named e in cc)) c.name_one.ensures.horizon.0,
  c.name_one.ensures.horizon.1,
)

-- ---- with one

pub returns-in-Some-clause-done : goal.returns-in-Some-clause-done
returns-in-Some-clause-done g c = λ wal batches lists parts merging may other.
    let same_job = merging_with g.D.Disk c.args.self.now.number (named_snapshot c.args.manifest.now) lists c.args.disk.now c.args.count c.args.horizon (Some c.in-Some.horizon) c.args.frozen c.args.local (stage.Measured c.args.file c.args.len) c.in-Some.is merging in
    let over = subst (λ (o : Option ℕ). MayForget o (batches_above (named_snapshot c.args.manifest.now).flushed batches)) c.in-Some.is may in
    kept_goes g.D.Disk c.args.manifest.now c.name_kept.new.manifest wal c.name_kept.new.self c.name_kept.new.disk batches lists c.args.frozen c.in-Some.horizon _ _ c.name_kept.result (c.name_kept.ensures.done wal batches lists parts same_job over)
    (c.name_kept.ensures.kept wal batches lists parts same_job) c.name_kept.ensures.named (c.name_kept.ensures.whole wal batches lists parts same_job over) c.name_kept.ensures.held other

pub returns-in-Some-clause-any_moment : goal.returns-in-Some-clause-any_moment
returns-in-Some-clause-any_moment g c = λ wal batches lists parts merging may.
    let self = c.args.self.now in
    let same_job = merging_with g.D.Disk c.args.self.now.number (named_snapshot c.args.manifest.now) lists c.args.disk.now c.args.count c.args.horizon (Some c.in-Some.horizon) c.args.frozen c.args.local (stage.Measured c.args.file c.args.len) c.in-Some.is merging in
    let over = subst (λ (o : Option ℕ). MayForget o (batches_above (named_snapshot c.args.manifest.now).flushed batches)) c.in-Some.is may in
    subst (λ (o : Option ℕ). LeavesOnly g.D.Disk c.args.disk.now c.name_kept.new.disk (λ moment image. ReadsFrom o self.number image (named_snapshot c.args.manifest.now).horizon (cells_over (named_snapshot c.args.manifest.now).flushed batches lists))) (sym c.in-Some.is)
    (c.name_kept.ensures.any_moment wal batches lists parts same_job over)

pub returns-in-Some-clause-only : goal.returns-in-Some-clause-only
returns-in-Some-clause-only g c = (
  λ e. (let same : Done ≡ Forgot _ = only_this _ _ Done _ _ c.name_kept.ensures.named e in cc),
  λ cells bytes e. (let same : Named cells bytes ≡ Forgot _ = only_this _ _ (Named cells bytes) _ _ c.name_kept.ensures.named e in cc),
)

pub returns-in-Some-clause-merged : goal.returns-in-Some-clause-merged
returns-in-Some-clause-merged g c = λ e. (let same : Merged ≡ Forgot _ = only_this _ _ Merged _ _ c.name_kept.ensures.named e in cc)

pub returns-in-Some-clause-forgot : goal.returns-in-Some-clause-forgot
returns-in-Some-clause-forgot g c = λ h e.
    let w = ok_told _ _ (Forgot h) _ _ c.name_kept.ensures.named e in
    let same : h ≡ c.in-Some.horizon = cc (w.0) in (
      w.1,
      c.in-Some.is ∙ ap (λ (k : ℕ). Some k) (sym same),
      subst (λ (k : ℕ). HasForgottenFiles (named_snapshot c.args.manifest.now) (named_snapshot c.name_kept.new.manifest) k) (sym same)
          (record { raised = ok_at _ (Forgot h) _ c.name_kept.ensures.raised e; local = c.args.local; len = c.args.len; file = c.args.file; is = w.2 }),
    )

pub returns-in-Some-clause-keeps : goal.returns-in-Some-clause-keeps
returns-in-Some-clause-keeps g c = λ h e. ok_at _ (Forgot h) _ c.name_kept.ensures.held e

pub returns-in-Some-clause-horizon : goal.returns-in-Some-clause-horizon
returns-in-Some-clause-horizon g c = kept_named (named_snapshot c.args.manifest.now) (named_snapshot c.name_kept.new.manifest) c.in-Some.horizon c.args.local c.args.len c.args.file _ c.name_kept.result c.name_kept.ensures.named c.name_kept.ensures.unnamed

pub returns-in-Some-clause-still : goal.returns-in-Some-clause-still
returns-in-Some-clause-still g c = λ merged none. kept_still (named_snapshot c.args.manifest.now) (named_snapshot c.name_kept.new.manifest) c.in-Some.horizon _ _ c.name_kept.result c.name_kept.ensures.named c.name_kept.ensures.unnamed none
