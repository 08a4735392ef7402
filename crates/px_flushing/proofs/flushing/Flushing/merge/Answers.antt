use Rattle.std.proofs.Common.{◌≡◌, ℕ, Ok, refl}
use Rattle.std.specs.Prelude.{◌≢◌}
use Rattle.px_outside.proofs.Moments.{touches_more}
use Rattle.px_wal.specs.Batches.{cells_over}
use Rattle.px_wal.specs.Files.{HasFile, file_of}
use Rattle.px_wal.specs.Manifest.{manifest_files, named_snapshot}
use Rattle.px_flushing.specs.declared.flushing.FlushStep.TheVariants.{Done, Forgot, Merged, More, Named}
use Rattle.px_flushing.specs.declared.stage.Stage.TheVariants as stage
use Rattle.px_flushing.proofs.Compacting.{forgot_none, goes_same, horizon_same, measured_then, merging_at, reads_from}
use Rattle.px_flushing.proofs.Going.{free_own, manifest_own, more_only, wrote_leaves}
use Rattle.px_flushing.proofs.flushing.Flushing.merge.Goals as goal

-- ---- its file is named

pub returns-in-Measured-clause-done : goal.returns-in-Measured-clause-done
returns-in-Measured-clause-done g c = λ wal batches lists parts is may other.
    let m = c.args.merge in
    c.name_measured.ensures.done wal batches lists parts (merging_at g.D.Disk c.args.self.now.number (named_snapshot c.args.manifest.now) lists c.args.disk.now m.count m.horizon m.frozen m.local m.stage (stage.Measured c.in-Measured.file c.in-Measured.len) is c.in-Measured.is) may other

pub returns-in-Measured-clause-any_moment : goal.returns-in-Measured-clause-any_moment
returns-in-Measured-clause-any_moment g c = λ wal batches lists parts is may.
    let m = c.args.merge in
    c.name_measured.ensures.any_moment wal batches lists parts (merging_at g.D.Disk c.args.self.now.number (named_snapshot c.args.manifest.now) lists c.args.disk.now m.count m.horizon m.frozen m.local m.stage (stage.Measured c.in-Measured.file c.in-Measured.len) is c.in-Measured.is) may

pub returns-in-Measured-clause-keeps : goal.returns-in-Measured-clause-keeps
returns-in-Measured-clause-keeps g c = λ h e.
    let m = c.args.merge in
    (measured_then m.horizon h m.stage c.in-Measured.file c.in-Measured.len m.frozen (c.name_measured.ensures.forgot h e).1 c.in-Measured.is, c.name_measured.ensures.keeps h e)

pub returns-in-Measured-clause-touches : goal.returns-in-Measured-clause-touches
returns-in-Measured-clause-touches g c = λ wal batches lists parts is.
    let number = c.args.self.now.number in
    touches_more g.D.Disk.calls g.D.Disk.left g.D.Disk.seen c.args.disk.now c.name_measured.new.disk (manifest_files number) (HasFile number) (λ file own. manifest_own number file own) (c.name_measured.ensures.touches parts.named)

-- ---- a step of its file is made

pub returns-in_default-clause-done : goal.returns-in_default-clause-done
returns-in_default-clause-done g c = λ wal batches lists parts merging may other.
    let none : (h : ℕ) → c.write_merged.result ≢ Ok (Forgot h) = λ h e. (let same : Forgot h ≡ More = more_only _ (Forgot h) c.write_merged.ensures.more e in cc) in
    (lists, c.write_merged.ensures.done c.args.manifest.now wal batches lists parts merging, goes_same c.write_merged.result _ _ none refl, forgot_none c.write_merged.result _ lists none)

pub returns-in_default-clause-any_moment : goal.returns-in_default-clause-any_moment
returns-in_default-clause-any_moment g c = λ wal batches lists parts merging may.
    let self = c.args.self.now in
    reads_from c.args.merge.horizon g.D.Disk self.number (named_snapshot c.args.manifest.now).horizon c.args.disk.now c.write_merged.new.disk (cells_over (named_snapshot c.args.manifest.now).flushed batches lists)
    (wrote_leaves g.D.Disk self.number c.args.manifest.now wal c.args.disk.now c.write_merged.new.disk batches self.files.items lists parts c.args.merge.local merging.free (c.write_merged.ensures.touches c.args.manifest.now lists merging))

pub returns-in_default-clause-only : goal.returns-in_default-clause-only
returns-in_default-clause-only g c = (
  λ e. (let same : Done ≡ More = more_only _ Done c.write_merged.ensures.more e in cc),
  λ cells bytes e. (let same : Named cells bytes ≡ More = more_only _ (Named cells bytes) c.write_merged.ensures.more e in cc),
)

pub returns-in_default-clause-merged : goal.returns-in_default-clause-merged
returns-in_default-clause-merged g c = λ e. (let same : Merged ≡ More = more_only _ Merged c.write_merged.ensures.more e in cc)

pub returns-in_default-clause-forgot : goal.returns-in_default-clause-forgot
returns-in_default-clause-forgot g c = λ h e. (let same : Forgot h ≡ More = more_only _ (Forgot h) c.write_merged.ensures.more e in cc)

pub returns-in_default-clause-keeps : goal.returns-in_default-clause-keeps
returns-in_default-clause-keeps g c = λ h e. (let same : Forgot h ≡ More = more_only _ (Forgot h) c.write_merged.ensures.more e in cc)

pub returns-in_default-clause-horizon : goal.returns-in_default-clause-horizon
returns-in_default-clause-horizon g c = (horizon_same c.write_merged.result _ _ (λ h e. (let same : Forgot h ≡ More = more_only _ (Forgot h) c.write_merged.ensures.more e in cc)) refl, refl)

pub returns-in_default-clause-touches : goal.returns-in_default-clause-touches
returns-in_default-clause-touches g c = λ wal batches lists parts merging.
    let self = c.args.self.now in
    touches_more g.D.Disk.calls g.D.Disk.left g.D.Disk.seen c.args.disk.now c.write_merged.new.disk (λ touched. touched ≡ file_of self.number c.args.merge.local) (HasFile self.number)
    (λ file is. free_own self.number c.args.merge.local file (named_snapshot c.args.manifest.now).files merging.free is) (c.write_merged.ensures.touches c.args.manifest.now lists merging)
