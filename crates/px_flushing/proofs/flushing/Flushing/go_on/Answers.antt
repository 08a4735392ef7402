use Rattle.std.proofs.Common.{◌≡◌, ◌∷◌, refl}
use Rattle.px_outside.proofs.Moments.{touches_more}
use Rattle.px_wal.specs.Files.{HasFile, file_of}
use Rattle.px_wal.specs.Manifest.{manifest_files, named_snapshot}
use Rattle.px_flushing.specs.declared.flushing.FlushStep.TheVariants.{Done, Forgot, Merged, More, Named}
use Rattle.px_flushing.specs.declared.stage.Stage.TheVariants as stage
use Rattle.px_flushing.proofs.Going.{begun_at, free_own, manifest_own, more_only, named_goes, ok_then, ok_told, raised_as, same_by, wrote_leaves}
use Rattle.px_flushing.proofs.flushing.Flushing.go_on.Goals as goal

-- ---- a file is named

pub returns-in-Measured-clause-done : goal.returns-in-Measured-clause-done
returns-in-Measured-clause-done g c = λ wal batches lists parts is other.
    let self = c.args.self.now in
    let f = c.args.flush in
    let begun = begun_at g.D.Disk self.number (named_snapshot c.args.manifest.now) batches c.args.disk.now f.frozen f.local f.stage (stage.Measured c.in-Measured.file c.in-Measured.len) is c.in-Measured.is in
    named_goes g.D.Disk c.args.manifest.now c.name.new.manifest wal c.name.new.self c.name.new.disk batches lists (f.frozen.cells ∷ lists) c.name.result (c.name.ensures.done wal batches lists parts begun)
    (c.name.ensures.kept wal batches lists parts begun)
    (ok_then _ _ _ _ _ c.name.ensures.named
    (λ is. same_by g.D.Disk self.number c.args.manifest.now c.args.disk.now batches f.frozen f.local c.in-Measured.len c.in-Measured.file begun (named_snapshot c.name.new.manifest) is parts.log.right.rising lists))
    other

pub returns-in-Measured-clause-any_moment : goal.returns-in-Measured-clause-any_moment
returns-in-Measured-clause-any_moment g c = λ wal batches lists parts is.
    let f = c.args.flush in
    let begun = begun_at g.D.Disk c.args.self.now.number (named_snapshot c.args.manifest.now) batches c.args.disk.now f.frozen f.local f.stage (stage.Measured c.in-Measured.file c.in-Measured.len) is c.in-Measured.is in
    c.name.ensures.any_moment wal batches lists parts begun

pub returns-in-Measured-clause-only : goal.returns-in-Measured-clause-only
returns-in-Measured-clause-only g c = (
  λ e. (let w = ok_told _ _ Done _ _ c.name.ensures.named e in let same : Done ≡ Named _ _ = w.0 in cc),
  λ e. (let w = ok_told _ _ Merged _ _ c.name.ensures.named e in let same : Merged ≡ Named _ _ = w.0 in cc),
  λ h e. (let w = ok_told _ _ (Forgot h) _ _ c.name.ensures.named e in let same : Forgot h ≡ Named _ _ = w.0 in cc),
)

pub returns-in-Measured-clause-named : goal.returns-in-Measured-clause-named
returns-in-Measured-clause-named g c = λ batches cells bytes is e.
    let self = c.args.self.now in
    let f = c.args.flush in
    let begun = begun_at g.D.Disk self.number (named_snapshot c.args.manifest.now) batches c.args.disk.now f.frozen f.local f.stage (stage.Measured c.in-Measured.file c.in-Measured.len) is c.in-Measured.is in
    let w = ok_told _ _ (Named cells bytes) _ _ c.name.ensures.named e in
    let a : cells ≡ f.frozen.count = cc (w.0) in
    let b : bytes ≡ f.frozen.bytes = cc (w.0) in (
      w.1,
      raised_as g.D.Disk self.number c.args.manifest.now c.args.disk.now batches f.frozen f.local c.in-Measured.len c.in-Measured.file begun (named_snapshot c.name.new.manifest) w.2 cells bytes a b,
    )

pub returns-in-Measured-clause-touches : goal.returns-in-Measured-clause-touches
returns-in-Measured-clause-touches g c = λ wal batches lists parts is.
    let number = c.args.self.now.number in
    touches_more g.D.Disk.calls g.D.Disk.left g.D.Disk.seen c.args.disk.now c.name.new.disk (manifest_files number) (HasFile number) (λ file own. manifest_own number file own) (c.name.ensures.touches parts.named)

-- ---- a step of its file is made

pub returns-in_default-clause-done : goal.returns-in_default-clause-done
returns-in_default-clause-done g c = λ wal batches lists parts begun other. (lists, c.write.ensures.done c.args.manifest.now wal batches lists parts begun, refl)

pub returns-in_default-clause-any_moment : goal.returns-in_default-clause-any_moment
returns-in_default-clause-any_moment g c = λ wal batches lists parts begun.
    let self = c.args.self.now in
    wrote_leaves g.D.Disk self.number c.args.manifest.now wal c.args.disk.now c.write.new.disk batches self.files.items lists parts c.args.flush.local begun.free (c.write.ensures.touches c.args.manifest.now batches begun)

pub returns-in_default-clause-only : goal.returns-in_default-clause-only
returns-in_default-clause-only g c = (
  λ e. (let same : Done ≡ More = more_only _ Done c.write.ensures.more e in cc),
  λ e. (let same : Merged ≡ More = more_only _ Merged c.write.ensures.more e in cc),
  λ h e. (let same : Forgot h ≡ More = more_only _ (Forgot h) c.write.ensures.more e in cc),
)

pub returns-in_default-clause-named : goal.returns-in_default-clause-named
returns-in_default-clause-named g c = λ batches cells bytes is e. (let same : Named cells bytes ≡ More = more_only _ (Named cells bytes) c.write.ensures.more e in cc)

pub returns-in_default-clause-touches : goal.returns-in_default-clause-touches
returns-in_default-clause-touches g c = λ wal batches lists parts begun.
    let self = c.args.self.now in
    touches_more g.D.Disk.calls g.D.Disk.left g.D.Disk.seen c.args.disk.now c.write.new.disk (λ touched. touched ≡ file_of self.number c.args.flush.local) (HasFile self.number)
    (λ file is. free_own self.number c.args.flush.local file (named_snapshot c.args.manifest.now).files begun.free is) (c.write.ensures.touches c.args.manifest.now batches begun)
