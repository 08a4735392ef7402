-- Calls on the log and on the manifest of a region with a flush.
use Rattle.std.proofs.Common.{◌≡◌, ℕ, ◌≤◌, List, Option, None, refl, sym, subst}
use Rattle.px_outside.specs.Disk.{Image, IsLeftBy}
use Rattle.px_outside.specs.OnDisk.{TouchesOnly}
use Rattle.px_outside.specs.declared.disk.Disk.{Ghosts}
use Rattle.px_outside.proofs.Standing.{stands_left}
use Rattle.px_cells.specs.CellData.{CellData}
use Rattle.px_wal.specs.Batches.{LogBatch, cells_over}
use Rattle.px_wal.specs.Manifest.{HasSnapshot, SnapshotStands, manifest_files, named_snapshot}
use Rattle.px_wal.specs.Snapshot.{SnapshotData}
use Rattle.px_wal.specs.Wal.{HasBatches, LogStands, log_files}
use Rattle.px_wal.specs.declared.manifest.Manifest.{Manifest}
use Rattle.px_wal.specs.declared.wal.Wal.{Wal}
use Rattle.px_wal.proofs.Appended.{log_kept, log_stands}
use Rattle.px_wal.proofs.Named.{manifest_kept, manifest_stands}
use Rattle.px_files.specs.Files.{FilesStand, HaveFiles, IsNamedFile}
use Rattle.px_files.proofs.Kept.{have_apart, have_stand}
use Rattle.px_flushing.specs.Flushing.{HasFlushing, IsJobUnderWay, IsRegionRead}
use Rattle.px_flushing.specs.declared.flushing.Flushing.{Flushing}
use Rattle.px_flushing.proofs.Going.{log_apart, manifest_free, manifest_log, named_log, named_manifest, under_kept}

module _ {D : Type 0} (d : Ghosts D) (manifest : Manifest) (wal : Wal) (flushing : Flushing) (disk : D) (batches : List LogBatch) (lists : List (List CellData)) (has : HasFlushing d manifest wal flushing disk batches lists) where
  abbrev number : ℕ
  number = flushing.number

  abbrev named : SnapshotData
  named = named_snapshot manifest

  -- ---- calls on the log

  module _ (disk' : D) (touches : TouchesOnly d disk disk' (log_files number)) where
    snapshot_at : (moment : ℕ) (image : Image) → d.calls disk ≤ moment → IsLeftBy d.left disk' moment image → SnapshotStands number image named
    snapshot_at moment image since left =
        stands_left d disk disk' (manifest_files number) (λ i. SnapshotStands number i named) (manifest_stands d number manifest disk has.parts.named) (log_files number) touches (λ file own touched. manifest_log number file own touched) moment image since left

    files_at : (moment : ℕ) (image : Image) → d.calls disk ≤ moment → IsLeftBy d.left disk' moment image → FilesStand number image named.files lists
    files_at moment image since left =
        stands_left d disk disk' (IsNamedFile number named.files) (λ i. FilesStand number i named.files lists) (have_stand d number disk named.files flushing.files.items lists has.parts.tells has.parts.have) (log_files number) touches
        (λ file own touched. named_log number file named.files has.parts.named.right.files own touched) moment image since left

    -- an image with these batches is read as these cells
    pub log_read : (moment : ℕ) (image : Image) (rest : List LogBatch) (cells : List CellData) → d.calls disk ≤ moment → IsLeftBy d.left disk' moment image → LogStands number named.flushed image rest → cells ≡ cells_over named.flushed rest lists
        → IsRegionRead number image named.horizon cells
    log_read moment image rest cells since left log is = record {
      named = named;
      reads = record { batches = rest; lists = lists; manifest = snapshot_at moment image since left; log = log; files = files_at moment image since left; is = is };
      horizon_is = refl;
    }

    -- the log has these batches then, of which those of the flush under way are some
    pub log_goes : (new : Wal) (rest : List LogBatch) → IsJobUnderWay d number named rest flushing.files.items lists disk flushing.flush → HasBatches d number named.flushed new disk' rest → HasFlushing d manifest new flushing disk' rest lists
    log_goes new rest under log = record {
      parts = record {
        tells = has.parts.tells;
        named = manifest_kept d number manifest disk has.parts.named disk' (log_files number) touches (λ file own touched. manifest_log number file own touched);
        log = log;
        have = have_apart d number disk disk' named.files flushing.files.items lists (log_files number) touches (λ file own touched. named_log number file named.files has.parts.named.right.files own touched) has.parts.have;
      };
      flush =
          under_kept d number named rest disk disk' flushing.files.items lists flushing.flush (log_files number) touches (λ file own touched. named_log number file named.files has.parts.named.right.files own touched) (λ local free. log_apart number local named.files free)
          has.parts.have under;
    }

    -- the same batches
    pub log_rolled : (new : Wal) → HasBatches d number named.flushed new disk' batches → HasFlushing d manifest new flushing disk' batches lists
    log_rolled new log = log_goes new batches has.flush log

    -- without flushed ones, where no flush is under way
    pub log_switched : (new : Wal) (rest : List LogBatch) → flushing.flush ≡ None → HasBatches d number named.flushed new disk' rest → HasFlushing d manifest new flushing disk' rest lists
    log_switched new rest idle log = log_goes new rest (subst (λ (f : Option _). IsJobUnderWay d number named rest flushing.files.items lists disk f) (sym idle) tt) log

  -- ---- calls on the manifest

  module _ (disk' : D) (touches : TouchesOnly d disk disk' (manifest_files number)) where
    -- an image that names the same is read as the same
    pub manifest_read : (moment : ℕ) (image : Image) → d.calls disk ≤ moment → IsLeftBy d.left disk' moment image → SnapshotStands number image named → IsRegionRead number image named.horizon (cells_over named.flushed batches lists)
    manifest_read moment image since left stands = record {
      named = named;
      reads = record {
        batches = batches;
        lists = lists;
        manifest = stands;
        log =
            stands_left d disk disk' (log_files number) (λ i. LogStands number named.flushed i batches) (log_stands d number named.flushed wal disk batches has.parts.log) (manifest_files number) touches
            (λ file own touched. manifest_log number file touched own) moment image since left;
        files =
            stands_left d disk disk' (IsNamedFile number named.files) (λ i. FilesStand number i named.files lists) (have_stand d number disk named.files flushing.files.items lists has.parts.tells has.parts.have) (manifest_files number) touches
            (λ file own touched. named_manifest number file named.files has.parts.named.right.files own touched) moment image since left;
        is = refl;
      };
      horizon_is = refl;
    }

    pub manifest_rolled : (new : Manifest) → HasSnapshot d number new disk' → named_snapshot new ≡ named → HasFlushing d new wal flushing disk' batches lists
    manifest_rolled new snapshot same = record {
      parts = record {
        tells = has.parts.tells;
        named = snapshot;
        log =
            subst (λ (n : SnapshotData). HasBatches d number n.flushed wal disk' batches) (sym same) (log_kept d number named.flushed wal disk batches has.parts.log disk' (manifest_files number) touches (λ file own touched. manifest_log number file touched own));
        have =
            subst (λ (n : SnapshotData). HaveFiles d number disk' n.files flushing.files.items lists) (sym same)
            (have_apart d number disk disk' named.files flushing.files.items lists (manifest_files number) touches (λ file own touched. named_manifest number file named.files has.parts.named.right.files own touched) has.parts.have);
      };
      flush =
          subst (λ (n : SnapshotData). IsJobUnderWay d number n batches flushing.files.items lists disk' flushing.flush) (sym same)
          (under_kept d number named batches disk disk' flushing.files.items lists flushing.flush (manifest_files number) touches (λ file own touched. named_manifest number file named.files has.parts.named.right.files own touched)
          (λ local free. manifest_free number local named.files free) has.parts.have has.flush);
    }
