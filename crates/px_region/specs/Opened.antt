-- What opening a region answers.
use Rattle.std.specs.Prelude.{◌≤◌, ◌+◌, ℕ, List}
use Rattle.px_outside.specs.Disk.{Image}
use Rattle.px_outside.specs.declared.disk.Disk.{Ghosts}
use Rattle.px_cells.specs.CellData.{CellData}
use Rattle.px_gatelog.specs.Damage.{IsFirstWrong}
use Rattle.px_wal.specs.Batches.{LogBatch, cells_over}
use Rattle.px_wal.specs.Files.{file_of}
use Rattle.px_wal.specs.Form.{wal_form}
use Rattle.px_wal.specs.Manifest.{SnapshotStands}
use Rattle.px_wal.specs.Snapshot.{SnapshotData, manifest_form}
use Rattle.px_wal.specs.Wal.{LogStands}
use Rattle.px_files.specs.Calls.{opening_calls}
use Rattle.px_files.specs.Files.{FilesStand, IsFirstBad}
use Rattle.px_loading.specs.Calls.{loading_calls}
use Rattle.px_region.specs.Calls.{files_calls}
use Rattle.px_region.specs.Region.{RegionHolds}
use Rattle.px_region.specs.declared.region.Region.{Region}

-- The place is the first of the region's files that isn't of the format: in the manifest; or, where that is right, in the
-- log; or, where that is too, in the first of the files that the manifest names.
pub data IsFirstDamagedInRegion (number : ℕ) (image : Image) (file place : ℕ) : Type 0 where
  in_manifest : IsFirstWrong manifest_form (file_of number 2) (file_of number 3) (image (file_of number 2)) (image (file_of number 3)) file place → IsFirstDamagedInRegion number image file place
  in_log : (named : SnapshotData) → SnapshotStands number image named → IsFirstWrong (wal_form named.flushed) (file_of number 0) (file_of number 1) (image (file_of number 0)) (image (file_of number 1)) file place
      → IsFirstDamagedInRegion number image file place
  in_file : (named : SnapshotData) (batches : List LogBatch) → SnapshotStands number image named → LogStands number named.flushed image batches → IsFirstBad number image named.files file place → IsFirstDamagedInRegion number image file place

-- Where the image's manifest names this and its log has these batches: its files stand too, and the region has what is read of all.
pub record IsAssembled {D : Type 0} (d : Ghosts D) (number : ℕ) (image : Image) (named : SnapshotData) (batches : List LogBatch) (region : Region) (disk : D) : Type 0 where
  pub lists : List (List CellData)
  pub files : FilesStand number image named.files lists
  pub holds : RegionHolds d region disk (record { cells = cells_over named.flushed batches lists; horizon = named.horizon })
  pub few : opening_calls region.flushing.files.items + loading_calls region.flushing.files.items ≤ files_calls lists
