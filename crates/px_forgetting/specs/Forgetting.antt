-- A file of what a horizon keeps of all files of a region.
use Rattle.std.specs.Prelude.{◌≡◌, ◌∷◌, [], ℕ, List}
use Rattle.px_outside.specs.declared.disk.Disk.{Ghosts}
use Rattle.px_cells.specs.CellData.{CellData}
use Rattle.px_file.specs.declared.region_file.RegionFile.{RegionFile}
use Rattle.px_merge.specs.Kept.{IsKeptList}
use Rattle.px_merge.specs.Merged.{joined}
use Rattle.px_merge.specs.Settle.{settle}
use Rattle.px_wal.specs.Batches.{AreOverHorizon, LogBatch, batches_above}
use Rattle.px_wal.specs.Snapshot.{FileData, SnapshotData}
use Rattle.px_files.specs.Files.{HasFileCells}

-- A file was made that isn't named yet: it has what the new horizon keeps of what is read of all files, and all that stands in the log above the
-- flushed number is above that horizon. It is to be named in place of all files, and the flushed number stays.
pub record IsForgotten {D : Type 0} (d : Ghosts D) (region : ℕ) (disk : D) (old new : SnapshotData) (batches : List LogBatch) (lists : List (List CellData)) (file : RegionFile) (list : List CellData) : Type 0 where
  pub entry : FileData
  pub alone : new.files ≡ entry ∷ []
  pub has : HasFileCells d region disk entry file list
  pub same : new.flushed ≡ old.flushed
  pub kept : IsKeptList (settle (joined lists)) new.horizon list
  pub over : AreOverHorizon new.horizon (batches_above old.flushed batches)
