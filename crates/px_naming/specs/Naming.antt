-- What a region's manifest, log and files stand for, before and after a file is named.
use Rattle.std.specs.Prelude.{◌≡◌, ◌≤◌, ◌+◌, ◌∷◌, ◌⊎◌, ℕ, nat_lt, if◌then◌else◌, List, take, drop}
use Rattle.px_outside.specs.Disk.{Image}
use Rattle.px_outside.specs.declared.disk.Disk.{Ghosts}
use Rattle.px_cells.specs.CellData.{CellData}
use Rattle.px_merge.specs.Merged.{joined}
use Rattle.px_merge.specs.Settle.{settle}
use Rattle.px_file.specs.declared.region_file.RegionFile.{RegionFile}
use Rattle.px_wal.specs.Batches.{LogBatch, batches_between, cells_over, later_first}
use Rattle.px_wal.specs.Manifest.{HasSnapshot, SnapshotStands, named_snapshot}
use Rattle.px_wal.specs.Snapshot.{FileData, SnapshotData}
use Rattle.px_wal.specs.Wal.{HasBatches, LogStands}
use Rattle.px_wal.specs.declared.manifest.Manifest.{Manifest}
use Rattle.px_wal.specs.declared.wal.Wal.{Wal}
use Rattle.px_files.specs.Files.{FilesStand, HasFileCells, HaveFiles}
use Rattle.std.specs.Prelude.{IsTrue}

-- The image's files of a region name this, and what is read of its log above the flushed number and of the files that are
-- named is this list.
pub record RegionReads (region : ℕ) (image : Image) (named : SnapshotData) (cells : List CellData) : Type 0 where
  pub batches : List LogBatch
  pub lists : List (List CellData)
  pub manifest : SnapshotStands region image named
  pub log : LogStands region named.flushed image batches
  pub files : FilesStand region image named.files lists
  pub is : cells ≡ cells_over named.flushed batches lists

-- by one of two snapshots it is read as this list
abbrev pub ReadsByEither : ℕ → Image → (old new : SnapshotData) → List CellData → Type 0
ReadsByEither region image old new cells = RegionReads region image old cells ⊎ RegionReads region image new cells

-- The disk tells that the region's manifest, its log and its open files have this, all of it on the disk, and that it goes
-- on from there.
pub record HasParts {D : Type 0} (d : Ghosts D) (region : ℕ) (manifest : Manifest) (wal : Wal) (disk : D) (batches : List LogBatch) (files : List RegionFile) (lists : List (List CellData)) : Type 0 where
  pub tells : IsTrue d.tells
  pub named : HasSnapshot d region manifest disk
  pub log : HasBatches d region (named_snapshot manifest).flushed wal disk batches
  pub have : HaveFiles d region disk (named_snapshot manifest).files files lists

-- A flush up to a number made a file that isn't named yet: it has what is read of the batches above the flushed number, up
-- to that one. It is to be named before the others, and the horizon stays.
pub record IsFlushed {D : Type 0} (d : Ghosts D) (region : ℕ) (disk : D) (old new : SnapshotData) (batches : List LogBatch) (file : RegionFile) (list : List CellData) : Type 0 where
  pub entry : FileData
  pub before : new.files ≡ entry ∷ old.files
  pub has : HasFileCells d region disk entry file list
  pub later : old.flushed ≤ new.flushed
  pub some : LogBatch
  pub more : List LogBatch
  pub batches_are : batches ≡ some ∷ more
  pub cells : list ≡ settle (later_first (batches_between old.flushed new.flushed batches))

-- the number of compactions, modulo 8, after one more
abbrev pub one_compaction_more : ℕ → ℕ
one_compaction_more n = if nat_lt n 7 then n + 1 else 0

-- A compaction made a file that isn't named yet: it has what is read of so many of the newest files. It is to be named in place
-- of these, and the flushed number and the horizon stay.
pub record IsCompactedFile {D : Type 0} (d : Ghosts D) (region : ℕ) (disk : D) (old new : SnapshotData) (lists : List (List CellData)) (count : ℕ) (file : RegionFile) (list : List CellData) : Type 0 where
  pub entry : FileData
  pub in_place : new.files ≡ entry ∷ drop count old.files
  pub has : HasFileCells d region disk entry file list
  pub same : new.flushed ≡ old.flushed
  pub cells : list ≡ settle (joined (take count lists))
