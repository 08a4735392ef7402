-- How many calls of the disk it takes to open a region.
use Rattle.std.specs.Prelude.{◌≡◌, ◌+◌, ◌*◌, ℕ, List, [], ◌∷◌, length}
use Rattle.px_outside.specs.Disk.{Image}
use Rattle.px_cells.specs.CellData.{CellData}
use Rattle.px_wal.specs.Manifest.{SnapshotStands}
use Rattle.px_wal.specs.Snapshot.{SnapshotData}
use Rattle.px_files.specs.Files.{FilesStand}

-- for files of these cells: four for each, and two for each of its cells, since no block is without one
abbrev pub files_calls : List (List CellData) → ℕ
files_calls [] = 0
files_calls (l ∷ lists) = 4 + 2 * length l + files_calls lists

-- for the region of an image: six for its manifest, six for its log, and those for the files that are named
pub record IsOpenedBy (number : ℕ) (image : Image) (calls : ℕ) : Type 0 where
  pub named : SnapshotData
  pub lists : List (List CellData)
  pub manifest : SnapshotStands number image named
  pub files : FilesStand number image named.files lists
  pub is : calls ≡ 12 + files_calls lists
