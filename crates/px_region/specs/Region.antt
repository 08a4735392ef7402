-- A region, and what its files stand for.
--
-- The layers above cite what an image stands for (`RegionStands`), what a region has and goes on from (`RegionHolds`), and the laws
-- between the two in proofs/Holding. `cells` is the sorted list of what is read, not a history: a batch is written before
-- it, and what moves cells from the log to files leaves it as it is.
use Rattle.std.specs.Prelude.{◌≡◌, ◌++◌, ℕ, List}
use Rattle.px_outside.specs.Disk.{Image}
use Rattle.px_outside.specs.declared.disk.Disk.{Ghosts}
use Rattle.px_cells.specs.CellData.{CellData}
use Rattle.px_merge.specs.Settle.{settle}
use Rattle.px_wal.specs.Batches.{LogBatch, batches_above, cells_over}
use Rattle.px_wal.specs.Form.{batch_byte_count, cell_count}
use Rattle.px_wal.specs.Manifest.{named_snapshot}
use Rattle.px_flushing.specs.Flushing.{HasFlushing, IsRegionRead}
use Rattle.px_region.specs.Stamps.{HaveLeast}
use Rattle.px_region.specs.declared.region.Region.{Region}

-- What a region stands for: the sorted list of what is read of it, and the horizon.
pub record RegionData : Type 0 where
  pub cells : List CellData
  pub horizon : ℕ

-- The sorted list of what is read of a region.
abbrev pub read_of : Region → List CellData
read_of region = region.store.cells

-- The pieces that this list is lent in.
abbrev pub pieces_of : Region → List (List CellData)
pieces_of region = region.store.pieces

-- How many cells stand in its log above the flushed number, each as often as it was written: the disk tells so (`counted` of `RegionHolds`).
abbrev pub logged_of : Region → ℕ
logged_of region = region.cells

-- What is read of a region, and the horizon that its manifest names.
abbrev pub data_of : Region → RegionData
data_of region = record { cells = read_of region; horizon = region.horizon }

-- a batch is written before all else
abbrev pub with_batch : RegionData → List CellData → RegionData
with_batch s cells = record { cells = settle (cells ++ s.cells); horizon = s.horizon }

-- What the image's files of a region stand for: what is read of its log above the number up to which its manifest says
-- that it was flushed, and of the files that the manifest names.
abbrev pub RegionStands : (number : ℕ) → Image → RegionData → Type 0
RegionStands number image s = IsRegionRead number image s.horizon s.cells

-- The disk tells that this is what the region has, all of it on the disk, and the region goes on from there, with the flush that may be under way.
pub record RegionHolds {D : Type 0} (d : Ghosts D) (region : Region) (disk : D) (s : RegionData) : Type 0 where
  pub batches : List LogBatch
  pub lists : List (List CellData)
  pub has : HasFlushing d region.manifest region.wal region.flushing disk batches lists
  pub number : region.flushing.number ≡ region.number
  pub store : region.store.cells ≡ cells_over (named_snapshot region.manifest).flushed batches lists
  pub named : region.horizon ≡ (named_snapshot region.manifest).horizon
  pub cells : s.cells ≡ region.store.cells
  pub horizon : s.horizon ≡ region.horizon
  pub counted : region.cells ≡ cell_count (batches_above (named_snapshot region.manifest).flushed batches)
  pub weighed : region.bytes ≡ batch_byte_count (batches_above (named_snapshot region.manifest).flushed batches)
  pub least : HaveLeast region.stamps (batches_above (named_snapshot region.manifest).flushed batches)
