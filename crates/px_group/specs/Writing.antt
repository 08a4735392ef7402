-- A list of cells that a step hands to one region.
use Rattle.std.specs.Prelude.{◌≡◌, ◌⊎◌, ◌++◌, ℕ, List}
use Rattle.px_outside.specs.Disk.{Image}
use Rattle.px_outside.specs.OnDisk.{LeavesOnly, Passes, TouchesOnly}
use Rattle.px_outside.specs.declared.disk.Disk.{Ghosts}
use Rattle.px_cells.specs.CellData.{CellData}
use Rattle.px_cells.specs.Order.{ReadsSame}
use Rattle.px_wal.specs.Files.{HasFile}
use Rattle.px_region.specs.Region.{RegionData, RegionHolds, RegionStands, data_of, read_of, with_batch}
use Rattle.px_region.specs.declared.region.Region.{Region}

-- Whether or not the disk fails: a stop leaves the region without the cells or with them, and only its own files are touched. Its horizon
-- stays.
pub record WritesTo {D : Type 0} (d : Ghosts D) (old new : Region) (disk disk' : D) (cells : List CellData) : Type 0 where
  pub number : new.number ≡ old.number
  pub horizon : (data_of new).horizon ≡ (data_of old).horizon
  pub leaves : (s : RegionData) → RegionHolds d old disk s → LeavesOnly d disk disk' (λ moment image. RegionStands old.number image s ⊎ RegionStands old.number image (with_batch s cells))
  pub touches : (s : RegionData) → RegionHolds d old disk s → TouchesOnly d disk disk' (HasFile old.number)
  pub counts : Passes d disk disk' 4

-- Where it doesn't fail: the region has them, before all that it had.
pub record HasWritten {D : Type 0} (d : Ghosts D) (old new : Region) (disk disk' : D) (cells : List CellData) : Type 0 where
  pub holds : (s : RegionData) → RegionHolds d old disk s → RegionHolds d new disk' (with_batch s cells)
  pub reads : ReadsSame (read_of new) (cells ++ read_of old)
