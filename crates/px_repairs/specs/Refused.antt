-- Why no room is taken for a repair.
use Rattle.std.specs.Prelude.{◌≡◌, ◌+◌, ◌⊎◌, ℕ, List, length}
use Rattle.px_cells.specs.CellData.{CellData}
use Rattle.px_group.specs.Room.{byte_count}
use Rattle.px_group.specs.declared.group.Group.{Group}
use Rattle.px_group.specs.declared.group.IndexRegion.{IndexRegion}
use Rattle.px_region.specs.Promise.{HasLogRoom, IsLogReady, PassesLimit}
use Rattle.px_region.specs.declared.region.Region.{Region}
use Rattle.px_reading.specs.Looked.{HasLooked}
use Rattle.px_repairs.specs.Repairs.{IsRepair}
use Rattle.px_repairs.specs.declared.repairing.RepairFault.{RepairFault}
use Rattle.px_repairs.specs.declared.repairing.RepairFault.TheVariants.{Busy, NotReady, ReadFault, Damaged, WriteFault, Memory}

-- The region refuses room for so many cells and bytes: its log isn't open or has no room for them, or it would have too many, which are told
-- without these.
abbrev pub RefusesRoom : Region → (cells bytes : ℕ) → RepairFault → Type 0
RefusesRoom region cells bytes NotReady = (IsLogReady region → ⊥) ⊎ (HasLogRoom region cells bytes → ⊥)
RefusesRoom region cells bytes (Busy had had_bytes) = IsLogReady region × PassesLimit region cells bytes × (had ≡ region.cells + region.promised) × (had_bytes ≡ region.bytes + region.promised_bytes)
RefusesRoom region cells bytes WriteFault = Unit {0}
RefusesRoom region cells bytes Memory = Unit {0}
RefusesRoom region cells bytes ReadFault = ⊥
RefusesRoom region cells bytes (Damaged file damaged) = ⊥

-- for these cells
abbrev pub RefusesCells : Region → List CellData → RepairFault → Type 0
RefusesCells region cells fault = RefusesRoom region (length cells) (byte_count cells) fault

-- the region of the index at the place refuses the cells of the repair that is due once the table was looked at
pub record RefusesDue (g : Group) (place : ℕ) (x : IndexRegion) (k : List ℕ) (s : ℕ) (fault : RepairFault) : Type 0 where
  pub looked : Group
  pub has : HasLooked g looked
  pub kept : List CellData
  pub due : IsRepair looked place k s kept
  pub refused : RefusesCells x.region kept fault

-- A region that is busy or isn't ready is told only so.
abbrev pub RefusesRepair : Group → ℕ → IndexRegion → List ℕ → ℕ → RepairFault → Type 0
RefusesRepair g place x k s NotReady = RefusesDue g place x k s NotReady
RefusesRepair g place x k s (Busy cells bytes) = RefusesDue g place x k s (Busy cells bytes)
RefusesRepair g place x k s WriteFault = Unit {0}
RefusesRepair g place x k s Memory = Unit {0}
RefusesRepair g place x k s ReadFault = Unit {0}
RefusesRepair g place x k s (Damaged file damaged) = Unit {0}
