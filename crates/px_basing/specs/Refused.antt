-- Why no room is taken for base versions.
use Rattle.std.specs.Prelude.{◌≡◌, ℕ, List, length}
use Rattle.px_cells.specs.CellData.{CellData}
use Rattle.px_group.specs.Room.{byte_count}
use Rattle.px_region.specs.declared.region.Region.{Region}
use Rattle.px_repairs.specs.Refused.{RefusesRoom}
use Rattle.px_repairs.specs.declared.repairing.RepairFault.TheVariants as repair
use Rattle.px_basing.specs.declared.fault.BaseFault.{BaseFault}
use Rattle.px_basing.specs.declared.fault.BaseFault.TheVariants.{Busy, NotReady, WriteFault, Memory}

-- the region, which has this number, refuses room for so many cells and bytes, as it does for a repair
abbrev pub IsRoomRefused : Region → (cells bytes : ℕ) → BaseFault → Type 0
IsRoomRefused region cells bytes (NotReady number) = (number ≡ region.number) × RefusesRoom region cells bytes repair.NotReady
IsRoomRefused region cells bytes (Busy number had had_bytes) = (number ≡ region.number) × RefusesRoom region cells bytes (repair.Busy had had_bytes)
IsRoomRefused region cells bytes WriteFault = Unit {0}
IsRoomRefused region cells bytes Memory = Unit {0}

-- for these cells
abbrev pub IsRefusedFor : Region → List CellData → BaseFault → Type 0
IsRefusedFor region cells fault = IsRoomRefused region (length cells) (byte_count cells) fault
