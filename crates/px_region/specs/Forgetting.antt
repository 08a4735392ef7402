-- What a region has once what a horizon hides is forgotten.
use Rattle.std.specs.Prelude.{◌≡◌, ◌≤◌, ◌⊎◌, ℕ, true, false, List, Option, Some, None}
use Rattle.px_outside.specs.Disk.{Image}
use Rattle.px_cells.specs.CellData.{CellData}
use Rattle.px_memstore.specs.Left.{left}
use Rattle.px_merge.specs.Kept.{IsKeptList}
use Rattle.px_frozen.specs.FrozenData.{FrozenData}
use Rattle.px_flushing.specs.Flushing.{forgetting_horizon}
use Rattle.px_region.specs.Region.{RegionData, RegionStands}
use Rattle.px_region.specs.Stamps.{Allows}
use Rattle.px_region.specs.declared.stamps.LeastStamps.{LeastStamps}
use Rattle.px_region.specs.declared.region.Region.{Region}

-- no compaction that forgets is wanted
abbrev pub HasForgotten : Region → Type 0
HasForgotten region = region.wanted ≡ false

-- one that is wanted stays wanted
abbrev pub StaysWanted : (old new : Region) → Type 0
StaysWanted old new = old.wanted ≡ true → new.wanted ≡ true

-- a compaction is under way that forgets at this horizon
abbrev pub IsForgetting : Region → ℕ → Type 0
IsForgetting region horizon = forgetting_horizon region.flushing.flush ≡ Some horizon

-- a region has what a horizon keeps of what it had, and its manifest names that horizon
pub record Forgets (horizon : ℕ) (old new : RegionData) : Type 0 where
  pub kept : IsKeptList old.cells horizon new.cells
  pub horizon_is : new.horizon ≡ horizon

-- the image's files of a region stand for what a horizon keeps of this
pub record StandsKept (number : ℕ) (image : Image) (horizon : ℕ) (s : RegionData) : Type 0 where
  pub kept : RegionData
  pub forgets : Forgets horizon s kept
  pub stands : RegionStands number image kept

-- they stand for this; or, while a compaction forgets, for what its horizon keeps
abbrev pub StandsFrom : Option ℕ → (number : ℕ) → Image → RegionData → Type 0
StandsFrom None number image s = RegionStands number image s
StandsFrom (Some h) number image s = RegionStands number image s ⊎ StandsKept number image h s

-- the compaction that was under way forgot, at a horizon that isn't below the one before
abbrev pub ForgetsBy : Option ℕ → (old new : RegionData) → Type 0
ForgetsBy None old new = ⊥
ForgetsBy (Some h) old new = Forgets h old new × (old.horizon ≤ h)

-- the cells that a compaction kept, where its file is to be named next, leave of these what the horizon keeps
abbrev pub IsKeptRight : ℕ → Option FrozenData → (cells : List CellData) → Type 0
IsKeptRight h None cells = Unit {0}
IsKeptRight h (Some kept) cells = IsKeptList cells h (left kept.cells h cells)

-- so it is of the compaction that is under way, if it forgets
abbrev pub MayName : Option ℕ → Option FrozenData → (cells : List CellData) → Type 0
MayName None kept cells = Unit {0}
MayName (Some h) kept cells = IsKeptRight h kept cells

-- the horizon of the compaction that is under way, if it forgets, is below all that isn't in a file
abbrev pub MayGoOn : Option ℕ → LeastStamps → Type 0
MayGoOn None stamps = Unit {0}
MayGoOn (Some h) stamps = Allows stamps h
