-- Blocks of a cache.
use Rattle.std.specs.Prelude.{◌≡◌, ℕ, List, [], get_or, All, Contains, IsTrue}
use Rattle.px_outside.specs.declared.disk.Disk.{Ghosts}
use Rattle.px_cells.specs.CellData.{CellData}
use Rattle.px_file.specs.Format.{AreBlocks, file_bytes}

-- a block: of which file it is, its number among the blocks there, and its cells
pub record BlockData : Type 0 where
  pub file : ℕ
  pub number : ℕ
  pub cells : List CellData

-- it is that block of that file
pub record IsBlockOf (block : BlockData) (file number : ℕ) : Type 0 where
  pub file_is : block.file ≡ file
  pub number_is : block.number ≡ number

-- one of them is
abbrev pub HasBlock : List BlockData → (file number : ℕ) → Type 0
HasBlock cached file number = (b : BlockData) × (Contains cached b) × (IsBlockOf b file number)

-- Where reads give a file of blocks, it has the cells of the block with its number.
abbrev pub IsRightBlock : {D : Type 0} → Ghosts D → D → BlockData → Type 0
IsRightBlock d disk b = (blocks : List (List CellData)) → AreBlocks blocks → d.seen disk b.file ≡ file_bytes blocks → b.cells ≡ get_or blocks b.number []

-- so has each, if the disk tells
abbrev pub AreRightBlocks : {D : Type 0} → Ghosts D → D → List BlockData → Type 0
AreRightBlocks d disk cached = IsTrue d.tells → All (IsRightBlock d disk) cached
