-- Which bytes begin with a block, and which fault others have first.
use Rattle.std.specs.Prelude.{◌≡◌, ◌≢◌, ◌≤◌, ◌<◌, ℕ, List, [], ◌∷◌, ◌++◌, length, take, drop, Result, Ok, Err}
use Rattle.std.specs.Int.{w32, from_be_bytes}
use Rattle.px_cells.specs.CellData.{CellData}
use Rattle.px_cells.specs.Order.{Below}
use Rattle.px_cellbytes.specs.declared.fault.CellFault.{CellFault}
use Rattle.px_cellbytes.specs.declared.fault.CellFault.TheVariants.{Short, OutOfOrder}
use Rattle.px_cellbytes.specs.Spelling.{all_bytes}
use Rattle.px_cellbytes.specs.Reading.{IsLeastFault, IsWritten, moved}
use Rattle.px_block.specs.Block.{IsBlock, IsBlockFull, IsClosedBlock, block_bytes}

-- the count in the first four bytes
unfoldable pub count_in : List ℕ → ℕ
count_in bytes = from_be_bytes w32 (take 4 bytes)

-- the bytes begin with a count of cells
abbrev pub HasCount : List ℕ → Type 0
HasCount bytes = (4 ≤ length bytes) × (count_in bytes ≢ 0)

-- the first of the cells is above the last of those before them
abbrev pub ComesAfter : (before cells : List CellData) → Type 0
ComesAfter before cells = (front : List CellData) (last : CellData) → before ≡ front ++ last ∷ [] → (c : CellData) (more : List CellData) → cells ≡ c ∷ more → Below last c

-- the cells that stand before the next cell of a block: its own, or else those before the block
abbrev pub behind : (before cells : List CellData) → List CellData
behind before [] = before
behind before (c ∷ cells) = c ∷ cells

-- ---- what begins the bytes

-- a block begins the bytes, and may come behind these cells
pub record IsFront (before : List CellData) (bytes : List ℕ) (cells : List CellData) (rest : List ℕ) : Type 0 where
  pub spelled : bytes ≡ block_bytes cells ++ rest
  pub block : IsBlock cells
  pub after : ComesAfter before cells

-- some cells begin the bytes, and may come behind these cells
pub record BeginWith (before : List CellData) (bytes : List ℕ) (cells : List CellData) (rest : List ℕ) : Type 0 where
  pub spelled : bytes ≡ all_bytes cells ++ rest
  pub written : IsWritten cells
  pub after : ComesAfter before cells

-- ---- faults

-- What is wrong behind the first cells of a block that has more: the next cell, or that there is one where the block is
-- full.
pub data IsNextBlockFault (before cells : List CellData) (rest : List ℕ) (fault : CellFault) : Type 0 where
  of_cell : (least : CellFault) → length (all_bytes cells) < 32768 → IsLeastFault (behind before cells) rest least → fault ≡ moved (length (all_bytes cells)) least → IsNextBlockFault before cells rest fault
  of_count : IsClosedBlock cells → IsBlockFull cells → fault ≡ OutOfOrder (length (all_bytes cells)) → IsNextBlockFault before cells rest fault

-- the first fault of bytes that should begin with so many cells of a block
pub record IsBodyFault (before : List CellData) (count : ℕ) (bytes : List ℕ) (fault : CellFault) : Type 0 where
  pub cells : List CellData
  pub rest : List ℕ
  pub begin : BeginWith before bytes cells rest
  pub fewer : length cells < count
  pub next : IsNextBlockFault before cells rest fault

-- The first fault of bytes that should begin with a block, behind these cells. Its place is 0 where there is no count.
pub data IsFrontFault (before : List CellData) (bytes : List ℕ) (fault : CellFault) : Type 0 where
  of_head : (HasCount bytes → ⊥) → fault ≡ Short 0 → IsFrontFault before bytes fault
  of_body : (inner : CellFault) → HasCount bytes → IsBodyFault before (count_in bytes) (drop 4 bytes) inner → fault ≡ moved 4 inner → IsFrontFault before bytes fault

-- ---- one block

-- all of the bytes are a block of these cells
pub record AreBlock (bytes : List ℕ) (cells : List CellData) : Type 0 where
  pub spelled : bytes ≡ block_bytes cells
  pub block : IsBlock cells

-- the first fault of bytes that should be one block
pub data IsBlockFault (bytes : List ℕ) (fault : CellFault) : Type 0 where
  of_front : IsFrontFault [] bytes fault → IsBlockFault bytes fault
  of_rest : (cells : List CellData) (rest : List ℕ) → IsFront [] bytes cells rest → rest ≢ [] → fault ≡ OutOfOrder (length (block_bytes cells)) → IsBlockFault bytes fault

-- the cells of the block that the bytes are, or their first fault
abbrev pub IsReading : List ℕ → Result (List CellData) CellFault → Type 0
IsReading bytes (Ok cells) = AreBlock bytes cells
IsReading bytes (Err fault) = IsBlockFault bytes fault
