-- Blocks of cells.
use Rattle.std.specs.Prelude.{◌≡◌, ◌≤◌, ◌<◌, ℕ, List, [], ◌∷◌, ◌++◌, length}
use Rattle.std.specs.Int.{w32, to_be_bytes}
use Rattle.px_cells.specs.CellData.{CellData}
use Rattle.px_cellbytes.specs.Spelling.{all_bytes}
use Rattle.px_cellbytes.specs.Reading.{IsWritten}

-- a count in four bytes
unfoldable pub count_bytes : ℕ → List ℕ
count_bytes n = to_be_bytes w32 n

-- the bytes of a block: the count of its cells, and the cells
abbrev pub block_bytes : List CellData → List ℕ
block_bytes cells = count_bytes (length cells) ++ all_bytes cells

-- a block of these cells is closed
abbrev pub IsBlockFull : List CellData → Type 0
IsBlockFull cells = 32768 ≤ length (all_bytes cells)

-- there is a cell, and without the last of them the block wasn't full yet
pub record IsClosedBlock (cells : List CellData) : Type 0 where
  pub front : List CellData
  pub last : CellData
  pub ends : cells ≡ front ++ last ∷ []
  pub before : length (all_bytes front) < 32768

-- The cells of a block. It may have fewer bytes than a full one, as the last of a file.
pub record IsBlock (cells : List CellData) : Type 0 where
  pub written : IsWritten cells
  pub closed : IsClosedBlock cells
