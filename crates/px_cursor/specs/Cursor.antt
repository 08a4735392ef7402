-- What a cursor has still to give.
use Rattle.std.specs.Prelude.{◌≡◌, ◌≤◌, ◌<◌, ◌⊎◌, ◌-◌, ◌++◌, ℕ, List, take, drop, IsTrue}
use Rattle.std.specs.Option.{option_copied}
use Rattle.px_outside.specs.declared.disk.Disk.{Ghosts}
use Rattle.px_cells.specs.CellData.{CellData}
use Rattle.px_file.specs.Format.{cells_in}
use Rattle.px_file.specs.Files.{HasBlocks}
use Rattle.px_file.specs.Ranges.{IsFirstBlock}
use Rattle.px_cursor.specs.Range.{EndsAt, cells_within}
use Rattle.px_cursor.specs.declared.cursor.Cursor.{Cursor}

-- the cells in memory that weren't passed
abbrev pub cells_in_memory : Cursor → List CellData
cells_in_memory c = take (c.until - c.at) (drop c.at c.block)

-- how many blocks of the file it has read
abbrev pub blocks_read : Cursor → ℕ
blocks_read c = c.next - c.first

-- how many may have cells of its range
abbrev pub blocks_in : Cursor → ℕ
blocks_in c = c.limit - c.first

-- the cells of its range in these blocks
abbrev pub within : Cursor → List (List CellData) → List CellData
within c blocks = cells_within c.low.now (option_copied c.high) (cells_in blocks)

-- The disk tells that its file has blocks, of which these cells of the range weren't passed. Only the blocks that may have
-- cells of the range are read, as the first keys tell.
pub record IsAt {D : Type 0} (d : Ghosts D) (cursor : Cursor) (disk : D) (left : List CellData) : Type 0 where
  pub tells : IsTrue d.tells
  pub blocks : List (List CellData)
  pub has : HasBlocks d cursor.file.now disk blocks
  pub first : IsFirstBlock blocks cursor.low.now cursor.first
  pub limit : EndsAt blocks (option_copied cursor.high) cursor.limit
  pub left_is : left ≡ cells_in_memory cursor ++ within cursor (drop cursor.next blocks)

-- it gives these cells, of which the next is in memory
pub record CursorGives {D : Type 0} (d : Ghosts D) (cursor : Cursor) (disk : D) (left : List CellData) : Type 0 where
  pub at : IsAt d cursor disk left
  pub ready : (cursor.at < cursor.until) ⊎ (cursor.limit ≤ cursor.next)

-- the same range of the same file
pub record IsSameRange (old new : Cursor) : Type 0 where
  pub file : new.file ≡ old.file
  pub low : new.low ≡ old.low
  pub high : new.high ≡ old.high
  pub first : new.first ≡ old.first
  pub limit : new.limit ≡ old.limit
