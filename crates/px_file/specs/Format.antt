-- The bytes of a file of cells. Numbers are big-endian.
--
-- A file is `PHXFIL01`, its blocks, an index and a footer. Each block but the last is full. The index has for each block
-- its place (8 bytes), its length (4), and the length (2) and the bytes of its first key. The footer has the place of the
-- index (8), the count of the blocks (4) and of the cells (8), the greatest stamp (8), and `PXF1`.
use Rattle.std.specs.Prelude.{◌≡◌, ◌<◌, ℕ, ◌+◌, ◌^◌, List, [], ◌∷◌, ◌++◌, length, max}
use Rattle.std.specs.Int.{w32, w64, to_be_bytes}
use Rattle.std.specs.List.{AllByRecursion, flat_map}
use Rattle.px_cells.specs.CellData.{CellData}
use Rattle.px_cellbytes.specs.Spelling.{size_bytes}
use Rattle.px_cellbytes.specs.Reading.{IsWritten}
use Rattle.px_block.specs.Block.{IsBlock, IsBlockFull, block_bytes}

-- ---- blocks

-- the cells of blocks, in order
abbrev pub cells_in : List (List CellData) → List CellData
cells_in blocks = flat_map (λ b. b) blocks

-- Each block but the last is full.
pub data AreFull (blocks : List (List CellData)) : Type 0 where
  none : blocks ≡ [] → AreFull blocks
  some : (front : List (List CellData)) (last : List CellData) → blocks ≡ front ++ last ∷ [] → AllByRecursion IsBlockFull front → AreFull blocks

-- The blocks of a file. There are fewer than the footer's field can count.
pub record AreBlocks (blocks : List (List CellData)) : Type 0 where
  pub each : AllByRecursion IsBlock blocks
  pub full : AreFull blocks
  pub written : IsWritten (cells_in blocks)
  pub few : length blocks < 2 ^ 32

-- the greatest stamp of cells, or 0
abbrev pub greatest_stamp_in : List CellData → ℕ
greatest_stamp_in [] = 0
greatest_stamp_in (c ∷ cells) = max c.stamp (greatest_stamp_in cells)

-- ---- spelling

-- a number in eight bytes
unfoldable pub word_bytes : ℕ → List ℕ
word_bytes n = to_be_bytes w64 n

-- a number in four bytes
unfoldable pub half_word_bytes : ℕ → List ℕ
half_word_bytes n = to_be_bytes w32 n

-- `PHXFIL01`
abbrev pub letters : List ℕ
letters = 80 ∷ 72 ∷ 88 ∷ 70 ∷ 73 ∷ 76 ∷ 48 ∷ 49 ∷ []

-- `PXF1`
abbrev pub last_letters : List ℕ
last_letters = 80 ∷ 88 ∷ 70 ∷ 49 ∷ []

abbrev pub blocks_bytes : List (List CellData) → List ℕ
blocks_bytes blocks = flat_map block_bytes blocks

-- what the index says of a block: where it stands, how many bytes it has, and its first key
pub record EntryData : Type 0 where
  pub place : ℕ
  pub len : ℕ
  pub key : List ℕ

abbrev pub first_key : List CellData → List ℕ
first_key [] = []
first_key (c ∷ cells) = c.key

abbrev pub entry_of : ℕ → List CellData → EntryData
entry_of place block = record { place = place; len = length (block_bytes block); key = first_key block }

-- the index of blocks of which the first stands at a place
abbrev pub block_index : ℕ → List (List CellData) → List EntryData
block_index place [] = []
block_index place (b ∷ blocks) = entry_of place b ∷ block_index (place + length (block_bytes b)) blocks

abbrev pub entry_bytes : EntryData → List ℕ
entry_bytes e = word_bytes e.place ++ (half_word_bytes e.len ++ (size_bytes (length e.key) ++ e.key))

abbrev pub entries_bytes : List EntryData → List ℕ
entries_bytes entries = flat_map entry_bytes entries

abbrev pub footer_bytes : (place blocks cells stamp : ℕ) → List ℕ
footer_bytes place blocks cells stamp = word_bytes place ++ (half_word_bytes blocks ++ (word_bytes cells ++ (word_bytes stamp ++ last_letters)))

-- index and footer
unfoldable pub tail_bytes : List EntryData → (place cells stamp : ℕ) → List ℕ
tail_bytes entries place cells stamp = entries_bytes entries ++ footer_bytes place (length entries) cells stamp

-- where the blocks end
abbrev pub blocks_end : List (List CellData) → ℕ
blocks_end blocks = 8 + length (blocks_bytes blocks)

-- index and footer of blocks
abbrev pub tail_of : List (List CellData) → List ℕ
tail_of blocks = tail_bytes (block_index 8 blocks) (blocks_end blocks) (length (cells_in blocks)) (greatest_stamp_in (cells_in blocks))

-- the bytes of a file with these blocks
abbrev pub file_bytes : List (List CellData) → List ℕ
file_bytes blocks = letters ++ (blocks_bytes blocks ++ tail_of blocks)

-- the bytes are a file of these cells, of which this is the greatest stamp
pub record FileStands (bytes : List ℕ) (cells : List CellData) (stamp : ℕ) : Type 0 where
  pub blocks : List (List CellData)
  pub right : AreBlocks blocks
  pub spelled : bytes ≡ file_bytes blocks
  pub cells_are : cells ≡ cells_in blocks
  pub stamp_is : stamp ≡ greatest_stamp_in cells
