-- Where bytes aren't a file of cells.
use Rattle.std.specs.Prelude.{◌≡◌, ◌≢◌, ◌<◌, ℕ, ◌+◌, List, [], ◌∷◌, ◌++◌, length, take, get_or}
use Rattle.std.specs.List.{AllByRecursion}
use Rattle.px_cells.specs.CellData.{CellData}
use Rattle.px_cellbytes.specs.declared.fault.CellFault.{CellFault}
use Rattle.px_cellbytes.specs.Reading.{place_of_fault}
use Rattle.px_block.specs.Block.{IsBlockFull}
use Rattle.px_block.specs.Reading.{HasCount, IsFrontFault}
use Rattle.px_file.specs.Format.{AreBlocks, blocks_bytes, blocks_end, letters, tail_of}

-- one of both has another byte there, or ends there alone
pub data IsOther (right found : List ℕ) (place : ℕ) : Type 0 where
  byte : place < length right → place < length found → get_or right place 0 ≢ get_or found place 0 → IsOther right found place
  short : place ≡ length found → place < length right → IsOther right found place
  long : place ≡ length right → place < length found → IsOther right found place

-- the first place where bytes differ from the right ones
pub record DiffersAt (right found : List ℕ) (place : ℕ) : Type 0 where
  pub before : take place found ≡ take place right
  pub other : IsOther right found place

-- the last of the blocks
abbrev pub last_block : List (List CellData) → List CellData
last_block [] = []
last_block (b ∷ []) = b
last_block (b ∷ c ∷ blocks) = last_block (c ∷ blocks)

-- a file begins with these blocks
pub record BeginsWith (bytes : List ℕ) (blocks : List (List CellData)) (rest : List ℕ) : Type 0 where
  pub right : AreBlocks blocks
  pub spelled : bytes ≡ letters ++ (blocks_bytes blocks ++ rest)

-- A further block stands where each one so far is full, fewer stand than the footer can count, and the bytes that follow
-- begin with a count of cells, which isn't zero. Else the index follows: it begins with the first block's place, whose
-- first four bytes are zero.
pub record GoesOn (blocks : List (List CellData)) (rest : List ℕ) : Type 0 where
  pub full : AllByRecursion IsBlockFull blocks
  pub fewer : length blocks < 4294967295
  pub counted : HasCount rest

-- The first place where bytes aren't of a file. They are read from the front: the first letters; block by block, of which
-- none has more than 163,855 bytes; and then index and footer, which the blocks tell.
pub data IsFirstWrongInFile (bytes : List ℕ) (place : ℕ) : Type 0 where
  in_letters : DiffersAt letters (take 8 bytes) place → IsFirstWrongInFile bytes place
  in_block : (blocks : List (List CellData)) (rest : List ℕ) (fault : CellFault) → BeginsWith bytes blocks rest → GoesOn blocks rest → IsFrontFault (last_block blocks) (take 163855 rest) fault
      → place ≡ blocks_end blocks + place_of_fault fault → IsFirstWrongInFile bytes place
  in_tail : (blocks : List (List CellData)) (rest : List ℕ) (inner : ℕ) → BeginsWith bytes blocks rest → (GoesOn blocks rest → ⊥) → DiffersAt (tail_of blocks) rest inner
      → place ≡ blocks_end blocks + inner → IsFirstWrongInFile bytes place
