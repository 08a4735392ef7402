-- What a walk over the blocks of a file has read.
use Rattle.std.specs.Prelude.{◌≡◌, ◌++◌, ℕ, true, false, List, drop, IsTrue}
use Rattle.std.specs.List.{AllByRecursion}
use Rattle.px_outside.specs.declared.disk.Disk.{Ghosts}
use Rattle.px_cells.specs.CellData.{CellData}
use Rattle.px_block.specs.Block.{IsBlockFull}
use Rattle.px_file.specs.Format.{AreBlocks, blocks_bytes, letters}
use Rattle.px_file.specs.IndexOf.{IsIndex}
use Rattle.px_file.specs.Reading.{GoesOn, last_block}
use Rattle.px_file.specs.declared.index.Index.{Index}
use Rattle.px_file.specs.declared.walk.Walk.{Walk}

-- These blocks were read. Where no further one is looked for, none follows.
pub record HasWalked {D : Type 0} (d : Ghosts D) (file : ℕ) (walk : Walk) (disk : D) (blocks : List (List CellData)) : Type 0 where
  pub right : AreBlocks blocks
  pub index : IsIndex walk.index blocks
  pub before : walk.before ≡ last_block blocks
  pub full : walk.more ≡ true → AllByRecursion IsBlockFull blocks
  pub ends : walk.more ≡ false → IsTrue d.tells → GoesOn blocks (drop walk.index.end (d.seen disk file)) → ⊥
  pub seen : IsTrue d.tells → d.seen disk file ≡ letters ++ (blocks_bytes blocks ++ drop walk.index.end (d.seen disk file))

-- some blocks were read
pub record IsWalked {D : Type 0} (d : Ghosts D) (file : ℕ) (walk : Walk) (disk : D) : Type 0 where
  pub blocks : List (List CellData)
  pub walked : HasWalked d file walk disk blocks

-- all blocks of the file were read: index and footer follow
pub record HasIndex {D : Type 0} (d : Ghosts D) (file : ℕ) (index : Index) (disk : D) : Type 0 where
  pub blocks : List (List CellData)
  pub right : AreBlocks blocks
  pub is : IsIndex index blocks
  pub seen : IsTrue d.tells → d.seen disk file ≡ letters ++ (blocks_bytes blocks ++ drop index.end (d.seen disk file))
  pub last : IsTrue d.tells → GoesOn blocks (drop index.end (d.seen disk file)) → ⊥
