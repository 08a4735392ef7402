-- Files of the disk that the program makes and reads.
use Rattle.std.specs.Prelude.{◌≡◌, ◌++◌, true, List, IsTrue}
use Rattle.std.specs.List.{AllByRecursion}
use Rattle.px_outside.specs.declared.disk.Disk.{Ghosts}
use Rattle.px_outside.specs.OnDisk.{Only}
use Rattle.px_cells.specs.CellData.{CellData}
use Rattle.px_block.specs.Block.{IsBlockFull}
use Rattle.px_file.specs.Format.{AreBlocks, blocks_bytes, file_bytes, letters}
use Rattle.px_file.specs.IndexOf.{IsIndex}
use Rattle.px_file.specs.declared.region_file.RegionFile.{RegionFile}
use Rattle.px_file.specs.declared.writer.FileWriter.{FileWriter}

-- these blocks were written so far, and what the disk tells of the file ends with them
pub record HasWrittenBlocks {D : Type 0} (d : Ghosts D) (writer : FileWriter) (disk : D) (blocks : List (List CellData)) : Type 0 where
  pub right : AreBlocks blocks
  pub full : writer.full ≡ true → AllByRecursion IsBlockFull blocks
  pub index : IsIndex writer.index blocks
  pub seen : IsTrue d.tells → d.seen disk writer.file ≡ letters ++ blocks_bytes blocks

-- the disk tells that this is a file with these blocks, all of it on the disk
pub record HasBlocks {D : Type 0} (d : Ghosts D) (file : RegionFile) (disk : D) (blocks : List (List CellData)) : Type 0 where
  pub right : AreBlocks blocks
  pub index : IsIndex file.index blocks
  pub seen : IsTrue d.tells → d.seen disk file.file ≡ file_bytes blocks
  pub only : Only d disk file.file
