-- A file that is being made of a list of cells.
use Rattle.std.specs.Prelude.{◌≡◌, ◌≤◌, ◌<◌, ◌⊎◌, true, ℕ, List, length, take}
use Rattle.px_outside.specs.declared.disk.Disk.{Ghosts}
use Rattle.px_cells.specs.CellData.{CellData}
use Rattle.px_file.specs.Files.{HasBlocks, HasWrittenBlocks}
use Rattle.px_file.specs.Format.{cells_in}
use Rattle.px_file.specs.declared.region_file.RegionFile.{RegionFile}
use Rattle.px_making.specs.declared.making.Making.{Making}

-- the file that is made
abbrev pub file_made : Making → ℕ
file_made making = making.writer.file

-- The first of the cells are written, in blocks. Where there are more, each block is full.
pub record IsMaking {D : Type 0} (d : Ghosts D) (making : Making) (disk : D) (cells : List CellData) : Type 0 where
  pub blocks : List (List CellData)
  pub written : HasWrittenBlocks d making.writer disk blocks
  pub within : making.done ≤ length cells
  pub first : cells_in blocks ≡ take making.done cells
  pub full : making.done < length cells → making.writer.full ≡ true

-- all cells are written
pub record HasCells {D : Type 0} (d : Ghosts D) (making : Making) (disk : D) (cells : List CellData) : Type 0 where
  pub blocks : List (List CellData)
  pub written : HasWrittenBlocks d making.writer disk blocks
  pub all : cells_in blocks ≡ cells

-- the disk tells that a file has these cells, all of it on the disk
pub record IsFileMade {D : Type 0} (d : Ghosts D) (file : RegionFile) (disk : D) (cells : List CellData) : Type 0 where
  pub blocks : List (List CellData)
  pub has : HasBlocks d file disk blocks
  pub all : cells_in blocks ≡ cells
