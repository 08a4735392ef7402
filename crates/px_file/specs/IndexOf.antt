-- An index that the program keeps.
use Rattle.std.specs.Prelude.{◌≡◌, List, length}
use Rattle.px_cells.specs.CellData.{CellData}
use Rattle.px_file.specs.Format.{block_index, blocks_end, cells_in, greatest_stamp_in}
use Rattle.px_file.specs.declared.index.Index.{Index}

-- it is the index of a file with these blocks
pub record IsIndex (index : Index) (blocks : List (List CellData)) : Type 0 where
  pub entries : index.entries.items ≡ block_index 8 blocks
  pub end : index.end ≡ blocks_end blocks
  pub cells : index.cells ≡ length (cells_in blocks)
  pub stamp : index.stamp ≡ greatest_stamp_in (cells_in blocks)
