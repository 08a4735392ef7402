-- Cells that are tested one after the other.
use Rattle.std.proofs.Common.{List, [], ◌∷◌, take}
use Rattle.px_cells.specs.CellData.{CellData}
use Rattle.px_cells.specs.Order.{IsAscending}

pub one_ascending : (cells : List CellData) → IsAscending (take 1 cells)
one_ascending [] = tt
one_ascending (c ∷ cells) = (tt, tt)
