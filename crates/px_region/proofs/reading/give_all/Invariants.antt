use Rattle.std.proofs.Common.{◌++◌, List, take}
use Rattle.px_cells.specs.CellData.{CellData}
use Rattle.px_region.proofs.reading.give_all.Given as goal

abbrev pub invariant-loop-cell : goal.invariant-loop-cell
invariant-loop-cell g l = (before : List CellData) → g.T.CellTaker.has_taken l.fn.taker before → g.T.CellTaker.has_taken l.taker (before ++ take l.cell-index l.cells)
