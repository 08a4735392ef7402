use Rattle.std.proofs.Common.{take}
use Rattle.std.specs.List.{AllByRecursion}
use Rattle.px_cellshapes.specs.Rows.{IsRightRowCell}
use Rattle.px_cellshapes.proofs.row_cells.all_right.Given as goal

abbrev pub invariant-loop-place : goal.invariant-loop-place
invariant-loop-place l = AllByRecursion (IsRightRowCell l.table) (take l.place l.cells)
