use Rattle.std.proofs.Common.{take}
use Rattle.std.specs.List.{AllByRecursion}
use Rattle.px_cellshapes.specs.Keys.{IsRightIndexCell}
use Rattle.px_cellshapes.proofs.index_cells.all_right.Given as goal

abbrev pub invariant-loop-place : goal.invariant-loop-place
invariant-loop-place l = AllByRecursion (IsRightIndexCell l.table l.index) (take l.place l.cells)
