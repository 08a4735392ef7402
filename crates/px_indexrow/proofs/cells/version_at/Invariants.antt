use Rattle.std.proofs.Common.{◌≡◌, ◌≤◌, ◌++◌, Some, length}
use Rattle.px_indexrow.specs.Form.{index_form}
use Rattle.px_indexrow.specs.Lists.{column_cells, version_cells}
use Rattle.px_indexrow.proofs.cells.version_at.Given as goal

abbrev pub invariant-loop-left : goal.invariant-loop-left
invariant-loop-left l = record {
  within : l.left ≤ length l.included;
  cells : l.cells ++ column_cells (index_form l.table l.index) l.key l.stamp (Some l.state) l.left ≡ version_cells (index_form l.table l.index) l.key l.stamp l.byte (Some l.state);
}

abbrev pub decreases-loop-left : goal.decreases-loop-left
decreases-loop-left l = l.left
