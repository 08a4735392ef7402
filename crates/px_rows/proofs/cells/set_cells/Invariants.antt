use Rattle.std.proofs.Common.{◌≡◌}
use Rattle.px_rows.specs.inner.Lists.{set_cells}
use Rattle.px_rows.proofs.cells.set_cells.Given as goal

abbrev pub invariant-loop-place : goal.invariant-loop-place
invariant-loop-place l = l.cells ≡ set_cells l.columns l.key l.stamp l.assignments l.place
