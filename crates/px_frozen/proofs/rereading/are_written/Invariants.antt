use Rattle.std.proofs.Common.{take}
use Rattle.std.specs.List.{AllByRecursion}
use Rattle.px_frozen.specs.inner.Fit.{IsWhole}
use Rattle.px_frozen.proofs.rereading.are_written.Given as goal

abbrev pub invariant-loop-cell : goal.invariant-loop-cell
invariant-loop-cell l = AllByRecursion IsWhole (take l.cell-index l.cells)
