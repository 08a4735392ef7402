use Rattle.std.proofs.Common.{take}
use Rattle.px_cells.specs.Order.{IsAscending}
use Rattle.px_reads.proofs.order.are_sorted.Given as goal

abbrev pub invariant-loop-i : goal.invariant-loop-i
invariant-loop-i l = IsAscending (take l.i l.cells)
