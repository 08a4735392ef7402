use Rattle.std.proofs.Common.{◌≡◌, ◌+◌, ◌≤◌, ◌++◌, drop, length, sum, take}
use Rattle.px_keptcells.specs.Kept.{but, laid}
use Rattle.px_keptcells.specs.inner.Rows.{cut}
use Rattle.px_keptcells.proofs.Rows.{left}
use Rattle.px_keptcells.proofs.kept.leave_out.Given as goal

abbrev pub invariant-loop-row : goal.invariant-loop-row
invariant-loop-row l = record {
  before : l.next ≤ l.at;
  counted : l.at + sum (drop l.row l.counts) ≡ length l.cells.items;
  so_far : take l.next l.cells.items ++ left l.row l.marks l.counts (drop l.at l.cells.items) ≡ laid (but l.marks (cut l.counts l.fn.cells.items));
}
