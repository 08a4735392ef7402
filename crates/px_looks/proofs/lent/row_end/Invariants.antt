use Rattle.std.proofs.Common.{◌≡◌, ◌≤◌, ◌<◌, ◌-◌, length}
use Rattle.px_region.specs.Giving.{key_at}
use Rattle.px_looks.proofs.lent.row_end.Given as goal

abbrev pub invariant-loop-from : goal.invariant-loop-from
invariant-loop-from l = record {
  on : l.at ≤ l.from;
  before : l.from < l.to;
  within : l.to ≤ length l.cells;
  known : key_at l.cells l.from ≡ l.key;
}

abbrev pub decreases-loop-from : goal.decreases-loop-from
decreases-loop-from l = length l.cells - l.to
