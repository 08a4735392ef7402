use Rattle.std.proofs.Common.{◌≡◌, ◌≤◌, ◌<◌, ◌-◌, true, length}
use Rattle.px_region.specs.Giving.{begins_row, rows_before}
use Rattle.px_looks.proofs.lent.first_rows.Given as goal

abbrev pub invariant-loop-end : goal.invariant-loop-end
invariant-loop-end l = record {
  within : l.end ≤ length l.cells;
  begins : l.end < length l.cells → begins_row l.cells l.end ≡ true;
  counted : l.rows ≡ rows_before l.cells l.end;
  few : l.rows ≤ l.most;
}

abbrev pub decreases-loop-end : goal.decreases-loop-end
decreases-loop-end l = length l.cells - l.end
