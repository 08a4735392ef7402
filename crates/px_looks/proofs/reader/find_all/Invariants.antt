use Rattle.std.proofs.Common.{◌≡◌, ◌≤◌, ◌<◌, ◌-◌, true, length}
use Rattle.px_region.specs.Giving.{begins_row, rows_before}
use Rattle.px_looks.specs.inner.Among.{FoundAmong}
use Rattle.px_looks.proofs.reader.find_all.Given as goal

abbrev pub invariant-loop-i : goal.invariant-loop-i
invariant-loop-i g l = record {
  found : FoundAmong (g.R.Reader.shows l.reader) l.cells l.i l.found.items;
  few : length l.found.items ≤ rows_before l.cells l.i;
  within : l.i ≤ length l.cells;
  begins : l.i < length l.cells → begins_row l.cells l.i ≡ true;
}

abbrev pub decreases-loop-i : goal.decreases-loop-i
decreases-loop-i g l = length l.cells - l.i
