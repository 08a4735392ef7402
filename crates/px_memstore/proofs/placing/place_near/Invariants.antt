use Rattle.std.proofs.Common.{◌<◌, ◌≤◌, drop, length}
use Rattle.std.specs.List.{AllByRecursion}
use Rattle.px_cells.specs.Order.{Below}
use Rattle.px_memstore.proofs.placing.place_near.Given as goal

abbrev pub invariant-loop-step : goal.invariant-loop-step
invariant-loop-step l = record {
  some : 0 < l.step;
  within : l.high ≤ length l.cells;
  from : AllByRecursion (λ m. Below m l.cell → ⊥) (drop l.high l.cells);
}

abbrev pub decreases-loop-step : goal.decreases-loop-step
decreases-loop-step l = l.high
