use Rattle.std.specs.Slice.Scan.{HoldsNowhere, differ}
use Rattle.px_cells.proofs.order.short_order.Given as goal

abbrev pub invariant-loop-at : goal.invariant-loop-at
invariant-loop-at l = HoldsNowhere (differ l.a l.b) 0 l.at
