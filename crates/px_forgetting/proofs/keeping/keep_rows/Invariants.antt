use Rattle.std.proofs.Common.{◌-◌, length}
use Rattle.px_forgetting.proofs.Rows.{AreKeeping}
use Rattle.px_forgetting.proofs.keeping.keep_rows.Given as goal

abbrev pub invariant-loop-at : goal.invariant-loop-at
invariant-loop-at l = AreKeeping l.horizon l.fn.cells l.cells l.at l.kept

abbrev pub decreases-loop-at : goal.decreases-loop-at
decreases-loop-at l = length l.cells - l.at
