use Rattle.std.proofs.Common.{length}
use Rattle.px_tests_making.proofs.batches.+order_of.Given as goal

abbrev pub decreases-order_of : goal.decreases-order_of
decreases-order_of l = length l.a.now
