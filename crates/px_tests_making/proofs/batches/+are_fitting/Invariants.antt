use Rattle.std.proofs.Common.{length}
use Rattle.px_tests_making.proofs.batches.+are_fitting.Given as goal

abbrev pub decreases-are_fitting : goal.decreases-are_fitting
decreases-are_fitting l = length l.changes.now
