use Rattle.std.proofs.Common.{length}
use Rattle.px_tests_making.proofs.batches.+names.Given as goal

abbrev pub decreases-names : goal.decreases-names
decreases-names l = length l.changes.now
