use Rattle.std.proofs.Common.{length}
use Rattle.px_fitting.proofs.fitting.+names.Given as goal

abbrev pub decreases-names : goal.decreases-names
decreases-names l = length l.assignments.now
