use Rattle.std.proofs.Common.{length}
use Rattle.px_fitting.proofs.fitting.+are_once.Given as goal

abbrev pub decreases-are_once : goal.decreases-are_once
decreases-are_once l = length l.assignments.now
