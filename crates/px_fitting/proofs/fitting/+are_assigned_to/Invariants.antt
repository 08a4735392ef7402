use Rattle.std.proofs.Common.{length}
use Rattle.px_fitting.proofs.fitting.+are_assigned_to.Given as goal

abbrev pub decreases-are_assigned_to : goal.decreases-are_assigned_to
decreases-are_assigned_to l = length l.assignments.now
