use Rattle.std.proofs.Common.{length}
use Rattle.px_opening.proofs.definitions.+are_indexes_above.Given as goal

abbrev pub decreases-are_indexes_above : goal.decreases-are_indexes_above
decreases-are_indexes_above l = length l.indexes.now
