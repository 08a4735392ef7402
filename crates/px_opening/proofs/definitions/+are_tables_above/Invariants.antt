use Rattle.std.proofs.Common.{length}
use Rattle.px_opening.proofs.definitions.+are_tables_above.Given as goal

abbrev pub decreases-are_tables_above : goal.decreases-are_tables_above
decreases-are_tables_above l = length l.tables.now
