use Rattle.std.proofs.Common.{length}
use Rattle.px_flushing.proofs.naming.+are_entries.Given as goal

abbrev pub decreases-are_entries : goal.decreases-are_entries
decreases-are_entries l = length l.files.now
