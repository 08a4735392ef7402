use Rattle.std.proofs.Common.{length}
use Rattle.px_wal.proofs.batch.+differ.Given as goal

abbrev pub decreases-differ : goal.decreases-differ
decreases-differ l = length l.right.now
