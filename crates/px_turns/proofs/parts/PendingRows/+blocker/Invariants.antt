use Rattle.std.proofs.Common.{length}
use Rattle.px_turns.proofs.parts.PendingRows.+blocker.Given as goal

abbrev pub decreases-blocker : goal.decreases-blocker
decreases-blocker l = length l.keys.now
