use Rattle.std.proofs.Common.{length}
use Rattle.px_turns.proofs.parts.PendingRows.+drop_all.Given as goal

abbrev pub decreases-drop_all : goal.decreases-drop_all
decreases-drop_all l = length l.keys.now
