use Rattle.std.proofs.Common.{vec_len}
use Rattle.px_removals.proofs.Removed.{Reached}
use Rattle.px_removals.proofs.removing.removals.Given as goal

abbrev pub invariant-rows : goal.invariant-rows
invariant-rows l = Reached l.table l.initial.rows.items l.rows.items l.removals.items

abbrev pub decreases-rows : goal.decreases-rows
decreases-rows l = vec_len l.rows
