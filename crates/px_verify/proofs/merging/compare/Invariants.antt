use Rattle.std.proofs.Common.{◌+◌, length}
use Rattle.px_verify.proofs.Fronts.{Counts}
use Rattle.px_verify.proofs.merging.compare.Given as goal

abbrev pub invariant-keys : goal.invariant-keys
invariant-keys l = Counts l.fn.rows l.fn.versions l.report l.rows_left l.versions_left

abbrev pub decreases-keys : goal.decreases-keys
decreases-keys l = length l.rows_left + length l.versions_left
