use Rattle.std.proofs.Common.{◌≡◌, take}
use Rattle.px_load.specs.Told as spec
use Rattle.px_load.proofs.told.amount_of.Given as goal

abbrev pub invariant-loop-row : goal.invariant-loop-row
invariant-loop-row l = l.amount ≡ spec.amount_of (take l.row-index l.rows)
