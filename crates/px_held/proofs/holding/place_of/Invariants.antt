use Rattle.std.proofs.Common.{◌≡◌, take, false}
use Rattle.px_trail.specs.Batches.{has, rows_of}
use Rattle.px_held.proofs.holding.place_of.Given as goal

abbrev pub invariant-loop-i : goal.invariant-loop-i
invariant-loop-i l = has (rows_of (take l.i l.held)) l.row ≡ false
