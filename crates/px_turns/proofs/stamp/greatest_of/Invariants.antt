use Rattle.std.proofs.Common.{◌≡◌, take}
use Rattle.px_turns.specs.Turns.{greatest}
use Rattle.px_turns.proofs.stamp.greatest_of.Given as goal

abbrev pub invariant-loop-stamp : goal.invariant-loop-stamp
invariant-loop-stamp l = l.most ≡ greatest (take l.stamp-index l.stamps)
