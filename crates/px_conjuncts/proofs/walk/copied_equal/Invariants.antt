use Rattle.std.proofs.Common.{◌≡◌, map, take}
use Rattle.px_conjuncts.specs.Paths.{equal_value}
use Rattle.px_conjuncts.proofs.walk.copied_equal.Given as goal

abbrev pub invariant-loop-to : goal.invariant-loop-to
invariant-loop-to l = l.values.items ≡ map equal_value (take l.to-index l.equal)
