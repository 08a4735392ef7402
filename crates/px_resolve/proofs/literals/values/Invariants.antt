use Rattle.std.proofs.Common.{◌≡◌, map, take}
use Rattle.px_resolve.specs.Literals.{value_of_literal}
use Rattle.px_resolve.proofs.literals.values.Given as goal

abbrev pub invariant-loop-literal : goal.invariant-loop-literal
invariant-loop-literal l = l.values.items ≡ map (λ x. value_of_literal x.constant) (take l.literal-index l.literals)
