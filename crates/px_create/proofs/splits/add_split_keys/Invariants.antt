use Rattle.std.proofs.Common.{◌≡◌, ◌++◌, map, take}
use Rattle.px_keys.specs.Spelling.{part_bytes}
use Rattle.px_resolve.specs.Literals.{value_of_literal}
use Rattle.px_create.proofs.splits.add_split_keys.Given as goal

abbrev pub invariant-loop-literal : goal.invariant-loop-literal
invariant-loop-literal l = l.keys.items ≡ l.initial.keys.items ++ map (λ x. part_bytes l.column (value_of_literal x.constant)) (take l.literal-index l.literals)
