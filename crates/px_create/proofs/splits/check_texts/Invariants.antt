use Rattle.std.proofs.Common.{◌≡◌, drop}
use Rattle.std.specs.List.{flat_map}
use Rattle.px_resolve.specs.Literals.{is_bad_text, range_if, value_of_literal}
use Rattle.px_create.proofs.splits.check_texts.Given as goal

abbrev pub invariant-loop-literal : goal.invariant-loop-literal
invariant-loop-literal l = flat_map (λ x. range_if (is_bad_text (value_of_literal x.constant)) x.place) l.literals ≡ flat_map (λ x. range_if (is_bad_text (value_of_literal x.constant)) x.place) (drop l.literal-index l.literals)
