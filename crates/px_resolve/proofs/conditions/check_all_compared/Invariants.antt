use Rattle.std.proofs.Common.{◌≡◌, drop}
use Rattle.std.specs.List.{flat_map}
use Rattle.px_resolve.specs.Conditions.{literal_against}
use Rattle.px_resolve.proofs.conditions.check_all_compared.Given as goal

abbrev pub invariant-loop-literal : goal.invariant-loop-literal
invariant-loop-literal l = flat_map (literal_against l.class) l.literals ≡ flat_map (literal_against l.class) (drop l.literal-index l.literals)
