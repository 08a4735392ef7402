use Rattle.std.proofs.Common.{◌⊎◌}
use Rattle.std.specs.List.{All}
use Rattle.px_keys.specs.Spelling.{IsNullFixed, PartFits}
use Rattle.px_tests_plan.proofs.generated.key_parts.Given as goal

abbrev pub invariant-loop-column : goal.invariant-loop-column
invariant-loop-column g l = All (λ part. PartFits part ⊎ IsNullFixed part) l.parts.items
