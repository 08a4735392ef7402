use Rattle.std.proofs.Common.{◌≡◌, map, take}
use Rattle.px_ast.specs.declared.condition.Comparison.TheVariants as comparisons
use Rattle.px_expr.specs.Holds.{compared_values}
use Rattle.px_expr.specs.Truth.{some_of}
use Rattle.px_expr.proofs.test.among.Given as goal

abbrev pub invariant-loop-other : goal.invariant-loop-other
invariant-loop-other l = l.found ≡ some_of (map (compared_values comparisons.Equal l.value) (take l.other-index l.values))
