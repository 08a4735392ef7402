use Rattle.std.proofs.Common.{◌∙◌}
use Rattle.px_ast.specs.declared.condition.Comparison.TheVariants as comparisons
use Rattle.px_expr.specs.Holds.{compared_values}
use Rattle.px_expr.proofs.Truths.{some_more, some_true}
use Rattle.px_expr.proofs.test.among.Goals as goal

pub returns-in-True : goal.returns-in-True
returns-in-True c =
    some_true (compared_values comparisons.Equal c.args.value.now) c.args.values.now c.loop-other.other-index c.other-item.result c.loop-other-test.true c.other-item.is c.in-True.ensures

pub loop-other-preserved : goal.loop-other-preserved
loop-other-preserved c =
    c.either-found.ensures
    ∙ some_more (compared_values comparisons.Equal c.args.value.now) c.args.values.now c.loop-other.other-index c.other-item.result c.loop-other.found c.comparison_truth.result c.loop-other-test.true c.other-item.is c.comparison_truth.ensures c.loop-other.invariant
