use Rattle.std.proofs.Common.{◌∙◌}
use Rattle.px_expr.specs.Holds.{truth_of}
use Rattle.px_expr.proofs.Truths.{each_false, each_more, some_more, some_true}
use Rattle.px_expr.proofs.truth.+condition.Goals as goal

pub each_holds-returns-in-False : goal.each_holds-returns-in-False
each_holds-returns-in-False t c =
    each_false (truth_of c.args.row.now) c.args.parts.now c.loop-part.part-index c.part-item.result c.loop-part-test.true c.part-item.is c.in-False.ensures

pub each_holds-loop-part-preserved : goal.each_holds-loop-part-preserved
each_holds-loop-part-preserved t c =
    c.both-found.ensures
    ∙ each_more (truth_of c.args.row.now) c.args.parts.now c.loop-part.part-index c.part-item.result c.loop-part.found c.holds.result c.loop-part-test.true c.part-item.is c.holds.ensures c.loop-part.invariant

pub some_holds-returns-in-True : goal.some_holds-returns-in-True
some_holds-returns-in-True t c =
    some_true (truth_of c.args.row.now) c.args.parts.now c.loop-part.part-index c.part-item.result c.loop-part-test.true c.part-item.is c.in-True.ensures

pub some_holds-loop-part-preserved : goal.some_holds-loop-part-preserved
some_holds-loop-part-preserved t c =
    c.either-found.ensures
    ∙ some_more (truth_of c.args.row.now) c.args.parts.now c.loop-part.part-index c.part-item.result c.loop-part.found c.holds.result c.loop-part-test.true c.part-item.is c.holds.ensures c.loop-part.invariant
