use Rattle.std.proofs.Common.{◌∙◌, sym}
use Rattle.px_raising.proofs.Bounds.{to_all, to_next}
use Rattle.px_raising.proofs.raising.to.Goals as goal

pub loop-point-preserved : goal.loop-point-preserved
loop-point-preserved c = to_next c.args.points.now c.loop-point.point-index _ c.loop-point.least c.min-least.result c.loop-point-test.true c.min-least.ensures ∙ c.loop-point.invariant

pub returns : goal.returns
returns c = sym (to_all c.args.points.now c.loop-point.point-index c.loop-point.least c.loop-point-test.false) ∙ c.loop-point.invariant
