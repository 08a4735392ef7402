use Rattle.std.proofs.Common.{◌∙◌, ◌-◌, min, ap, sym}
use Rattle.px_raising.proofs.Bounds.{below_all, below_next}
use Rattle.px_raising.proofs.raising.below.Goals as goal

pub loop-begun-preserved : goal.loop-begun-preserved
loop-begun-preserved c =
    below_next c.args.batches.now c.loop-begun.begun-index c.begun-item.result c.loop-begun.least c.min-least.result c.loop-begun-test.true c.begun-item.is (c.min-least.ensures ∙ ap (min c.loop-begun.least) (c.saturating_sub.ensures ∙ ap (λ n. n - 1) c.stamp.ensures))
    ∙ c.loop-begun.invariant

pub returns : goal.returns
returns c = sym (below_all c.args.batches.now c.loop-begun.begun-index c.loop-begun.least c.loop-begun-test.false) ∙ c.loop-begun.invariant
