use Rattle.std.proofs.Common.{max, get_or, ap, sym, ◌∙◌}
use Rattle.px_turns.proofs.Stamps.{greatest-more}
use Rattle.px_turns.proofs.stamp.greatest_of.Goals as goal

pub loop-stamp-preserved : goal.loop-stamp-preserved
loop-stamp-preserved c = c.greater-most.ensures ∙ (ap (λ n. max n (get_or c.args.stamps.now c.loop-stamp.stamp-index 0)) c.loop-stamp.invariant ∙ sym (greatest-more c.args.stamps.now c.loop-stamp.stamp-index c.loop-stamp-test.true))
