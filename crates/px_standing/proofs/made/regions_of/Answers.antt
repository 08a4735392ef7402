use Rattle.std.proofs.Common.{◌∙◌}
use Rattle.px_standing.proofs.Numbered.{numbered_none, numbered_pushed}
use Rattle.px_standing.proofs.made.regions_of.Goals as goal

pub loop-place-init : goal.loop-place-init
loop-place-init c = c.in_ok-regions.ensures.items ∙ numbered_none c.args.next

pub loop-place-preserved : goal.loop-place-preserved
loop-place-preserved c = numbered_pushed c.args.next c.args.least_keys.now c.loop-place.place c.index-least_keys-place.result c.of.result c.loop-place.regions.items c.push.new.self.items c.loop-place-test.true c.index-least_keys-place.is
    (c.of.ensures ∙ (c.in_ok-least_key.ensures.items ∙ c.as_slice.ensures)) c.loop-place.invariant c.in_ok-push.ensures.items
