use Rattle.std.proofs.Common.{◌∙◌, ℕ, ap, sym}
use Rattle.px_trail.specs.Trail.{missed_step}
use Rattle.px_server.proofs.Missed.{missed_none, missed_on}
use Rattle.px_server.proofs.missing.last_missed.Goals as goal

pub loop-i-init : goal.loop-i-init
loop-i-init c = missed_none

pub loop-i-preserved : goal.loop-i-preserved
loop-i-preserved c = c.missed_after-missed.ensures ∙ (ap (λ (n : ℕ). missed_step n c.entry.result.now.act) c.loop-i.invariant ∙ sym (missed_on c.args.trail.now.entries c.loop-i.i c.entry.result.now c.entry.ensures))
