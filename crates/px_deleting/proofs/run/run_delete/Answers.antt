use Rattle.px_deleting.proofs.Whole.{begins, ends-as, steps-on, waits-on}
use Rattle.px_deleting.proofs.run.run_delete.Goals as goal

pub steps-init : goal.steps-init
steps-init g c = λ p new can. begins g.S.Steps.sound p c.args.run.state _ new can

pub step-requires-clause-fits : goal.step-requires-clause-fits
step-requires-clause-fits g c = let n = c.requires.new in (n.0, (c.steps.invariant n.0 n.1 n.2).fits)

pub step-requires-clause-going : goal.step-requires-clause-going
step-requires-clause-going g c = let n = c.requires.new in (c.steps.invariant n.0 n.1 n.2).going

pub steps-preserved-in-Stepped : goal.steps-preserved-in-Stepped
steps-preserved-in-Stepped g c = λ p new can. let h = c.steps.invariant p new can in steps-on g.S.Steps.sound p _ _ _ _ _ h (c.in-Stepped.ensures.turns p h.fits)

pub steps-preserved : goal.steps-preserved
steps-preserved g c = λ p new can. let h = c.steps.invariant p new can in waits-on g.S.Steps.sound p _ _ _ _ _ _ h (c.in-Waiting.ensures.turns p h.fits)

pub returns-in-Over : goal.returns-in-Over
returns-in-Over g c = λ p new can. let h = c.steps.invariant p new can in ends-as g.S.Steps.sound p _ _ _ _ _ _ h (c.in-Over.ensures.turns p h.fits)
