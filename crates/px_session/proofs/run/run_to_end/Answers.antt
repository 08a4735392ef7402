use Rattle.px_session.proofs.Lives.{no_call, same_run, steps_then}
use Rattle.px_session.proofs.run.run_to_end.Goals as goal

pub steps-init : goal.steps-init
steps-init g c = record {
  live = c.requires.live;
  steps = λ began live. no_call g.S.Steps.sound began (g.S.Steps.known c.args.s.now) c.args.run.now c.args.run.now live (same_run g.S.Steps.sound began c.args.run.now);
}

pub returns-in-Finished-clause-steps : goal.returns-in-Finished-clause-steps
returns-in-Finished-clause-steps g c = λ began live. let s = c.steps.invariant.steps began live in steps_then g.S.Steps.sound began _ _ _ _ _ _ s (c.step.ensures.steps began s.live)

pub steps-preserved-in-Waiting : goal.steps-preserved-in-Waiting
steps-preserved-in-Waiting g c = record {
  live = (let l = c.steps.invariant.live in (l.0, (c.step.ensures.steps l.0 l.1).live));
  steps = λ began live. (let s = c.steps.invariant.steps began live in steps_then g.S.Steps.sound began _ _ _ _ _ _ s (c.step.ensures.steps began s.live));
}

pub steps-preserved : goal.steps-preserved
steps-preserved g c = record {
  live = (let l = c.steps.invariant.live in (l.0, (c.step.ensures.steps l.0 l.1).live));
  steps = λ began live. (let s = c.steps.invariant.steps began live in steps_then g.S.Steps.sound began _ _ _ _ _ _ s (c.step.ensures.steps began s.live));
}
