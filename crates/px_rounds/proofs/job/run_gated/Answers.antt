use Rattle.std.proofs.Common.{rules}
use Rattle.px_rounds.proofs.Coursing.{came_then, not_yet}
use Rattle.px_rounds.proofs.job.run_gated.Goals as goal

pub steps-init : goal.steps-init
steps-init g c = record {
  live = c.requires.live;
  steps = λ began live. not_yet (g.X.Course.on_way g.S.Steps.sound began) g.X.Course.stays (g.S.Steps.known c.args.s.now) c.args.course.now live;
}

pub returns-in-Finished : goal.returns-in-Finished
returns-in-Finished g c = record {
  ran = record {
    steps = λ began live. let s = c.steps.invariant.steps began live in came_then (g.X.Course.on_way g.S.Steps.sound began) g.X.Course.stays _ _ _ _ _ _ s (c.advance.ensures.steps began s.live);
    over = search rules;
  };
}

pub steps-preserved : goal.steps-preserved
steps-preserved g c = record {
  live = (let l = c.steps.invariant.live in (l.0, (c.advance.ensures.steps l.0 l.1).live));
  steps = λ began live. (let s = c.steps.invariant.steps began live in came_then (g.X.Course.on_way g.S.Steps.sound began) g.X.Course.stays _ _ _ _ _ _ s (c.advance.ensures.steps began s.live));
}
