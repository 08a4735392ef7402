use Rattle.px_session.specs.declared.state.SessionState.{SessionState}
use Rattle.px_rounds.specs.inner.Jobs.{CameOn}
use Rattle.px_rounds.proofs.job.run_gated.Given as goal

-- the course goes on as it must, and is on its way
abbrev pub invariant-steps : goal.invariant-steps
invariant-steps g l =
    record {
      live : (began : SessionState) × g.X.Course.on_way g.S.Steps.sound began (g.S.Steps.known l.s) l.course;
      steps : (began : SessionState) → g.X.Course.on_way g.S.Steps.sound began (g.S.Steps.known l.fn.s) l.fn.course → CameOn (g.X.Course.on_way g.S.Steps.sound began) g.X.Course.stays (g.S.Steps.known l.fn.s) l.fn.course (g.S.Steps.known l.s) l.course;
    }
