use Rattle.px_session.specs.declared.state.SessionState.{SessionState}
use Rattle.px_session.specs.Live.{IsSessionLive, StepsOn}
use Rattle.px_session.proofs.run.run_to_end.Given as goal

-- the session goes on as it must, and is on its way
abbrev pub invariant-steps : goal.invariant-steps
invariant-steps g l =
    record {
      live : (began : SessionState) × IsSessionLive g.S.Steps.sound (g.S.Steps.known l.s) began l.run;
      steps : (began : SessionState) → IsSessionLive g.S.Steps.sound (g.S.Steps.known l.fn.s) began l.fn.run → StepsOn g.S.Steps.sound began (g.S.Steps.known l.fn.s) l.fn.run (g.S.Steps.known l.s) l.run;
    }
