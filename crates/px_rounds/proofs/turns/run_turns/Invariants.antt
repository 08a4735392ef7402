use Rattle.px_rounds.specs.Turns.{Turned}
use Rattle.px_rounds.proofs.turns.run_turns.Given as goal

abbrev pub invariant-sweeps : goal.invariant-sweeps
invariant-sweeps g l = Turned g.S.Steps.sound (g.S.Steps.known l.fn.s) l.fn.runs (g.S.Steps.known l.s) l.runs
