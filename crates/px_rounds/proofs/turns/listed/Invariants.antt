use Rattle.px_rounds.specs.Turns.{Turned}
use Rattle.px_rounds.proofs.turns.listed.Given as goal

abbrev pub invariant-loop-session : goal.invariant-loop-session
invariant-loop-session g l = Turned g.S.Steps.sound (g.S.Steps.known l.fn.s) l.fn.runs (g.S.Steps.known l.s) l.runs
