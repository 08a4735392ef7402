use Rattle.px_rounds.specs.Turns.{Turned}
use Rattle.px_rounds.proofs.turns.call.Given as goal

abbrev pub invariant-calls : goal.invariant-calls
invariant-calls g l = Turned g.S.Steps.sound (g.S.Steps.known l.fn.s) l.fn.runs (g.S.Steps.known l.s) l.runs
