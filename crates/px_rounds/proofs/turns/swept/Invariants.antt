use Rattle.px_rounds.specs.Turns.{Turned}
use Rattle.px_rounds.proofs.turns.swept.Given as goal

abbrev pub invariant-sweep : goal.invariant-sweep
invariant-sweep g l = Turned g.S.Steps.sound (g.S.Steps.known l.fn.s) l.fn.runs (g.S.Steps.known l.s) l.runs
