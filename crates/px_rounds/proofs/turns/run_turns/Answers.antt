use Rattle.px_rounds.proofs.Turning as turning
use Rattle.px_rounds.proofs.turns.run_turns.Goals as goal

pub swept-requires-clause-live : goal.swept-requires-clause-live
swept-requires-clause-live g c = λ κs bounds. turning.still_live g.S.Steps.sound (g.S.Steps.known c.args.s.now) (g.S.Steps.known c.sweeps.s) c.args.runs.now c.sweeps.runs c.sweeps.invariant c.requires.live

pub sweeps-preserved : goal.sweeps-preserved
sweeps-preserved g c = turning.turns_then g.S.Steps.sound (g.S.Steps.known c.args.s.now) (g.S.Steps.known c.sweeps.s) (g.S.Steps.known c.swept.new.s) c.args.runs.now c.sweeps.runs c.swept.new.runs c.sweeps.invariant c.swept.ensures.turned
