use Rattle.px_rounds.proofs.Turning as turning
use Rattle.px_rounds.proofs.turns.swept.Goals as goal

pub sweep-init : goal.sweep-init
sweep-init g c = turning.no_turn g.S.Steps.sound (g.S.Steps.known c.args.s.now) c.args.runs.now c.requires.single

pub call-requires-clause-live : goal.call-requires-clause-live
call-requires-clause-live g c = λ κs bounds. turning.still_live g.S.Steps.sound (g.S.Steps.known c.args.s.now) (g.S.Steps.known c.sweep.s) c.args.runs.now c.sweep.runs c.sweep.invariant c.requires.live

pub sweep-preserved : goal.sweep-preserved
sweep-preserved g c = turning.turns_then g.S.Steps.sound (g.S.Steps.known c.args.s.now) (g.S.Steps.known c.sweep.s) (g.S.Steps.known c.call.new.s) c.args.runs.now c.sweep.runs c.call.new.runs c.sweep.invariant c.call.ensures.turned
