use Rattle.px_rounds.proofs.Turning as turning
use Rattle.px_rounds.proofs.turns.listed.Goals as goal

pub loop-session-init : goal.loop-session-init
loop-session-init g c = turning.no_turn g.S.Steps.sound (g.S.Steps.known c.args.s.now) c.args.runs.now c.requires.single

pub call-requires-clause-live : goal.call-requires-clause-live
call-requires-clause-live g c = λ κs bounds. turning.still_live g.S.Steps.sound (g.S.Steps.known c.args.s.now) (g.S.Steps.known c.loop-session.s) c.args.runs.now c.loop-session.runs c.loop-session.invariant c.requires.live

pub loop-session-preserved : goal.loop-session-preserved
loop-session-preserved g c = turning.turns_then g.S.Steps.sound (g.S.Steps.known c.args.s.now) (g.S.Steps.known c.loop-session.s) (g.S.Steps.known c.call.new.s) c.args.runs.now c.loop-session.runs c.call.new.runs c.loop-session.invariant c.call.ensures.turned
