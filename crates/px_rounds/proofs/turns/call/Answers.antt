use Rattle.px_rounds.proofs.Turning as turning
use Rattle.px_rounds.proofs.turns.call.Goals as goal

pub returns-then-session-eq0 : goal.returns-then-session-eq0
returns-then-session-eq0 g c = record { turned = turning.no_turn g.S.Steps.sound (g.S.Steps.known c.args.s.now) c.args.runs.now c.requires.single }

pub calls-init : goal.calls-init
calls-init g c = turning.no_turn g.S.Steps.sound (g.S.Steps.known c.args.s.now) c.args.runs.now c.requires.single

pub turn-requires-clause-live : goal.turn-requires-clause-live
turn-requires-clause-live g c = λ κs bounds. turning.still_live g.S.Steps.sound (g.S.Steps.known c.args.s.now) (g.S.Steps.known c.calls.s) c.args.runs.now c.calls.runs c.calls.invariant c.requires.live

pub calls-preserved : goal.calls-preserved
calls-preserved g c = turning.turns_then g.S.Steps.sound (g.S.Steps.known c.args.s.now) (g.S.Steps.known c.calls.s) (g.S.Steps.known c.turn.new.s) c.args.runs.now c.calls.runs c.turn.new.runs c.calls.invariant c.turn.ensures.turned

pub returns-in-Stepped : goal.returns-in-Stepped
returns-in-Stepped g c = record {
  turned = turning.turns_then g.S.Steps.sound (g.S.Steps.known c.args.s.now) (g.S.Steps.known c.calls.s) (g.S.Steps.known c.turn.new.s) c.args.runs.now c.calls.runs c.turn.new.runs c.calls.invariant c.turn.ensures.turned;
}
