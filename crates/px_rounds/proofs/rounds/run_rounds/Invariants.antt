use Rattle.std.proofs.Common.{◌≡◌, length, take}
use Rattle.px_reply.specs.Printed.{printed}
use Rattle.px_rounds.specs.Rounds.{RanRounds, fresh_sessions}
use Rattle.px_rounds.specs.Turns.{TrailGoesOn}
use Rattle.px_rounds.specs.Written.{IsTextWritten}
use Rattle.px_rounds.proofs.rounds.run_rounds.Given as goal

abbrev pub invariant-loop-place : goal.invariant-loop-place
invariant-loop-place g l =
    record {
      goes : TrailGoesOn (g.S.Steps.known l.fn.server) (g.S.Steps.known l.way.server);
      ran : RanRounds g.S.Steps.sound (g.S.Steps.known l.way.server) (length (g.S.Steps.known l.fn.server).seen) (fresh_sessions l.count) (take l.place l.rounds) l.way.done.items l.way.states.items l.way.sink_failed l.way.memory;
      written : IsTextWritten g.O.Sink l.fn.out l.out (printed l.way.done.items) l.way.sink_failed l.way.memory;
      count : length l.way.states.items ≡ l.count;
    }
