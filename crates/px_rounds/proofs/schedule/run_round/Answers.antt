use Rattle.std.proofs.Common.{ap}
use Rattle.px_calls.specs.Known.{Known}
use Rattle.px_seat.proofs.Grows.{if_err}
use Rattle.px_rounds.proofs.schedule.run_round.Goals as goal

pub returns-clause-none : goal.returns-clause-none
returns-clause-none g c = if_err _ _ c.in_turns-told.result (λ back h. (h.0, ap (λ (k : Known). k.seen) h.1)) c.in_turns-told.ensures.none
