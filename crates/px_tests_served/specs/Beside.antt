-- What a step of one batch leaves of the others.
use Rattle.std.specs.Prelude.{ℕ, ◌≢◌}
use Rattle.px_trail.specs.Batches.{BatchPhase}
use Rattle.px_calls.specs.declared.ticket.Ticket.{Ticket}
use Rattle.px_calls.specs.Known.{Known}
use Rattle.px_calls.specs.Requires.{TicketIn}

-- the batches of other stamps stay in their phases
abbrev pub LeavesOthers : Known → Known → ℕ → Type 0
LeavesOthers k k' stamp = (t : Ticket) (phase : BatchPhase) → t.stamp ≢ stamp → TicketIn k t phase → TicketIn k' t phase

-- every batch stays in its phase
abbrev pub LeavesAll : Known → Known → Type 0
LeavesAll k k' = (t : Ticket) (phase : BatchPhase) → TicketIn k t phase → TicketIn k' t phase
