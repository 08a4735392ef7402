-- How many steps a batch has left.
use Rattle.std.specs.Prelude.{ℕ, ◌≤◌, ◌+◌, ◌*◌, List, [], ◌∷◌}
use Rattle.px_calls.specs.declared.ticket.Ticket.{Ticket}
use Rattle.px_batch.specs.declared.batch.BatchState.{BatchState}
use Rattle.px_batch.specs.declared.batch.BatchState.TheVariants as state
use Rattle.px_batch.specs.declared.batch.BatchTurn.{BatchTurn}
use Rattle.px_batch.specs.declared.batch.BatchTurn.TheVariants as turn

-- the steps that are left at most but those that don't count, where the table has n indexes, and the server tells how many calls are left to a batch
-- before it may end
abbrev pub left_of : ℕ → (Ticket → ℕ) → BatchState → ℕ
left_of n left state.Beginning = 6 + 2 * n
left_of n left state.Settling = 6 + 2 * n
left_of n left (state.Marking t) = left t + 2
left_of n left (state.Writing t) = left t + 2
left_of n left (state.Verifying t) = left t + 2
left_of n left (state.Ending t) = 1
left_of n left (state.Leaving t f) = 1
left_of n left state.Over = 0

-- A step counts unless it waits, is one of upkeep, or is a beginning that is refused until upkeep is idle
abbrev pub counted : BatchState → BatchState → BatchTurn → ℕ
counted state.Settling new t = 0
counted state.Beginning state.Settling t = 0
counted (state.Writing ticket) new (turn.Waiting stamp) = 0
counted old new t = 1

-- a step that counts takes one of those that are left
abbrev pub Spends : ℕ → (Ticket → ℕ) → BatchState → (Ticket → ℕ) → BatchState → BatchTurn → Type 0
Spends n left old left' new t = left_of n left' new + counted old new t ≤ left_of n left old

-- a step: what the server told of batches after it, the state then, and what it came to
pub record Step : Type 0 where
  pub left : Ticket → ℕ
  pub state : BatchState
  pub turn : BatchTurn

-- each of the steps is one of a batch, with no step of others between them
abbrev pub AreSpending : ℕ → (Ticket → ℕ) → BatchState → List Step → Type 0
AreSpending n left s [] = Unit {0}
AreSpending n left s (o ∷ os) = Spends n left s o.left o.state o.turn × AreSpending n o.left o.state os

-- how many of the steps count
abbrev pub counted_in : BatchState → List Step → ℕ
counted_in s [] = 0
counted_in s (o ∷ os) = counted s o.state o.turn + counted_in o.state os
