-- A batch's steps are bounded.
use Rattle.std.proofs.Common.{ℕ, ◌≤◌, ◌+◌, ◌*◌, List, [], ◌∷◌, arith}
use Rattle.px_calls.specs.declared.ticket.Ticket.{Ticket}
use Rattle.px_batch.specs.declared.batch.BatchState.{BatchState}
use Rattle.px_batch.specs.declared.batch.BatchState.TheVariants as state
use Rattle.px_batch.specs.Bounds.{AreSpending, Step, counted_in, left_of}

bounded : (n : ℕ) (left : Ticket → ℕ) (s : BatchState) (os : List Step) → AreSpending n left s os → counted_in s os ≤ left_of n left s
bounded n left s [] h = omega arith
bounded n left s (o ∷ os) h =
    let one = h.0 in
    let others = bounded n o.left o.state os h.1 in
    omega arith

pub at_most : (n : ℕ) (left : Ticket → ℕ) (os : List Step) → AreSpending n left state.Beginning os → counted_in state.Beginning os ≤ 6 + 2 * n
at_most n left os h = bounded n left state.Beginning os h
