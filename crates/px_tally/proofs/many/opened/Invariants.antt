use Rattle.std.proofs.Common.{◌≡◌, ℕ, [], ◌≤◌, ◌++◌, length, Some}
use Rattle.std.specs.Prelude.{slice_get, vec_capacity}
use Rattle.std.specs.Vec.Iter.{into_iter_items, into_iter_len}
use Rattle.px_turn.specs.Seats.{seat_number, seen_by_seat}
use Rattle.px_tally.proofs.many.opened.Given as goal

abbrev pub invariant-loop-seat : goal.invariant-loop-seat
invariant-loop-seat l =
    (l.yielded ++ into_iter_items l.seat-iterator ≡ l.fn.given.items)
    × (into_iter_len l.seat-iterator ≡ length (into_iter_items l.seat-iterator))
    × (length l.jobs.items ≡ length l.yielded)
    × (length l.fn.given.items ≤ vec_capacity l.jobs)
    × ((k : ℕ) (job : _) → slice_get l.jobs.items k ≡ Some job → (job.lock.now ≡ l.lock) × (seat_number job.seat ≡ k) × (seen_by_seat job.seat ≡ []))
