use Rattle.std.proofs.Common.{◌≡◌, ℕ, true, ◌+◌, ◌≤◌, length, Some, drop}
use Rattle.std.specs.Prelude.{slice_get, vec_capacity}
use Rattle.px_turn.specs.Lists.{own}
use Rattle.px_turn.specs.Seats.{IsSeat, name_of, seat_number, seen_by_seat}
use Rattle.px_tally.specs.Marks.{marks, seat_of}
use Rattle.px_tally.proofs.many.taken_back.Given as goal

abbrev pub invariant-loop-jobs : goal.invariant-loop-jobs
invariant-loop-jobs l =
    (l.jobs.items ≡ drop (length l.seats.items) l.fn.jobs.items)
    × (length l.seats.items + length l.jobs.items ≡ length l.fn.jobs.items)
    × (length l.fn.jobs.items ≤ vec_capacity l.seats)
    × ((k : ℕ) (seat : _) → slice_get l.seats.items k ≡ Some seat → IsSeat (name_of l.lock) seat × (seat_number seat ≡ k))
    × (l.all_whole ≡ true → (k : ℕ) (seat : _) → slice_get l.seats.items k ≡ Some seat → own seat_of k (seen_by_seat seat) ≡ marks k l.times)

abbrev pub decreases-loop-jobs : goal.decreases-loop-jobs
decreases-loop-jobs l = length l.jobs.items
