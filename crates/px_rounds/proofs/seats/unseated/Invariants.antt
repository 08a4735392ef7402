use Rattle.std.proofs.Common.{◌≡◌, ℕ, ◌+◌, ◌≤◌, length, Some, drop}
use Rattle.std.specs.Prelude.{slice_get, vec_capacity}
use Rattle.px_turn.specs.Seats.{IsSeat, seat_number, seen_by_seat}
use Rattle.px_rounds.specs.inner.Jobs.{IsTaken}
use Rattle.px_rounds.proofs.seats.unseated.Given as goal

abbrev pub invariant-loop-jobs : goal.invariant-loop-jobs
invariant-loop-jobs g l =
    record {
      left : l.jobs.items ≡ drop (length l.transcripts.items) l.fn.jobs.items;
      sum : length l.transcripts.items + length l.jobs.items ≡ length l.fn.jobs.items;
      count : length l.seats.items ≡ length l.transcripts.items + 1;
      count' : length l.states.items ≡ length l.transcripts.items;
      room : (length l.fn.jobs.items + 1 ≤ vec_capacity l.seats) × (length l.fn.jobs.items ≤ vec_capacity l.transcripts) × (length l.fn.jobs.items ≤ vec_capacity l.states);
      idle : slice_get l.seats.items 0 ≡ Some l.fn.idle;
      seats : (k : ℕ) (seat : _) → slice_get l.seats.items k ≡ Some seat → IsSeat g.N.LockNamed.name seat × (seat_number seat ≡ k);
      seen : (k : ℕ) (job : _) (seat : _) → slice_get l.fn.jobs.items k ≡ Some job → slice_get l.seats.items (k + 1) ≡ Some seat → seen_by_seat seat ≡ seen_by_seat job.at.seat;
      each : (k : ℕ) (job : _) (t : _) (st : _) → slice_get l.fn.jobs.items k ≡ Some job → slice_get l.transcripts.items k ≡ Some t → slice_get l.states.items k ≡ Some st → IsTaken job.stage t st l.lacked;
    }

abbrev pub decreases-loop-jobs : goal.decreases-loop-jobs
decreases-loop-jobs g l = length l.jobs.items
