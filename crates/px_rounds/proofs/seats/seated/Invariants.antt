use Rattle.std.proofs.Common.{◌≡◌, ℕ, ◌≤◌, ◌+◌, ◌++◌, length, drop, Some}
use Rattle.std.specs.Prelude.{slice_get, vec_capacity}
use Rattle.std.specs.Vec.Iter.{into_iter_items, into_iter_len}
use Rattle.px_turn.specs.Seats.{seen_by_seat}
use Rattle.px_seat.specs.Grown.{mine}
use Rattle.px_rounds.specs.inner.Jobs.{IsSet}
use Rattle.px_rounds.proofs.seats.seated.Given as goal

abbrev pub invariant-loop-seat : goal.invariant-loop-seat
invariant-loop-seat g l =
    record {
      given : l.yielded ++ into_iter_items l.seat-iterator ≡ l.fn.given.items;
      left : into_iter_len l.seat-iterator ≡ length (into_iter_items l.seat-iterator);
      jobs : length l.jobs.items ≡ length l.yielded;
      session : l.session ≡ length l.jobs.items;
      room : length l.fn.given.items ≤ vec_capacity l.jobs;
      all : l.all.items ≡ drop (length l.jobs.items) l.fn.all.items;
      states : l.states.items ≡ drop (length l.jobs.items) l.fn.states.items;
      each : (k : ℕ) (job : _) (st : _) (pieces : _) → slice_get l.jobs.items k ≡ Some job → slice_get l.fn.states.items k ≡ Some st → slice_get l.fn.all.items k ≡ Some pieces
          → IsSet g.B.Based.base g.B.Based.damaged (g.S.Steps.known l.first.value).seen l.number (k + 1) st pieces (mine job.at.id g.B.Based.base g.B.Based.damaged (seen_by_seat job.at.seat)) job.session job.number job.stage;
    }
