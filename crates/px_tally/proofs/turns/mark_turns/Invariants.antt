use Rattle.std.proofs.Common.{◌≡◌, ◌++◌}
use Rattle.px_turn.specs.Lists.{own}
use Rattle.px_turn.specs.Seats.{name_of, seat_number, seen_by_seat, IsSeat}
use Rattle.px_tally.specs.Marks.{marks, seat_of}
use Rattle.px_tally.proofs.turns.mark_turns.Given as goal

abbrev pub invariant-loop-turn : goal.invariant-loop-turn
invariant-loop-turn g l =
    IsSeat (name_of l.lock) l.seat
    × (seat_number l.seat ≡ l.number)
    × (l.number ≡ seat_number l.initial.seat)
    × (own seat_of l.number (seen_by_seat l.seat) ≡ own seat_of l.number (seen_by_seat l.initial.seat) ++ marks l.number l.turn)
