use Rattle.std.proofs.Common.{rules, ◌≡◌, ◌≤◌, ◌∙◌, ◌++◌, List, length, sym, ap, subst}
use Rattle.std.specs.Prelude.{vec_capacity}
use Rattle.px_trail.specs.declared.entry.Entry.{Entry}
use Rattle.px_turn.specs.Lists.{GrownBelow, GrownByOthers}
use Rattle.px_turn.specs.Seats.{seat_number, seen_by_seat}
use Rattle.px_seat.proofs.Grows.{if_err, if_ok}
use Rattle.px_seat.proofs.Lists.{seat_of}
use Rattle.px_rounds.specs.inner.Desks.{AreCut}
use Rattle.px_rounds.specs.inner.Jobs.{SeatsTold}
use Rattle.px_rounds.proofs.Seating as seating
use Rattle.px_rounds.proofs.threads.round_at.Goals as goal

pub run_seats-seats-requires-clause-lists : goal.run_seats-seats-requires-clause-lists
run_seats-seats-requires-clause-lists g c = λ κs bounds.
    let cut : AreCut c.args.round.now (length c.args.states.items) c.in-Ok.lists.pieces.items = search rules in
    let empty = c.in-Ok.ensures.empty in
    let room : (length c.args.states.items ≤ vec_capacity c.in-Ok.lists.transcripts) × (length c.args.states.items ≤ vec_capacity c.in-Ok.lists.states) = search rules in
    record { pieces = cut.count_is; placed = λ i pieces e. (cut.each i pieces e).placed; transcripts = (empty.0, room.0); states = (empty.1, room.1) }

pub returns-clause-goes : goal.returns-clause-goes
returns-clause-goes g c =
    let known = g.S.Steps.known in
    let h = c.close.ensures.added in
    let owned = c.into_core-2.ensures.owned in
    let was : (known _).seen ≡ (known c.args.server).seen = ap (λ (s : g.row.S.Denot). (known s).seen) (c.in-Ok-new.ensures.value ∙ c.new-owned.ensures) in
    record {
      more = h.0;
      seen = ap (λ (s : g.row.S.Denot). (known s).seen) c.into_core-2.ensures.same ∙ (h.1 ∙ ap (λ (l : List Entry). l ++ h.0) was);
      base = owned.base ∙ sym c.requires.base;
      damaged = owned.damaged ∙ sym c.requires.damaged;
      single = record { alone = owned.alone; legal = owned.legal };
    }

pub returns-clause-round : goal.returns-clause-round
returns-clause-round g c =
    let known = g.S.Steps.known in
    let k = known c.args.server in
    let k' = known c.into_core-2.result in
    let sound = g.S.Steps.sound in
    let base = g.B.Based.base in
    let damaged = g.B.Based.damaged in
    let seats = c.run_seats-seats.result.0.items in
    let states = c.args.states.items in
    let round = c.args.round.now in
    let pieces = c.in-Ok.lists.pieces.items in
    let at_close : (known c.close.result).seen ≡ k'.seen = sym (ap (λ (s : g.row.S.Denot). (known s).seen) c.into_core-2.ensures.same) in
    let was : (known _).seen ≡ k.seen = ap (λ (s : g.row.S.Denot). (known s).seen) (c.in-Ok-new.ensures.value ∙ c.new-owned.ensures) in
    let first : (known c.of-first.result.value).seen ≡ k.seen = ap (λ (s : g.row.S.Denot). (known s).seen) c.of-first.ensures in
    let F : List Entry × List Entry → Type 0 = λ q. GrownBelow seat_of (length seats) q.0 q.1 in
    let below : GrownBelow seat_of (length seats) k.seen k'.seen = subst F (λ i. (was i, at_close i)) c.close.ensures.added in
    if_ok _ _ c.run_seats-seats.result.1
    (λ told h.
    seating.seats_round sound base damaged k k' _ c.args.number states round pieces seats told.transcripts.items told.states.items told.lacked (search rules)
    (subst (λ (l : List Entry). SeatsTold sound base damaged l c.args.number states pieces seats told.transcripts.items told.states.items told.lacked) first h)
    c.run_seats-seats.ensures.seats c.into_core-2.ensures.owned below
    (λ n seat e. subst (λ (l : List Entry). GrownByOthers seat_of (seat_number seat) (seen_by_seat seat) l) at_close (c.close.ensures.seen n seat e)))
    c.run_seats-seats.ensures.told

pub returns-clause-none : goal.returns-clause-none
returns-clause-none g c =
    let known = g.S.Steps.known in
    let k = known c.args.server in
    let k' = known c.into_core-2.result in
    let seats = c.run_seats-seats.result.0.items in
    let at_close : (known c.close.result).seen ≡ k'.seen = sym (ap (λ (s : g.row.S.Denot). (known s).seen) c.into_core-2.ensures.same) in
    let was : (known _).seen ≡ k.seen = ap (λ (s : g.row.S.Denot). (known s).seen) (c.in-Ok-new.ensures.value ∙ c.new-owned.ensures) in
    let first : (known c.of-first.result.value).seen ≡ k.seen = ap (λ (s : g.row.S.Denot). (known s).seen) c.of-first.ensures in
    let F : List Entry × List Entry → Type 0 = λ q. GrownBelow seat_of (length seats) q.0 q.1 in
    let below : GrownBelow seat_of (length seats) k.seen k'.seen = subst F (λ i. (was i, at_close i)) c.close.ensures.added in
    if_err _ _ c.run_seats-seats.result.1
    (λ back h. (
      h.0,
      seating.none_added k.seen k'.seen _ seats c.run_seats-seats.ensures.seats (λ n seat e. h.1 n seat e ∙ first) below (λ n seat e. subst (λ (l : List Entry). GrownByOthers seat_of (seat_number seat) (seen_by_seat seat) l) at_close (c.close.ensures.seen n seat e)),
    ))
    c.run_seats-seats.ensures.none
