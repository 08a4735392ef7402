use Rattle.std.proofs.Common.{◌≡◌, ◌<◌, arith, length, ◌++◌, List, sym, ap, ◌∙◌, subst}
use Rattle.px_turn.specs.Lists.{own}
use Rattle.px_turn.specs.Seats.{seat_number, seen_by_seat}
use Rattle.px_tally.specs.declared.tally.Mark.{Mark}
use Rattle.px_tally.specs.Marks.{marks, seat_of}
use Rattle.px_turn.proofs.Places.{get_lt, get_some}
use Rattle.px_tally.proofs.many.all.Goals as goal

pub taken_back-seats-requires-clause-jobs : goal.taken_back-seats-requires-clause-jobs
taken_back-seats-requires-clause-jobs g c =
    let len = c.run_all.ensures.len in (
      len ∙ c.opened-jobs.ensures.len ∙ c.in-Ok.ensures.seats.1.0,
      λ k job e.
          let old = get_some c.opened-jobs.result.items k (subst (λ n. k < n) len (get_lt _ job k e)) in
          let made = c.opened-jobs.ensures.each k old.0 old.1 in
          let ran = c.run_all.ensures.each k old.0 job old.1 e in (
            ap (λ l. l.now) ran.0 ∙ made.0,
            ran.1 ∙ made.1,
            λ whole. ap (λ x. own seat_of x (seen_by_seat job.seat)) (sym made.1) ∙ ran.2 whole ∙ ap (λ (l : List Mark). own seat_of (seat_number old.0.seat) l ++ marks (seat_number old.0.seat) c.args.times) made.2 ∙ ap (λ x. marks x c.args.times) made.1,
          ),
    )

pub returns-then-all_whole-clause-each : goal.returns-then-all_whole-clause-each
returns-then-all_whole-clause-each g c =
    λ k low.
    let back = c.taken_back-seats.ensures in
    let many : length c.taken_back-seats.result.0.items ≡ c.args.threads = back.seats.0 ∙ c.in-Ok.ensures.seats.0 in
    let seat = get_some c.taken_back-seats.result.0.items k (omega arith) in
    let end = (c.close-tally.ensures.seen k seat.0 seat.1).1 in
    let is = (back.seats.1 k seat.0 seat.1).1 in
    ap (λ x. own seat_of x c.close-tally.result.marks.items) (sym is) ∙ end ∙ ap (λ x. own seat_of x (seen_by_seat seat.0)) is ∙ back.whole c.if-all_whole.true k seat.0 seat.1
