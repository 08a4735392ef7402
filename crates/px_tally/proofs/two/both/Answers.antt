use Rattle.std.proofs.Common.{◌++◌, List, sym, ap, ◌∙◌}
use Rattle.std.specs.Prelude.{slice_get}
use Rattle.px_turn.specs.Lists.{own}
use Rattle.px_turn.specs.Seats.{seen_by_seat}
use Rattle.px_tally.specs.declared.tally.Mark.{Mark}
use Rattle.px_tally.specs.Marks.{marks, seat_of}
use Rattle.px_tally.proofs.Pairs.{rest_of, both_of, on_ok}
use Rattle.px_tally.proofs.two.both.Goals as goal

pub join-a-requires-after_bounds : goal.join-a-requires-after_bounds
join-a-requires-after_bounds g c κs within =
    let made = c.in-Ok.ensures.seats in
    let s = c.in-Some-Some in
    let items = both_of _ _ _ _ _ s.ensures.items s.ensures'.items (rest_of _ _ _ _ _ s.ensures.items s.ensures'.items (made.1.0 ∙ made.0)) in
    (made.1.1 0 s.first (ap (λ l. slice_get l 0) items), made.1.1 1 s.second (ap (λ l. slice_get l 1) items))

pub returns-clause-first : goal.returns-clause-first
returns-clause-first g c =
    let made = c.in-Ok.ensures.seats in
    let s = c.in-Some-Some in
    let none = rest_of _ _ _ _ _ s.ensures.items s.ensures'.items (made.1.0 ∙ made.0) in
    let items = both_of _ _ _ _ _ s.ensures.items s.ensures'.items none in
    let back = both_of _ _ _ _ _ c.push_reserved-2.ensures.items c.push_reserved.ensures.items none in
    let joined = c.join-a.ensures.first in
    let end = (c.close-tally.ensures.seen 0 c.join-a.result.0.0 (ap (λ l. slice_get l 0) back)).1 in
    let empty = c.in-Ok.ensures.seen 0 s.first (ap (λ l. slice_get l 0) items) ∙ c.new.ensures in
    let marked = on_ok _ _ _ c.in_ok-a.was joined.2 in
    ap (λ k. own seat_of k c.close-tally.result.marks.items) (sym joined.1) ∙ end ∙ ap (λ k. own seat_of k (seen_by_seat c.join-a.result.0.0)) joined.1 ∙ marked ∙ ap (λ (l : List Mark). own seat_of 0 l ++ marks 0 c.args.times) empty

pub returns-clause-second : goal.returns-clause-second
returns-clause-second g c =
    let made = c.in-Ok.ensures.seats in
    let s = c.in-Some-Some in
    let none = rest_of _ _ _ _ _ s.ensures.items s.ensures'.items (made.1.0 ∙ made.0) in
    let items = both_of _ _ _ _ _ s.ensures.items s.ensures'.items none in
    let back = both_of _ _ _ _ _ c.push_reserved-2.ensures.items c.push_reserved.ensures.items none in
    let joined = c.join-a.ensures.second in
    let end = (c.close-tally.ensures.seen 1 c.join-a.result.1.0 (ap (λ l. slice_get l 1) back)).1 in
    let empty = c.in-Ok.ensures.seen 1 s.second (ap (λ l. slice_get l 1) items) ∙ c.new.ensures in
    let marked = on_ok _ _ _ c.in_ok-b.was joined.2 in
    ap (λ k. own seat_of k c.close-tally.result.marks.items) (sym joined.1) ∙ end ∙ ap (λ k. own seat_of k (seen_by_seat c.join-a.result.1.0)) joined.1 ∙ marked ∙ ap (λ (l : List Mark). own seat_of 1 l ++ marks 1 c.args.times) empty
