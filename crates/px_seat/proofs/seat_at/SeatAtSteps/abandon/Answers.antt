use Rattle.std.proofs.Common.{◌∙◌, sym, ap, refl, subst, length}
use Rattle.px_calls.specs.Known.{Known, Sees}
use Rattle.px_turn.specs.Seats.{IsSeat, entered, seat_number, seen_by_seat}
use Rattle.px_seat.specs.Grown.{mine}
use Rattle.px_seat.proofs.Grows as grows
use Rattle.px_seat.proofs.Shares as shares
use Rattle.px_seat.proofs.seat_at.SeatAtSteps.abandon.Goals as goal

pub abandon-requires : goal.abandon-requires
abandon-requires g c =
    let me = c.args.self.now in
    let now = c.enter-guard.ensures.entered ∙ ap (λ (v : g.row.S.Denot). (g.S.Steps.known v).seen) (sym c.value-server.ensures.value) in
    let e = grows.enters g.S.Steps.known g.B.Based.base g.B.Based.damaged me.id (seat_number me.seat) (seen_by_seat me.seat) (entered c.enter-guard.result) c.value-server.result.now c.act_as.new.self
    me.is_seat.1 c.enter-guard.ensures.seen now c.act_as.ensures.known c.act_as.ensures.owned in
    shares.passes-can_abandon _ _ c.args.t e.passes c.requires

pub leave-requires-clause-grown : goal.leave-requires-clause-grown
leave-requires-clause-grown g c =
    let me = c.args.self.now in
    let now = c.enter-guard.ensures.entered ∙ ap (λ (v : g.row.S.Denot). (g.S.Steps.known v).seen) (sym c.value-server.ensures.value) in
    grows.leaves g.S.Steps.known me.id (seat_number c.enter-guard.result.seat.now) (entered c.enter-guard.result) c.value-server.result.now c.act_as.new.self c.abandon.new.self
    (c.enter-guard.ensures.turn.1 ∙ me.is_seat.1) now c.act_as.ensures.known c.abandon.ensures.grew

pub invariant_of-self : goal.invariant_of-self
invariant_of-self g c =
    let me = c.args.self.now in
    let now = c.enter-guard.ensures.entered ∙ ap (λ (v : g.row.S.Denot). (g.S.Steps.known v).seen) (sym c.value-server.ensures.value) in
    let e = grows.enters g.S.Steps.known g.B.Based.base g.B.Based.damaged me.id (seat_number me.seat) (seen_by_seat me.seat) (entered c.enter-guard.result) c.value-server.result.now c.act_as.new.self
    me.is_seat.1 c.enter-guard.ensures.seen now c.act_as.ensures.known c.act_as.ensures.owned in
    record {
      named = me.named;
      is_seat = (subst (λ l. IsSeat l c.leave.new.self.1.0) (c.enter-guard.ensures.same_lock ∙ me.named) c.leave.ensures.seat.0, c.leave.ensures.seat.1 ∙ (c.enter-guard.ensures.turn.1 ∙ me.is_seat.1));
      counted = c.count.ensures.seen ∙ (c.seen-seen.ensures ∙ sym (ap (λ (k : Known). length k.seen) (grows.knows g.S.Steps.known g.B.Based.base g.B.Based.damaged me.id (seen_by_seat me.seat) c.act_as.new.self c.abandon.new.self (seen_by_seat c.leave.new.self.1.0) e c.abandon.ensures.grew c.leave.ensures.seen)));
    }

pub returns-clause-sees : goal.returns-clause-sees
returns-clause-sees g c =
    let me = c.args.self.now in
    let now = c.enter-guard.ensures.entered ∙ ap (λ (v : g.row.S.Denot). (g.S.Steps.known v).seen) (sym c.value-server.ensures.value) in
    let e = grows.enters g.S.Steps.known g.B.Based.base g.B.Based.damaged me.id (seat_number me.seat) (seen_by_seat me.seat) (entered c.enter-guard.result) c.value-server.result.now c.act_as.new.self
    me.is_seat.1 c.enter-guard.ensures.seen now c.act_as.ensures.known c.act_as.ensures.owned in
    let new = grows.knows g.S.Steps.known g.B.Based.base g.B.Based.damaged me.id (seen_by_seat me.seat) c.act_as.new.self c.abandon.new.self (seen_by_seat c.leave.new.self.1.0) e c.abandon.ensures.grew c.leave.ensures.seen in
    let old = mine me.id g.B.Based.base g.B.Based.damaged (seen_by_seat me.seat) in
    subst (λ (k : Known). Sees old k) (sym new) (grows.sees-shared _ _ _ refl e.passes c.abandon.ensures.sees)
