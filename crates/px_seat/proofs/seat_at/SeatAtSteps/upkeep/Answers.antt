use Rattle.std.proofs.Common.{◌∙◌, sym, ap, refl, subst, IfOk, IfErr, length}
use Rattle.px_calls.specs.Known.{Known}
use Rattle.px_calls.specs.Causes.{Refuses, upkeep_cause}
use Rattle.px_calls.specs.Calls.{DidWork}
use Rattle.px_turn.specs.Seats.{IsSeat, entered, seat_number, seen_by_seat}
use Rattle.px_seat.specs.Grown.{mine}
use Rattle.px_seat.proofs.Grows as grows
use Rattle.px_seat.proofs.Shares as shares
use Rattle.px_seat.proofs.seat_at.SeatAtSteps.upkeep.Goals as goal

pub leave-requires-clause-grown : goal.leave-requires-clause-grown
leave-requires-clause-grown g c =
    let me = c.args.self.now in
    let now = c.enter-guard.ensures.entered ∙ ap (λ (v : g.row.S.Denot). (g.S.Steps.known v).seen) (sym c.value-server.ensures.value) in
    grows.leaves g.S.Steps.known me.id (seat_number c.enter-guard.result.seat.now) (entered c.enter-guard.result) c.value-server.result.now c.act_as.new.self c.upkeep-reply.new.self
    (c.enter-guard.ensures.turn.1 ∙ me.is_seat.1) now c.act_as.ensures.known c.upkeep-reply.ensures.grew

pub invariant_of-self : goal.invariant_of-self
invariant_of-self g c =
    let me = c.args.self.now in
    let now = c.enter-guard.ensures.entered ∙ ap (λ (v : g.row.S.Denot). (g.S.Steps.known v).seen) (sym c.value-server.ensures.value) in
    let e = grows.enters g.S.Steps.known g.B.Based.base g.B.Based.damaged me.id (seat_number me.seat) (seen_by_seat me.seat) (entered c.enter-guard.result) c.value-server.result.now c.act_as.new.self
    me.is_seat.1 c.enter-guard.ensures.seen now c.act_as.ensures.known c.act_as.ensures.owned in
    record {
      named = me.named;
      is_seat = (subst (λ l. IsSeat l c.leave.new.self.1.0) (c.enter-guard.ensures.same_lock ∙ me.named) c.leave.ensures.seat.0, c.leave.ensures.seat.1 ∙ (c.enter-guard.ensures.turn.1 ∙ me.is_seat.1));
      counted = c.count.ensures.seen ∙ (c.seen-seen.ensures ∙ sym (ap (λ (k : Known). length k.seen) (grows.knows g.S.Steps.known g.B.Based.base g.B.Based.damaged me.id (seen_by_seat me.seat) c.act_as.new.self c.upkeep-reply.new.self (seen_by_seat c.leave.new.self.1.0) e c.upkeep-reply.ensures.grew c.leave.ensures.seen)));
    }

pub returns-clause-ok : goal.returns-clause-ok
returns-clause-ok g c =
    let me = c.args.self.now in
    let now = c.enter-guard.ensures.entered ∙ ap (λ (v : g.row.S.Denot). (g.S.Steps.known v).seen) (sym c.value-server.ensures.value) in
    let e = grows.enters g.S.Steps.known g.B.Based.base g.B.Based.damaged me.id (seat_number me.seat) (seen_by_seat me.seat) (entered c.enter-guard.result) c.value-server.result.now c.act_as.new.self
    me.is_seat.1 c.enter-guard.ensures.seen now c.act_as.ensures.known c.act_as.ensures.owned in
    let new = grows.knows g.S.Steps.known g.B.Based.base g.B.Based.damaged me.id (seen_by_seat me.seat) c.act_as.new.self c.upkeep-reply.new.self (seen_by_seat c.leave.new.self.1.0) e c.upkeep-reply.ensures.grew c.leave.ensures.seen in
    let old = mine me.id g.B.Based.base g.B.Based.damaged (seen_by_seat me.seat) in
    subst (λ (k : Known). IfOk c.upkeep-reply.result (DidWork old k)) (sym new) (grows.if_ok _ _ c.upkeep-reply.result (λ x h. shares.work-shared _ _ _ x refl e.passes h) c.upkeep-reply.ensures.ok)

pub returns-clause-refused : goal.returns-clause-refused
returns-clause-refused g c =
    let me = c.args.self.now in
    let now = c.enter-guard.ensures.entered ∙ ap (λ (v : g.row.S.Denot). (g.S.Steps.known v).seen) (sym c.value-server.ensures.value) in
    let e = grows.enters g.S.Steps.known g.B.Based.base g.B.Based.damaged me.id (seat_number me.seat) (seen_by_seat me.seat) (entered c.enter-guard.result) c.value-server.result.now c.act_as.new.self
    me.is_seat.1 c.enter-guard.ensures.seen now c.act_as.ensures.known c.act_as.ensures.owned in
    let new = grows.knows g.S.Steps.known g.B.Based.base g.B.Based.damaged me.id (seen_by_seat me.seat) c.act_as.new.self c.upkeep-reply.new.self (seen_by_seat c.leave.new.self.1.0) e c.upkeep-reply.ensures.grew c.leave.ensures.seen in
    let old = mine me.id g.B.Based.base g.B.Based.damaged (seen_by_seat me.seat) in
    subst (λ (k : Known). IfErr c.upkeep-reply.result (Refuses (upkeep_cause g.S.Steps.sound) old k)) (sym new) (grows.if_err _ _ c.upkeep-reply.result (λ f h. grows.refuses-shared (upkeep_cause g.S.Steps.sound) old (g.S.Steps.known c.act_as.new.self) (g.S.Steps.known c.upkeep-reply.new.self) f (shares.upkeep_shared g.S.Steps.sound) refl e.passes h) c.upkeep-reply.ensures.refused)

pub returns-clause-done : goal.returns-clause-done
returns-clause-done g c = grows.if_ok _ _ c.upkeep-reply.result (λ work h idle job. (c.upkeep-reply.new.self, h idle job, sym c.leave.ensures.seen)) c.upkeep-reply.ensures.done

pub returns-clause-still : goal.returns-clause-still
returns-clause-still g c = grows.if_ok _ _ c.upkeep-reply.result (λ x h alone. grows.not_alone alone) c.upkeep-reply.ensures.ok
