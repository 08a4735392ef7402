use Rattle.std.proofs.Common.{◌∙◌, sym, ap, refl, subst, IfOk, IfErr, length}
use Rattle.px_calls.specs.Known.{Known}
use Rattle.px_calls.specs.Causes.{Refuses, begin_cause}
use Rattle.px_calls.specs.Calls.{DidBegin}
use Rattle.px_calls.proofs.Stays.{passes-fits}
use Rattle.px_turn.specs.Seats.{IsSeat, entered, seat_number, seen_by_seat}
use Rattle.px_seat.specs.Grown.{mine}
use Rattle.px_seat.proofs.Grows as grows
use Rattle.px_seat.proofs.Shares as shares
use Rattle.px_seat.proofs.seat_at.SeatAtSteps.begin.Goals as goal

pub begin-reply-requires-clause-fits : goal.begin-reply-requires-clause-fits
begin-reply-requires-clause-fits g c =
    let me = c.args.self.now in
    let now = c.enter-guard.ensures.entered ∙ ap (λ (v : g.row.S.Denot). (g.S.Steps.known v).seen) (sym c.value-server.ensures.value) in
    let e = grows.enters g.S.Steps.known g.B.Based.base g.B.Based.damaged me.id (seat_number me.seat) (seen_by_seat me.seat) (entered c.enter-guard.result) c.value-server.result.now c.act_as.new.self
    me.is_seat.1 c.enter-guard.ensures.seen now c.act_as.ensures.known c.act_as.ensures.owned in
    passes-fits _ _ c.args.table.0 c.args.changes.now e.passes c.requires.fits

pub leave-requires-clause-grown : goal.leave-requires-clause-grown
leave-requires-clause-grown g c =
    let me = c.args.self.now in
    let now = c.enter-guard.ensures.entered ∙ ap (λ (v : g.row.S.Denot). (g.S.Steps.known v).seen) (sym c.value-server.ensures.value) in
    grows.leaves g.S.Steps.known me.id (seat_number c.enter-guard.result.seat.now) (entered c.enter-guard.result) c.value-server.result.now c.act_as.new.self c.begin-reply.new.self
    (c.enter-guard.ensures.turn.1 ∙ me.is_seat.1) now c.act_as.ensures.known c.begin-reply.ensures.grew

pub invariant_of-self : goal.invariant_of-self
invariant_of-self g c =
    let me = c.args.self.now in
    let now = c.enter-guard.ensures.entered ∙ ap (λ (v : g.row.S.Denot). (g.S.Steps.known v).seen) (sym c.value-server.ensures.value) in
    let e = grows.enters g.S.Steps.known g.B.Based.base g.B.Based.damaged me.id (seat_number me.seat) (seen_by_seat me.seat) (entered c.enter-guard.result) c.value-server.result.now c.act_as.new.self
    me.is_seat.1 c.enter-guard.ensures.seen now c.act_as.ensures.known c.act_as.ensures.owned in
    record {
      named = me.named;
      is_seat = (subst (λ l. IsSeat l c.leave.new.self.1.0) (c.enter-guard.ensures.same_lock ∙ me.named) c.leave.ensures.seat.0, c.leave.ensures.seat.1 ∙ (c.enter-guard.ensures.turn.1 ∙ me.is_seat.1));
      counted = c.count.ensures.seen ∙ (c.seen-seen.ensures ∙ sym (ap (λ (k : Known). length k.seen) (grows.knows g.S.Steps.known g.B.Based.base g.B.Based.damaged me.id (seen_by_seat me.seat) c.act_as.new.self c.begin-reply.new.self (seen_by_seat c.leave.new.self.1.0) e c.begin-reply.ensures.grew c.leave.ensures.seen)));
    }

pub returns-clause-ok : goal.returns-clause-ok
returns-clause-ok g c =
    let me = c.args.self.now in
    let now = c.enter-guard.ensures.entered ∙ ap (λ (v : g.row.S.Denot). (g.S.Steps.known v).seen) (sym c.value-server.ensures.value) in
    let e = grows.enters g.S.Steps.known g.B.Based.base g.B.Based.damaged me.id (seat_number me.seat) (seen_by_seat me.seat) (entered c.enter-guard.result) c.value-server.result.now c.act_as.new.self
    me.is_seat.1 c.enter-guard.ensures.seen now c.act_as.ensures.known c.act_as.ensures.owned in
    let new = grows.knows g.S.Steps.known g.B.Based.base g.B.Based.damaged me.id (seen_by_seat me.seat) c.act_as.new.self c.begin-reply.new.self (seen_by_seat c.leave.new.self.1.0) e c.begin-reply.ensures.grew c.leave.ensures.seen in
    let old = mine me.id g.B.Based.base g.B.Based.damaged (seen_by_seat me.seat) in
    subst (λ (k : Known). IfOk c.begin-reply.result (DidBegin g.S.Steps.sound old k c.args.table c.args.changes.now)) (sym new) (grows.if_ok _ _ c.begin-reply.result (λ x h. shares.begin-shared g.S.Steps.sound _ _ _ c.args.table c.args.changes.now x refl e.passes h) c.begin-reply.ensures.ok)

pub returns-clause-refused : goal.returns-clause-refused
returns-clause-refused g c =
    let me = c.args.self.now in
    let now = c.enter-guard.ensures.entered ∙ ap (λ (v : g.row.S.Denot). (g.S.Steps.known v).seen) (sym c.value-server.ensures.value) in
    let e = grows.enters g.S.Steps.known g.B.Based.base g.B.Based.damaged me.id (seat_number me.seat) (seen_by_seat me.seat) (entered c.enter-guard.result) c.value-server.result.now c.act_as.new.self
    me.is_seat.1 c.enter-guard.ensures.seen now c.act_as.ensures.known c.act_as.ensures.owned in
    let new = grows.knows g.S.Steps.known g.B.Based.base g.B.Based.damaged me.id (seen_by_seat me.seat) c.act_as.new.self c.begin-reply.new.self (seen_by_seat c.leave.new.self.1.0) e c.begin-reply.ensures.grew c.leave.ensures.seen in
    let old = mine me.id g.B.Based.base g.B.Based.damaged (seen_by_seat me.seat) in
    subst (λ (k : Known). IfErr c.begin-reply.result (Refuses (begin_cause g.S.Steps.sound c.args.table.0 c.args.changes.now) old k)) (sym new) (grows.if_err _ _ c.begin-reply.result (λ f h. grows.refuses-shared (begin_cause g.S.Steps.sound c.args.table.0 c.args.changes.now) old (g.S.Steps.known c.act_as.new.self) (g.S.Steps.known c.begin-reply.new.self) f (shares.begin_shared g.S.Steps.sound c.args.table.0 c.args.changes.now) refl e.passes h) c.begin-reply.ensures.refused)

pub returns-clause-few : goal.returns-clause-few
returns-clause-few g c = grows.if_ok _ _ c.begin-reply.result (λ x h alone. grows.not_alone alone) c.begin-reply.ensures.ok
