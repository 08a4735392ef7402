use Rattle.std.proofs.Common.{◌∙◌, sym, ap, refl, subst, IfOk, IfErr, length}
use Rattle.px_calls.specs.Known.{Known}
use Rattle.px_calls.specs.Causes.{Refuses, read_cause}
use Rattle.px_calls.specs.Calls.{DidLook}
use Rattle.px_calls.proofs.Points.{passes-open}
use Rattle.px_turn.specs.Seats.{IsSeat, entered, seat_number, seen_by_seat}
use Rattle.px_seat.specs.Grown.{mine}
use Rattle.px_seat.proofs.Grows as grows
use Rattle.px_seat.proofs.Shares as shares
use Rattle.px_seat.proofs.seat_at.SeatAtSteps.look.Goals as goal

pub look-reply-requires-clause-open : goal.look-reply-requires-clause-open
look-reply-requires-clause-open g c =
    let me = c.args.self.now in
    let now = c.enter-guard.ensures.entered ∙ ap (λ (v : g.row.S.Denot). (g.S.Steps.known v).seen) (sym c.value-server.ensures.value) in
    let e = grows.enters g.S.Steps.known g.B.Based.base g.B.Based.damaged me.id (seat_number me.seat) (seen_by_seat me.seat) (entered c.enter-guard.result) c.value-server.result.now c.act_as.new.self
    me.is_seat.1 c.enter-guard.ensures.seen now c.act_as.ensures.known c.act_as.ensures.owned in
    passes-open _ _ c.args.p.now e.passes c.requires.open

pub leave-requires-clause-grown : goal.leave-requires-clause-grown
leave-requires-clause-grown g c =
    let me = c.args.self.now in
    let now = c.enter-guard.ensures.entered ∙ ap (λ (v : g.row.S.Denot). (g.S.Steps.known v).seen) (sym c.value-server.ensures.value) in
    grows.leaves g.S.Steps.known me.id (seat_number c.enter-guard.result.seat.now) (entered c.enter-guard.result) c.value-server.result.now c.act_as.new.self c.look-reply.new.self
    (c.enter-guard.ensures.turn.1 ∙ me.is_seat.1) now c.act_as.ensures.known c.look-reply.ensures.grew

pub invariant_of-self : goal.invariant_of-self
invariant_of-self g c =
    let me = c.args.self.now in
    let now = c.enter-guard.ensures.entered ∙ ap (λ (v : g.row.S.Denot). (g.S.Steps.known v).seen) (sym c.value-server.ensures.value) in
    let e = grows.enters g.S.Steps.known g.B.Based.base g.B.Based.damaged me.id (seat_number me.seat) (seen_by_seat me.seat) (entered c.enter-guard.result) c.value-server.result.now c.act_as.new.self
    me.is_seat.1 c.enter-guard.ensures.seen now c.act_as.ensures.known c.act_as.ensures.owned in
    record {
      named = me.named;
      is_seat = (subst (λ l. IsSeat l c.leave.new.self.1.0) (c.enter-guard.ensures.same_lock ∙ me.named) c.leave.ensures.seat.0, c.leave.ensures.seat.1 ∙ (c.enter-guard.ensures.turn.1 ∙ me.is_seat.1));
      counted = c.count.ensures.seen ∙ (c.seen-seen.ensures ∙ sym (ap (λ (k : Known). length k.seen) (grows.knows g.S.Steps.known g.B.Based.base g.B.Based.damaged me.id (seen_by_seat me.seat) c.act_as.new.self c.look-reply.new.self (seen_by_seat c.leave.new.self.1.0) e c.look-reply.ensures.grew c.leave.ensures.seen)));
    }

pub returns-clause-ok : goal.returns-clause-ok
returns-clause-ok g c =
    let me = c.args.self.now in
    let now = c.enter-guard.ensures.entered ∙ ap (λ (v : g.row.S.Denot). (g.S.Steps.known v).seen) (sym c.value-server.ensures.value) in
    let e = grows.enters g.S.Steps.known g.B.Based.base g.B.Based.damaged me.id (seat_number me.seat) (seen_by_seat me.seat) (entered c.enter-guard.result) c.value-server.result.now c.act_as.new.self
    me.is_seat.1 c.enter-guard.ensures.seen now c.act_as.ensures.known c.act_as.ensures.owned in
    let new = grows.knows g.S.Steps.known g.B.Based.base g.B.Based.damaged me.id (seen_by_seat me.seat) c.act_as.new.self c.look-reply.new.self (seen_by_seat c.leave.new.self.1.0) e c.look-reply.ensures.grew c.leave.ensures.seen in
    let old = mine me.id g.B.Based.base g.B.Based.damaged (seen_by_seat me.seat) in
    subst (λ (k : Known). IfOk c.look-reply.result (DidLook g.S.Steps.sound old k c.args.p.now c.args.path.now c.args.after.now)) (sym new) (grows.if_ok _ _ c.look-reply.result (λ x h. shares.look-shared g.S.Steps.sound _ _ _ c.args.p.now c.args.path.now c.args.after.now x refl e.passes h) c.look-reply.ensures.ok)

pub returns-clause-refused : goal.returns-clause-refused
returns-clause-refused g c =
    let me = c.args.self.now in
    let now = c.enter-guard.ensures.entered ∙ ap (λ (v : g.row.S.Denot). (g.S.Steps.known v).seen) (sym c.value-server.ensures.value) in
    let e = grows.enters g.S.Steps.known g.B.Based.base g.B.Based.damaged me.id (seat_number me.seat) (seen_by_seat me.seat) (entered c.enter-guard.result) c.value-server.result.now c.act_as.new.self
    me.is_seat.1 c.enter-guard.ensures.seen now c.act_as.ensures.known c.act_as.ensures.owned in
    let new = grows.knows g.S.Steps.known g.B.Based.base g.B.Based.damaged me.id (seen_by_seat me.seat) c.act_as.new.self c.look-reply.new.self (seen_by_seat c.leave.new.self.1.0) e c.look-reply.ensures.grew c.leave.ensures.seen in
    let old = mine me.id g.B.Based.base g.B.Based.damaged (seen_by_seat me.seat) in
    subst (λ (k : Known). IfErr c.look-reply.result (Refuses (read_cause g.S.Steps.sound) old k)) (sym new) (grows.if_err _ _ c.look-reply.result (λ f h. grows.refuses-shared (read_cause g.S.Steps.sound) old (g.S.Steps.known c.act_as.new.self) (g.S.Steps.known c.look-reply.new.self) f (shares.read_shared g.S.Steps.sound) refl e.passes h) c.look-reply.ensures.refused)

pub returns-clause-looked_each : goal.returns-clause-looked_each
returns-clause-looked_each g c = grows.if_ok _ _ c.look-reply.result (λ x h alone. grows.not_alone alone) c.look-reply.ensures.ok

pub returns-clause-doubts : goal.returns-clause-doubts
returns-clause-doubts g c = grows.if_ok _ _ c.look-reply.result (λ x h alone. grows.not_alone alone) c.look-reply.ensures.ok
