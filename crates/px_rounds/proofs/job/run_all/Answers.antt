use Rattle.std.proofs.Common.{rules, ◌≡◌, ◌∙◌, length, refl, sym, ap, subst}
use Rattle.std.specs.Prelude.{slice_get}
use Rattle.std.proofs.Crossing.{crosses}
use Rattle.std.proofs.lemmas.Option.{slice_get_read}
use denote.Param.Send.{sendable}
use Rattle.px_turn.specs.Seats.{seen_by_seat}
use Rattle.px_seat.specs.Grown.{mine}
use Rattle.px_rounds.specs.declared.job.Job.{Job}
use Rattle.px_rounds.specs.inner.Jobs.{RanStage}
use Rattle.px_rounds.proofs.Lists.{get_lt, restored}
use Rattle.px_rounds.proofs.Places.{get_or_is}
use Rattle.px_rounds.proofs.job.run_all.Goals as goal

pub for_each_mut-requires-clause-accepts : goal.for_each_mut-requires-clause-accepts
for_each_mut-requires-clause-accepts g c = λ κs bounds i p low is.
    (c.requires.ready i p.now (ap (λ l. slice_get l i) (sym c.as_mut_slice.ensures.value) ∙ slice_get_read c.as_mut_slice.result.now (length c.as_mut_slice.result.now) i p.now refl low is), (search (sendable, crosses) depth 40, search (sendable, crosses) depth 40, search (sendable, crosses) depth 40, search (sendable, crosses) depth 40, search (sendable, crosses) depth 40, search (sendable, crosses) depth 40, search (sendable, crosses) depth 40))

pub returns-clause-each : goal.returns-clause-each
returns-clause-each g c = λ k a b ea eb.
    let value = c.as_mut_slice.ensures.value in
    let low = get_lt _ a k (ap (λ l. slice_get l k) value ∙ ea) in
    let h = (c.for_each_mut.ensures k a low).1 in
    let call = h.call in
    let old : h.argument.now ≡ a = h.argument_is ∙ get_or_is _ k a a (ap (λ l. slice_get l k) value ∙ ea) in
    let count : length c.for_each_mut.new.s ≡ length c.args.jobs.now.items = search rules in
    let len : c.args.jobs.now.len ≡ length c.args.jobs.now.items = search rules in
    let back = ap (λ l. slice_get l k) (sym (restored c.for_each_mut.new.s c.args.jobs.now.items c.args.jobs.now.len count len)) ∙ eb in
    let new : h.after_call.now ≡ b = h.left ∙ get_or_is c.for_each_mut.new.s k a b back in
    let P : Job g.row.R.Denot g.row.S.Denot g.row.N.Denot g.row.B.Denot g.N.LockNamed × Job g.row.R.Denot g.row.S.Denot g.row.N.Denot g.row.B.Denot g.N.LockNamed → Type 0 = λ q.
    RanStage g.S.Steps.sound q.0.number (mine q.0.at.id g.B.Based.base g.B.Based.damaged (seen_by_seat q.0.at.seat)) q.0.stage (mine q.1.at.id g.B.Based.base g.B.Based.damaged (seen_by_seat q.1.at.seat)) q.1.stage in
    subst P (λ i. (old i, new i)) call
