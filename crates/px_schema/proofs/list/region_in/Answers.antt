use Rattle.std.proofs.Common.{◌≡◌, ◌+◌, ℕ, subst, sym, ◌∙◌, arith}
use Rattle.px_pieces.specs.Taking.{IsStoppedAt, IsTakenAt}
use Rattle.px_pieces.specs.Bytes.{bytes as any_bytes}
use Rattle.px_schema.specs.Parts.{id, region}
use Rattle.px_schema.proofs.Joins.{exit_wrong}
use Rattle.px_schema.proofs.ListSteps.{key_cut, key_short, key_taken, region_first, region_second, region_taken}
use Rattle.px_schema.proofs.list.region_in.Goals as goal

pub returns-in_err-number : goal.returns-in_err-number
unfolding id
returns-in_err-number c =
    exit_wrong (region c.args.most) c.args.bytes.now c.args.at c.from_residual.result c.in_err-number.field-0.0.place c.from_residual.ensures.1
    (region_first c.args.bytes.now c.args.at c.args.most c.in_err-number.field-0.0.place c.in_err-number.ensures.stopped)

pub returns-in_err-size : goal.returns-in_err-size
unfolding id
returns-in_err-size c =
    exit_wrong (region c.args.most) c.args.bytes.now c.args.at c.from_residual-in_err-size.result c.in_err-size.field-0.0.place c.from_residual-in_err-size.ensures.1
    (region_second c.args.bytes.now c.args.at c.args.most c.in_ok-number.field-0 c.in_err-size.field-0.0.place c.in_ok-number.ensures.taken
    (key_short c.args.bytes.now (c.args.at + 4) c.args.most c.in_err-size.field-0.0.place c.in_err-size.ensures.stopped))

pub returns-in_err-key : goal.returns-in_err-key
unfolding id
returns-in_err-key c =
    let six : c.args.at + 6 ≡ c.args.at + 4 + 2 = omega arith in
    exit_wrong (region c.args.most) c.args.bytes.now c.args.at c.from_residual-in_err-key.result c.in_err-key.field-0.0.place c.from_residual-in_err-key.ensures.1
    (region_second c.args.bytes.now c.args.at c.args.most c.in_ok-number.field-0 c.in_err-key.field-0.0.place c.in_ok-number.ensures.taken
    (key_cut c.args.bytes.now (c.args.at + 4) c.args.most c.in_ok-size.size c.in_err-key.field-0.0.place c.in_ok-size.ensures.taken
    (subst (λ (p : ℕ). IsStoppedAt (any_bytes c.in_ok-size.size) c.args.bytes.now p c.in_err-key.field-0.0.place) six c.in_err-key.ensures.stopped)))

pub returns : goal.returns
unfolding id
returns c =
    let six : c.args.at + 6 ≡ c.args.at + 4 + 2 = omega arith in
    let end : c.args.at + 6 + c.in_ok-size.size ≡ c.args.at + 4 + 2 + c.in_ok-size.size = omega arith in
    let key = subst (λ (p : ℕ). IsTakenAt (any_bytes c.in_ok-size.size) c.args.bytes.now p c.in_ok-key.key.now (p + c.in_ok-size.size)) six c.in_ok-key.ensures.taken in
    subst (λ l. IsTakenAt (region c.args.most) c.args.bytes.now c.args.at (record { number = c.in_ok-number.field-0; least_key = l }) (c.args.at + 6 + c.in_ok-size.size)) (sym (c.of-least_key.ensures ∙ c.in_ok-from_slice.ensures.items))
    (subst (λ (e : ℕ). IsTakenAt (region c.args.most) c.args.bytes.now c.args.at (record { number = c.in_ok-number.field-0; least_key = c.in_ok-key.key.now }) e) (sym end)
    (region_taken c.args.bytes.now c.args.at c.args.most c.in_ok-number.field-0 c.in_ok-key.key.now (c.args.at + 4 + 2 + c.in_ok-size.size) c.in_ok-number.ensures.taken
    (key_taken c.args.bytes.now (c.args.at + 4) c.args.most c.in_ok-size.size c.in_ok-key.key.now c.in_ok-size.ensures.taken key)))
