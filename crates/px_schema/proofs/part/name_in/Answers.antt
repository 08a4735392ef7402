use Rattle.std.proofs.Common.{◌+◌, ℕ, subst, sym}
use Rattle.px_pieces.specs.Taking.{IsStoppedAt, IsTakenAt}
use Rattle.px_schema.specs.Texts.{text}
use Rattle.px_schema.specs.Parts.{name_piece}
use Rattle.px_schema.proofs.Joins.{exit_wrong}
use Rattle.px_schema.proofs.PartSteps.{name_short, name_taken, name_wrong}
use Rattle.px_schema.proofs.part.name_in.Goals as goal

pub returns-in_err-size : goal.returns-in_err-size
returns-in_err-size c =
    exit_wrong name_piece c.args.bytes.now c.args.at c.from_residual.result c.in_err-size.field-0.0.place c.from_residual.ensures.1 (name_short c.args.bytes.now c.args.at c.in_err-size.field-0.0.place c.in_err-size.ensures.stopped)

pub returns-in_err-text : goal.returns-in_err-text
returns-in_err-text c =
    exit_wrong name_piece c.args.bytes.now c.args.at c.from_residual-in_err-text.result c.in_err-text.field-0.0.place c.from_residual-in_err-text.ensures.1
    (name_wrong c.args.bytes.now c.args.at c.in_ok-size.size c.in_err-text.field-0.0.place c.in_ok-size.ensures.taken
    (subst (λ (n : ℕ). IsStoppedAt (text n) c.args.bytes.now (c.args.at + 1) c.in_err-text.field-0.0.place) c.from.ensures c.in_err-text.ensures.stopped))

pub returns : goal.returns
returns c =
    let second : IsTakenAt (text c.in_ok-size.size) c.args.bytes.now (c.args.at + 1) c.in_ok-text.text.now (c.args.at + 1 + c.in_ok-size.size) =
    subst (λ (n : ℕ). IsTakenAt (text n) c.args.bytes.now (c.args.at + 1) c.in_ok-text.text.now (c.args.at + 1 + n)) c.from.ensures c.in_ok-text.ensures.taken in
    subst (λ l. IsTakenAt name_piece c.args.bytes.now c.args.at l (c.args.at + 1 + c.from-2.result)) (sym c.in_ok-name.ensures.text)
    (subst (λ (n : ℕ). IsTakenAt name_piece c.args.bytes.now c.args.at c.in_ok-text.text.now (c.args.at + 1 + n)) (sym c.from-2.ensures) (name_taken c.args.bytes.now c.args.at c.in_ok-size.size c.in_ok-text.text.now c.in_ok-size.ensures.taken second))
