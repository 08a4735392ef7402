use Rattle.std.proofs.Common.{◌≡◌, List, true, false, sym, ◌∙◌, ap}
use Rattle.std.specs.Ordering.{is_eq}
use Rattle.px_values.specs.declared.change.Change.{Change}
use Rattle.px_values.specs.declared.row.Value.{Value}
use Rattle.px_values.specs.Order.{row_order}
use Rattle.px_held.proofs.Finding.{none-more, none-yet, place-is}
use Rattle.px_held.proofs.holding.place_of.Goals as goal

pub loop-i-init : goal.loop-i-init
loop-i-init c = none-yet c.args.row.now

pub returns-then-same_row : goal.returns-then-same_row
returns-then-same_row c =
    let same : is_eq (row_order c.index-held-i.result.row c.args.row.now) ≡ true = ap (λ (x : Change). is_eq (row_order x.row c.args.row.now)) c.index-held-i.is ∙ (ap (λ (l : List Value). is_eq (row_order l c.args.row.now)) (sym c.as_slice.ensures) ∙ (sym c.same_row.ensures ∙ c.if-same_row.true)) in
    place-is c.args.held.now c.loop-i.i c.index-held-i.result c.args.row.now c.loop-i-test.true c.index-held-i.is c.loop-i.invariant same

pub loop-i-preserved : goal.loop-i-preserved
loop-i-preserved c =
    let other : is_eq (row_order c.index-held-i.result.row c.args.row.now) ≡ false = ap (λ (x : Change). is_eq (row_order x.row c.args.row.now)) c.index-held-i.is ∙ (ap (λ (l : List Value). is_eq (row_order l c.args.row.now)) (sym c.as_slice.ensures) ∙ (sym c.same_row.ensures ∙ c.if-same_row.false)) in
    none-more c.args.held.now c.loop-i.i c.index-held-i.result c.args.row.now c.loop-i-test.true c.index-held-i.is c.loop-i.invariant other
