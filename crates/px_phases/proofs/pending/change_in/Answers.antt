use Rattle.std.proofs.Common.{◌≡◌, ◌∙◌, List, true, false, ap, sym}
use Rattle.std.specs.Ordering.{is_eq}
use Rattle.px_values.specs.Order.{row_order}
use Rattle.px_values.specs.declared.row.Value.{Value}
use Rattle.px_phases.proofs.Left.{found_at, found_nowhere, passed_at}
use Rattle.px_phases.proofs.pending.change_in.Goals as goal

pub returns-then-is_same : goal.returns-then-is_same
returns-then-is_same c =
    let same : is_eq (row_order c.change-item.result.row c.args.row.now) ≡ true = ap (λ (r : List Value). is_eq (row_order r c.args.row.now)) (sym c.as_slice.ensures) ∙ (sym c.is_same.ensures ∙ c.if-is_same.true) in
    sym (c.loop-change.invariant ∙ found_at c.args.changes.now c.args.row.now c.loop-change.change-index c.change-item.result c.loop-change-test.true c.change-item.is same)

pub loop-change-preserved : goal.loop-change-preserved
loop-change-preserved c =
    let differs : is_eq (row_order c.change-item.result.row c.args.row.now) ≡ false = ap (λ (r : List Value). is_eq (row_order r c.args.row.now)) (sym c.as_slice.ensures) ∙ (sym c.is_same.ensures ∙ c.if-is_same.false) in
    c.loop-change.invariant ∙ passed_at c.args.changes.now c.args.row.now c.loop-change.change-index c.change-item.result c.loop-change-test.true c.change-item.is differs

pub returns : goal.returns
returns c = sym (c.loop-change.invariant ∙ found_nowhere c.args.changes.now c.args.row.now c.loop-change.change-index c.loop-change-test.false)
