use Rattle.std.proofs.Common.{arith, ap, sym, ◌∙◌, ◌≡◌, ◌<◌, true, get_or, length, List}
use Rattle.std.proofs.lemmas.List.{get_or_read}
use Rattle.std.specs.Ordering.{is_eq}
use Rattle.px_values.specs.declared.row.Value.{Value}
use Rattle.px_values.specs.declared.change.Change.{Change}
use Rattle.px_values.specs.Order.{row_order}
use Rattle.px_phases.proofs.Flagging.{no_change, none_named, one_named}
use Rattle.px_phases.proofs.flags.names.Goals as goal

pub returns-then-is_same : goal.returns-then-is_same
returns-then-is_same c =
    let n : length c.as_slice-change-items.result.now ≡ length c.args.changes.now = ap (λ (l : List Change). length l) c.as_slice-change-items.ensures in
    let l : c.loop-change.change-index < length c.as_slice-change-items.result.now = omega arith in
    let item : c.change-item.result ≡ get_or c.args.changes.now c.loop-change.change-index no_change = get_or_read c.as_slice-change-items.result.now c.loop-change.change-index c.change-item.result l c.change-item.is no_change ∙ ap (λ (l : List Change). get_or l c.loop-change.change-index no_change) c.as_slice-change-items.ensures in
    let same : is_eq (row_order (get_or c.args.changes.now c.loop-change.change-index no_change).row c.args.row.now) ≡ true =
    ap (λ (x : Change). is_eq (row_order x.row c.args.row.now)) (sym item) ∙ (ap (λ (x : List Value). is_eq (row_order x c.args.row.now)) (sym c.as_slice.ensures) ∙ (sym c.is_same.ensures ∙ c.if-is_same.true)) in
    sym (one_named c.args.row.now c.args.changes.now c.loop-change.change-index (omega arith) same)

pub returns : goal.returns
returns c =
    let n : length c.as_slice-change-items.result.now ≡ length c.args.changes.now = ap (λ (l : List Change). length l) c.as_slice-change-items.ensures in
    sym (none_named c.args.row.now c.args.changes.now (λ k l. c.loop-change.invariant k (let m = c.loop-change-test.false in omega arith)))
