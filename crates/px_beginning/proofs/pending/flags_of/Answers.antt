use Rattle.std.proofs.Common.{◌≡◌, ◌∙◌, ◌++◌, ◌∷◌, [], List, map, take, ap, sym}
use Rattle.std.specs.Prelude.{is_some}
use Rattle.std.specs.List.{list_any}
use Rattle.std.proofs.lemmas.List.{take_all}
use Rattle.px_phases.specs.Batch.{left_in}
use Rattle.px_trail.specs.Batches.{rows_of}
use Rattle.px_values.specs.declared.row.Value.{Value}
use Rattle.px_beginning.proofs.Lists.{pending_any, rows_more}
use Rattle.px_beginning.proofs.pending.flags_of.Goals as goal

pub loop-change-preserved : goal.loop-change-preserved
loop-change-preserved c =
    let f = λ (r : List Value). list_any (λ m. is_some (left_in m.batch r)) c.args.batches.now in
    let one = c.is_pending.ensures ∙ ap f c.as_slice.ensures in
    c.in_ok-push.ensures.items ∙ ((λ i. c.loop-change.invariant i ++ one i ∷ []) ∙ sym (rows_more f c.args.changes.now c.loop-change.change-index c.change-item.result c.loop-change-test.true c.change-item.is))

pub returns : goal.returns
returns c =
    let all : take c.loop-change.change-index c.args.changes.now ≡ c.args.changes.now = take_all c.loop-change.change-index c.args.changes.now c.loop-change-test.false in
    c.loop-change.invariant ∙ (λ i. map (λ r. pending_any c.args.batches.now r i) (rows_of (all i)))
