use Rattle.std.proofs.Common.{◌∙◌, ap, sym, subst}
use Rattle.px_indexrow.specs.Form.{FitsRowState}
use Rattle.px_openbatches.specs.Pending.{applied_if}
use Rattle.px_phases.proofs.Assigned.{all_at}
use Rattle.px_phases.proofs.Left.{applied_fits}
use Rattle.px_phases.specs.Batch.{AllFit, BatchData, left_in, pending_state}
use Rattle.px_trail.specs.Trail.{table_shape}
use Rattle.px_values.specs.States.{RowState}
use Rattle.px_group.specs.declared.group.Begun.{Begun}
use Rattle.px_beginning.proofs.Lists.{state_more}
use Rattle.std.proofs.Common.{List}
use Rattle.px_beginning.proofs.pending.expected_of.Goals as goal

pub loop-begun-preserved : goal.loop-begun-preserved
loop-begun-preserved c =
    let t = c.args.table.now in
    let m = c.begun-item.result in
    let fit = all_at (λ (x : Begun). AllFit t x.batch.changes) c.args.batches.now c.loop-begun.begun-index m c.requires.fit c.loop-begun-test.true c.begun-item.is in
    let one = c.in_ok-state.ensures ∙ ap (λ (l : List BatchData). pending_state (table_shape t) c.args.row.now c.loop-begun.state l) c.from_ref.ensures.value in
    let next = state_more (table_shape t) c.args.row.now c.args.state c.args.batches.now c.loop-begun.begun-index m c.loop-begun-test.true c.begun-item.is in
    record {
      state = one ∙ (ap (λ (o : RowState). applied_if (table_shape t) c.args.row.now o (left_in m.batch c.args.row.now)) c.loop-begun.invariant.state ∙ sym next);
      fits = subst (FitsRowState t) (sym one) (applied_fits t c.args.row.now c.loop-begun.state m.batch c.requires.table fit c.loop-begun.invariant.fits);
    }
