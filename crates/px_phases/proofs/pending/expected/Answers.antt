use Rattle.std.proofs.Common.{◌∙◌, ap, sym, subst}
use Rattle.px_indexrow.specs.Form.{FitsRowState}
use Rattle.px_openbatches.specs.Pending.{applied_if}
use Rattle.px_trail.specs.Trail.{table_shape}
use Rattle.px_values.specs.States.{RowState}
use Rattle.px_phases.specs.Batch.{AllFit, BatchData, left_in}
use Rattle.px_phases.proofs.Assigned.{all_at}
use Rattle.px_phases.proofs.Left.{applied_fits, state_next}
use Rattle.px_phases.proofs.pending.expected.Goals as goal

pub after-requires-clause-fit : goal.after-requires-clause-fit
after-requires-clause-fit c = all_at (λ (b : BatchData). AllFit c.args.table.now b.changes) c.args.batches.now c.loop-batch.batch-index c.batch-item.result c.requires.fit c.loop-batch-test.true c.batch-item.is

pub loop-batch-preserved : goal.loop-batch-preserved
loop-batch-preserved c =
    let t = c.args.table.now in
    let fit = all_at (λ (b : BatchData). AllFit t b.changes) c.args.batches.now c.loop-batch.batch-index c.batch-item.result c.requires.fit c.loop-batch-test.true c.batch-item.is in
    let next = state_next (table_shape t) c.args.row.now c.args.state c.args.batches.now c.loop-batch.batch-index c.batch-item.result c.loop-batch-test.true c.batch-item.is in
    record {
      state = c.in_ok-state.ensures ∙ (ap (λ (o : RowState). applied_if (table_shape t) c.args.row.now o (left_in c.batch-item.result c.args.row.now)) c.loop-batch.invariant.state ∙ sym next);
      fits = subst (FitsRowState t) (sym c.in_ok-state.ensures) (applied_fits t c.args.row.now c.loop-batch.state c.batch-item.result c.requires.table fit c.loop-batch.invariant.fits);
    }
