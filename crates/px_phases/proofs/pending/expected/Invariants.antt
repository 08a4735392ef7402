use Rattle.std.proofs.Common.{◌≡◌, take}
use Rattle.px_indexrow.specs.Form.{FitsRowState}
use Rattle.px_trail.specs.Trail.{table_shape}
use Rattle.px_phases.specs.Batch.{pending_state}
use Rattle.px_phases.proofs.pending.expected.Given as goal

abbrev pub invariant-loop-batch : goal.invariant-loop-batch
invariant-loop-batch l = record {
  state : l.state ≡ pending_state (table_shape l.table) l.row l.fn.state (take l.batch-index l.batches);
  fits : FitsRowState l.table l.state;
}
