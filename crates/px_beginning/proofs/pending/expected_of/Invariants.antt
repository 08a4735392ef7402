use Rattle.std.proofs.Common.{◌≡◌, map, take}
use Rattle.px_indexrow.specs.Form.{FitsRowState}
use Rattle.px_trail.specs.Trail.{table_shape}
use Rattle.px_group.specs.Group.{batch_in}
use Rattle.px_phases.specs.Batch.{pending_state}
use Rattle.px_beginning.proofs.pending.expected_of.Given as goal

abbrev pub invariant-loop-begun : goal.invariant-loop-begun
invariant-loop-begun l = record {
  state : l.state ≡ pending_state (table_shape l.table) l.row l.fn.state (map batch_in (take l.begun-index l.batches));
  fits : FitsRowState l.table l.state;
}
