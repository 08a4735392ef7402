use Rattle.px_batchcells.proofs.RowsTyped.{compacted_typed, nothing_typed, opened_typed, written_typed}
use Rattle.px_batchcells.proofs.law_stays_typed.Goals as goal

pub returns : goal.returns
returns c = record {
  nothing = nothing_typed;
  written = written_typed;
  compacted = compacted_typed;
  opened = opened_typed;
}
