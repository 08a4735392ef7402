use Rattle.px_batchcells.proofs.RowsMade.{closes_made, marks_made}
use Rattle.px_batchcells.proofs.law_rows_made.Goals as goal

pub returns : goal.returns
returns c = record {
  marks = marks_made;
  closes = closes_made;
}
