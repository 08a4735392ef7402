use Rattle.px_shown.proofs.Points.{look_rows}
use Rattle.px_shown.proofs.RowLooks.{rows_shown}
use Rattle.px_shown.proofs.laws.law_rows_shown.Goals as goal

pub returns : goal.returns
returns c = record {
  keys = rows_shown;
  rows = λ t right b index es v kept rows p of low. look_rows t right b index es v kept rows p of low;
}
