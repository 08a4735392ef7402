use Rattle.px_indexed.proofs.Rows.{rows_kept}
use Rattle.px_indexed.proofs.law_rows.Goals as goal

pub returns : goal.returns
returns c = rows_kept
