use Rattle.px_batchcells.proofs.PendingTyped.{change_typed, expected_typed}
use Rattle.px_batchcells.proofs.RowsTyped.{spelled_typed}
use Rattle.px_batchcells.proofs.law_typed.Goals as goal

pub returns : goal.returns
returns c = record { spelled = spelled_typed; change = change_typed; expected = expected_typed }
