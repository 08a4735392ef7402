use Rattle.px_recovery.proofs.Numbered.{index_number, rows_number}
use Rattle.px_recovery.proofs.law_numbers.Goals as goal

pub returns : goal.returns
returns c = record { rows = rows_number; index = index_number }
