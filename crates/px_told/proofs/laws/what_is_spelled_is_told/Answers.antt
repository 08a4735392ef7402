use Rattle.px_told.proofs.Cells.{block_is, written_are}
use Rattle.px_told.proofs.laws.what_is_spelled_is_told.Goals as goal

pub returns : goal.returns
returns c = record { cells = written_are; block = block_is }
