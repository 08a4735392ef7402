use Rattle.px_indexed.proofs.Compacted.{compacted_from}
use Rattle.px_indexed.proofs.law_compacted.Goals as goal

pub returns : goal.returns
returns c = compacted_from
