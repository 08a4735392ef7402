use Rattle.px_beginning.proofs.Expected.{counted_on}
use Rattle.px_beginning.proofs.laws.law_reads.Goals as goal

pub returns : goal.returns
returns c = counted_on
