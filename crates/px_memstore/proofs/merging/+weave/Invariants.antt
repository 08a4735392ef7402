use Rattle.std.proofs.Common.{length}
use Rattle.px_memstore.proofs.merging.+weave.Given as goal

abbrev pub decreases-weave : goal.decreases-weave
decreases-weave l = length l.cells.now
