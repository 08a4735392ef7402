use Rattle.px_memstore.specs.inner.Pieces.{IsSame}
use Rattle.px_memstore.proofs.pieces.Pieces.spread.Given as goal

abbrev pub invariant-loop-cut : goal.invariant-loop-cut
invariant-loop-cut l = IsSame l.fn.self l.self
