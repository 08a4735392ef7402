use Rattle.std.proofs.Common.{◌≡◌, length}
use Rattle.px_memstore.specs.inner.Pieces.{IsSame}
use Rattle.px_memstore.proofs.pieces.Pieces.loosen.Given as goal

abbrev pub invariant-loop-at : goal.invariant-loop-at
invariant-loop-at l = record {
  same : IsSame l.fn.self l.self;
  others : length l.self.others.items ≡ length l.fn.self.others.items;
}
