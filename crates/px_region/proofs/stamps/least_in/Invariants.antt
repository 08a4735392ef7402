use Rattle.std.proofs.Common.{take}
use Rattle.px_memstore.specs.Pieces.{chained}
use Rattle.px_region.specs.Stamps.{AreStampsFrom}
use Rattle.px_region.proofs.stamps.least_in.Given as goal

abbrev pub invariant-loop-at : goal.invariant-loop-at
invariant-loop-at l = AreStampsFrom l.least (chained (take l.at l.store.pieces))
