use Rattle.std.proofs.Common.{take}
use Rattle.px_cellshapes.specs.Keys.{AreRightKeys}
use Rattle.px_memstore.specs.Pieces.{chained}
use Rattle.px_region.specs.Region.{pieces_of}
use Rattle.px_opening.proofs.parts.test_keys.Given as goal

abbrev pub invariant-loop-at : goal.invariant-loop-at
invariant-loop-at l = AreRightKeys l.table l.index (chained (take l.at (pieces_of l.region)))
