use Rattle.std.proofs.Common.{take}
use Rattle.px_cellshapes.specs.Rows.{AreRightRows}
use Rattle.px_memstore.specs.Pieces.{chained}
use Rattle.px_region.specs.Region.{pieces_of}
use Rattle.px_opening.proofs.parts.test_rows.Given as goal

abbrev pub invariant-loop-at : goal.invariant-loop-at
invariant-loop-at l = AreRightRows l.table (chained (take l.at (pieces_of l.region)))
