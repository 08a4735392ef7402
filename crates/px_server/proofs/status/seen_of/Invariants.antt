use Rattle.std.proofs.Common.{take}
use Rattle.px_cells.specs.Visible.{IsView}
use Rattle.px_memstore.specs.Pieces.{chained}
use Rattle.px_region.specs.Region.{pieces_of}
use Rattle.px_server.proofs.status.seen_of.Given as goal

abbrev pub invariant-loop-at : goal.invariant-loop-at
invariant-loop-at l = IsView (chained (take l.at (pieces_of l.region))) 18446744073709551615 l.seen.items
