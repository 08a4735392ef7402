use Rattle.std.proofs.Common.{◌≡◌, take}
use Rattle.px_memstore.specs.Pieces.{chained}
use Rattle.px_region.specs.Region.{pieces_of}
use Rattle.px_tablefolder.specs.Folder.{last_cell}
use Rattle.px_opening.proofs.heights.last_of.Given as goal

abbrev pub invariant-loop-at : goal.invariant-loop-at
invariant-loop-at l = l.last ≡ last_cell (chained (take l.at (pieces_of l.region)))
