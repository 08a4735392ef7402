use Rattle.std.proofs.Common.{◌≡◌, take}
use Rattle.px_memstore.specs.Left.{left}
use Rattle.px_region.proofs.keeping.are_right.Given as goal

abbrev pub invariant-loop-cell : goal.invariant-loop-cell
invariant-loop-cell l = left l.kept l.horizon (take l.cell-index l.cells) ≡ left l.seen l.horizon (take l.cell-index l.cells)
