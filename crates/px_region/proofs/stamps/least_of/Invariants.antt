use Rattle.std.proofs.Common.{◌≤◌, take}
use Rattle.px_region.specs.Stamps.{AreStampsFrom}
use Rattle.px_region.proofs.stamps.least_of.Given as goal

abbrev pub invariant-loop-cell : goal.invariant-loop-cell
invariant-loop-cell l = (l.least ≤ l.most) × AreStampsFrom l.least (take l.cell-index l.cells)
