use Rattle.std.proofs.Common.{◌≡◌, take}
use Rattle.px_tablefolder.specs.Folder.{last_cell}
use Rattle.px_opening.proofs.heights.last_stamp.Given as goal

abbrev pub invariant-loop-cell : goal.invariant-loop-cell
invariant-loop-cell l = l.last ≡ last_cell (take l.cell-index l.cells)
