use Rattle.std.proofs.Common.{◌≡◌, arith, rules}
use Rattle.std.specs.Prelude.{max}
use Rattle.px_opening.proofs.Building.{last_next, no_cell}
use Rattle.px_opening.proofs.heights.last_stamp.Goals as goal

pub loop-cell-init : goal.loop-cell-init
loop-cell-init c = no_cell

pub loop-cell-preserved : goal.loop-cell-preserved
loop-cell-preserved c =
    let t = last_next c.args.cells.now c.loop-cell.cell-index c.cell-item.result c.loop-cell-test.true c.cell-item.is in
    let s = c.stamp.ensures in
    let m : c.max-last.result ≡ max c.loop-cell.last c.stamp.result = search rules in
    let i = c.loop-cell.invariant in
    omega arith
