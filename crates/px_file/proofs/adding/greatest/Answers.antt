use Rattle.std.proofs.Common.{arith}
use Rattle.px_file.proofs.Blocks.{greatest_more}
use Rattle.px_file.proofs.adding.greatest.Goals as goal

pub loop-cell-preserved : goal.loop-cell-preserved
loop-cell-preserved c =
    let t = greatest_more c.args.block.now c.loop-cell.cell-index c.cell-item.result c.loop-cell-test.true c.cell-item.is in
    let s = c.stamp.ensures in
    let m = c.max-most.ensures in
    let i = c.loop-cell.invariant in
    omega arith
