use Rattle.std.proofs.Common.{ap, arith, length}
use Rattle.px_keptcells.proofs.Parts.{bytes_next}
use Rattle.px_keptcells.proofs.kept.part_bytes.Goals as goal

pub loop-cell-preserved : goal.loop-cell-preserved
loop-cell-preserved c =
    let n = bytes_next c.args.cells.now c.loop-cell.cell-index c.cell-item.result c.loop-cell-test.true c.cell-item.is in
    let k = ap length c.key.ensures in
    let v = ap length c.value.ensures in
    let a = c.saturating_add.ensures in
    let b = c.saturating_add-in-loop-cell.ensures in
    let d = c.saturating_add-bytes.ensures in
    omega arith
