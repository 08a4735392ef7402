use Rattle.std.proofs.Common.{ap, arith, length}
use Rattle.px_cellbytes.proofs.Bytes.{length-cell_bytes, room_for_next}
use Rattle.px_region.proofs.Holding.{bytes_next}
use Rattle.px_batching.proofs.handing.byte_len.Goals as goal

pub overflow_add-bytes-in-loop-cell-2 : goal.overflow_add-bytes-in-loop-cell-2
overflow_add-bytes-in-loop-cell-2 c =
    let r = room_for_next c.args.cells.now c.loop-cell.cell-index c.cell-item.result c.loop-cell-test.true c.cell-item.is in
    let l = length-cell_bytes c.cell-item.result in
    let k = ap length c.key.ensures in
    let v = ap length c.value.ensures in
    omega arith

pub loop-cell-preserved : goal.loop-cell-preserved
loop-cell-preserved c =
    let n = bytes_next c.args.cells.now c.loop-cell.cell-index c.cell-item.result c.loop-cell-test.true c.cell-item.is in
    let k = ap length c.key.ensures in
    let v = ap length c.value.ensures in
    omega arith
