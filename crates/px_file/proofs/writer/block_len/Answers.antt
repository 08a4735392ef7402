use Rattle.std.proofs.Common.{◌≡◌, length, take, ap, subst, sym, arith}
use Rattle.std.proofs.lemmas.List.{take_all}
use Rattle.px_block.specs.Block.{IsClosedBlock}
use Rattle.px_cellbytes.specs.Spelling.{all_bytes}
use Rattle.px_file.proofs.Blocks.{cell_small, closed_all, short_at}
use Rattle.px_file.proofs.writer.block_len.Goals as goal

pub overflow_add-size : goal.overflow_add-size
overflow_add-size c =
    let s = cell_small c.index-cells-i.result (short_at c.args.cells.now c.loop-i.i c.index-cells-i.result c.requires.short c.loop-i-test.true c.index-cells-i.is) in
    let e = c.size_of-size.ensures in
    let u = c.loop-i.invariant.under in
    omega arith

pub returns-clause-closed : goal.returns-clause-closed
returns-clause-closed c =
    let all = take_all (length c.args.cells.now) c.args.cells.now (omega arith) in
    let i = ap (λ n. length (all_bytes (take n c.args.cells.now))) (let e : c.loop-i.i ≡ length c.args.cells.now = omega arith in e) in
    let s = c.loop-i.invariant.size in
    let u = c.loop-i.invariant.under in
    let e = ap (λ l. length (all_bytes l)) all in
    subst IsClosedBlock (sym all) (closed_all c.args.cells.now c.requires.some (omega arith))
