use Rattle.std.proofs.Common.{◌+◌, ◌-◌, ◌++◌, List, Vec, Global, ap, arith, length, drop, subst, sym}
use Rattle.std.specs.Vec.{with_item}
use Rattle.px_cells.specs.CellData.{CellData}
use Rattle.px_cells.specs.Order.{IsAscending, IsSettled}
use Rattle.px_cells.specs.declared.cell.Cell.{Cell}
use Rattle.px_memstore.specs.inner.Pieces.{IsPut, lists}
use Rattle.px_memstore.specs.declared.pieces.Pieces.{Pieces}
use Rattle.px_memstore.proofs.Chained.{piece_ascending, piece_within}
use Rattle.px_memstore.proofs.Finding.{next_lists, set_lists}
use Rattle.px_memstore.proofs.Puts.{last_later, later_bounds, put_is, sorted_from}
use Rattle.px_memstore.proofs.pieces.Pieces.merge_other.Goals as goal

pub merge-requires-clause-sorted : goal.merge-requires-clause-sorted
merge-requires-clause-sorted c =
    subst IsAscending (sym (next_lists (λ (v : Vec Cell Global). v.items) c.args.self.now.first.items c.args.self.now.others.items c.args.at c.index_mut-piece.result.now c.requires.at c.index_mut-piece.ensures.value))
    (piece_ascending (lists c.args.self.now) (c.args.at + 1) c.requires.last.piece c.requires.pieces.apart)

pub merge-requires-clause-batch : goal.merge-requires-clause-batch
merge-requires-clause-batch c = sorted_from c.args.batch.now.items c.max-from.result c.requires.sorted

pub overflow_sub-self : goal.overflow_sub-self
overflow_sub-self c =
    let e = ap (λ (l : List CellData). length l) (next_lists (λ (v : Vec Cell Global). v.items) c.args.self.now.first.items c.args.self.now.others.items c.args.at c.index_mut-piece.result.now c.requires.at c.index_mut-piece.ensures.value) in
    let w = piece_within (lists c.args.self.now) (c.args.at + 1) c.requires.last.piece c.requires.pieces.apart in
    let b = c.len-before.ensures in
    let k = c.requires.count in
    let o = c.index_mut-piece.result.now.ok.0 in
    omega (arith, e, w, b, k, o)

pub returns-clause-put : goal.returns-clause-put
returns-clause-put c = λ _.
    (let old = c.args.self.now in
    let batch = c.args.batch.now.items in
    let from = c.max-from.result in
    let ob = c.args.batch.now.ok.0 in
    let op = c.index_mut-piece.result.now.ok.0 in
    let on = c.merge.new.cells.ok.0 in
    let some = c.requires.last.some in
    let n = c.len-2.ensures in
    let bounds = later_bounds c.args.from c.len-2.result (c.capacity.result - c.len.result) c.saturating_sub.result from (omega (arith, some, n, ob)) c.max-from.ensures c.saturating_sub.ensures c.if-free-eq0.false in
    let b1 = bounds.1 in
    let z = last_later (lists old) batch (c.args.at + 1) c.args.from from c.requires.last bounds.0 (omega (arith, b1, n, ob)) in
    let new : Pieces = record { first = old.first; others = with_item old.others c.args.at c.merge.new.cells; count = old.count - c.len-before.result + c.len-after.result; is_tight = c.if-self.self } in
    let e = next_lists (λ (v : Vec Cell Global). v.items) old.first.items old.others.items c.args.at c.index_mut-piece.result.now c.requires.at c.index_mut-piece.ensures.value in
    let el = ap (λ (l : List CellData). length l) e in
    let w = piece_within (lists old) (c.args.at + 1) z.piece c.requires.pieces.apart in
    let m = c.merge.ensures.len in
    let k = c.requires.count in
    let b = c.len-before.ensures in
    let a = c.len-after.ensures in
    subst (λ (l : List CellData). IsPut old batch new l) (sym c.merge.ensures.rest)
    (put_is old new batch (c.args.at + 1) from c.merge.new.cells.items c.requires.pieces z (set_lists (λ (v : Vec Cell Global). v.items) old.first.items old.others.items c.args.at c.merge.new.cells c.requires.at)
    (subst (λ (l : List CellData). IsSettled (drop from batch ++ l) c.merge.new.cells.items) e c.merge.ensures.merged) (omega (arith, m, el, ob, op, on)) (omega (arith, w, k, b, a, el, op, on)) c.requires.count (omega arith)))
