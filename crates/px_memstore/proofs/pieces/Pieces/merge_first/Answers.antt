use Rattle.std.proofs.Common.{◌≤◌, ◌<◌, ◌+◌, ◌-◌, List, arith, length, refl, subst, sym}
use Rattle.px_cells.specs.CellData.{CellData}
use Rattle.px_memstore.specs.inner.Pieces.{IsPut, lists}
use Rattle.px_memstore.specs.declared.pieces.Pieces.{Pieces}
use Rattle.px_memstore.proofs.Chained.{piece_within}
use Rattle.px_memstore.proofs.Puts.{last_later, later_bounds, put_is, sorted_from}
use Rattle.px_memstore.proofs.pieces.Pieces.merge_first.Goals.{then-free-eq0, else-free-eq0}
use Rattle.px_memstore.proofs.pieces.Pieces.merge_first.Goals as goal

pub merge-requires-clause-batch : goal.merge-requires-clause-batch
merge-requires-clause-batch c = sorted_from c.args.batch.now.items c.if-free-eq0.from c.requires.sorted

pub returns-clause-put : goal.returns-clause-put
returns-clause-put c =
    let old = c.args.self.now in
    let batch = c.args.batch.now.items in
    let from = c.if-free-eq0.from in
    let ob = c.args.batch.now.ok.0 in
    let of = old.first.ok.0 in
    let on = c.merge.new.cells.ok.0 in
    let some = c.requires.last.some in
    let bounds : (c.args.from ≤ from) × (from < length batch) = elim c.if-free-eq0.branch [
      | then-free-eq0 w ↦ (let e = w.from-is in (omega (arith, e), omega (arith, e, some)))
      | else-free-eq0 w ↦ (
          let e = w.from-is in
          let n = w.len.ensures in
          let z = later_bounds c.args.from w.len.result c.free-free.result w.saturating_sub.result w.max-from.result (omega (arith, some, n, ob)) w.max-from.ensures w.saturating_sub.ensures w.if-free-eq0.false in
          let z0 = z.0 in
          let z1 = z.1 in
          (omega (arith, e, z0), omega (arith, e, z1, n, ob)))
    ] in
    let z = last_later (lists old) batch 0 c.args.from from c.requires.last bounds.0 bounds.1 in
    let new : Pieces = record { first = c.merge.new.cells; others = old.others; count = old.count - c.len-before.result + c.len-2.result; is_tight = old.is_tight } in
    let w = piece_within (lists old) 0 z.piece c.requires.pieces.apart in
    let m = c.merge.ensures.len in
    let k = c.requires.count in
    let b = c.len-before.ensures in
    let a = c.len-2.ensures in
    subst (λ (l : List CellData). IsPut old batch new l) (sym c.merge.ensures.rest)
    (put_is old new batch 0 from c.merge.new.cells.items c.requires.pieces z refl c.merge.ensures.merged (omega (arith, m, ob, of, on)) (omega (arith, w, k, b, a, of, on)) c.requires.count c.merge.ensures.room)
