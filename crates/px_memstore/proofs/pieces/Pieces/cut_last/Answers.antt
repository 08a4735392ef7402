use Rattle.std.proofs.Common.{◌∷◌, ◌∙◌, List, Vec, Global, ap, arith, drop, length, map, subst, take}
use Rattle.px_cells.specs.CellData.{CellData}
use Rattle.px_cells.specs.declared.cell.Cell.{Cell}
use Rattle.px_memstore.specs.Pieces.{KeysApart}
use Rattle.px_memstore.specs.inner.Pieces.{cut_at}
use Rattle.px_memstore.proofs.Puts.{cut_same}
use Rattle.px_memstore.proofs.pieces.Pieces.cut_last.Goals as goal

pub returns : goal.returns
returns c =
    let first = c.args.self.now.first.items in
    let place = c.row_begin-place.result in
    let d = ap (λ (l : List CellData). length l) c.deref.ensures.value in
    let o = c.args.self.now.first.ok.0 in
    let l = c.len-count.ensures in
    let w = c.row_begin-place.ensures.within in
    let z = c.if-place-eq0.false in
    let n = c.if-place-count.false in
    let k = c.split_first.ensures.capacity in
    record {
      same = cut_same c.args.self.now c.split_first.new.self 0 place c.requires.pieces (omega arith)
          (c.split_first.ensures.cut ∙ ap (λ (l : List (Vec Cell Global)). cut_at (first ∷ map (λ (v : Vec Cell Global). v.items) l) 0 place) c.reserve.ensures.items)
          (subst (λ (l : List CellData). KeysApart (take place l) (drop place l)) c.deref.ensures.value c.row_begin-place.ensures.apart) (omega (arith, z)) (omega (arith, d, o, l, w, n)) c.split_first.ensures.count (omega (arith, k));
    }
