use Rattle.std.proofs.Common.{List, Vec, Global, ap, arith, drop, length, subst, sym, take}
use Rattle.std.proofs.lemmas.List.{length-map}
use Rattle.px_cells.specs.CellData.{CellData}
use Rattle.px_cells.specs.Order.{IsAscending}
use Rattle.px_cells.specs.declared.cell.Cell.{Cell}
use Rattle.px_memstore.specs.Pieces.{KeysApart}
use Rattle.px_memstore.specs.inner.Pieces.{lists}
use Rattle.px_memstore.proofs.Chained.{piece_ascending}
use Rattle.px_memstore.proofs.Puts.{cut_same}
use Rattle.px_memstore.proofs.pieces.Pieces.cut.Goals as goal

pub row_begin-place-requires : goal.row_begin-place-requires
row_begin-place-requires c =
    let m = length-map c.args.self.now.others.items (λ (v : Vec Cell Global). v.items) in
    let a = c.requires.at in
    subst IsAscending (sym c.piece.ensures) (piece_ascending (lists c.args.self.now) c.args.at (omega (arith, m, a)) c.requires.pieces.apart)

pub returns : goal.returns
returns c =
    let m = length-map c.args.self.now.others.items (λ (v : Vec Cell Global). v.items) in
    let a = c.requires.at in
    let place = c.row_begin-place.result in
    let p = ap (λ (l : List CellData). length l) c.piece.ensures in
    let q = ap (λ (l : List CellData). length l) c.piece-count.ensures in
    let w = c.row_begin-place.ensures.within in
    let z = c.if-place-eq0.false in
    let n = c.if-place-count.false in
    let k = c.split.ensures.capacity in
    record {
      same = cut_same c.args.self.now c.split.new.self c.args.at place c.requires.pieces (omega (arith, m, a)) c.split.ensures.cut
          (subst (λ (l : List CellData). KeysApart (take place l) (drop place l)) c.piece.ensures c.row_begin-place.ensures.apart) (omega (arith, z)) (omega (arith, p, q, w, n)) c.split.ensures.count (omega (arith, k));
    }
