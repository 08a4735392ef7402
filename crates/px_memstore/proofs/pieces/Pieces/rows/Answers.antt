use Rattle.std.proofs.Common.{◌<◌, ◌+◌, List, Vec, Global, arith, length, subst, sym}
use Rattle.std.specs.Option.{option_copied}
use Rattle.std.proofs.lemmas.List.{length-map}
use Rattle.px_cells.specs.CellData.{CellData}
use Rattle.px_cells.specs.Order.{IsAscending}
use Rattle.px_cells.specs.Rows.{AreRows}
use Rattle.px_cells.specs.declared.cell.Cell.{Cell}
use Rattle.px_memstore.specs.inner.Pieces.{lists}
use Rattle.px_memstore.proofs.Chained.{piece_ascending}
use Rattle.px_memstore.proofs.Finding.{rows_here, rows_next}
use Rattle.px_memstore.proofs.Puts.{none_from, some_from}
use Rattle.px_memstore.proofs.pieces.Pieces.rows.Goals.{else-is_empty-via-then-is_empty+else-at-len, else-is_empty-via-else-is_empty}
use Rattle.px_memstore.proofs.pieces.Pieces.rows.Goals as goal

pub rows_in-cells-requires : goal.rows_in-cells-requires
rows_in-cells-requires c = subst IsAscending (sym c.piece.ensures) (piece_ascending (lists c.args.self.now) c.place_of-at.result c.place_of-at.ensures.within c.requires.apart)

pub rows_in-requires : goal.rows_in-requires
rows_in-requires c =
    let t = c.if-at-len.true in
    let n = c.len.ensures in
    let o = c.args.self.now.others.ok.0 in
    let m = length-map c.args.self.now.others.items (λ (v : Vec Cell Global). v.items) in
    subst IsAscending (sym c.piece-then-at-len.ensures) (piece_ascending (lists c.args.self.now) (c.place_of-at.result + 1) (omega (arith, t, n, o, m)) c.requires.apart)

pub returns-then-at-len : goal.returns-then-at-len
returns-then-at-len c =
    let ps = lists c.args.self.now in
    let low = c.args.low.now in
    let high = option_copied c.args.high in
    let at = c.place_of-at.result in
    let t = c.if-at-len.true in
    let n = c.len.ensures in
    let o = c.args.self.now.others.ok.0 in
    let m = length-map c.args.self.now.others.items (λ (v : Vec Cell Global). v.items) in
    rows_next ps low high at c.requires c.place_of-at.ensures c.rows_in-cells.result.now c.rows_in.result.now c.ends_before.result (omega (arith, t, n, o, m))
    (subst (λ (l : List CellData). AreRows l low high c.rows_in-cells.result.now) c.piece.ensures c.rows_in-cells.ensures.rows)
    (none_from c.rows_in-cells.result.now c.is_empty.result c.is_empty.ensures c.if-is_empty.true)
    (subst (λ (l : List CellData). AreRows l low high c.rows_in.result.now) c.piece-then-at-len.ensures c.rows_in.ensures.rows)
    c.ends_before.ensures.ended c.ends_before.ensures.more

pub returns : goal.returns
returns c =
    let ps = lists c.args.self.now in
    let low = c.args.low.now in
    let high = option_copied c.args.high in
    let at = c.place_of-at.result in
    let first = c.rows_in-cells.result.now in
    let o = c.args.self.now.others.ok.0 in
    let m = length-map c.args.self.now.others.items (λ (v : Vec Cell Global). v.items) in
    let some : at + 1 < length ps → 0 < length first = λ l. elim c.else-is_empty.branch [
      | else-is_empty-via-then-is_empty+else-at-len w ↦ absurd (let n = w.len.ensures in let f = w.if-at-len.false in omega (arith, l, o, m, n, f))
      | else-is_empty-via-else-is_empty w ↦ some_from first c.is_empty.result c.is_empty.ensures w.if-is_empty.false
    ] in
    rows_here ps low high at c.requires c.place_of-at.ensures first c.ends_before-2.result
    (subst (λ (l : List CellData). AreRows l low high first) c.piece.ensures c.rows_in-cells.ensures.rows)
    c.ends_before-2.ensures.ended c.ends_before-2.ensures.more some
