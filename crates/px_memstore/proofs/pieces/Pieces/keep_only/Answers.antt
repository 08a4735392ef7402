use Rattle.std.proofs.Common.{◌≡◌, ◌∙◌, ◌∷◌, List, Vec, Global, ap, arith, length, length-append, map, subst, sym}
use Rattle.std.specs.List.{filter}
use Rattle.px_cells.specs.CellData.{CellData}
use Rattle.px_cells.specs.declared.cell.Cell.{Cell}
use Rattle.px_memstore.specs.Left.{cell_stays}
use Rattle.px_memstore.specs.Pieces.{chained}
use Rattle.px_memstore.specs.inner.Pieces.{ArePieces, is_filled}
use Rattle.px_memstore.proofs.Thinning.{chained_filled, filter_less, thinned, thinned_left, thinned_pieces}
use Rattle.px_memstore.proofs.pieces.Pieces.keep_only.Goals as goal

abbrev of : Vec Cell Global → List CellData
of v = v.items

pub returns-clause-left : goal.returns-clause-left
returns-clause-left c =
    let test = cell_stays c.args.kept.now c.args.horizon in
    let first = c.args.self.now.first.items in
    let others = map of c.args.self.now.others.items in
    let kept : map of c.keep_parts-count.new.pieces.items ≡ map (filter test) others = c.keep_parts-count.ensures.left in
    let rest : map of c.drop_empty.new.pieces.items ≡ filter is_filled (map (filter test) others) = c.drop_empty.ensures ∙ ap (filter is_filled) kept in
    let is : c.keep_part.new.cells.items ∷ map of c.drop_empty.new.pieces.items ≡ thinned test first others = (λ i. c.keep_part.ensures.left i ∷ rest i) in
    ap chained is ∙ thinned_left test first others

pub returns-clause-pieces : goal.returns-clause-pieces
returns-clause-pieces c =
    let test = cell_stays c.args.kept.now c.args.horizon in
    let first = c.args.self.now.first.items in
    let others = map of c.args.self.now.others.items in
    let kept : map of c.keep_parts-count.new.pieces.items ≡ map (filter test) others = c.keep_parts-count.ensures.left in
    let rest : map of c.drop_empty.new.pieces.items ≡ filter is_filled (map (filter test) others) = c.drop_empty.ensures ∙ ap (filter is_filled) kept in
    let is : c.keep_part.new.cells.items ∷ map of c.drop_empty.new.pieces.items ≡ thinned test first others = (λ i. c.keep_part.ensures.left i ∷ rest i) in
    subst ArePieces (sym is) (thinned_pieces test first others c.requires.pieces)

pub returns-clause-count : goal.returns-clause-count
returns-clause-count c =
    let test = cell_stays c.args.kept.now c.args.horizon in
    let first = c.args.self.now.first.items in
    let others = map of c.args.self.now.others.items in
    let kept : map of c.keep_parts-count.new.pieces.items ≡ map (filter test) others = c.keep_parts-count.ensures.left in
    let rest : map of c.drop_empty.new.pieces.items ≡ filter is_filled (map (filter test) others) = c.drop_empty.ensures ∙ ap (filter is_filled) kept in
    let is : c.keep_part.new.cells.items ∷ map of c.drop_empty.new.pieces.items ≡ thinned test first others = (λ i. c.keep_part.ensures.left i ∷ rest i) in
    let all = ap (λ (l : List (List CellData)). length (chained l)) is ∙ ap (λ (l : List CellData). length l) (thinned_left test first others) in
    let less = filter_less test (chained (first ∷ others)) in
    let parts = length-append c.keep_part.new.cells.items (chained (map of c.drop_empty.new.pieces.items)) in
    let back = ap (λ (l : List (List CellData)). length (chained l)) rest ∙ (ap (λ (l : List CellData). length l) (chained_filled (map (filter test) others)) ∙ sym (ap (λ (l : List (List CellData)). length (chained l)) kept)) in
    let k = c.requires.count in
    let n = c.keep_parts-count.ensures.count in
    let s = c.saturating_add-self.ensures in
    let l = c.len.ensures in
    let o = c.keep_part.new.cells.ok.0 in
    let w = c.requires.within in
    let f = c.args.self.now.first.ok in
    let m = c.args.self.now.first.small in
    omega arith

pub returns-clause-less : goal.returns-clause-less
returns-clause-less c =
    let test = cell_stays c.args.kept.now c.args.horizon in
    let first = c.args.self.now.first.items in
    let others = map of c.args.self.now.others.items in
    let kept : map of c.keep_parts-count.new.pieces.items ≡ map (filter test) others = c.keep_parts-count.ensures.left in
    let rest : map of c.drop_empty.new.pieces.items ≡ filter is_filled (map (filter test) others) = c.drop_empty.ensures ∙ ap (filter is_filled) kept in
    let is : c.keep_part.new.cells.items ∷ map of c.drop_empty.new.pieces.items ≡ thinned test first others = (λ i. c.keep_part.ensures.left i ∷ rest i) in
    let all = ap (λ (l : List (List CellData)). length (chained l)) is ∙ ap (λ (l : List CellData). length l) (thinned_left test first others) in
    let less = filter_less test (chained (first ∷ others)) in
    let parts = length-append c.keep_part.new.cells.items (chained (map of c.drop_empty.new.pieces.items)) in
    let back = ap (λ (l : List (List CellData)). length (chained l)) rest ∙ (ap (λ (l : List CellData). length l) (chained_filled (map (filter test) others)) ∙ sym (ap (λ (l : List (List CellData)). length (chained l)) kept)) in
    let k = c.requires.count in
    let n = c.keep_parts-count.ensures.count in
    let s = c.saturating_add-self.ensures in
    let l = c.len.ensures in
    let o = c.keep_part.new.cells.ok.0 in
    let w = c.requires.within in
    let f = c.args.self.now.first.ok in
    let m = c.args.self.now.first.small in
    omega arith
