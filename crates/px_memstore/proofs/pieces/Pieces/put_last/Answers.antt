use Rattle.std.proofs.Common.{◌∷◌, Vec, Global, map, refl, subst, sym}
use Rattle.px_cells.specs.declared.cell.Cell.{Cell}
use Rattle.px_memstore.specs.inner.Pieces.{ArePieces, lists}
use Rattle.px_memstore.specs.declared.pieces.Pieces.{Pieces}
use Rattle.px_memstore.proofs.Puts.{gathered}
use Rattle.px_memstore.proofs.pieces.Pieces.put_last.Goals as goal

pub merge_first-requires-2-clause-pieces : goal.merge_first-requires-2-clause-pieces
merge_first-requires-2-clause-pieces c =
    let old = c.merge_other.new.self in
    let a = subst (λ (p : Pieces). ArePieces (lists p)) (sym (c.if-merge_other.ensures.full refl).0) c.requires.pieces in
    subst ArePieces (sym (λ j. c.gather.ensures.first j ∷ map (λ (v : Vec Cell Global). v.items) (c.gather.ensures.others j))) (gathered (lists old) a.apart)
