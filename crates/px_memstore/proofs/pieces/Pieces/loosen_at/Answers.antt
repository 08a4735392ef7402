use Rattle.std.proofs.Common.{◌∷◌, List, Vec, Global, ap, arith, refl, subst, sym}
use Rattle.px_cells.specs.CellData.{CellData}
use Rattle.px_cells.specs.declared.cell.Cell.{Cell}
use Rattle.px_memstore.specs.Pieces.{chained}
use Rattle.px_memstore.specs.inner.Pieces.{ArePieces}
use Rattle.px_memstore.proofs.Finding.{set_same}
use Rattle.px_memstore.proofs.pieces.Pieces.loosen_at.Goals as goal

pub returns-clause-same : goal.returns-clause-same
returns-clause-same c =
    let e = ap (λ (k : List (List CellData)). c.args.self.now.first.items ∷ k)
    (set_same (λ (v : Vec Cell Global). v.items) c.args.self.now.others.items c.args.at c.index_mut-piece.result.now c.reserve.new.self c.index_mut-piece.ensures.value c.requires.at c.reserve.ensures.items) in
    record { cells = ap chained e; pieces = subst ArePieces (sym e) c.requires.pieces; count = refl; capacity = omega arith }
