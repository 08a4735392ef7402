use Rattle.std.proofs.Common.{Vec, Global, arith, subst, sym}
use Rattle.std.proofs.lemmas.List.{length-map}
use Rattle.px_cells.specs.Order.{IsAscending}
use Rattle.px_cells.specs.declared.cell.Cell.{Cell}
use Rattle.px_memstore.specs.inner.Pieces.{lists}
use Rattle.px_memstore.proofs.Chained.{piece_ascending}
use Rattle.px_memstore.proofs.pieces.Pieces.cut_for.Goals as goal

pub best_cut-wanted-requires : goal.best_cut-wanted-requires
best_cut-wanted-requires c =
    let m = length-map c.args.self.now.others.items (λ (v : Vec Cell Global). v.items) in
    let a = c.requires.at in
    subst IsAscending (sym c.piece.ensures) (piece_ascending (lists c.args.self.now) c.args.at (omega (arith, m, a)) c.requires.pieces.apart)
