use Rattle.std.proofs.Common.{List, subst, sym}
use Rattle.px_cells.specs.CellData.{CellData}
use Rattle.px_cells.specs.Order.{IsAscending}
use Rattle.px_cells.specs.Rows.{IsRow}
use Rattle.px_memstore.specs.inner.Pieces.{lists}
use Rattle.px_memstore.proofs.Chained.{piece_ascending}
use Rattle.px_memstore.proofs.Finding.{row_at}
use Rattle.px_memstore.proofs.pieces.Pieces.row.Goals as goal

pub row_in-requires : goal.row_in-requires
row_in-requires c = subst IsAscending (sym c.piece.ensures) (piece_ascending (lists c.args.self.now) c.place_of.result c.place_of.ensures.within c.requires.apart)

pub returns : goal.returns
returns c = row_at (lists c.args.self.now) c.args.key.now c.place_of.result c.row_in.result.now c.requires.apart c.place_of.ensures (subst (λ (l : List CellData). IsRow l c.args.key.now c.row_in.result.now) c.piece.ensures c.row_in.ensures.row)
