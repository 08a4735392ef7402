use Rattle.std.proofs.Common.{◌<◌, length, subst, sym}
use Rattle.px_cells.specs.Order.{IsAscending}
use Rattle.px_memstore.specs.Stored.{Stored}
use Rattle.px_memstore.specs.inner.Pieces.{lists}
use Rattle.px_memstore.proofs.Chained.{piece_ascending}
use Rattle.px_memstore.proofs.mem_store.MemStore.piece.Goals as goal

pub returns-clause-sorted : goal.returns-clause-sorted
returns-clause-sorted c = subst IsAscending (sym c.piece.ensures)
    (piece_ascending (lists c.self.inside.pieces) c.args.at (subst (λ (s : Stored). c.args.at < length s.pieces) (sym c.self.view_is) c.requires) c.self.invariant.pieces.apart)
