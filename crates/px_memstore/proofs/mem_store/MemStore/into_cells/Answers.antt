use Rattle.std.proofs.Common.{subst}
use Rattle.px_cells.specs.Order.{IsAscending}
use Rattle.px_memstore.specs.Stored.{Stored}
use Rattle.px_memstore.specs.inner.Pieces.{lists}
use Rattle.px_memstore.proofs.Chained.{chained_ascending}
use Rattle.px_memstore.proofs.mem_store.MemStore.into_cells.Goals as goal

pub returns-clause-sorted : goal.returns-clause-sorted
returns-clause-sorted c = subst (λ (s : Stored). IsAscending s.cells) c.self.view_is (chained_ascending (lists c.self.inside.pieces) c.self.invariant.pieces.apart)
