use Rattle.std.proofs.Common.{◌≡◌, ◌+◌, ◌≤◌, ◌++◌, length, vec_capacity, vec_len}
use Rattle.px_cells.specs.Order.{IsAscending, ReadsSame}
use Rattle.px_memstore.specs.Pieces.{chained}
use Rattle.px_memstore.specs.inner.Pieces.{ArePieces, lists}
use Rattle.px_memstore.specs.inner.Waiting.{IsIdle, waiting_room}
use Rattle.px_memstore.proofs.pieces.Pieces.put.Given as goal

abbrev pub invariant-loop-self : goal.invariant-loop-self
invariant-loop-self l = record {
  pieces : ArePieces (lists l.self);
  same : ReadsSame (l.batch.items ++ chained (lists l.self)) (l.fn.batch.items ++ chained (lists l.fn.self));
  sorted : IsAscending l.batch.items;
  count : l.self.count ≡ length (chained (lists l.self));
  len : l.self.count + vec_len l.batch ≤ l.fn.self.count + vec_len l.fn.batch;
  short : vec_len l.batch ≤ vec_len l.fn.batch;
  capacity : vec_capacity l.fn.self.first ≤ vec_capacity l.self.first;
  none : IsIdle l.waiting;
  aside : waiting_room l.fn.waiting ≤ waiting_room l.waiting;
}

abbrev pub decreases-loop-self : goal.decreases-loop-self
decreases-loop-self l = vec_len l.batch
