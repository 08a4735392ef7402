use Rattle.std.proofs.Common.{◌≡◌, ◌≤◌, ◌++◌, Vec, Global, map, vec_capacity, vec_len}
use Rattle.std.specs.Prelude.{reverse}
use Rattle.px_cells.specs.declared.cell.Cell.{Cell}
use Rattle.px_memstore.specs.Pieces.{chained}
use Rattle.px_memstore.specs.inner.Pieces.{lists}
use Rattle.px_memstore.proofs.pieces.Pieces.gather.Given as goal

abbrev pub invariant-loop-piece : goal.invariant-loop-piece
invariant-loop-piece l = record {
  cells : l.self.first.items ++ chained (map (λ (v : Vec Cell Global). v.items) (reverse l.self.others.items)) ≡ chained (lists l.fn.self);
  count : l.self.count ≡ l.fn.self.count;
  capacity : vec_capacity l.fn.self.first ≤ vec_capacity l.self.first;
}

abbrev pub decreases-loop-piece : goal.decreases-loop-piece
decreases-loop-piece l = vec_len l.self.others
