use Rattle.std.proofs.Common.{◌≡◌, ◌++◌, Vec, Global, drop, length, map, min, take}
use Rattle.px_cells.specs.declared.cell.Cell.{Cell}
use Rattle.px_memstore.specs.Left.{left}
use Rattle.px_memstore.specs.Pieces.{chained}
use Rattle.px_memstore.proofs.keeping.keep_parts.Given as goal

abbrev pub invariant-loop-at : goal.invariant-loop-at
invariant-loop-at l = record {
  so_far : map (λ (v : Vec Cell Global). v.items) l.pieces.items ≡ map (left l.kept l.horizon) (take l.at (map (λ (v : Vec Cell Global). v.items) l.fn.pieces.items)) ++ drop l.at (map (λ (v : Vec Cell Global). v.items) l.fn.pieces.items);
  count : l.count ≡ min (length (chained (take l.at (map (λ (v : Vec Cell Global). v.items) l.pieces.items)))) 18446744073709551615;
  len : length l.pieces.items ≡ length l.fn.pieces.items;
}
