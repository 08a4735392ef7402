use Rattle.std.proofs.Common.{◌≡◌, ◌+◌, ◌++◌, drop, length, take}
use Rattle.px_keptcells.proofs.kept.move_row.Given as goal

abbrev pub invariant-loop-i : goal.invariant-loop-i
invariant-loop-i l = record {
  front : take (l.next + l.i) l.cells.items ≡ take l.next l.fn.cells.items ++ take l.i (drop l.at l.fn.cells.items);
  rest : drop (l.at + l.i) l.cells.items ≡ drop (l.at + l.i) l.fn.cells.items;
  len : length l.cells.items ≡ length l.fn.cells.items;
}
