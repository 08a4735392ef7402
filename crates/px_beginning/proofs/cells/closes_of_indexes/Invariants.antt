use Rattle.std.proofs.Common.{◌≡◌, ◌≤◌, deque_capacity, deque_len, length, map, take}
use Rattle.px_phases.specs.Phases.{close_parts}
use Rattle.px_beginning.specs.Reads.{index_forms}
use Rattle.px_beginning.proofs.cells.closes_of_indexes.Given as goal

abbrev pub invariant-loop-part : goal.invariant-loop-part
invariant-loop-part l = record {
  kept : l.kept.items ≡ map (λ f. close_parts f l.stamp l.changes l.transitions) (index_forms l.table (take l.part-index l.indexes));
  count : deque_len l.kept ≡ l.part-index;
  room : length l.indexes ≤ deque_capacity l.kept;
}
