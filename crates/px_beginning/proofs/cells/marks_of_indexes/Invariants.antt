use Rattle.std.proofs.Common.{◌≡◌, ◌≤◌, deque_capacity, deque_len, length, map, take}
use Rattle.std.specs.List.{AllByRecursion}
use Rattle.px_phases.specs.Phases.{HasLongIndexed, mark_parts}
use Rattle.px_beginning.specs.Reads.{index_forms}
use Rattle.px_beginning.proofs.cells.marks_of_indexes.Given as goal

abbrev pub invariant-loop-part : goal.invariant-loop-part
invariant-loop-part l = record {
  kept : l.kept.items ≡ map (λ f. mark_parts f l.stamp l.changes l.transitions) (index_forms l.table (take l.part-index l.indexes));
  short : AllByRecursion (λ x. HasLongIndexed l.table x.index l.changes l.transitions → ⊥) (take l.part-index l.indexes);
  count : deque_len l.kept ≡ l.part-index;
  room : length l.indexes ≤ deque_capacity l.kept;
}
