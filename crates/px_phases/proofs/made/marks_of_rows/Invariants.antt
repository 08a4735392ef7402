use Rattle.std.proofs.Common.{◌≡◌, take}
use Rattle.px_indexrow.specs.Form.{index_form}
use Rattle.px_phases.specs.Phases.{HasLongIndexed, mark_parts}
use Rattle.px_phases.proofs.made.marks_of_rows.Given as goal

abbrev pub invariant-loop-place : goal.invariant-loop-place
invariant-loop-place l = record {
  kept : l.kept ≡ mark_parts (index_form l.table l.index) l.stamp (take l.place l.changes) (take l.place l.transitions);
  short : HasLongIndexed l.table l.index (take l.place l.changes) (take l.place l.transitions) → ⊥;
}
