use Rattle.std.proofs.Common.{◌≡◌, take}
use Rattle.px_indexrow.specs.Form.{index_form}
use Rattle.px_phases.specs.Phases.{close_parts}
use Rattle.px_phases.proofs.made.closes_of_rows.Given as goal

abbrev pub invariant-loop-place : goal.invariant-loop-place
invariant-loop-place l = record {
  kept : l.kept ≡ close_parts (index_form l.table l.index) l.stamp (take l.place l.changes) (take l.place l.transitions);
}
