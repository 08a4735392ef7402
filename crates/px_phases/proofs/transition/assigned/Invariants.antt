use Rattle.std.proofs.Common.{◌≡◌, length, take}
use Rattle.px_values.specs.States.{assigned}
use Rattle.px_phases.proofs.transition.assigned.Given as goal

abbrev pub invariant-loop-assignment : goal.invariant-loop-assignment
invariant-loop-assignment l = record {
  set : l.values.items ≡ assigned l.fn.values.items (take l.assignment-index l.assignments);
  length : length l.values.items ≡ length l.fn.values.items;
}
