use Rattle.std.proofs.Common.{◌≡◌, ◌++◌}
use Rattle.std.specs.Vec.Iter.{into_iter_items}
use Rattle.px_held.proofs.merging.add_all.Given as goal

abbrev pub invariant-loop-assignment : goal.invariant-loop-assignment
invariant-loop-assignment l = l.list.items ++ into_iter_items l.assignment-iterator ≡ l.fn.list.items ++ l.fn.assignments
