use Rattle.std.proofs.Common.{◌≡◌, ◌++◌, take}
use Rattle.px_held.specs.Merged.{unnamed}
use Rattle.px_held.proofs.merging.add_unnamed.Given as goal

abbrev pub invariant-loop-assignment : goal.invariant-loop-assignment
invariant-loop-assignment l = l.list.items ≡ l.initial.list.items ++ unnamed (take l.assignment-index l.earlier) l.later
