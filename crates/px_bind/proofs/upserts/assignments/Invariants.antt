use Rattle.std.proofs.Common.{◌≡◌, ◌++◌, drop}
use Rattle.px_bind.specs.Upserts.{assignments_of}
use Rattle.px_bind.proofs.upserts.assignments.Given as goal

abbrev pub invariant-loop-index : goal.invariant-loop-index
invariant-loop-index l = assignments_of l.key l.places l.values ≡ l.found.items ++ assignments_of l.key (drop l.index l.places) (drop l.index l.values)
