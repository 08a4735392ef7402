use Rattle.std.proofs.Common.{map}
use Rattle.px_conjuncts.specs.Paths.{equal_value}
use Rattle.px_conjuncts.proofs.Marks.{Walked}
use Rattle.px_conjuncts.proofs.walk.told.Given as goal

abbrev pub invariant-loop-column : goal.invariant-loop-column
invariant-loop-column l = Walked l.path l.conjuncts l.marks.items (map equal_value l.equal.items) l.column-index
