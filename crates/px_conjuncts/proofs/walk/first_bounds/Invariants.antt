use Rattle.std.specs.Option.{option_map}
use Rattle.px_conjuncts.specs.Paths.{edge_of}
use Rattle.px_conjuncts.proofs.Marks.{Bounded}
use Rattle.px_conjuncts.proofs.walk.first_bounds.Given as goal

abbrev pub invariant-loop-index : goal.invariant-loop-index
invariant-loop-index l = Bounded l.column l.conjuncts l.fn.marks l.marks (option_map edge_of l.lower) (option_map edge_of l.upper) l.index
