use Rattle.std.specs.Option.{option_map}
use Rattle.std.proofs.Common.{arith}
use Rattle.px_conjuncts.specs.Paths.{edge_of}
use Rattle.px_conjuncts.proofs.Marks.{bounded_end}
use Rattle.px_conjuncts.proofs.walk.first_bounds.Goals as goal

pub returns-clause-left : goal.returns-clause-left
returns-clause-left c =
    let at = c.loop-index in
    (bounded_end c.args.column c.args.conjuncts.now c.args.marks.now at.marks (option_map edge_of at.lower) (option_map edge_of at.upper) at.index (omega arith) (omega arith) at.invariant).2
