use Rattle.std.proofs.Common.{◌≡◌, ◌+◌, ◌++◌, drop, length}
use Rattle.std.specs.Vec.Iter.{into_iter_items}
use Rattle.px_conjuncts.specs.Paths.{unmarked}
use Rattle.px_conjuncts.proofs.flat.unmarked.Given as goal

abbrev pub invariant-loop-conjunct : goal.invariant-loop-conjunct
invariant-loop-conjunct l = record {
  left : l.list.items ++ unmarked (into_iter_items l.conjunct-iterator) (drop l.index l.marks) ≡ unmarked l.fn.conjuncts l.marks;
  count : l.index + length (into_iter_items l.conjunct-iterator) ≡ length l.marks;
}
