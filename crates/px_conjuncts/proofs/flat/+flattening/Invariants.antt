use Rattle.std.proofs.Common.{◌≡◌, ◌++◌}
use Rattle.std.specs.List.{flat_map}
use Rattle.std.specs.Vec.Iter.{into_iter_items}
use Rattle.px_conjuncts.specs.Conjuncts.{conjuncts_of}
use Rattle.px_conjuncts.proofs.flat.+flattening.Given as goal

abbrev pub invariant-add_parts-loop-part : goal.invariant-add_parts-loop-part
invariant-add_parts-loop-part l = l.to.items ++ flat_map conjuncts_of (into_iter_items l.part-iterator) ≡ l.fn.to.items ++ flat_map conjuncts_of l.fn.parts
