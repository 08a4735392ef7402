use Rattle.std.proofs.Common.{◌≡◌, ◌+◌, ◌++◌, length}
use Rattle.std.specs.Vec.Iter.{into_iter_items}
use Rattle.px_script.specs.Scripts.{present}
use Rattle.px_script.proofs.dividing.present.Given as goal

abbrev pub invariant-loop-slot : goal.invariant-loop-slot
invariant-loop-slot l = record {
  left : l.texts.items ++ present (l.session + 1) (into_iter_items l.slot-iterator) ≡ present 1 l.fn.slots.items;
  count : l.session + length (into_iter_items l.slot-iterator) ≡ length l.fn.slots.items;
}
