use Rattle.std.proofs.Common.{◌≡◌, ◌++◌, map, take}
use Rattle.px_create.proofs.indexes.add_key.Given as goal

abbrev pub invariant-loop-part : goal.invariant-loop-part
invariant-loop-part l = l.places.items ≡ l.initial.places.items ++ map (λ p. p.column) (take l.part-index l.key)
