use Rattle.std.proofs.Common.{◌≡◌, ◌++◌, map, take}
use Rattle.px_folder.proofs.numbers.push_indexes.Given as goal

abbrev pub invariant-loop-index : goal.invariant-loop-index
invariant-loop-index l = l.numbers.items ≡ l.initial.numbers.items ++ map (λ i. i.region) (take l.index-index l.indexes)
