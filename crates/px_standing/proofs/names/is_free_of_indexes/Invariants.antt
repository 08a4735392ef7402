use Rattle.std.proofs.Common.{◌≢◌, take}
use Rattle.std.specs.List.{AllByRecursion}
use Rattle.px_standing.proofs.names.is_free_of_indexes.Given as goal

abbrev pub invariant-loop-index : goal.invariant-loop-index
invariant-loop-index l = AllByRecursion (λ i. i.name ≢ l.name) (take l.index-index l.indexes)
