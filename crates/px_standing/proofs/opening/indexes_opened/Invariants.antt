use Rattle.std.proofs.Common.{◌≡◌, map, take}
use Rattle.px_standing.specs.Agrees.{as_opened}
use Rattle.px_standing.proofs.opening.indexes_opened.Given as goal

abbrev pub invariant-loop-index : goal.invariant-loop-index
invariant-loop-index l = l.opened.items ≡ map as_opened (take l.index-index l.indexes)
