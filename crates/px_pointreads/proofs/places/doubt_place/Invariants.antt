use Rattle.std.proofs.Common.{take}
use Rattle.std.specs.List.{AllByRecursion}
use Rattle.px_pointreads.specs.Points.{GroupLacksIndex}
use Rattle.px_pointreads.proofs.places.doubt_place.Given as goal

abbrev pub invariant-loop-group : goal.invariant-loop-group
invariant-loop-group l = AllByRecursion (GroupLacksIndex l.fn.index) (take l.group l.groups)
