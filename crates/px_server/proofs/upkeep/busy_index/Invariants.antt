use Rattle.std.proofs.Common.{take}
use Rattle.std.specs.List.{AllByRecursion}
use Rattle.px_server.specs.Upkeep.{IsFreeIndex}
use Rattle.px_server.proofs.upkeep.busy_index.Given as goal

abbrev pub invariant-loop-place : goal.invariant-loop-place
invariant-loop-place l = AllByRecursion (IsFreeIndex l.what) (take l.place l.indexes)
