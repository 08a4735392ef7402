use Rattle.std.proofs.Common.{take}
use Rattle.std.specs.List.{AllByRecursion}
use Rattle.px_server.specs.Upkeep.{IsFreeTable}
use Rattle.px_server.proofs.upkeep.busy_table.Given as goal

abbrev pub invariant-loop-place : goal.invariant-loop-place
invariant-loop-place l = AllByRecursion (IsFreeTable l.what) (take l.place l.groups)
