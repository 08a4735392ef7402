use Rattle.std.proofs.Common.{take}
use Rattle.std.specs.List.{AllByRecursion}
use Rattle.px_server.specs.inner.Quiet.{IsOther}
use Rattle.px_server.proofs.defining.quiet.place_of.Given as goal

abbrev pub invariant-loop-place : goal.invariant-loop-place
invariant-loop-place l = AllByRecursion (IsOther l.table l.index) (take l.place l.indexes)
