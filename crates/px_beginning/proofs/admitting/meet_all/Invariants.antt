use Rattle.std.proofs.Common.{◌≡◌, ◌++◌, map, take, drop}
use Rattle.px_beginning.specs.Admits.{met_by}
use Rattle.px_beginning.proofs.admitting.meet_all.Given as goal

abbrev pub invariant-loop-begun : goal.invariant-loop-begun
invariant-loop-begun l = l.batches ≡ map (met_by l.changes) (take l.begun-index l.fn.batches) ++ drop l.begun-index l.fn.batches
