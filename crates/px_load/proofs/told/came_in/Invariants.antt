use Rattle.std.proofs.Common.{◌≡◌, take}
use Rattle.px_load.specs.Told.{answers_in, came_of}
use Rattle.px_load.proofs.told.came_in.Given as goal

abbrev pub invariant-loop-item : goal.invariant-loop-item
invariant-loop-item l = l.came ≡ came_of (answers_in (take l.item-index l.items))
