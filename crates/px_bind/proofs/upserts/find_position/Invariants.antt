use Rattle.std.proofs.Common.{◌≡◌, ◌+◌, drop}
use Rattle.px_bind.specs.Upserts.{position_of}
use Rattle.px_bind.proofs.upserts.find_position.Given as goal

abbrev pub invariant-loop-index : goal.invariant-loop-index
invariant-loop-index l = position_of l.places l.place ≡ l.index + position_of (drop l.index l.places) l.place
