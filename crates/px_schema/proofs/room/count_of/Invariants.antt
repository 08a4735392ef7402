use Rattle.std.proofs.Common.{◌≡◌, ◌≤◌, length, take}
use Rattle.px_schema.specs.Counts.{indexes_of}
use Rattle.px_schema.proofs.room.count_of.Given as goal

abbrev pub invariant-loop-index : goal.invariant-loop-index
invariant-loop-index l = (l.count ≡ length (indexes_of l.number (take l.index-index l.indexes))) × (l.count ≤ l.index-index)
