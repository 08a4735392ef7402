use Rattle.std.proofs.Common.{◌≡◌, take}
use Rattle.px_recovery.specs.Tables.{indexes_of}
use Rattle.px_standing.proofs.finding.indexes_copied.Given as goal

abbrev pub invariant-loop-index : goal.invariant-loop-index
invariant-loop-index l = l.copies.items ≡ indexes_of l.table.0 (take l.index-index l.indexes)
