use Rattle.std.proofs.Common.{◌≡◌, take}
use Rattle.px_trail.specs.Batches.{rows_of}
use Rattle.px_copying.proofs.copying.copied_rows.Given as goal

abbrev pub invariant-loop-change : goal.invariant-loop-change
invariant-loop-change l = l.rows.items ≡ rows_of (take l.change-index l.changes)
