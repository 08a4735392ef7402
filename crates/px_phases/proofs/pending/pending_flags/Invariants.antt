use Rattle.std.proofs.Common.{◌≡◌, map, take}
use Rattle.px_trail.specs.Batches.{rows_of}
use Rattle.px_phases.specs.Batch.{is_left_in}
use Rattle.px_phases.proofs.pending.pending_flags.Given as goal

abbrev pub invariant-loop-change : goal.invariant-loop-change
invariant-loop-change l = l.flags.items ≡ map (is_left_in l.batches) (rows_of (take l.change-index l.changes))
