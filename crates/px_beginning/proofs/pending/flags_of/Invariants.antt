use Rattle.std.proofs.Common.{◌≡◌, map, take}
use Rattle.std.specs.Prelude.{is_some}
use Rattle.std.specs.List.{list_any}
use Rattle.px_trail.specs.Batches.{rows_of}
use Rattle.px_phases.specs.Batch.{left_in}
use Rattle.px_beginning.proofs.pending.flags_of.Given as goal

abbrev pub invariant-loop-change : goal.invariant-loop-change
invariant-loop-change l = l.flags.items ≡ map (λ r. list_any (λ m. is_some (left_in m.batch r)) l.batches) (rows_of (take l.change-index l.changes))
