use Rattle.std.proofs.Common.{◌≡◌, drop}
use Rattle.px_trail.specs.Batches.{change_of}
use Rattle.px_phases.proofs.pending.change_in.Given as goal

abbrev pub invariant-loop-change : goal.invariant-loop-change
invariant-loop-change l = change_of l.changes l.row ≡ change_of (drop l.change-index l.changes) l.row
