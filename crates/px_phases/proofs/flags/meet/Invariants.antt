use Rattle.std.proofs.Common.{◌≡◌, ℕ, ◌<◌, ◌≤◌, false, ◌||◌, get_or}
use Rattle.px_trail.specs.Batches.{has, rows_of}
use Rattle.px_phases.proofs.Flagging.{no_change}
use Rattle.px_phases.proofs.flags.meet.Given as goal

abbrev pub invariant-loop-i : goal.invariant-loop-i
invariant-loop-i l = record {
  done : (k : ℕ) → k < l.i → get_or l.flags k false ≡ (get_or l.initial.flags k false || has (rows_of l.others) (get_or l.changes k no_change).row);
  ahead : (k : ℕ) → l.i ≤ k → get_or l.flags k false ≡ get_or l.initial.flags k false;
}
