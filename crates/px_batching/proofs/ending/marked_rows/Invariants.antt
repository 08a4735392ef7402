use Rattle.std.proofs.Common.{◌≡◌, ◌≤◌, ◌++◌, drop, take}
use Rattle.px_openbatches.specs.Pending.{flagged}
use Rattle.px_batching.proofs.ending.marked_rows.Given as goal

abbrev pub invariant-loop-i : goal.invariant-loop-i
invariant-loop-i l = record {
  behind : l.next ≤ l.i;
  so_far : take l.next l.rows.items ++ flagged (drop l.i l.marks) (drop l.i l.rows.items) ≡ flagged l.marks l.fn.rows;
}
