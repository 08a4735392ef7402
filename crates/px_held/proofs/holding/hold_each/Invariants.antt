use Rattle.std.proofs.Common.{◌≡◌, ◌≤◌, length}
use Rattle.px_trail.specs.Trail.{table_shape}
use Rattle.px_held.specs.Held.{with_changes}
use Rattle.px_held.proofs.holding.hold_each.Given as goal

abbrev pub invariant-changes : goal.invariant-changes
invariant-changes l =
    record {
      so : with_changes (table_shape l.table) l.fn.held.items l.fn.changes.items ≡ with_changes (table_shape l.table) l.held.items l.changes.items;
      few : length l.fn.held.items ≤ 1000 → length l.held.items ≤ 1000;
    }

abbrev pub decreases-changes : goal.decreases-changes
decreases-changes l = l.changes.len
