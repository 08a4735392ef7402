use Rattle.std.proofs.Common.{◌≡◌, ℕ, ◌<◌, false, get_or}
use Rattle.std.specs.Ordering.{is_eq}
use Rattle.px_values.specs.Order.{row_order}
use Rattle.px_phases.proofs.Flagging.{no_change}
use Rattle.px_phases.proofs.flags.names.Given as goal

abbrev pub invariant-loop-change : goal.invariant-loop-change
invariant-loop-change l = (k : ℕ) → k < l.change-index → is_eq (row_order (get_or l.changes k no_change).row l.row) ≡ false
