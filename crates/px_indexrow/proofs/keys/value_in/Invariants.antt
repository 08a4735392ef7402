use Rattle.std.proofs.Common.{◌≢◌, ℕ, ◌<◌, get_or}
use Rattle.px_values.specs.declared.order.Direction.TheVariants.{Ascending}
use Rattle.px_indexrow.proofs.keys.value_in.Given as goal

abbrev pub invariant-loop-index : goal.invariant-loop-index
invariant-loop-index l = (j : ℕ) → j < l.index → (get_or l.key j (record { column = 0; direction = Ascending })).column ≢ l.column
