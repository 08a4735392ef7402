use Rattle.std.proofs.Common.{◌≡◌, ℕ, ◌<◌, get_or}
use Rattle.px_values.specs.declared.row.Value.TheVariants.{Null}
use Rattle.px_phases.proofs.flags.is_same.Given as goal

abbrev pub invariant-loop-i : goal.invariant-loop-i
invariant-loop-i l = (k : ℕ) → k < l.i → get_or l.a k Null ≡ get_or l.b k Null
