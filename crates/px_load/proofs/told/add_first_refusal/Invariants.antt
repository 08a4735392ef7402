use Rattle.std.proofs.Common.{◌≡◌, length}
use Rattle.px_load.specs.Told.{first_refusal}
use Rattle.px_load.proofs.told.add_first_refusal.Given as goal

abbrev pub invariant-items : goal.invariant-items
invariant-items l = (first_refusal l.left ≡ first_refusal l.items) × (l.to ≡ l.initial.to)

abbrev pub decreases-items : goal.decreases-items
decreases-items l = length l.left
