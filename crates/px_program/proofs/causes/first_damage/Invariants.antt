use Rattle.std.proofs.Common.{◌≡◌, length}
use Rattle.px_program.specs.Status as spec
use Rattle.px_program.proofs.causes.first_damage.Given as goal

abbrev pub invariant-items : goal.invariant-items
invariant-items l = spec.first_damage l.left ≡ spec.first_damage l.items

abbrev pub decreases-items : goal.decreases-items
decreases-items l = length l.left
