use Rattle.std.proofs.Common.{subst, sym}
use Rattle.px_schema.specs.Format.{standing_piece}
use Rattle.px_schema.specs.Fresh.{fresh_right}
use Rattle.px_catalog.proofs.open.with_standing.Goals as goal

pub invariant_of-result-in-None : goal.invariant_of-result-in-None
invariant_of-result-in-None c = record { right = ∣ subst standing_piece.right (sym c.in_ok-fresh-in-None.ensures) fresh_right ∣₁ }
