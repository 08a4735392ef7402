use Rattle.std.proofs.Common.{◌≡◌, get_or, map, take}
use Rattle.px_values.specs.declared.row.Value.TheVariants.{Null}
use Rattle.px_baserows.proofs.rows.owner_of.Given as goal

abbrev pub invariant-loop-place : goal.invariant-loop-place
invariant-loop-place l = l.values.items ≡ map (λ p. get_or l.row p.column Null) (take l.place-index l.places)
