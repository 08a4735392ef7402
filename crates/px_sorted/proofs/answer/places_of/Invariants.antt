use Rattle.std.proofs.Common.{◌≡◌, map, take}
use Rattle.px_sorted.proofs.answer.places_of.Given as goal

abbrev pub invariant-loop-placed : goal.invariant-loop-placed
invariant-loop-placed l = l.places.items ≡ map (λ p. p.at) (take l.placed-index l.rows)
