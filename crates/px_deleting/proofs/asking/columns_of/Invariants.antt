use Rattle.std.proofs.Common.{◌≡◌, map, take}
use Rattle.px_deleting.proofs.asking.columns_of.Given as goal

abbrev pub invariant-loop-place : goal.invariant-loop-place
invariant-loop-place l = l.columns.items ≡ map (λ p. p.column) (take l.place-index l.key)
