use Rattle.std.proofs.Common.{◌≡◌, take, map}
use Rattle.px_paths.specs.Paths.{value_on_path}
use Rattle.px_reading.proofs.doubted.values_among.Given as goal

abbrev pub invariant-loop-place : goal.invariant-loop-place
invariant-loop-place l = l.found.items ≡ map (λ p. value_on_path l.path l.values p.column) (take l.place-index l.place-items)
