use Rattle.std.proofs.Common.{◌≡◌, ◌++◌, take}
use Rattle.px_indexrow.specs.Form.{rest_of}
use Rattle.px_indexrow.proofs.keys.places_of.Given as goal

abbrev pub invariant-loop-place : goal.invariant-loop-place
invariant-loop-place l = l.places.items ≡ l.indexed ++ rest_of l.indexed (take l.place-index l.place-items)
