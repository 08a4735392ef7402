use Rattle.std.proofs.Common.{◌≡◌, ◌++◌, drop}
use Rattle.px_resolve.specs.Names.{places_from}
use Rattle.px_resolve.proofs.places.all_columns.Given as goal

abbrev pub invariant-loop-place : goal.invariant-loop-place
invariant-loop-place g l = places_from 0 l.columns ≡ l.places.items ++ places_from l.place (drop l.place l.columns)
