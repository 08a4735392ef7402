use Rattle.std.proofs.Common.{◌≡◌, ◌≤◌, All, length, ◌++◌, drop}
use Rattle.px_resolve.specs.Names.{places_from}
use Rattle.px_resolve.proofs.names.all_places.Given as goal

abbrev pub invariant-loop-place : goal.invariant-loop-place
invariant-loop-place g l = record {
  rest : places_from 0 l.columns ≡ l.places.items ++ places_from l.place (drop l.place l.columns);
  bound : All (λ p. p ≤ length l.columns) l.places.items;
}
