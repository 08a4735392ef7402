use Rattle.std.proofs.Common.{◌≡◌, ◌≤◌, All, length, ◌++◌, map, drop, take}
use Rattle.px_resolve.specs.Names.{once, place_of_name}
use Rattle.px_resolve.proofs.names.bind_once.Given as goal

abbrev pub invariant-loop-item : goal.invariant-loop-item
invariant-loop-item g l = record {
  rest : once (map g.C.Named.name_in l.columns) l.before (map g.N.Named.name_in l.names) ≡ once (map g.C.Named.name_in l.columns) (l.before ++ l.places.items) (map g.N.Named.name_in (drop l.item-index l.names));
  made : l.places.items ≡ map (place_of_name (map g.C.Named.name_in l.columns)) (map g.N.Named.name_in (take l.item-index l.names));
  bound : All (λ p. p ≤ length l.columns) l.places.items;
}
