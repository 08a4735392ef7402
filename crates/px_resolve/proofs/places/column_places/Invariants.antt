use Rattle.std.proofs.Common.{◌≡◌, map, take}
use Rattle.px_resolve.specs.Names.{place_of_name}
use Rattle.px_resolve.proofs.places.column_places.Given as goal

abbrev pub invariant-loop-item : goal.invariant-loop-item
invariant-loop-item g l = l.places.items ≡ map (place_of_name (map g.C.Named.name_in l.columns)) (map g.N.Named.name_in (take l.item-index l.names))
