use Rattle.std.proofs.Common.{◌≡◌, ◌+◌, map, drop}
use Rattle.px_resolve.specs.Names.{place_of_name}
use Rattle.px_resolve.proofs.names.find_place.Given as goal

abbrev pub invariant-loop-place : goal.invariant-loop-place
invariant-loop-place g l = place_of_name (map g.C.Named.name_in l.columns) l.name ≡ l.place + place_of_name (map g.C.Named.name_in (drop l.place l.columns)) l.name
