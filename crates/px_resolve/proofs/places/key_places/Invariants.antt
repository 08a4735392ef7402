use Rattle.std.proofs.Common.{◌≡◌, map, take}
use Rattle.px_resolve.specs.Names.{key_place}
use Rattle.px_resolve.proofs.places.key_places.Given as goal

abbrev pub invariant-loop-part : goal.invariant-loop-part
invariant-loop-part g l = l.places.items ≡ map (key_place (map g.C.Named.name_in l.columns)) (take l.part-index l.parts)
