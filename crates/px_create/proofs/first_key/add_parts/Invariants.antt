use Rattle.std.proofs.Common.{◌≡◌, ◌++◌, map, take}
use Rattle.px_resolve.specs.Names.{key_place}
use Rattle.px_create.specs.Tables.{new_names}
use Rattle.px_create.proofs.first_key.add_parts.Given as goal

abbrev pub invariant-loop-part : goal.invariant-loop-part
invariant-loop-part l = l.key.items ≡ l.initial.key.items ++ map (key_place (new_names l.columns)) (take l.part-index l.parts)
