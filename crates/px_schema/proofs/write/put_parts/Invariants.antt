use Rattle.std.proofs.Common.{◌≡◌, ◌++◌, take}
use Rattle.std.specs.List.{flat_map}
use Rattle.px_schema.specs.Spelled.{key_part_bytes}
use Rattle.px_schema.proofs.write.put_parts.Given as goal

abbrev pub invariant-loop-part : goal.invariant-loop-part
invariant-loop-part l = l.to.items ≡ l.initial.to.items ++ flat_map key_part_bytes (take l.part-index l.parts)
