use Rattle.std.proofs.Common.{◌≡◌, ◌++◌, take}
use Rattle.std.specs.List.{flat_map}
use Rattle.px_schema.specs.Spelled.{index_bytes}
use Rattle.px_schema.proofs.write.put_indexes.Given as goal

abbrev pub invariant-loop-index : goal.invariant-loop-index
invariant-loop-index l = l.to.items ≡ l.initial.to.items ++ flat_map index_bytes (take l.index-index l.indexes)
