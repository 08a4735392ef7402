use Rattle.std.proofs.Common.{◌≡◌, drop}
use Rattle.px_verified.specs.Verified.{id_of_index_named}
use Rattle.px_verified.proofs.asked.index_named.Given as goal

abbrev pub invariant-loop-index : goal.invariant-loop-index
invariant-loop-index l = id_of_index_named l.indexes l.name ≡ id_of_index_named (drop l.index-index l.indexes) l.name
