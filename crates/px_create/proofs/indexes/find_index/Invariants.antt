use Rattle.std.proofs.Common.{◌≡◌, drop}
use Rattle.px_create.specs.Indexes.{index_id_named}
use Rattle.px_create.proofs.indexes.find_index.Given as goal

abbrev pub invariant-loop-index : goal.invariant-loop-index
invariant-loop-index l = index_id_named l.indexes l.name ≡ index_id_named (drop l.index-index l.indexes) l.name
