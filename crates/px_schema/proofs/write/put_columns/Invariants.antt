use Rattle.std.proofs.Common.{◌≡◌, ◌++◌, take}
use Rattle.std.specs.List.{flat_map}
use Rattle.px_schema.specs.Spelled.{column_bytes}
use Rattle.px_schema.proofs.write.put_columns.Given as goal

abbrev pub invariant-loop-column : goal.invariant-loop-column
invariant-loop-column l = l.to.items ≡ l.initial.to.items ++ flat_map column_bytes (take l.column-index l.columns)
