use Rattle.std.proofs.Common.{◌≡◌, ◌++◌, take}
use Rattle.std.specs.List.{flat_map}
use Rattle.px_schema.specs.Spelled.{table_bytes}
use Rattle.px_schema.proofs.write.put_tables.Given as goal

abbrev pub invariant-loop-table : goal.invariant-loop-table
invariant-loop-table l = l.to.items ≡ l.initial.to.items ++ flat_map table_bytes (take l.table-index l.tables)
