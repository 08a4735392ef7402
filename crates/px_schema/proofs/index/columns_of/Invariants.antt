use Rattle.std.proofs.Common.{◌≡◌, drop}
use Rattle.px_schema.specs.Format.{column_count}
use Rattle.px_schema.proofs.index.columns_of.Given as goal

abbrev pub invariant-loop-table : goal.invariant-loop-table
invariant-loop-table l = column_count l.tables l.number ≡ column_count (drop l.table-index l.tables) l.number
