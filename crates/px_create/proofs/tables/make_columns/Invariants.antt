use Rattle.std.proofs.Common.{◌≡◌, map, take}
use Rattle.px_create.specs.Tables.{new_column}
use Rattle.px_create.proofs.tables.make_columns.Given as goal

abbrev pub invariant-loop-column : goal.invariant-loop-column
invariant-loop-column l = l.made.items ≡ map new_column (take l.column-index l.columns)
