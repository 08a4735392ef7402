use Rattle.std.proofs.Common.{◌≡◌, take, map}
use Rattle.px_rows.specs.Keys.{key_column}
use Rattle.px_looks.proofs.rows.columns_of.Given as goal

abbrev pub invariant-loop-place : goal.invariant-loop-place
invariant-loop-place l = l.columns.items ≡ map (key_column l.table.columns) (take l.place-index l.place-items)
