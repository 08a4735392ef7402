use Rattle.std.proofs.Common.{◌≡◌, false, drop}
use Rattle.px_create.specs.Tables.{new_names, repeated}
use Rattle.px_create.proofs.tables.check_columns.Given as goal

abbrev pub invariant-loop-place : goal.invariant-loop-place
invariant-loop-place l = repeated (new_names l.columns) 0 false l.columns ≡ repeated (new_names l.columns) l.place l.keyed (drop l.place l.columns)
