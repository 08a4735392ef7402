use Rattle.std.proofs.Common.{◌≡◌, drop}
use Rattle.std.specs.List.{flat_map}
use Rattle.px_create.specs.Limits.{name_limit}
use Rattle.px_create.proofs.tables.check_column_names.Given as goal

abbrev pub invariant-loop-column : goal.invariant-loop-column
invariant-loop-column l = flat_map (λ c. name_limit c.name) l.columns ≡ flat_map (λ c. name_limit c.name) (drop l.column-index l.columns)
