-- The bytes of values in cells.
use Rattle.std.specs.Prelude.{ℕ, ◌≢◌, List}
use Rattle.px_values.specs.Types.{HasType}
use Rattle.px_values.specs.declared.column.ColType.{ColType}
use Rattle.px_values.specs.declared.row.Value.TheVariants.{Null}
use Rattle.px_rows.specs.Stored.{value_of_bytes}

-- the bytes are read as a value of the type, and not as NULL
pub record IsStored (ty : ColType) (bytes : List ℕ) : Type 0 where
  pub typed : HasType ty (value_of_bytes ty bytes)
  pub some : value_of_bytes ty bytes ≢ Null
