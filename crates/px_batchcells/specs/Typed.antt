-- The states of a table's rows have values of its columns' types.
use Rattle.std.specs.Prelude.{ℕ, ◌≤◌, List}
use Rattle.px_indexrow.specs.Form.{FitsRowState}
use Rattle.px_tables.specs.declared.table.Table.{Table}
use Rattle.px_values.specs.States.{RowState}
use Rattle.px_values.specs.declared.row.Value.{Value}

-- at each point from this one on the state of a row fits the table
abbrev pub IsTypedFrom : Table → ℕ → (ℕ → RowState) → Type 0
IsTypedFrom t low state = (p : ℕ) → low ≤ p → FitsRowState t (state p)

-- and so does that of every row
pub record AreTyped (t : Table) (low : ℕ) (states : List Value → ℕ → RowState) : Type 0 where
  pub each : (r : List Value) → IsTypedFrom t low (states r)
