-- The keys of a table's rows.
use Rattle.std.specs.Prelude.{ℕ, ◌≤◌, List, length, Some, None}
use Rattle.std.specs.List.{AllByRecursion}
use Rattle.px_keys.specs.Spelling.{IsKeyOf}
use Rattle.px_rows.specs.Keys.{row_columns, row_key}
use Rattle.px_tables.specs.declared.table.Table.{Table}
use Rattle.px_trail.specs.States.{begun}
use Rattle.px_trail.specs.declared.entry.Entry.{Entry}
use Rattle.px_values.specs.Limits.{most_key}
use Rattle.px_values.specs.States.{RowState}
use Rattle.px_values.specs.declared.row.Value.{Value}

-- a row that stands has a key: values that the primary key may have, spelled in at most 1,024 bytes
abbrev pub HasShortKey : Table → List Value → RowState → Type 0
HasShortKey t r None = Unit {0}
HasShortKey t r (Some row) = IsKeyOf (row_columns t) r (row_key t r)

-- so does each row that stands at a point from this one on
pub record HaveShortKeys (t : Table) (low : ℕ) (states : List Value → ℕ → RowState) : Type 0 where
  pub each : (r : List Value) (p : ℕ) → low ≤ p → HasShortKey t r (states r p)

-- each row of which a change was begun has a key of at most 1,024 bytes
pub record AreShort (t : Table) (n : ℕ) (es : List Entry) : Type 0 where
  pub each : (r : List Value) → AllByRecursion (λ d. length (row_key t r) ≤ most_key) (begun n r es)
