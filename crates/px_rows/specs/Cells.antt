-- The cell of a column.
use Rattle.std.specs.Prelude.{ℕ, suc, List, []}
use Rattle.px_cells.specs.declared.kind.CellKind.TheVariants.{Put, DeleteColumn}
use Rattle.px_cells.specs.CellData.{CellData}
use Rattle.px_tables.specs.declared.table.TableColumn.{TableColumn}
use Rattle.px_values.specs.declared.row.Value.{Value}
use Rattle.px_values.specs.declared.row.Value.TheVariants.{Null, Number, Truth, Text}
use Rattle.px_rows.specs.Keys.{column_in}
use Rattle.px_rows.specs.Stored.{stored}

abbrev pub put_cell : List ℕ → ℕ → ℕ → List ℕ → CellData
put_cell k q s v = record { key = k; qualifier = q; stamp = s; kind = Put; value = v }

abbrev pub null_cell : List ℕ → ℕ → ℕ → CellData
null_cell k q s = record { key = k; qualifier = q; stamp = s; kind = DeleteColumn; value = [] }

-- the cell of a column and a value: a put, and a DeleteColumn for NULL
abbrev pub value_cell : List TableColumn → List ℕ → ℕ → ℕ → Value → CellData
value_cell columns k s c Null = null_cell k (suc (suc c)) s
value_cell columns k s c (Number n) = put_cell k (suc (suc c)) s (stored (column_in columns c).column_type (Number n))
value_cell columns k s c (Truth t) = put_cell k (suc (suc c)) s (stored (column_in columns c).column_type (Truth t))
value_cell columns k s c (Text b) = put_cell k (suc (suc c)) s (stored (column_in columns c).column_type (Text b))
