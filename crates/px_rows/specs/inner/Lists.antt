-- The cells of a change, as lists.
use Rattle.std.specs.Prelude.{ℕ, zero, suc, List, [], ◌∷◌, ◌++◌, length, Option, Some, None}
use Rattle.px_cells.specs.declared.kind.CellKind.TheVariants.{DeleteFamily}
use Rattle.px_cells.specs.CellData.{CellData}
use Rattle.px_tables.specs.declared.table.TableColumn.{TableColumn}
use Rattle.px_values.specs.declared.change.Assignment.{Assignment}
use Rattle.px_values.specs.declared.change.What.{What}
use Rattle.px_values.specs.declared.change.What.TheVariants.{Set, Gone}
use Rattle.px_values.specs.declared.row.Value.{Value}
use Rattle.px_rows.specs.Cells.{put_cell, value_cell}
use Rattle.px_rows.specs.Spelled.{assigned_to}

abbrev pub gone_cell : List ℕ → ℕ → CellData
gone_cell k s = record { key = k; qualifier = 0; stamp = s; kind = DeleteFamily; value = [] }

abbrev pub column_if : List TableColumn → List ℕ → ℕ → ℕ → Option Value → List CellData
column_if columns k s c None = []
column_if columns k s c (Some v) = value_cell columns k s c v ∷ []

-- the empty column, and the cells of the first columns that are assigned
unfoldable pub set_cells : List TableColumn → List ℕ → ℕ → List Assignment → ℕ → List CellData
set_cells columns k s as' zero = put_cell k 1 s [] ∷ []
set_cells columns k s as' (suc c) = set_cells columns k s as' c ++ column_if columns k s c (assigned_to as' c)

-- the cells of a change
abbrev pub change_list : List TableColumn → List ℕ → ℕ → What → List CellData
change_list columns k s (Set as') = set_cells columns k s as' (length columns)
change_list columns k s Gone = gone_cell k s ∷ []
