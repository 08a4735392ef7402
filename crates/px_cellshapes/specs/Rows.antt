-- The shape of the cells of a table's rows.
use Rattle.std.specs.Prelude.{◌≡◌, ℕ, zero, suc, ◌<◌, false, List, [], length, Some}
use Rattle.px_cells.specs.declared.kind.CellKind.{CellKind}
use Rattle.px_cells.specs.declared.kind.CellKind.TheVariants.{Put, Delete, DeleteFamilyVersion}
use Rattle.px_cells.specs.CellData.{CellData}
use Rattle.px_cells.specs.Contents.{value_at}
use Rattle.px_cells.specs.Order.{GoesWith}
use Rattle.px_keys.specs.Reading.{IsKey}
use Rattle.px_rows.specs.Keys.{column_in, is_part, row_columns}
use Rattle.px_tables.specs.declared.table.Table.{Table}
use Rattle.px_values.specs.Limits.{most_key}
use Rattle.px_cellshapes.specs.Values.{IsStored}

-- a cell of a column: it is one outside the primary key, and what is put is a value of its type
pub record FitsColumnCell (t : Table) (column : ℕ) (kind : CellKind) (value : List ℕ) : Type 0 where
  pub within : column < length t.columns
  pub beside : is_part t.key column ≡ false
  pub stored : kind ≡ Put → IsStored (column_in t.columns column).column_type value

-- what stands at a qualifier: 0 is the row's, 1 that of the empty column, which has no value, and column c has c + 2
abbrev pub FitsPlace : Table → ℕ → CellKind → List ℕ → Type 0
FitsPlace t zero kind value = Unit {0}
FitsPlace t (suc zero) kind value = kind ≡ Put → value ≡ []
FitsPlace t (suc (suc column)) kind value = FitsColumnCell t column kind value

-- A cell of a row: its key is one of the table's row keys, its kind is one that stands at its qualifier, and neither a Delete nor a
-- marker of one version, and what is put there is a value of the column.
pub record IsRightRowCell (t : Table) (c : CellData) : Type 0 where
  pub key : IsKey most_key (row_columns t) c.key
  pub placed : GoesWith c
  pub no_delete : c.kind ≡ Delete → ⊥
  pub no_version : c.kind ≡ DeleteFamilyVersion → ⊥
  pub fits : FitsPlace t c.qualifier c.kind c.value

-- each cell that is read is one
pub record AreRightRows (t : Table) (cells : List CellData) : Type 0 where
  pub each : (c : CellData) → value_at cells c.key c.qualifier c.stamp c.kind ≡ Some c.value → IsRightRowCell t c
