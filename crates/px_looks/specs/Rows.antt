-- What a table's path shows.
use Rattle.std.specs.Prelude.{◌≡◌, ℕ, List, Some}
use Rattle.px_cells.specs.Contents.{Contents}
use Rattle.px_values.specs.declared.row.Value.{Value}
use Rattle.px_tables.specs.declared.table.Table.{Table}
use Rattle.px_keys.specs.Spelling.{IsKeyOf}
use Rattle.px_rows.specs.Keys.{row_columns}
use Rattle.px_rows.specs.Spelled.{row_form}
use Rattle.px_calls.specs.declared.query.FoundKey.{FoundKey}
use Rattle.px_calls.specs.declared.query.FoundKey.TheVariants.{Sure}
use Rattle.px_looks.specs.Found.{RowContents}

-- the same at every key
abbrev pub everywhere : RowContents → Contents
everywhere h = λ k q s d. h q s d

-- of cells at a key, the row that a point sees, where the key is that of a row
pub record ShowsRow (t : Table) (p : ℕ) (k : List ℕ) (h : RowContents) (f : FoundKey) : Type 0 where
  pub values : List Value
  pub key : IsKeyOf (row_columns t) values k
  pub row : List Value
  pub stands : (row_form t).spelled (everywhere h) values p ≡ Some row
  pub is : f ≡ Sure (record { key = k; row = row })
