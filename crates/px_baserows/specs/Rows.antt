-- Rows of a table with their keys in an index, their base versions there, and that the table had them at the birth of the index.
use Rattle.std.specs.Prelude.{◌≡◌, ◌≤◌, ℕ, true, List, map, length, get_or, Some}
use Rattle.std.specs.List.{AllByRecursion}
use Rattle.px_cells.specs.CellData.{CellData}
use Rattle.px_forms.specs.Indexes.{IndexForm}
use Rattle.px_indexrow.specs.Form.{FitsRowState, key_of_state}
use Rattle.px_indexrow.specs.Lists.{version_cells}
use Rattle.px_keys.specs.Spelling.{Fits}
use Rattle.px_rows.specs.Keys.{row_columns}
use Rattle.px_tables.specs.declared.index.Index.{Index}
use Rattle.px_tables.specs.declared.table.Table.{Table}
use Rattle.px_trail.specs.Batches.{IsDecided, is_distinct}
use Rattle.px_trail.specs.States.{state_of}
use Rattle.px_trail.specs.Trail.{Base, horizon_of}
use Rattle.px_trail.specs.declared.entry.Entry.{Entry}
use Rattle.px_values.specs.Limits.{most_key}
use Rattle.px_values.specs.declared.row.Value.{Value}
use Rattle.px_values.specs.declared.row.Value.TheVariants.{Null}
use Rattle.px_calls.specs.declared.query.BaseRow.{BaseRow}

-- 1. Rows with their index keys

-- the primary key values of a row
abbrev pub owner_in : Table → List Value → List Value
owner_in t row = map (λ p. get_or row p.column Null) t.key

-- the row has a value of its type for each column, its primary key values may be a key, and its key in the index is this one, and not too long
pub record IsBaseRow (t : Table) (i : Index) (x : BaseRow) : Type 0 where
  pub fits : FitsRowState t (Some x.row)
  pub owner : Fits (row_columns t) (owner_in t x.row)
  pub key : key_of_state t i (owner_in t x.row) (Some x.row) ≡ Some x.key
  pub short : length x.key ≤ most_key

abbrev pub owners_in : Table → List BaseRow → List (List Value)
owners_in t xs = map (λ x. owner_in t x.row) xs

-- so are all of these, and no two have one primary key
pub record AreBaseRows (t : Table) (i : Index) (xs : List BaseRow) : Type 0 where
  pub each : AllByRecursion (IsBaseRow t i) xs
  pub distinct : is_distinct (owners_in t xs) ≡ true

-- 2. Their base versions

-- of each row a verified version at its index key, with a cell for each included column
abbrev pub base_parts : IndexForm → ℕ → List BaseRow → List (List CellData)
base_parts f s xs = map (λ x. version_cells f x.key s 1 (Some x.row)) xs

-- 3. That the table had them

-- nothing at or below the point is forgotten or undecided, and at the point each row was as it is here
pub record StoodAt (b : Base) (es : List Entry) (t : Table) (p : ℕ) (xs : List BaseRow) : Type 0 where
  pub horizon : horizon_of b t.id.0 es ≤ p
  pub decided : IsDecided es t.id.0 p
  pub each : AllByRecursion (λ x. state_of b es t.id.0 (owner_in t x.row) p ≡ Some x.row) xs
