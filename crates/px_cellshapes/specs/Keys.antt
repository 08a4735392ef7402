-- The shape of the cells of an index's keys.
use Rattle.std.specs.Prelude.{◌≡◌, ℕ, zero, suc, true, nat_eq, ◌⊎◌, List, [], ◌∷◌, Some}
use Rattle.std.specs.List.{list_any}
use Rattle.px_cells.specs.declared.kind.CellKind.{CellKind}
use Rattle.px_cells.specs.declared.kind.CellKind.TheVariants.{Put, Delete, DeleteColumn}
use Rattle.px_cells.specs.CellData.{CellData}
use Rattle.px_cells.specs.Contents.{value_at}
use Rattle.px_cells.specs.Order.{GoesWith}
use Rattle.px_indexrow.specs.Form.{index_columns}
use Rattle.px_keys.specs.Reading.{IsKey}
use Rattle.px_rows.specs.Keys.{column_in}
use Rattle.px_tables.specs.declared.index.Index.{Index}
use Rattle.px_tables.specs.declared.table.Table.{Table}
use Rattle.px_values.specs.Limits.{most_key}
use Rattle.px_cellshapes.specs.Values.{IsStored}

-- the status of a version: 1 is verified, 2 isn't
abbrev pub IsStatus : List ℕ → Type 0
IsStatus value = (value ≡ 1 ∷ []) ⊎ (value ≡ 2 ∷ [])

-- a cell of an included column: what is put is a value of its type
pub record FitsIncluded (t : Table) (i : Index) (column : ℕ) (kind : CellKind) (value : List ℕ) : Type 0 where
  pub included : list_any (λ c. nat_eq c column) i.included ≡ true
  pub stored : kind ≡ Put → IsStored (column_in t.columns column).column_type value

-- a cell of the status, which no DeleteColumn takes away
pub record FitsStatus (kind : CellKind) (value : List ℕ) : Type 0 where
  pub stays : kind ≡ DeleteColumn → ⊥
  pub status : kind ≡ Put → IsStatus value

-- what stands at a qualifier: 0 is the key's, 1 that of the status, and column c of the table has c + 2
abbrev pub FitsKeyPlace : Table → Index → ℕ → CellKind → List ℕ → Type 0
FitsKeyPlace t i zero kind value = Unit {0}
FitsKeyPlace t i (suc zero) kind value = FitsStatus kind value
FitsKeyPlace t i (suc (suc column)) kind value = FitsIncluded t i column kind value

-- A cell of an index's key: the key is one of the index's, the kind is one that stands at the qualifier, and no Delete, and what is
-- put there is a status or a value of the column.
pub record IsRightIndexCell (t : Table) (i : Index) (c : CellData) : Type 0 where
  pub key : IsKey most_key (index_columns t i) c.key
  pub placed : GoesWith c
  pub no_delete : c.kind ≡ Delete → ⊥
  pub fits : FitsKeyPlace t i c.qualifier c.kind c.value

-- each cell that is read is one
pub record AreRightKeys (t : Table) (i : Index) (cells : List CellData) : Type 0 where
  pub each : (c : CellData) → value_at cells c.key c.qualifier c.stamp c.kind ≡ Some c.value → IsRightIndexCell t i c
