-- Definitions that a server lets in.
use Rattle.std.specs.Prelude.{◌≡◌, ℕ, List, [], ◌∷◌, Some}
use Rattle.std.specs.List.{All}
use Rattle.px_tables.specs.declared.index.Index.{Index}
use Rattle.px_tables.specs.declared.table.Table.{Table}
use Rattle.px_tables.specs.declared.table.TableRegion.{TableRegion}
use Rattle.px_rows.specs.Keys.{IsRightTable}
use Rattle.px_indexrow.specs.Form.{IsRightIndex}
use Rattle.px_schema.specs.declared.standing.Standing.{Standing}
use Rattle.px_recovery.specs.Tables.{number_of_index, table_in}
use Rattle.px_standing.specs.Agrees.{AreRisingBy, number_of_table}

-- the number of the first region
abbrev pub first_number : List TableRegion → ℕ
first_number [] = 0
first_number (g ∷ gs) = g.number

-- one region, whose least key is the empty one
abbrev pub IsOneRegion : List TableRegion → Type 0
IsOneRegion [] = ⊥
IsOneRegion (g ∷ []) = g.least_key ≡ []
IsOneRegion (g ∷ h ∷ gs) = ⊥

pub record IsRightDefinition (t : Table) : Type 0 where
  pub table : IsRightTable t
  pub region : IsOneRegion t.regions

-- the index is of a table that stands, and right for it
pub record IsRightOf (tables : List Table) (i : Index) : Type 0 where
  pub table : Table
  pub stands : table_in tables i.table.0 ≡ Some table
  pub right : IsRightIndex table i

-- Each definition is right, and tables and indexes stand in the order of their numbers.
pub record AreRight (s : Standing) : Type 0 where
  pub tables : All IsRightDefinition s.tables
  pub indexes : All (IsRightOf s.tables) s.indexes
  pub tables_rise : AreRisingBy number_of_table s.tables
  pub indexes_rise : AreRisingBy number_of_index s.indexes
