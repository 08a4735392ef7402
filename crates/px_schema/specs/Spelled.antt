-- Definitions and snapshots as bytes. Numbers are big-endian; a list stands behind its length.
use Rattle.std.specs.Prelude.{◌<◌, ◌++◌, ◌∷◌, [], ℕ, List, length}
use Rattle.std.specs.Int.{bytes_high_first}
use Rattle.std.specs.List.{AllByRecursion, flat_map}
use Rattle.px_values.specs.Types.{type_code}
use Rattle.px_tables.specs.declared.index.Index.{Index}
use Rattle.px_tables.specs.declared.table.KeyPlace.{KeyPlace}
use Rattle.px_tables.specs.declared.table.Table.{Table}
use Rattle.px_tables.specs.declared.table.TableColumn.{TableColumn}
use Rattle.px_tables.specs.declared.table.TableRegion.{TableRegion}
use Rattle.px_schema.specs.declared.item.CatalogItem.{CatalogItem}
use Rattle.px_schema.specs.declared.item.CatalogItem.TheVariants.{IndexGone, IndexIs, TableGone, TableIs}
use Rattle.px_schema.specs.declared.standing.Standing.{Standing}
use Rattle.px_schema.specs.Parts.{bit_of, direction_code, state_code}

-- a name, a column, a part of a key and a region
abbrev pub name_bytes : List ℕ → List ℕ
name_bytes name = length name ∷ name

abbrev pub column_bytes : TableColumn → List ℕ
column_bytes c = name_bytes c.name ++ type_code c.column_type ∷ bit_of c.not_null ∷ []

abbrev pub key_part_bytes : KeyPlace → List ℕ
key_part_bytes p = p.column ∷ direction_code p.direction ∷ []

abbrev pub region_bytes : TableRegion → List ℕ
region_bytes r = bytes_high_first 4 r.number ++ (bytes_high_first 2 (length r.least_key) ++ r.least_key)

-- a list of them
abbrev pub list_bytes : {T : Type 0} → (T → List ℕ) → List T → List ℕ
list_bytes spelled l = length l ∷ flat_map spelled l

-- number, name, columns, primary key, regions
abbrev pub table_bytes : Table → List ℕ
table_bytes t = bytes_high_first 4 t.id.0 ++ (name_bytes t.name ++ (list_bytes column_bytes t.columns ++ (list_bytes key_part_bytes t.key ++ list_bytes region_bytes t.regions)))

-- state, birth, region, indexed columns, included columns
abbrev pub built_bytes : Index → List ℕ
built_bytes i = state_code i.state ∷ (bytes_high_first 8 i.birth ++ (bytes_high_first 4 i.region ++ (list_bytes key_part_bytes i.parts ++ name_bytes i.included)))

-- number, number of the table, name, and the above
abbrev pub index_bytes : Index → List ℕ
index_bytes i = bytes_high_first 4 i.id.0 ++ (bytes_high_first 4 i.table.0 ++ (name_bytes i.name ++ built_bytes i))

-- next number, tables, indexes
abbrev pub standing_bytes : Standing → List ℕ
standing_bytes s = bytes_high_first 4 s.next ++ ((bytes_high_first 2 (length s.tables) ++ flat_map table_bytes s.tables) ++ (bytes_high_first 2 (length s.indexes) ++ flat_map index_bytes s.indexes))

-- the body of a definition's record, and its kind
abbrev pub body_of : CatalogItem → List ℕ
body_of (TableIs t) = table_bytes t
body_of (IndexIs i) = index_bytes i
body_of (TableGone n) = bytes_high_first 4 n.0
body_of (IndexGone n) = bytes_high_first 4 n.0

abbrev pub kind_of : CatalogItem → ℕ
kind_of (TableIs t) = 2
kind_of (IndexIs i) = 3
kind_of (TableGone n) = 4
kind_of (IndexGone n) = 5

-- every length fits its field
pub record FitsTableFields (t : Table) : Type 0 where
  pub name : length t.name < 256
  pub columns : length t.columns < 256
  pub names : AllByRecursion (λ c. length c.name < 256) t.columns
  pub key : length t.key < 256
  pub regions : length t.regions < 256
  pub keys : AllByRecursion (λ r. length r.least_key < 65536) t.regions

pub record FitsIndex (i : Index) : Type 0 where
  pub name : length i.name < 256
  pub parts : length i.parts < 256
  pub included : length i.included < 256

abbrev pub FitsCatalogItem : CatalogItem → Type 0
FitsCatalogItem (TableIs t) = FitsTableFields t
FitsCatalogItem (IndexIs i) = FitsIndex i
FitsCatalogItem (TableGone n) = Unit {0}
FitsCatalogItem (IndexGone n) = Unit {0}

pub record FitsSnapshot (s : Standing) : Type 0 where
  pub tables : length s.tables < 65536
  pub each_table : AllByRecursion FitsTableFields s.tables
  pub indexes : length s.indexes < 65536
  pub each_index : AllByRecursion FitsIndex s.indexes
