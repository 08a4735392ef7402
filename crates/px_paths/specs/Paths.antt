-- The columns of row keys, and what an index shows of a row.
use Rattle.std.specs.Prelude.{◌≡◌, ◌⊎◌, ℕ, ◌+◌, Bool, true, false, ◌&&◌, ◌||◌, not, nat_eq, if◌then◌else◌, List, [], ◌∷◌, ◌++◌, map, filter, Option, Some, None, slice_index_or}
use Rattle.std.specs.List.{list_any, slice_get}
use Rattle.px_values.specs.Types.{HasType}
use Rattle.px_values.specs.declared.column.ColType.{ColType}
use Rattle.px_values.specs.declared.column.ColType.TheVariants.{Varchar}
use Rattle.px_values.specs.declared.row.Value.{Value}
use Rattle.px_values.specs.declared.row.Value.TheVariants.{Null}
use Rattle.px_keys.specs.Spelling.{Fits, spelled}
use Rattle.px_keys.specs.declared.parts.KeyColumn.{KeyColumn}
use Rattle.px_tables.specs.declared.index.Index.{Index}
use Rattle.px_tables.specs.declared.table.KeyPlace.{KeyPlace}
use Rattle.px_tables.specs.declared.table.Table.{Table}
use Rattle.px_tables.specs.declared.table.TableColumn.{TableColumn}
use Rattle.px_paths.specs.declared.path.PathColumn.{PathColumn}

-- 1. Columns

-- the type of the column at a place
abbrev pub type_in : Option TableColumn → ColType
type_in None = Varchar
type_in (Some c) = c.column_type

abbrev pub is_text : ColType → Bool
is_text Varchar = true
is_text t = false

-- a primary key column may be NULL where it is a text without NOT NULL
abbrev pub may_be_null_in : Option TableColumn → Bool
may_be_null_in None = true
may_be_null_in (Some c) = is_text c.column_type && not c.not_null

-- one of these parts is of the column at this place
abbrev pub is_keyed : List KeyPlace → ℕ → Bool
is_keyed key place = list_any (λ p. nat_eq p.column place) key

-- a part of a table's row keys
abbrev pub key_part : List TableColumn → KeyPlace → PathColumn
key_part columns p = record { place = p.column; column = record { ty = type_in (slice_get columns p.column); direction = p.direction; may_be_null = may_be_null_in (slice_get columns p.column) } }

-- a part of an index's row keys: it may be NULL where it isn't of the primary key
abbrev pub index_part : Table → KeyPlace → PathColumn
index_part t p = record { place = p.column; column = record { ty = type_in (slice_get t.columns p.column); direction = p.direction; may_be_null = not (is_keyed t.key p.column) || may_be_null_in (slice_get t.columns p.column) } }

-- the columns of a table's row keys
abbrev pub table_path : Table → List PathColumn
table_path t = map (key_part t.columns) t.key

-- the columns of an index's row keys: the indexed ones, then those of the primary key that aren't among them
abbrev pub index_path : Table → Index → List PathColumn
index_path t x = map (index_part t) x.parts ++ map (key_part t.columns) (filter (λ p. not (is_keyed x.parts p.column)) t.key)

-- 2. Keys of rows

abbrev pub columns_on : List PathColumn → List KeyColumn
columns_on path = map (λ p. p.column) path

-- the values of a row that stand in its key
abbrev pub values_on : List PathColumn → List Value → List Value
values_on path row = map (λ p. slice_index_or row p.place Null) path

-- the row key of a row
abbrev pub key_on : List PathColumn → List Value → List ℕ
key_on path row = spelled (columns_on path) (values_on path row)

-- the value of a column among those of a key
unfoldable pub value_on_path : List PathColumn → List Value → ℕ → Value
value_on_path [] values place = Null
value_on_path (p ∷ path) [] place = Null
value_on_path (p ∷ path) (v ∷ values) place = if nat_eq p.place place then v else value_on_path path values place

-- the primary key values among those of an index's row key
abbrev pub owner_of : Table → List PathColumn → List Value → List Value
owner_of t path values = map (λ p. value_on_path path values p.column) t.key

-- 3. What an index shows

-- the index holds the column: it is indexed, included or of the primary key
abbrev pub is_held : Table → Index → ℕ → Bool
is_held t x place = is_keyed x.parts place || (is_keyed t.key place || list_any (λ c. nat_eq c place) x.included)

unfoldable pub shown_from : Table → Index → ℕ → List Value → List Value
shown_from t x place [] = []
shown_from t x place (v ∷ row) = (if is_held t x place then v else Null) ∷ shown_from t x (place + 1) row

-- the row, with NULL in the columns that the index doesn't hold
abbrev pub shown_on : Table → Index → List Value → List Value
shown_on t x row = shown_from t x 0 row

-- 4. Rows of a table

-- each column's value is of its type, or NULL
abbrev pub AreOfTypes : List TableColumn → List Value → Type 0
AreOfTypes [] [] = Unit {0}
AreOfTypes (c ∷ columns) (v ∷ row) = ((v ≡ Null) ⊎ HasType c.column_type v) × AreOfTypes columns row
AreOfTypes [] (v ∷ row) = ⊥
AreOfTypes (c ∷ columns) [] = ⊥

-- a row as the table may have one: of the columns' types, and its primary key values are a key
pub record FitsRow (t : Table) (row : List Value) : Type 0 where
  pub types : AreOfTypes t.columns row
  pub key : Fits (columns_on (table_path t)) (values_on (table_path t) row)
