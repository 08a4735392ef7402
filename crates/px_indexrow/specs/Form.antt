-- The index rows of a table's index, as a form.
use Rattle.std.specs.Prelude.{◌≡◌, ℕ, suc, ◌<◌, Bool, true, cond, nat_eq, List, [], ◌∷◌, ◌++◌, map, length, get_or, Option, Some, None}
use Rattle.std.specs.List.{All}
use Rattle.std.specs.Ordering.{is_eq}
use Rattle.px_values.specs.Limits.{most_key}
use Rattle.px_values.specs.Order.{row_order}
use Rattle.px_values.specs.States.{RowState}
use Rattle.px_values.specs.Types.{HasType}
use Rattle.px_values.specs.declared.row.Value.{Value}
use Rattle.px_values.specs.declared.row.Value.TheVariants.{Null, Number, Truth, Text}
use Rattle.px_keys.specs.Spelling.{spelled}
use Rattle.px_keys.specs.declared.parts.KeyColumn.{KeyColumn}
use Rattle.px_tables.specs.declared.index.Index.{Index}
use Rattle.px_tables.specs.declared.table.KeyPlace.{KeyPlace}
use Rattle.px_tables.specs.declared.table.Table.{Table}
use Rattle.px_forms.specs.Indexes.{IndexForm}
use Rattle.px_rows.specs.Keys.{column_in, is_part, key_admits_null, read_parts}
use Rattle.px_rows.specs.Stored.{stored}

-- 1. The columns of an index key

-- a column of an index key as a part of keys: one that isn't in the primary key may be NULL
abbrev pub index_column : Table → KeyPlace → KeyColumn
index_column t p =
    record {
      ty = (column_in t.columns p.column).column_type;
      direction = p.direction;
      may_be_null = cond (is_part t.key p.column) (key_admits_null (column_in t.columns p.column).column_type (column_in t.columns p.column).not_null) true;
    }

-- the parts of the primary key that aren't among the indexed ones
unfoldable pub rest_of : List KeyPlace → List KeyPlace → List KeyPlace
rest_of parts [] = []
rest_of parts (p ∷ key) = cond (is_part parts p.column) (rest_of parts key) (p ∷ rest_of parts key)

-- the indexed columns, then those parts of the primary key
abbrev pub index_places : Table → Index → List KeyPlace
index_places t i = i.parts ++ rest_of i.parts t.key

abbrev pub index_columns : Table → Index → List KeyColumn
index_columns t i = map (index_column t) (index_places t i)

-- 2. Keys

-- the value of a column: of one in the primary key its value there, of another that of the row
unfoldable pub value_of_column : List KeyPlace → List Value → List Value → ℕ → Value
value_of_column [] r row c = get_or row c Null
value_of_column (p ∷ key) [] row c = get_or row c Null
value_of_column (p ∷ key) (v ∷ r) row c = cond (nat_eq p.column c) v (value_of_column key r row c)

abbrev pub index_values : Table → Index → List Value → List Value → List Value
index_values t i r row = map (λ p. value_of_column t.key r row p.column) (index_places t i)

-- the value that stands at a column's place among these
unfoldable pub value_among : List KeyPlace → List Value → ℕ → Value
value_among [] vs c = Null
value_among (p ∷ places) [] c = Null
value_among (p ∷ places) (v ∷ vs) c = cond (nat_eq p.column c) v (value_among places vs c)

-- the primary key values that an index key holds
abbrev pub row_of_index : Table → Index → List ℕ → List Value
row_of_index t i k = map (λ p. value_among (index_places t i) (read_parts (index_columns t i) k) p.column) t.key

-- the index key is one of the row's
unfoldable pub owns : Table → Index → List Value → List ℕ → Bool
owns t i r k = is_eq (row_order (row_of_index t i k) r)

-- the index key of a row's state; a state that its key isn't read back from has none
abbrev pub key_of_state : Table → Index → List Value → RowState → Option (List ℕ)
key_of_state t i r None = None
key_of_state t i r (Some row) = cond (owns t i r (spelled (index_columns t i) (index_values t i r row))) (Some (spelled (index_columns t i) (index_values t i r row))) None

-- 3. Included columns

-- the bytes of a value, none of NULL
abbrev pub bytes_if : List ℕ → Value → Option (List ℕ)
bytes_if bytes Null = None
bytes_if bytes (Number n) = Some bytes
bytes_if bytes (Truth b) = Some bytes
bytes_if bytes (Text b) = Some bytes

-- the place of an included column in the table
abbrev pub included_at : Index → ℕ → ℕ
included_at i c = get_or i.included c 0

abbrev pub included_bytes : Table → Index → RowState → ℕ → Option (List ℕ)
included_bytes t i None c = None
included_bytes t i (Some row) c = bytes_if (stored (column_in t.columns (included_at i c)).column_type (get_or row (included_at i c) Null)) (get_or row (included_at i c) Null)

-- 4. The form

abbrev pub index_form : Table → Index → IndexForm
index_form t i =
    record {
      columns = length i.included;
      place = λ c. suc (suc (included_at i c));
      key_of = key_of_state t i;
      col = included_bytes t i;
      owns = owns t i;
    }

-- the index names columns of the table, and includes each once
pub record IsRightIndex (t : Table) (i : Index) : Type 0 where
  pub parts : All (λ p. p.column < length t.columns) i.parts
  pub within : (c : ℕ) → c < length i.included → included_at i c < length t.columns
  pub once : (c d : ℕ) → c < length i.included → d < length i.included → included_at i c ≡ included_at i d → c ≡ d

-- the state is nothing, or has a value of its type for each column
abbrev pub FitsRowState : Table → RowState → Type 0
FitsRowState t None = Unit {0}
FitsRowState t (Some row) = (length row ≡ length t.columns) × ((c : ℕ) → c < length t.columns → HasType (column_in t.columns c).column_type (get_or row c Null))

-- the key of the state would have more than 1,024 bytes
abbrev pub IsLongInIndex : Table → Index → List Value → RowState → Type 0
IsLongInIndex t i r None = ⊥
IsLongInIndex t i r (Some row) = most_key < length (spelled (index_columns t i) (index_values t i r row))
