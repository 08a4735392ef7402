-- The keys of a table's rows.
use Rattle.std.specs.Prelude.{◌≡◌, ℕ, suc, ◌<◌, ◌≤◌, Bool, true, false, cond, ◌&&◌, not, nat_eq, nat_lt, List, [], ◌∷◌, ◌++◌, map, length, take, drop, get_or, pos, negsuc}
use Rattle.std.specs.List.{All, list_any}
use Rattle.std.specs.Ordering.{is_eq}
use Rattle.px_values.specs.Order.{row_order}
use Rattle.px_values.specs.declared.column.ColType.{ColType}
use Rattle.px_values.specs.declared.column.ColType.TheVariants.{Varchar}
use Rattle.px_values.specs.declared.row.Value.{Value}
use Rattle.px_values.specs.declared.row.Value.TheVariants.{Null, Number, Truth, Text}
use Rattle.px_keys.specs.Spelling.{byte_width, directed, spelled}
use Rattle.px_keys.specs.declared.parts.KeyColumn.{KeyColumn}
use Rattle.px_tables.specs.declared.table.KeyPlace.{KeyPlace}
use Rattle.px_tables.specs.declared.table.Table.{Table}
use Rattle.px_tables.specs.declared.table.TableColumn.{TableColumn}
use Rattle.px_rows.specs.Stored.{number_of_bytes, ranked}

-- 1. Columns

-- a column where a table has none
abbrev pub no_column : TableColumn
no_column = record { name = []; column_type = Varchar; not_null = false }

-- the column at a place
abbrev pub column_in : List TableColumn → ℕ → TableColumn
column_in columns c = get_or columns c no_column

-- of the primary key just a text without NOT NULL may be NULL
abbrev pub key_admits_null : ColType → Bool → Bool
key_admits_null Varchar not_null = not not_null
key_admits_null ty not_null = false

-- a column of the primary key as a part of keys
abbrev pub key_column : List TableColumn → KeyPlace → KeyColumn
key_column columns p = record { ty = (column_in columns p.column).column_type; direction = p.direction; may_be_null = key_admits_null (column_in columns p.column).column_type (column_in columns p.column).not_null }

-- the columns of the primary key
abbrev pub row_columns : Table → List KeyColumn
row_columns t = map (key_column t.columns) t.key

-- the place is one of these
abbrev pub is_part : List KeyPlace → ℕ → Bool
is_part parts c = list_any (λ p. nat_eq p.column c) parts

-- no place stands twice
unfoldable pub are_distinct : List KeyPlace → Bool
are_distinct [] = true
are_distinct (p ∷ parts) = not (is_part parts p.column) && are_distinct parts

-- a table whose primary key names columns of its own, each once
pub record IsRightTable (t : Table) : Type 0 where
  pub columns : length t.columns ≤ 254
  pub within : All (λ p. p.column < length t.columns) t.key
  pub distinct : are_distinct t.key ≡ true

-- 2. What the bytes of a key are read as

-- how many bytes stand before the zero byte that ends a text
unfoldable pub text_size : List ℕ → ℕ
text_size [] = 0
text_size (b ∷ bytes) = cond (nat_eq b 0) 0 (suc (text_size bytes))

-- a text of these bytes; NULL has none
abbrev pub text_value : List ℕ → Value
text_value [] = Null
text_value (b ∷ bytes) = Text (b ∷ bytes)

-- the value of a fixed width that begins the bytes, behind a presence byte where it may be NULL
abbrev pub fixed_value : ColType → Bool → List ℕ → Value
fixed_value ty false bytes = ranked ty (number_of_bytes 0 (take (byte_width ty) bytes))
fixed_value ty true [] = Null
fixed_value ty true (b ∷ bytes) = cond (nat_eq b 0) Null (ranked ty (number_of_bytes 0 (take (byte_width ty) bytes)))

abbrev pub fixed_size : ColType → Bool → List ℕ → ℕ
fixed_size ty false bytes = byte_width ty
fixed_size ty true [] = 1
fixed_size ty true (b ∷ bytes) = cond (nat_eq b 0) 1 (suc (byte_width ty))

-- the value of the ascending part that begins the bytes, and how many bytes it has
abbrev pub plain_value : ColType → Bool → List ℕ → Value
plain_value Varchar may_be_null bytes = text_value (take (text_size bytes) bytes)
plain_value ty may_be_null bytes = fixed_value ty may_be_null bytes

abbrev pub plain_size : ColType → Bool → List ℕ → ℕ
plain_size Varchar may_be_null bytes = suc (text_size bytes)
plain_size ty may_be_null bytes = fixed_size ty may_be_null bytes

-- the values of the parts of these columns
unfoldable pub read_parts : List KeyColumn → List ℕ → List Value
read_parts [] bytes = []
read_parts (c ∷ columns) bytes =
    plain_value c.ty c.may_be_null (directed c.direction bytes) ∷ read_parts columns (drop (plain_size c.ty c.may_be_null (directed c.direction bytes)) bytes)

-- 3. The key of a row

unfoldable pub are_all_bytes : List ℕ → Bool
are_all_bytes [] = true
are_all_bytes (b ∷ bytes) = nat_lt b 256 && are_all_bytes bytes

-- the values are read back from their bytes
unfoldable pub is_read_back : List KeyColumn → List Value → Bool
is_read_back columns r = is_eq (row_order (read_parts columns (spelled columns r)) r) && are_all_bytes (spelled columns r)

-- numbers that stand for a value
abbrev pub value_code : Value → List ℕ
value_code Null = 0 ∷ []
value_code (Number (pos n)) = 1 ∷ n ∷ []
value_code (Number (negsuc n)) = 2 ∷ n ∷ []
value_code (Truth true) = 3 ∷ []
value_code (Truth false) = 4 ∷ []
value_code (Text bytes) = 5 ∷ length bytes ∷ bytes

unfoldable pub row_code : List Value → List ℕ
row_code [] = []
row_code (v ∷ r) = value_code v ++ row_code r

-- what stands for values that are no key: no bytes, so that no cell has it, and different values have different ones
abbrev pub no_key : List Value → List ℕ
no_key r = 256 ∷ length r ∷ row_code r

-- the key of the row with these primary key values
unfoldable pub row_key : Table → List Value → List ℕ
row_key t r = cond (is_read_back (row_columns t) r) (spelled (row_columns t) r) (no_key r)
