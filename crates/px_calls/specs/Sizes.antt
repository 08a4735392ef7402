-- The cells that a change of a row writes, each by its size in bytes, and when a batch of changes writes too many.
use Rattle.std.specs.Prelude.{ℕ, ◌≡◌, ◌≢◌, ◌⊎◌, ◌<◌, ◌+◌, List, [], ◌∷◌, ◌++◌, length, map, nat_eq, Option, None, Some, if◌then◌else◌, slice_index_or}
use Rattle.std.specs.Cmp.Lexicographic.{pointwise}
use Rattle.std.specs.List.{flat_map, list_any, slice_get}
use Rattle.px_values.specs.Limits.{most_of}
use Rattle.px_values.specs.States.{RowState, Shape, apply}
use Rattle.px_values.specs.declared.change.Assignment.{Assignment}
use Rattle.px_values.specs.declared.change.Change.{Change}
use Rattle.px_values.specs.declared.change.What.{What}
use Rattle.px_values.specs.declared.change.What.TheVariants.{Set, Gone}
use Rattle.px_values.specs.declared.column.ColType.{ColType}
use Rattle.px_values.specs.declared.limit.Limit.{Limit as Bound}
use Rattle.px_values.specs.declared.row.Value.{Value}
use Rattle.px_values.specs.declared.row.Value.TheVariants.{Null, Number, Truth, Text}
use Rattle.px_keys.specs.Spelling.{byte_width, spelled}
use Rattle.px_tables.specs.declared.index.Index.{Index}
use Rattle.px_tables.specs.declared.index.IndexState.TheVariants.{Disabled}
use Rattle.px_tables.specs.declared.table.Table.{Table}
use Rattle.px_paths.specs.Paths.{columns_on, index_path, key_on, table_path, type_in}
use Rattle.px_trail.specs.Trail.{Catalogue}

-- 1. One cell

-- the bytes of a value: a text has its own, a number and a truth value have those of their type, NULL has none
abbrev pub size_of_value : ColType → Value → ℕ
size_of_value ty Null = 0
size_of_value ty (Number n) = byte_width ty
size_of_value ty (Truth t) = byte_width ty
size_of_value ty (Text bytes) = length bytes

-- a cell has its key, so many bytes of a value, and 14 more
abbrev pub cell_size : List ℕ → ℕ → ℕ
cell_size key value = 14 + length key + value

-- at this key, a cell for each of these columns of a row
abbrev pub column_sizes : Table → List ℕ → List Value → List ℕ → List ℕ
column_sizes t key row places = map (λ p. cell_size key (size_of_value (type_in (slice_get t.columns p)) (slice_index_or row p Null))) places

-- 2. In the table

abbrev pub assignments_in : What → List Assignment
assignments_in (Set assignments) = assignments
assignments_in Gone = []

-- at this key, a cell for each column of a row that is set, the places of the columns being counted from this one
unfoldable pub set_sizes : Table → List ℕ → List Assignment → ℕ → List Value → List ℕ
set_sizes t key assignments place [] = []
set_sizes t key assignments place (v ∷ row) =
    (if list_any (λ a. nat_eq a.column place) assignments then cell_size key (size_of_value (type_in (slice_get t.columns place)) v) ∷ [] else []) ++ set_sizes t key assignments (place + 1) row

-- at the row's key: one cell that says that it stands, and one for each column that is set; or one that removes the row
abbrev pub row_sizes : Table → Change → RowState → List ℕ
row_sizes t c None = cell_size (spelled (columns_on (table_path t)) c.row) 0 ∷ []
row_sizes t c (Some row) = (let key = spelled (columns_on (table_path t)) c.row in cell_size key 0 ∷ set_sizes t key (assignments_in c.what) 0 row)

-- 3. In an index

abbrev pub key_in_index : Table → Index → RowState → Option (List ℕ)
key_in_index t x None = None
key_in_index t x (Some row) = Some (key_on (index_path t x) row)

-- at the key that the row comes to have: a status that isn't verified, one that is, and a cell for each included column
abbrev pub entered_sizes : Table → Index → RowState → List ℕ
entered_sizes t x None = []
entered_sizes t x (Some row) = (let key = key_on (index_path t x) row in cell_size key 1 ∷ cell_size key 1 ∷ column_sizes t key row x.included)

-- at a key that it leaves: a status that isn't verified, and one cell that removes the entry
abbrev pub left_sizes : Option (List ℕ) → Option (List ℕ) → List ℕ
left_sizes None new = []
left_sizes (Some key) None = cell_size key 1 ∷ cell_size key 0 ∷ []
left_sizes (Some key) (Some key') = if pointwise nat_eq key key' then [] else cell_size key 1 ∷ cell_size key 0 ∷ []

-- for a row that goes from one state to another
abbrev pub index_sizes : Table → Index → RowState → RowState → List ℕ
index_sizes t x old new = entered_sizes t x new ++ left_sizes (key_in_index t x old) (key_in_index t x new)

-- 4. A batch, on rows of this shape that have these states before it

abbrev pub changed_now : Shape → (List Value → RowState) → Change → RowState
changed_now shape old c = apply shape c.row (old c.row) c.what

-- the cells that it writes in the table, and in an index
abbrev pub batch_sizes : Shape → (List Value → RowState) → Table → List Change → List ℕ
batch_sizes shape old t cs = flat_map (λ c. row_sizes t c (changed_now shape old c)) cs

abbrev pub batch_sizes_in : Shape → (List Value → RowState) → Table → Index → List Change → List ℕ
batch_sizes_in shape old t x cs = flat_map (λ c. index_sizes t x (old c.row) (changed_now shape old c)) cs

-- what is measured of these cells passes the limit in an index that is maintained
pub record WritesTooMuchIn (measure : List ℕ → ℕ) (which : Bound) (d : Catalogue) (shape : Shape) (old : List Value → RowState) (t : Table) (cs : List Change) : Type 0 where
  pub index : Index
  pub is : d.indexes index.id.0 ≡ Some index
  pub owner : index.table.0 ≡ t.id.0
  pub maintained : index.state ≢ Disabled
  pub over : most_of which < measure (batch_sizes_in shape old t index cs)

-- it passes the limit in the table, or in one of its indexes
pub record WritesTooMuch (measure : List ℕ → ℕ) (which : Bound) (d : Catalogue) (shape : Shape) (old : List Value → RowState) (t : ℕ) (cs : List Change) : Type 0 where
  pub table : Table
  pub is : d.tables t ≡ Some table
  pub over : (most_of which < measure (batch_sizes shape old table cs)) ⊎ WritesTooMuchIn measure which d shape old table cs
