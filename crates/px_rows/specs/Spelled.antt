-- How the cells of a data region spell rows, and what a change of a row writes.
use Rattle.std.specs.Prelude.{◌≡◌, ℕ, zero, suc, ◌<◌, ◌≤◌, false, cond, ◌&&◌, List, [], ◌∷◌, length, Option, Some, None, nat_eq}
use Rattle.std.specs.Cmp.Lexicographic.{pointwise}
use Rattle.std.specs.List.{AllByRecursion}
use Rattle.px_cells.specs.declared.kind.CellKind.{CellKind}
use Rattle.px_cells.specs.declared.kind.CellKind.TheVariants.{Put, Delete, DeleteFamilyVersion, DeleteColumn, DeleteFamily}
use Rattle.px_cells.specs.Contents.{Contents, or_else}
use Rattle.px_cells.specs.Sight.{seen_at}
use Rattle.px_values.specs.Types.{HasType}
use Rattle.px_values.specs.declared.row.Value.{Value}
use Rattle.px_values.specs.declared.row.Value.TheVariants.{Null, Number, Truth, Text}
use Rattle.px_values.specs.declared.change.Assignment.{Assignment}
use Rattle.px_values.specs.declared.change.What.{What}
use Rattle.px_values.specs.declared.change.What.TheVariants.{Set, Gone}
use Rattle.px_values.specs.States.{RowState, Shape, fresh_row}
use Rattle.px_keys.specs.Spelling.{Fits}
use Rattle.px_forms.specs.Rows.{DataForm}
use Rattle.px_tables.specs.declared.table.Table.{Table}
use Rattle.px_trail.specs.Trail.{table_shape}
use Rattle.px_world.specs.World.{read_at}
use Rattle.px_rows.specs.Keys.{column_in, is_part, row_columns, row_key}
use Rattle.px_rows.specs.Stored.{stored, value_of_bytes}

-- 1. What is read

-- the table's shape, the keys of its rows, and the bytes of the values of its columns
pub record RowForm : Type 0 where
  pub shape : Shape
  pub key_of : List Value → List ℕ
  pub encode : ℕ → Value → List ℕ
  pub decode : ℕ → List ℕ → Value

-- a value that is there, over another
abbrev pub pick : Option Value → Value → Value
pick None x = x
pick (Some y) x = y

-- the values that are there, over those of a row, from column i on
unfoldable pub overlay : (ℕ → Option Value) → ℕ → List Value → List Value
overlay o i [] = []
overlay o i (x ∷ xs) = pick (o i) x ∷ overlay o (suc i) xs

abbrev pub decoded : RowForm → ℕ → Option (List ℕ) → Option Value
decoded f c None = None
decoded f c (Some bytes) = Some (f.decode c bytes)

-- the value of a column that is visible at a point. Column c has the qualifier c + 2
abbrev pub column_at : RowForm → Contents → List Value → ℕ → ℕ → Option Value
column_at f g r p c = decoded f c (read_at (λ s. g (f.key_of r) (suc (suc c)) s Put) (seen_at g (f.key_of r) (suc (suc c)) p))

abbrev pub state_if : Option ℕ → List Value → RowState
state_if None row = None
state_if (Some s) row = Some row

-- what is visible at a point: a row stands where its empty column does
abbrev pub spelled_at : RowForm → Contents → List Value → ℕ → RowState
spelled_at f g r p = state_if (seen_at g (f.key_of r) 1 p) (overlay (column_at f g r p) 0 (fresh_row f.shape r))

-- 2. What a change writes

-- the value that assignments give a column: the last one counts
abbrev pub assigned_to : List Assignment → ℕ → Option Value
assigned_to [] c = None
assigned_to (a ∷ as') c = or_else (assigned_to as' c) (cond (nat_eq a.column c) (Some a.value) None)

-- a put of a value, and a DeleteColumn for NULL
abbrev pub put_value : RowForm → ℕ → Option Value → Option (List ℕ)
put_value f c None = None
put_value f c (Some Null) = None
put_value f c (Some (Number n)) = Some (f.encode c (Number n))
put_value f c (Some (Truth t)) = Some (f.encode c (Truth t))
put_value f c (Some (Text b)) = Some (f.encode c (Text b))

abbrev pub null_value : Option Value → Option (List ℕ)
null_value None = None
null_value (Some Null) = Some []
null_value (Some (Number n)) = None
null_value (Some (Truth t)) = None
null_value (Some (Text b)) = None

-- the empty column, and a cell for each column that is assigned
abbrev pub set_put : RowForm → List Assignment → ℕ → Option (List ℕ)
set_put f as' zero = None
set_put f as' (suc zero) = Some []
set_put f as' (suc (suc c)) = put_value f c (assigned_to as' c)

abbrev pub set_null : List Assignment → ℕ → Option (List ℕ)
set_null as' zero = None
set_null as' (suc zero) = None
set_null as' (suc (suc c)) = null_value (assigned_to as' c)

abbrev pub family_of : ℕ → Option (List ℕ)
family_of zero = Some []
family_of (suc q) = None

-- what a change writes at each qualifier and kind: a removed row is one DeleteFamily
abbrev pub change_cells : RowForm → What → ℕ → CellKind → Option (List ℕ)
change_cells f (Set as') q Put = set_put f as' q
change_cells f (Set as') q Delete = None
change_cells f (Set as') q DeleteFamilyVersion = None
change_cells f (Set as') q DeleteColumn = set_null as' q
change_cells f (Set as') q DeleteFamily = None
change_cells f Gone q Put = None
change_cells f Gone q Delete = None
change_cells f Gone q DeleteFamilyVersion = None
change_cells f Gone q DeleteColumn = None
change_cells f Gone q DeleteFamily = family_of q

-- the cells of a change: at the row's key, of its stamp
abbrev pub change_contents : RowForm → List Value → ℕ → What → Contents
change_contents f r s w k q u d = cond (pointwise nat_eq k (f.key_of r) && nat_eq s u) (change_cells f w q d) None

-- 3. Which rows and changes fit

-- no Delete and no version marker stands at the key
pub record IsPlainAt (g : Contents) (k : List ℕ) : Type 0 where
  pub no_delete : (q s : ℕ) → g k q s Delete ≡ None
  pub no_version : (s : ℕ) → g k 0 s DeleteFamilyVersion ≡ None

-- from the data horizon on a column is seen only where the row is, and what stands at the row is plain
pub record IsWholeRow (f : RowForm) (low : ℕ) (g : Contents) (r : List Value) : Type 0 where
  pub columns : (p c : ℕ) → low ≤ p → seen_at g (f.key_of r) 1 p ≡ None → seen_at g (f.key_of r) (suc (suc c)) p ≡ None
  pub plain : IsPlainAt g (f.key_of r)

-- an assignment to a column outside the primary key, of a value that it may have
pub record FitsColumnOf (t : Table) (a : Assignment) : Type 0 where
  pub within : a.column < length t.columns
  pub beside : is_part t.key a.column ≡ false
  pub has_type : HasType (column_in t.columns a.column).column_type a.value

abbrev pub FitsWhat : Table → What → Type 0
FitsWhat t (Set as') = AllByRecursion (FitsColumnOf t) as'
FitsWhat t Gone = Unit {0}

-- the row's values are a primary key of the table, and the change names columns outside it, with values of their types
abbrev pub FitsTable : Table → List Value → What → Type 0
FitsTable t r w = Fits (row_columns t) r × FitsWhat t w

-- 4. A table's rows

-- column c has the bytes of its type
abbrev pub row_spelling : Table → RowForm
row_spelling t =
    record {
      shape = table_shape t;
      key_of = row_key t;
      encode = λ c v. stored (column_in t.columns c).column_type v;
      decode = λ c bytes. value_of_bytes (column_in t.columns c).column_type bytes;
    }

-- the cells of a table's rows
abbrev pub row_form : Table → DataForm
row_form t = record { shape = table_shape t; key_of = row_key t; spelled = spelled_at (row_spelling t); cells_of = change_contents (row_spelling t); IsWhole = IsWholeRow (row_spelling t); Fits = FitsTable t }
