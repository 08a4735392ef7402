-- What the cells of an index tell of the states of its table's rows.
use Rattle.std.specs.Prelude.{◌≡◌, ◌≢◌, ℕ, suc, ◌<◌, Bool, true, cond, nat_eq, if◌then◌else◌, List, length, Option, None, Some}
use Rattle.std.specs.Cmp.Lexicographic.{pointwise}
use Rattle.px_cells.specs.Contents.{Contents}
use Rattle.px_cells.specs.declared.kind.CellKind.TheVariants.{Put}
use Rattle.px_values.specs.States.{RowState}
use Rattle.px_values.specs.declared.row.Value.{Value}
use Rattle.px_keys.specs.Spelling.{IsKeyOf}
use Rattle.px_tables.specs.declared.index.Index.{Index}
use Rattle.px_tables.specs.declared.table.Table.{Table}
use Rattle.px_trail.specs.States.{greatest_stamp, key_in}
use Rattle.px_trail.specs.Trail.{Base, table_shape}
use Rattle.px_trail.specs.declared.entry.Entry.{Entry}
use Rattle.px_values.specs.declared.name.IndexId.{IndexId}
use Rattle.px_calls.specs.Looks.{IsRowAt, key_by}
use Rattle.px_calls.specs.Requires.{index_of_found}
use Rattle.px_calls.specs.declared.query.By.TheVariants.{Index as Indexed}
use Rattle.px_calls.specs.declared.query.Point.{Point}
use Rattle.px_world.specs.Shape.{is_key_there}
use Rattle.px_rows.specs.Keys.{is_part, row_columns, row_key}
use Rattle.px_rows.specs.Spelled.{row_form}
use Rattle.px_indexrow.specs.Form.{FitsRowState, included_at, included_bytes, key_of_state, owns}
use Rattle.px_looks.specs.Found.{at_key}
use Rattle.px_looks.specs.Versions.{is_verified, stamp_seen, value_seen}

-- these are states of rows of the table: values of the columns' types, those of the primary key at its columns, and short keys
pub record AreStates (t : Table) (state : List Value → RowState) : Type 0 where
  pub typed : (r : List Value) → FitsRowState t (state r)
  pub keyed : (r row : List Value) → state r ≡ Some row → IsKeyOf (row_columns t) r (row_key t r)
  pub own : (r row : List Value) → state r ≡ Some row → key_in (table_shape t) row ≡ r

-- At this point a verified version of an index key is that of the state of the key's row, with its included values, and each row's
-- key has a version
pub record TellsOf (t : Table) (x : Index) (g : Contents) (p : ℕ) (state : List Value → RowState) : Type 0 where
  pub right : (k : List ℕ) (s : ℕ) → stamp_seen (at_key g k) 1 p ≡ Some s → is_verified (g k 1 s Put) ≡ true → (r : List Value) → owns t x r k ≡ true
      → (key_of_state t x r (state r) ≡ Some k) × ((c : ℕ) → c < length x.included → value_seen (at_key g k) (suc (suc (included_at x c))) p ≡ included_bytes t x (state r) c)
  pub whole : (r : List Value) (k : List ℕ) → key_of_state t x r (state r) ≡ Some k → (s : ℕ) × (stamp_seen (at_key g k) 1 p ≡ Some s)

-- the cells spell rows of the table: none stands at a column of the primary key
pub record SpellsRows (t : Table) (g : Contents) : Type 0 where
  pub typed : (r : List Value) (p : ℕ) → FitsRowState t ((row_form t).spelled g r p)
  pub short : (r row : List Value) (p : ℕ) → (row_form t).spelled g r p ≡ Some row → IsKeyOf (row_columns t) r (row_key t r)
  pub bare : (r : List Value) (c s : ℕ) → is_part t.key c ≡ true → g (row_key t r) (suc (suc c)) s Put ≡ None

-- up to which stamp a point sees: a current one sees all
abbrev pub reach_of : Point → ℕ
reach_of p = if p.scn then p.stamp else greatest_stamp

-- a point of the table, whose definition stands as it was when the point was opened
pub record IsPointOfTable (t : Table) (p : Point) : Type 0 where
  pub table : p.table ≡ t.id
  pub found : p.found.table ≡ t

-- the index stands as it was when the point was opened
abbrev pub IsIndexAt : Point → Index → Type 0
IsIndexAt p x = index_of_found p.found x.id.0 ≡ Some x

-- it is the key
abbrev pub is_key_in : List ℕ → Option (List ℕ) → Bool
is_key_in k o = is_key_there (pointwise nat_eq) k o

-- the row's state, where its key in the index is this one
abbrev pub keyed_if : Table → Index → List Value → List ℕ → RowState → RowState
keyed_if t x r k o = cond (is_key_in k (key_of_state t x r o)) o None

-- the row at the point that has the key in the index, and no other has it; or that none has it
abbrev pub IsHolder : Base → List Entry → Point → IndexId → List ℕ → RowState → Type 0
IsHolder b es p i k None = (row : List Value) → IsRowAt b es p row → key_by p.found (Indexed i) row ≢ k
IsHolder b es p i k (Some row) = IsRowAt b es p row × ((key_by p.found (Indexed i) row ≡ k) × ((other : List Value) → IsRowAt b es p other → key_by p.found (Indexed i) other ≡ k → other ≡ row))
