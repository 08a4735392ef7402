-- What the steps of a query show.
use Rattle.std.specs.Prelude.{ℕ, ◌≡◌, ◌⊎◌, ◌≤◌, not, Bool, true, ◌&&◌, if◌then◌else◌, Option, None, Some, List, [], ◌∷◌, length}
use Rattle.std.specs.Cmp.Lexicographic.{slice_cmp}
use Rattle.std.specs.Ordering.{is_lt, nat_cmp}
use Rattle.px_values.specs.Limits.{most_key}
use Rattle.px_values.specs.States.{RowState}
use Rattle.px_values.specs.declared.row.Value.{Value}
use Rattle.px_keys.specs.Reading.{IsKey}
use Rattle.px_tables.specs.declared.found.Found.{Found}
use Rattle.px_tables.specs.declared.index.Index.{Index}
use Rattle.px_paths.specs.Paths.{columns_on, index_path, key_on, shown_on, table_path}
use Rattle.px_paths.specs.declared.path.PathColumn.{PathColumn}
use Rattle.px_trail.specs.declared.entry.Entry.{Entry}
use Rattle.px_trail.specs.Answers.{IsAmong}
use Rattle.px_trail.specs.States.{key_in, state_now, state_of}
use Rattle.px_trail.specs.Trail.{Base, shape_of}
use Rattle.px_calls.specs.declared.query.By.{By}
use Rattle.px_calls.specs.declared.query.By.TheVariants.{Table, Index as Indexed}
use Rattle.px_calls.specs.declared.query.Doubt.{Doubt}
use Rattle.px_calls.specs.declared.query.FoundKey.{FoundKey}
use Rattle.px_calls.specs.declared.query.FoundKey.TheVariants.{Sure, InDoubt}
use Rattle.px_calls.specs.declared.query.FoundRow.{FoundRow}
use Rattle.px_calls.specs.declared.query.Path.{Path}
use Rattle.px_calls.specs.declared.query.Point.{Point}
use Rattle.px_calls.specs.Requires.{FitsRow, index_of_found}

-- 1. Keys

-- the order of row keys, byte by byte
abbrev pub key_less : List ℕ → List ℕ → Bool
key_less a b = is_lt (slice_cmp nat_cmp a b)

abbrev pub is_below : Option (List ℕ) → List ℕ → Bool
is_below None k = true
is_below (Some high) k = key_less k high

abbrev pub is_past : Option (List ℕ) → List ℕ → Bool
is_past None k = true
is_past (Some low) k = key_less low k

-- the key is one of the path's
abbrev pub is_on : Path → List ℕ → Bool
is_on path k = not (key_less k path.low) && is_below path.high k

-- the key is not past the last one given
abbrev pub is_covered : Option (List ℕ) → List ℕ → Bool
is_covered None k = true
is_covered (Some last) k = not (key_less last k)

-- 2. Rows

abbrev pub index_path_in : Found → Option Index → List PathColumn
index_path_in f None = []
index_path_in f (Some x) = index_path f.table x

-- the columns of the keys that a table is read by
abbrev pub columns_by : Found → By → List PathColumn
columns_by f Table = table_path f.table
columns_by f (Indexed i) = index_path_in f (index_of_found f i.0)

-- the row's key there
abbrev pub key_by : Found → By → List Value → List ℕ
key_by f by row = key_on (columns_by f by) row

abbrev pub shown_in : Found → Option Index → List Value → List Value
shown_in f None row = row
shown_in f (Some x) row = shown_on f.table x row

-- what is shown there of the row
abbrev pub shown_by : Found → By → List Value → List Value
shown_by f Table row = row
shown_by f (Indexed i) row = shown_in f (index_of_found f i.0) row

-- the state of a row at a point, after these entries: at its stamp, or of a current point the newest state
abbrev pub row_at : Base → List Entry → Point → List Value → RowState
row_at b es p r = if p.scn then state_of b es p.table.0 r p.stamp else state_now b es p.table.0 r

-- the table has the row at the point
abbrev pub IsRowAt : Base → List Entry → Point → List Value → Type 0
IsRowAt b es p row = row_at b es p (key_in (shape_of b es p.table.0) row) ≡ Some row

-- 3. What is found

abbrev pub found_by : Found → By → List Value → FoundRow
found_by f by row = record { key = key_by f by row; row = shown_by f by row }

abbrev pub key_found : FoundKey → List ℕ
key_found (Sure f) = f.key
key_found (InDoubt d) = d.key

-- the keys rise from one on
unfoldable pub IsRisingFrom : Option (List ℕ) → List FoundKey → Type 0
IsRisingFrom low [] = Unit {0}
IsRisingFrom low (f ∷ fs) = (is_past low (key_found f) ≡ true) × IsRisingFrom (Some (key_found f)) fs

-- a doubt is of the index that is read, and has one of its keys
abbrev pub IsDoubtOf : Found → By → Doubt → Type 0
IsDoubtOf f by d = (by ≡ Indexed d.index) × IsKey most_key (columns_on (columns_by f by)) d.key

-- each doubt among the keys is one
abbrev pub AreDoubtsOf : Found → By → List FoundKey → Type 0
AreDoubtsOf f by fs = (d : Doubt) → IsAmong (InDoubt d) fs → IsDoubtOf f by d

-- a sure key has its row at the point
abbrev pub IsRightRow : Base → List Entry → Point → By → FoundRow → Type 0
IsRightRow b es p by f = (row : List Value) × IsRowAt b es p row × (f ≡ found_by p.found by row)

-- the row is given, sure or in doubt
abbrev pub IsRowShown : List FoundKey → Found → By → List Value → Type 0
IsRowShown fs f by row = IsAmong (Sure (found_by f by row)) fs ⊎ ((d : Doubt) × (d.key ≡ key_by f by row) × IsAmong (InDoubt d) fs)

-- so many keys are given where there are more
abbrev pub IsSized : List FoundKey → Option (List ℕ) → Type 0
IsSized fs None = length fs ≤ 64
IsSized fs (Some n) = length fs ≡ 64

-- What `look` gives: at most 64 keys of the path past `after`, in order, up to `next`, which is one of them
pub record Shows (p : Point) (path : Path) (after : Option (List ℕ)) (fs : List FoundKey) (next : Option (List ℕ)) : Type 0 where
  pub rising : IsRisingFrom after fs
  pub sized : IsSized fs next
  pub last : (n : List ℕ) → next ≡ Some n → (f : FoundKey) × IsAmong f fs × (key_found f ≡ n)
  pub on_path : (f : FoundKey) → IsAmong f fs → is_on path (key_found f) ≡ true
  pub covered : (f : FoundKey) → IsAmong f fs → is_covered next (key_found f) ≡ true
  pub doubts : AreDoubtsOf p.found path.by fs

-- What it gives of the rows at the point, each of which is one that the table may have, at its own primary key: sure keys have one, and each is given
-- whose key is past `after` and not past `next`
pub record ShowsRows (b : Base) (es : List Entry) (p : Point) (path : Path) (after : Option (List ℕ)) (fs : List FoundKey) (next : Option (List ℕ)) : Type 0 where
  pub right : (f : FoundRow) → IsAmong (Sure f) fs → IsRightRow b es p path.by f
  pub fits : (row : List Value) → IsRowAt b es p row → FitsRow p.found.table row
  pub own : (r row : List Value) → row_at b es p r ≡ Some row → key_in (shape_of b es p.table.0) row ≡ r
  pub whole : (row : List Value) → IsRowAt b es p row
      → is_on path (key_by p.found path.by row) ≡ true → is_past after (key_by p.found path.by row) ≡ true → is_covered next (key_by p.found path.by row) ≡ true
      → IsRowShown fs p.found path.by row
