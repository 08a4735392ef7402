-- How an index is spelled as cells: its keys, its included columns, and what one row sees of its region.
use Rattle.std.specs.Prelude.{◌≡◌, ℕ, ◌<◌, ◌≤◌, Bool, true, false, cond, ◌&&◌, List, [], ◌∷◌, Option, Some, None, is_some, nat_eq, nat_lt}
use Rattle.std.specs.Cmp.Lexicographic.{pointwise}
use Rattle.px_cells.specs.declared.kind.CellKind.TheVariants.{Put, DeleteFamilyVersion, DeleteColumn, DeleteFamily}
use Rattle.px_cells.specs.CellData.{CellData}
use Rattle.px_cells.specs.Contents.{Contents, value_at}
use Rattle.px_values.specs.declared.row.Value.{Value}
use Rattle.px_values.specs.declared.change.What.{What}
use Rattle.px_values.specs.States.{RowState, Shape as RowShape, apply}
use Rattle.px_world.specs.Shape.{WorldShape}
use Rattle.px_world.specs.World.{Status, Absent, Unverified, Verified}
use Rattle.px_world.specs.IndexCells.{IndexCells, no_cells}

-- 1. The form

-- Of an index: how many columns it includes, the qualifier and the value of each, the key of a row's state, and which
-- keys hold which row. A row is named by its primary key values.
pub record IndexForm : Type 0 where
  pub columns : ℕ
  pub place : ℕ → ℕ
  pub key_of : List Value → RowState → Option (List ℕ)
  pub col : RowState → ℕ → Option (List ℕ)
  pub owns : List Value → List ℕ → Bool

-- no row has no key, a row's keys are its own, and no key is of two rows
pub record IsIndexForm (f : IndexForm) : Type 0 where
  pub nothing : (r : List Value) → f.key_of r None ≡ None
  pub owned : (r : List Value) (s : RowState) (k : List ℕ) → f.key_of r s ≡ Some k → f.owns r k ≡ true
  pub apart : (r r' : List Value) (k : List ℕ) → f.owns r k ≡ true → f.owns r' k ≡ true → r ≡ r'

-- the columns' qualifiers are their own, beside those of the row and of the status
pub record IsPlaced (f : IndexForm) : Type 0 where
  pub above : (c : ℕ) → c < f.columns → 2 ≤ f.place c
  pub apart : (c d : ℕ) → c < f.columns → d < f.columns → f.place c ≡ f.place d → c ≡ d

-- what the world of a row knows of the table and the index
abbrev pub shape_at : RowShape → IndexForm → List Value → WorldShape (List ℕ) RowState (List ℕ) What
shape_at sh f r =
    record {
      same_key = pointwise nat_eq;
      same_value = pointwise nat_eq;
      columns = f.columns;
      key_of = f.key_of r;
      col = f.col;
      nothing = None;
      apply = apply sh r;
    }

-- 2. What a row sees of the index's region

-- the byte of a verified version in the status column
abbrev pub verified_byte : ℕ
verified_byte = 1

-- the status that a value of the status column tells
abbrev pub status_in : Option (List ℕ) → Status
status_in None = Absent
status_in (Some v) = cond (pointwise nat_eq v (verified_byte ∷ [])) Verified Unverified

-- what stands at the keys of one row, with the qualifiers of the included columns
abbrev pub view_of : (List ℕ → Bool) → ℕ → (ℕ → ℕ) → Contents → IndexCells (List ℕ) (List ℕ)
view_of owns columns place f =
    record {
      status = λ k s. cond (owns k) (status_in (f k 1 s Put)) Absent;
      put = λ k s c. cond (owns k && nat_lt c columns) (f k (place c) s Put) None;
      del = λ k s c. (owns k && nat_lt c columns) && is_some (f k (place c) s DeleteColumn);
      fam = λ k s. owns k && is_some (f k 0 s DeleteFamily);
      ver = λ k s. owns k && is_some (f k 0 s DeleteFamilyVersion);
    }

-- what a row sees of cells, the later written ones first
abbrev pub view_at : IndexForm → List Value → List CellData → IndexCells (List ℕ) (List ℕ)
view_at f r cells = view_of (f.owns r) f.columns f.place (value_at cells)

-- the cells of a row of a batch, or none
abbrev pub cells_if : Bool → IndexCells (List ℕ) (List ℕ) → IndexCells (List ℕ) (List ℕ)
cells_if false c = no_cells
cells_if true c = c
