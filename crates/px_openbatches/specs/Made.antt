-- The cells of a batch's three phases, row by row, as they are made when it begins.
use Rattle.std.specs.Prelude.{◌≡◌, ℕ, ◌<◌, true, cond, ◌∷◌, [], List, map, get_or, Some}
use Rattle.std.specs.List.{AllByRecursion}
use Rattle.std.specs.Ordering.{is_eq}
use Rattle.px_cells.specs.declared.kind.CellKind.{CellKind}
use Rattle.px_cells.specs.declared.kind.CellKind.TheVariants.{Delete, DeleteColumn}
use Rattle.px_cells.specs.CellData.{CellData}
use Rattle.px_cells.specs.Contents.{value_at}
use Rattle.px_cells.specs.Order.{GoesWith}
use Rattle.px_values.specs.declared.row.Value.{Value}
use Rattle.px_values.specs.declared.change.Change.{Change}
use Rattle.px_values.specs.declared.change.What.{What}
use Rattle.px_values.specs.Order.{row_order}
use Rattle.px_values.specs.States.{RowState, apply}
use Rattle.px_trail.specs.declared.entry.Entry.{Entry}
use Rattle.px_trail.specs.Batches.{rows_of, change_of}
use Rattle.px_world.specs.IndexCells.{IndexCells, mark_cells, close_cells}
use Rattle.px_forms.specs.Indexes.{IndexForm, view_at, shape_at}
use Rattle.px_indexed.specs.Worlds.{history_at}
use Rattle.px_groupworld.specs.Group.{TableForm}

-- what is kept of one row: for each index its marks and what closes them, and its data cells
pub record RowCells : Type 0 where
  pub row : List Value
  pub marks : List (List CellData)
  pub closes : List (List CellData)
  pub puts : List CellData

-- a cell of one row of a batch in an index's region: at a key of the row, with the batch's stamp, of a kind that may stand there
pub record IsCellOfRow (f : IndexForm) (r : List Value) (s : ℕ) (c : CellData) : Type 0 where
  pub owned : f.owns r c.key ≡ true
  pub stamp : c.stamp ≡ s
  pub placed : GoesWith c
  pub kind : c.kind ≡ Delete → ⊥
  pub status : c.qualifier ≡ 1 → c.kind ≡ DeleteColumn → ⊥

-- the row's cells in an index are such, and the row sees these
pub record IsIndexRow (f : IndexForm) (r : List Value) (s : ℕ) (seen : IndexCells (List ℕ) (List ℕ)) (cells : List CellData) : Type 0 where
  pub each : AllByRecursion (IsCellOfRow f r s) cells
  pub sees : view_at f r cells ≡ seen

-- a cell of a row of the table
pub record IsPutOfRow (f : TableForm) (r : List Value) (c : CellData) : Type 0 where
  pub key : c.key ≡ f.rows.key_of r
  pub placed : GoesWith c
  pub kind : c.kind ≡ Delete → ⊥

-- what a row's cells must be, by the states before and after the change in its history
pub record IsRowMade (f : TableForm) (es : List Entry) (form : ℕ → IndexForm) (count s : ℕ) (cs : List Change) (x : RowCells) : Type 0 where
  pub marks : (i : ℕ) → i < count → IsIndexRow (form i) x.row s (mark_cells (shape_at f.rows.shape (form i) x.row) s ((history_at f.rows.shape f.base es f.id.0 x.row).old s) ((history_at f.rows.shape f.base es f.id.0 x.row).new s)) (get_or x.marks i [])
  pub closes : (i : ℕ) → i < count → IsIndexRow (form i) x.row s (close_cells (shape_at f.rows.shape (form i) x.row) s ((history_at f.rows.shape f.base es f.id.0 x.row).old s) ((history_at f.rows.shape f.base es f.id.0 x.row).new s)) (get_or x.closes i [])
  pub keys : AllByRecursion (IsPutOfRow f x.row) x.puts
  pub puts : (w : What) → change_of cs x.row ≡ Some w → (q u : ℕ) (d : CellKind) → value_at x.puts (f.rows.key_of x.row) q u d ≡ f.rows.cells_of x.row s w (f.rows.key_of x.row) q u d

-- the cells that an open batch keeps
pub record IsMade (f : TableForm) (es : List Entry) (form : ℕ → IndexForm) (count s : ℕ) (cs : List Change) (xs : List RowCells) : Type 0 where
  pub rows : map (λ x. x.row) xs ≡ rows_of cs
  pub each : AllByRecursion (IsRowMade f es form count s cs) xs

-- one kind of cells of a row
unfoldable pub picked_cells : (RowCells → List CellData) → List RowCells → List Value → List CellData
picked_cells pick [] r = []
picked_cells pick (x ∷ xs) r = cond (is_eq (row_order x.row r)) (pick x) (picked_cells pick xs r)

-- what begin computes of a row, from the state that it reads
pub record IsComputed (f : TableForm) (form : ℕ → IndexForm) (count s : ℕ) (cs : List Change) (old : List Value → RowState) (x : RowCells) : Type 0 where
  pub what : What
  pub is : change_of cs x.row ≡ Some what
  pub marks : (i : ℕ) → i < count → IsIndexRow (form i) x.row s (mark_cells (shape_at f.rows.shape (form i) x.row) s (old x.row) (apply f.rows.shape x.row (old x.row) what)) (get_or x.marks i [])
  pub closes : (i : ℕ) → i < count → IsIndexRow (form i) x.row s (close_cells (shape_at f.rows.shape (form i) x.row) s (old x.row) (apply f.rows.shape x.row (old x.row) what)) (get_or x.closes i [])
  pub keys : AllByRecursion (IsPutOfRow f x.row) x.puts
  pub puts : (q u : ℕ) (d : CellKind) → value_at x.puts (f.rows.key_of x.row) q u d ≡ f.rows.cells_of x.row s what (f.rows.key_of x.row) q u d
