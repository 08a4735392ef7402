-- What stays true of a table's rows, of one of its indexes, and of the cells of its rows.
use Rattle.std.specs.Prelude.{◌≡◌, ℕ, ◌<◌, ◌≤◌, true, false, cond, ◌⊎◌, List, [], Some, None}
use Rattle.std.specs.List.{AllByRecursion}
use Rattle.px_cells.specs.declared.kind.CellKind.{CellKind}
use Rattle.px_cells.specs.declared.kind.CellKind.TheVariants.{Put, Delete, DeleteColumn}
use Rattle.px_cells.specs.CellData.{CellData}
use Rattle.px_cells.specs.Order.{GoesWith}
use Rattle.px_cells.specs.Sight.{seen_at}
use Rattle.px_cells.specs.Contents.{value_at}
use Rattle.px_values.specs.declared.row.Value.{Value}
use Rattle.px_values.specs.declared.change.What.{What}
use Rattle.px_values.specs.States.{Shape as RowShape}
use Rattle.px_trail.specs.declared.entry.Entry.{Entry}
use Rattle.px_trail.specs.Batches.{Batch, batch_of, change_of, has, unwritten}
use Rattle.px_trail.specs.States.{begun}
use Rattle.px_trail.specs.Trail.{Base, IsBase, last_of}
use Rattle.px_world.specs.World.{is_written}
use Rattle.px_world.specs.Events.{is_at}
use Rattle.px_world.specs.Facts.{Kept}
use Rattle.px_history.specs.Rows.{Tied, state_by}
use Rattle.px_forms.specs.Indexes.{IndexForm, IsIndexForm, shape_at}
use Rattle.px_forms.specs.Rows.{DataForm, IsDataForm}
use Rattle.px_indexed.specs.Worlds.{Indexed, history_at, world_at}

-- 1. The rows, which a legal trail tells

pub record RowsKept (sh : RowShape) (b : Base) (es : List Entry) (t raised : ℕ) : Type 0 where
  pub base : (r : List Value) → IsBase b t r
  -- histories are the trail's own words
  pub tied : (r : List Value) → Tied sh b es t r (history_at sh b es t r)
  pub low : raised ≤ last_of b t es
  pub later : (s : ℕ) (y : Batch) → batch_of t s es ≡ Some y → b.last t < s
  -- a batch at or below the table's horizon has ended, and one that has ended was written
  pub ended : (s : ℕ) (y : Batch) → batch_of t s es ≡ Some y → s ≤ raised → y.ended ≡ true
  pub done : (s : ℕ) (y : Batch) → batch_of t s es ≡ Some y → y.ended ≡ true → unwritten y ≡ []
  -- a batch that isn't marked has written nothing
  pub quiet : (s : ℕ) (y : Batch) → batch_of t s es ≡ Some y → y.phase ≡ 0 → (r : List Value) → has y.written r ≡ false

-- 2. An index

-- A cell of an index's region: its stamp was drawn, its key holds a row, its kind is one that stands at its qualifier, and
-- neither a Delete nor, at the status, a DeleteColumn.
pub record IsIndexCell (f : IndexForm) (last : ℕ) (c : CellData) : Type 0 where
  pub stamp : c.stamp ≤ last
  pub owner : (r : List Value) × (f.owns r c.key ≡ true)
  pub placed : GoesWith c
  pub kind : c.kind ≡ Delete → ⊥
  pub status : c.qualifier ≡ 1 → c.kind ≡ DeleteColumn → ⊥

-- each cell that is read is one
pub record AreIndexCells (f : IndexForm) (last : ℕ) (cells : List CellData) : Type 0 where
  pub each : (c : CellData) → value_at cells c.key c.qualifier c.stamp c.kind ≡ Some c.value → IsIndexCell f last c

pub record IndexKept (sh : RowShape) (b : Base) (es : List Entry) (t raised : ℕ) (x : Indexed) : Type 0 where
  pub form : IsIndexForm x.form
  pub birth : x.birth ≤ last_of b t es
  pub cells : AreIndexCells x.form (last_of b t es) x.cells
  -- a batch whose marks are done isn't waited for
  pub marked : (s : ℕ) (y : Batch) → batch_of t s es ≡ Some y → (y.phase ≡ 0 → ⊥) → x.birth < s → x.waits s ≡ false
  -- no batch has the stamp of the birth
  pub apart : (s : ℕ) (y : Batch) → batch_of t s es ≡ Some y → x.birth ≡ s → ⊥
  -- the world of each row keeps the facts
  pub kept : (r : List Value) → Kept (shape_at sh x.form r) (world_at sh b es t raised x r)

-- 3. The cells of the rows

-- a cell of a row: at the key of one, of a kind that stands at its qualifier, and no Delete
pub record IsRowCell (f : DataForm) (c : CellData) : Type 0 where
  pub owner : (r : List Value) × (c.key ≡ f.key_of r)
  pub placed : GoesWith c
  pub kind : c.kind ≡ Delete → ⊥

-- each cell that is read is one
pub record AreRowCells (f : DataForm) (cells : List CellData) : Type 0 where
  pub each : (c : CellData) → value_at cells c.key c.qualifier c.stamp c.kind ≡ Some c.value → IsRowCell f c

-- these cells are those of the batch's changes of these rows, and of no other row
pub record ReadsWrites (f : DataForm) (y : Batch) (s : ℕ) (rows : List (List Value)) (batch : List CellData) : Type 0 where
  pub each : (r : List Value) (w : What) → has rows r ≡ true → change_of y.changes r ≡ Some w → (q u : ℕ) (d : CellKind) → value_at batch (f.key_of r) q u d ≡ f.cells_of r s w (f.key_of r) q u d
  pub cells : AreRowCells f batch
  pub others : (r : List Value) → has rows r ≡ false → (q u : ℕ) (d : CellKind) → value_at batch (f.key_of r) q u d ≡ None

-- the cells of the rows are those of the trail's written changes, up to what was forgotten at `low`
pub record DataKept (b : Base) (es : List Entry) (t : ℕ) (f : DataForm) (low : ℕ) (here : List CellData) : Type 0 where
  pub form : IsDataForm f
  pub cells : AreRowCells f here
  -- a cell's stamp is that of a written change, or at most the data horizon
  pub stamps : (r : List Value) (q u : ℕ) (d : CellKind) (v : List ℕ) → value_at here (f.key_of r) q u d ≡ Some v → (u ≤ low) ⊎ (is_written ((history_at f.shape b es t r).fate u) ≡ true)
  -- they spell the state at each point from the data horizon on
  pub spells : (r : List Value) (p : ℕ) → low ≤ p → f.spelled (value_at here) r p ≡ state_by f.shape b es t r p
  pub whole : (r : List Value) → f.IsWhole low (value_at here) r
  -- each change that was begun is one that the form lets in
  pub fits : (r : List Value) → AllByRecursion (λ d. f.Fits r d.what) (begun t r es)

-- 4. A major compaction

-- every cell above the horizon stays, and at or below it just the puts that are seen from there
pub record IsCompacted (old new : List CellData) (h : ℕ) : Type 0 where
  pub above : (k : List ℕ) (q s : ℕ) (d : CellKind) → h < s → value_at new k q s d ≡ value_at old k q s d
  pub puts : (k : List ℕ) (q s : ℕ) → s ≤ h → value_at new k q s Put ≡ cond (is_at s (seen_at (value_at old) k q h)) (value_at old k q s Put) None
  pub others : (k : List ℕ) (q s : ℕ) (d : CellKind) → s ≤ h → (d ≡ Put → ⊥) → value_at new k q s d ≡ None
