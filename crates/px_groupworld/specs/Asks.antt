-- What the cells of a step must be.
use Rattle.std.specs.Prelude.{◌≡◌, ℕ, ◌<◌, true, false, List, [], length, get_or, Some, is_some}
use Rattle.px_cells.specs.CellData.{CellData}
use Rattle.px_values.specs.declared.row.Value.{Value}
use Rattle.px_values.specs.declared.change.Change.{Change}
use Rattle.px_values.specs.declared.change.What.{What}
use Rattle.px_trail.specs.declared.entry.Entry.{Entry}
use Rattle.px_trail.specs.Batches.{Batch, batch_of, change_of, has, unwritten}
use Rattle.px_trail.specs.Trail.{last_of}
use Rattle.px_world.specs.World.{horizon, st, is_undecided}
use Rattle.px_world.specs.Events.{Base as BaseVersion, Comes, due, stands}
use Rattle.px_world.specs.IndexCells.{mark_cells, close_cells, base_cells, fix_cells}
use Rattle.px_forms.specs.Indexes.{view_at, cells_if}
use Rattle.px_indexed.specs.Worlds.{history_at}
use Rattle.px_indexed.specs.Kept.{AreIndexCells}
use Rattle.px_groupworld.specs.Group.{TableForm, GroupData, no_part, no_open, shape_in, world_in}

-- each change is one that the table lets in
abbrev pub FitAll : TableForm → List Change → Type 0
FitAll f cs = (r : List Value) (w : What) → change_of cs r ≡ Some w → f.rows.Fits r w

-- the open batch at place m has an index left to mark, which is older, and these cells are its marks there
pub record CanMark (f : TableForm) (es : List Entry) (v : GroupData) (m : ℕ) (cells : List CellData) : Type 0 where
  pub among : m < length v.opens
  pub next : (get_or v.opens m no_open).done < (get_or v.opens m no_open).count
  pub batch : Batch
  pub is : batch_of f.id.0 (get_or v.opens m no_open).stamp es ≡ Some batch
  pub first : batch.phase ≡ 0
  pub born : (get_or v.indexes (get_or v.opens m no_open).done no_part).birth < (get_or v.opens m no_open).stamp
  pub reads : (r : List Value) → view_at (f.index (get_or v.indexes (get_or v.opens m no_open).done no_part).id) r cells ≡ cells_if (is_some (change_of batch.changes r))
      (mark_cells (shape_in f v (get_or v.opens m no_open).done r) (get_or v.opens m no_open).stamp ((history_at f.rows.shape f.base es f.id.0 r).old (get_or v.opens m no_open).stamp) ((history_at f.rows.shape f.base es f.id.0 r).new (get_or v.opens m no_open).stamp))
  pub low : AreIndexCells (f.index (get_or v.indexes (get_or v.opens m no_open).done no_part).id) (last_of f.base f.id.0 es) cells

-- the open batch at place m has marked all its indexes
pub record HasMarked (v : GroupData) (m : ℕ) : Type 0 where
  pub among : m < length v.opens
  pub all : (get_or v.opens m no_open).done ≡ (get_or v.opens m no_open).count

-- the batch may close the marks of these rows at the index at place i, and these cells do so
pub record CanVerify (f : TableForm) (es : List Entry) (v : GroupData) (i s : ℕ) (rows : List (List Value)) (cells : List CellData) : Type 0 where
  pub there : i < length v.indexes
  pub batch : Batch
  pub is : batch_of f.id.0 s es ≡ Some batch
  pub some : (r : List Value) → has rows r ≡ true → (c : What) × (change_of batch.changes r ≡ Some c)
  pub whole : unwritten batch ≡ []
  pub running : batch.ended ≡ false
  pub born : (get_or v.indexes i no_part).birth < s
  pub reads : (r : List Value) → view_at (f.index (get_or v.indexes i no_part).id) r cells ≡ cells_if (has rows r) (close_cells (shape_in f v i r) s ((history_at f.rows.shape f.base es f.id.0 r).old s) ((history_at f.rows.shape f.base es f.id.0 r).new s))
  pub low : AreIndexCells (f.index (get_or v.indexes i no_part).id) (last_of f.base f.id.0 es) cells

-- the version stands, its change is decided, and the cells are those that are due
pub record CanFix (f : TableForm) (es : List Entry) (v : GroupData) (i : ℕ) (key : List ℕ) (s : ℕ) (cells : List CellData) : Type 0 where
  pub there : i < length v.indexes
  pub may : (r : List Value) → (f.index (get_or v.indexes i no_part).id).owns r key ≡ true → stands (world_in f es v i r) key s × (is_undecided ((history_at f.rows.shape f.base es f.id.0 r).fate s) ≡ false)
  pub reads : (r : List Value) → view_at (f.index (get_or v.indexes i no_part).id) r cells ≡ cells_if ((f.index (get_or v.indexes i no_part).id).owns r key)
      (fix_cells (shape_in f v i r) (horizon (world_in f es v i r)) (st (world_in f es v i r) (horizon (world_in f es v i r))) key s (due (shape_in f v i r) (world_in f es v i r) key s))
  pub low : AreIndexCells (f.index (get_or v.indexes i no_part).id) (last_of f.base f.id.0 es) cells

-- these rows may be given their base versions at the index at place i, and the cells are those
pub record CanBase (f : TableForm) (es : List Entry) (v : GroupData) (i : ℕ) (rows : List (List Value)) (cells : List CellData) : Type 0 where
  pub there : i < length v.indexes
  pub may : (r : List Value) → has rows r ≡ true → Comes (shape_in f v i r) (world_in f es v i r) BaseVersion
  pub reads : (r : List Value) → view_at (f.index (get_or v.indexes i no_part).id) r cells ≡ cells_if (has rows r) (base_cells (shape_in f v i r) (get_or v.indexes i no_part).birth (st (world_in f es v i r) (get_or v.indexes i no_part).birth))
  pub low : AreIndexCells (f.index (get_or v.indexes i no_part).id) (last_of f.base f.id.0 es) cells
