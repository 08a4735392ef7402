-- What a step does to a table: its event at each index and of each row, and what the table is after it.
use Rattle.std.specs.Prelude.{◌≡◌, ℕ, ◌<◌, ◌+◌, cond, true, false, not, ◌∷◌, ◌++◌, [], List, length, filter, get_or, Option, Some, None, nat_eq}
use Rattle.std.proofs.Math.ListN.{set}
use Rattle.px_cells.specs.CellData.{CellData}
use Rattle.px_values.specs.declared.row.Value.{Value}
use Rattle.px_values.specs.declared.change.What.{What}
use Rattle.px_trail.specs.declared.entry.Entry.{Entry}
use Rattle.px_trail.specs.Batches.{Batch, change_of}
use Rattle.px_world.specs.Events.{Event, Birth, happens}
use Rattle.px_world.specs.IndexCells.{IndexCells, Moves}
use Rattle.px_indexed.specs.Worlds.{Times, history_at, marked_by, world_of_history}
use Rattle.px_groupworld.specs.Group.{TableForm, IndexPart, OpenBatch, GroupData, GroupKept, no_part, no_open, shape_in, waits_in, world_in}

-- 1. Events

abbrev pub Events : Type 0
Events = ℕ → List Value → Option (Event (List ℕ) What)

-- the step is, for each index and each row, its event, or nothing comes
pub record Does (f : TableForm) (e : Events) (es : List Entry) (v : GroupData) (es' : List Entry) (v' : GroupData) : Type 0 where
  pub count : length v'.indexes ≡ length v.indexes
  pub each : (i : ℕ) → i < length v.indexes → (r : List Value) → Moves (shape_in f v i r) (e i r) (world_in f es v i r) (world_in f es' v' i r)

-- the table after the step is kept, and the step is its events
pub record Steps (f : TableForm) (e : Events) (es : List Entry) (v : GroupData) (es' : List Entry) (v' : GroupData) : Type 0 where
  pub kept : GroupKept f es' v'
  pub does : Does f e es v es' v'

abbrev pub no_events : Events
no_events i r = None

-- the event at one index, and none at the others
abbrev pub at_index : ℕ → ℕ → Option (Event (List ℕ) What) → Option (Event (List ℕ) What)
at_index j i e = cond (nat_eq j i) e None

-- what a batch does to a row
abbrev pub change_in : Option Batch → List Value → Option What
change_in None r = None
change_in (Some y) r = change_of y.changes r

-- 2. The table after a step

-- a batch begins
abbrev pub begun_data : ℕ → GroupData → GroupData
begun_data s v = record v { opens = v.opens ++ record { stamp = s; done = 0; count = length v.indexes } ∷ [] }

-- one index has these cells
abbrev pub with_cells : List CellData → IndexPart → IndexPart
with_cells new x = record x { cells = new }

abbrev pub cells_data : ℕ → List CellData → GroupData → GroupData
cells_data i new v = record v { indexes = set v.indexes i (with_cells new (get_or v.indexes i no_part)) }

-- the open batch at a place has marked one index more
abbrev pub gone_on : OpenBatch → OpenBatch
gone_on o = record o { done = o.done + 1 }

abbrev pub marked_data : ℕ → List CellData → GroupData → GroupData
marked_data m new v = record (cells_data (get_or v.opens m no_open).done new v) { opens = set v.opens m (gone_on (get_or v.opens m no_open)) }

-- the rows have these cells
abbrev pub wrote_data : List CellData → GroupData → GroupData
wrote_data new v = record v { cells = new }

-- the batch of the stamp is let go
abbrev pub ended_data : ℕ → GroupData → GroupData
ended_data s v = record v { opens = filter (λ o. not (nat_eq o.stamp s)) v.opens }

-- the table's horizon rises
abbrev pub raised_data : ℕ → GroupData → GroupData
raised_data h v = record v { high = h }

-- the data region was compacted at the table's horizon
abbrev pub forgot_data : List CellData → GroupData → GroupData
forgot_data new v = record v { cells = new; low = v.high }

-- an index's own region was
abbrev pub own_forgot_data : ℕ → List CellData → GroupData → GroupData
own_forgot_data i new v = record v { indexes = set v.indexes i (record (get_or v.indexes i no_part) { cells = new; horizon = v.high }) }

-- queries may read the index
abbrev pub ready_data : ℕ → GroupData → GroupData
ready_data i v = record v { indexes = set v.indexes i (record (get_or v.indexes i no_part) { is_built = true }) }

-- an index is born at the stamp, without a cell
abbrev pub born_data : ℕ → ℕ → GroupData → GroupData
born_data id s v = record v { indexes = v.indexes ++ record { id = id; cells = []; birth = s; horizon = 0; is_built = false } ∷ [] }

-- 3. A birth

-- The index that is born at the stamp stands last, and the world of each row there is the one after its birth, whatever
-- stood before; at the other indexes nothing comes.
pub record Bears (f : TableForm) (id s : ℕ) (es : List Entry) (v : GroupData) (es' : List Entry) : Type 0 where
  pub kept : GroupKept f es' (born_data id s v)
  pub others : (i : ℕ) → i < length v.indexes → (r : List Value) → world_in f es' (born_data id s v) i r ≡ world_in f es v i r
  pub born : (r : List Value) (cells : IndexCells (List ℕ) (List ℕ)) (x : Times) → x.raised ≡ v.high → happens (shape_in f (born_data id s v) (length v.indexes) r) (world_of_history (history_at f.rows.shape f.base es' f.id.0 r) (marked_by (history_at f.rows.shape f.base es' f.id.0 r) (waits_in v.opens (length v.indexes))) cells x) (Birth s) ≡ world_in f es' (born_data id s v) (length v.indexes) r
