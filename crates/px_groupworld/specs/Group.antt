-- A table with the cells of its rows and a region for each index, as contracts see it, and what stays true of it.
use Rattle.std.specs.Prelude.{◌≡◌, ◌≢◌, ℕ, ◌<◌, ◌≤◌, Bool, true, false, ◌&&◌, max, ◌∷◌, [], List, length, get_or, Some, nat_eq, nat_le, nat_lt}
use Rattle.std.specs.List.{list_any, AllByRecursion}
use Rattle.px_cells.specs.CellData.{CellData}
use Rattle.px_cells.specs.Contents.{value_at}
use Rattle.px_values.specs.declared.row.Value.{Value}
use Rattle.px_values.specs.declared.change.What.{What}
use Rattle.px_values.specs.declared.name.TableId.{TableId}
use Rattle.px_values.specs.States.{RowState}
use Rattle.px_trail.specs.declared.entry.Entry.{Entry}
use Rattle.px_trail.specs.Trail.{Base, IsBase, horizon_of, last_of, shape_of}
use Rattle.px_trail.specs.Legal.{IsLegal}
use Rattle.px_trail.specs.States.{state_of}
use Rattle.px_world.specs.Shape.{WorldShape, has_key, IsShown}
use Rattle.px_world.specs.World.{World, Verified, horizon, top, vis}
use Rattle.px_forms.specs.Indexes.{IndexForm, shape_at}
use Rattle.px_forms.specs.Rows.{DataForm}
use Rattle.px_indexed.specs.Worlds.{Indexed, world_at}
use Rattle.px_indexed.specs.Kept.{IndexKept, DataKept}

-- 1. A table

-- what a table is: its base, its number, and how each of its indexes and its rows are spelled
pub record TableForm : Type 1 where
  pub base : Base
  pub id : TableId
  pub index : ℕ → IndexForm
  pub rows : DataForm

-- an index: its number, the cells of its region, its birth, the horizon of its region's manifest, and whether queries may read it
pub record IndexPart : Type 0 where
  pub id : ℕ
  pub cells : List CellData
  pub birth : ℕ
  pub horizon : ℕ
  pub is_built : Bool

-- a batch that has begun and not ended: it marks the first `count` indexes in their order, and has marked `done` of them
pub record OpenBatch : Type 0 where
  pub stamp : ℕ
  pub done : ℕ
  pub count : ℕ

-- the table's horizon, the horizon of its data region's manifest, the cells of its rows, its indexes and open batches
pub record GroupData : Type 0 where
  pub high : ℕ
  pub low : ℕ
  pub cells : List CellData
  pub indexes : List IndexPart
  pub opens : List OpenBatch

-- 2. The indexes

-- the batch of the stamp is still to mark the index at this place
abbrev pub is_waiting : ℕ → ℕ → OpenBatch → Bool
is_waiting i s o = nat_eq o.stamp s && (nat_le o.done i && nat_lt i o.count)

abbrev pub waits_in : List OpenBatch → ℕ → ℕ → Bool
waits_in opens i s = list_any (is_waiting i s) opens

abbrev pub no_part : IndexPart
no_part = record { id = 0; cells = []; birth = 0; horizon = 0; is_built = false }

abbrev pub no_open : OpenBatch
no_open = record { stamp = 0; done = 0; count = 0 }

-- the index at a place. Its own cells are forgotten up to its manifest's horizon, and the table's rows up to the data region's
abbrev pub as_index : TableForm → ℕ → List OpenBatch → ℕ → IndexPart → Indexed
as_index f low opens i x = record { form = f.index x.id; cells = x.cells; waits = waits_in opens i; birth = x.birth; kept = max (max x.birth x.horizon) low; floor = max x.birth x.horizon; is_built = x.is_built }

abbrev pub indexed_at : TableForm → GroupData → ℕ → Indexed
indexed_at f v i = as_index f v.low v.opens i (get_or v.indexes i no_part)

-- the world of a row and of the index at a place
abbrev pub world_in : TableForm → List Entry → GroupData → ℕ → List Value → World (List ℕ) RowState (List ℕ)
world_in f es v i r = world_at f.rows.shape f.base es f.id.0 v.high (indexed_at f v i) r

abbrev pub shape_in : TableForm → GroupData → ℕ → List Value → WorldShape (List ℕ) RowState (List ℕ) What
shape_in f v i r = shape_at f.rows.shape (f.index (get_or v.indexes i no_part).id) r

-- 3. What stays true of a table

-- what its base tells of the table
pub record IsTableBase (b : Base) (t : ℕ) : Type 0 where
  pub rows : (r : List Value) → IsBase b t r
  pub low : b.horizon t ≤ b.last t

abbrev pub IsOpen : ℕ → ℕ → OpenBatch → Type 0
IsOpen count last o = (o.done ≤ o.count) × ((o.count ≤ count) × (o.stamp ≤ last))

-- no stamp comes twice
abbrev pub AreApart : List OpenBatch → Type 0
AreApart [] = Unit {0}
AreApart (o ∷ opens) = AllByRecursion (λ p. o.stamp ≢ p.stamp) opens × AreApart opens

pub record GroupKept (f : TableForm) (es : List Entry) (v : GroupData) : Type 0 where
  pub legal : IsLegal f.base es
  pub base : IsTableBase f.base f.id.0
  pub shape : shape_of f.base es f.id.0 ≡ f.rows.shape
  pub high : horizon_of f.base f.id.0 es ≡ v.high
  -- the worlds of all rows at each index keep the facts
  pub indexes : (i : ℕ) → i < length v.indexes → IndexKept f.rows.shape f.base es f.id.0 v.high (indexed_at f v i)
  -- the cells of the rows are those of the trail's written changes
  pub told : DataKept f.base es f.id.0 f.rows v.low v.cells
  -- no manifest has a horizon above the table's
  pub low : v.low ≤ v.high
  pub own : (i : ℕ) → i < length v.indexes → (get_or v.indexes i no_part).horizon ≤ v.high
  pub begun : AllByRecursion (IsOpen (length v.indexes) (last_of f.base f.id.0 es)) v.opens
  pub apart : AreApart v.opens

-- 4. What queries rely on

-- as of a point, a verified top shows the row's state of the trail, and the key of that state has a top
pub record Answers (f : TableForm) (es : List Entry) (v : GroupData) (i : ℕ) (r : List Value) (p : ℕ) : Type 0 where
  pub top_is : (k : List ℕ) (s : ℕ) → top (world_in f es v i r) k p ≡ Some s → (world_in f es v i r).status k s ≡ Verified → (has_key (shape_in f v i r) k (state_of f.base es f.id.0 r p) ≡ true) × IsShown (shape_in f v i r) (vis (world_in f es v i r) k p) (state_of f.base es f.id.0 r p)
  pub row_has : (k : List ℕ) → has_key (shape_in f v i r) k (state_of f.base es f.id.0 r p) ≡ true → (s : ℕ) × (top (world_in f es v i r) k p ≡ Some s)

pub record AllAnswer (f : TableForm) (es : List Entry) (v : GroupData) : Type 0 where
  -- at each index that queries may read, from its horizon on
  pub each : (i : ℕ) → i < length v.indexes → (get_or v.indexes i no_part).is_built ≡ true → (r : List Value) (p : ℕ) → horizon (world_in f es v i r) ≤ p → Answers f es v i r p
  -- what the cells of the rows spell at a point is the trail's state
  pub rows : (r : List Value) (p : ℕ) → v.low ≤ p → f.rows.spelled (value_at v.cells) r p ≡ state_of f.base es f.id.0 r p

-- 5. For laws

-- the form of a table with this base and number, these indexes and these rows
abbrev pub table_form : Base → TableId → (ℕ → IndexForm) → DataForm → TableForm
table_form b id index rows = record { base = b; id = id; index = index; rows = rows }
