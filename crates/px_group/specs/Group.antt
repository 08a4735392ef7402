-- A table with its regions: what its code rests on, what the trail tells of it, and what it shows.
use Rattle.std.specs.Prelude.{◌≡◌, ◌≢◌, ℕ, ◌<◌, ◌≤◌, ◌+◌, true, false, ◌&&◌, ◌==◌, Bool, List, [], ◌∷◌, length, map, get_or, slice_get, sum_by, Some, None, is_some, if◌then◌else◌, IsTrue}
use Rattle.std.specs.List.{AllByRecursion}
use Rattle.px_cells.specs.CellData.{CellData}
use Rattle.px_region.specs.Region.{read_of}
use Rattle.px_region.specs.declared.region.Region.{Region}
use Rattle.px_tables.specs.declared.index.Index.{Index}
use Rattle.px_tables.specs.declared.index.IndexState.{IndexState}
use Rattle.px_tables.specs.declared.index.IndexState.TheVariants.{Building, Active, Disabled}
use Rattle.px_tables.specs.declared.table.Table.{Table}
use Rattle.px_tables.specs.declared.table.TableRegion.{TableRegion}
use Rattle.px_trail.specs.declared.entry.Entry.{Entry}
use Rattle.px_trail.specs.Batches.{BatchPhase, batch_of, has, is_distinct, phase_of, rows_of}
use Rattle.px_trail.specs.Batches as trail
use Rattle.px_trail.specs.Trail.{Base, horizon_of, index_of, last_of, open_points, table_of}
use Rattle.px_forms.specs.Indexes.{IndexForm}
use Rattle.px_rows.specs.Keys.{IsRightTable}
use Rattle.px_rows.specs.Spelled.{row_form}
use Rattle.px_indexrow.specs.Form.{IsRightIndex, index_form}
use Rattle.px_groupworld.specs.Group.{GroupData, IndexPart, TableForm, no_part, table_form}
use Rattle.px_openbatches.specs.Pending.{HeldBatch, HeldKept, IsHeldBatch, flagged}
use Rattle.px_values.specs.declared.row.Value.{Value}
use Rattle.px_phases.specs.Batch.{AllFit, AreHeldAs, BatchData}
use Rattle.px_tablesteps.specs.Kept.{TableKept}
use Rattle.px_group.specs.declared.group.Begun.{Begun}
use Rattle.px_group.specs.declared.group.Group.{Group}
use Rattle.px_group.specs.declared.group.IndexRegion.{IndexRegion}
use Rattle.px_group.specs.declared.group.OpenPoint.{OpenPoint}
use Rattle.px_group.specs.declared.group.Phase.{Phase}
use Rattle.px_group.specs.declared.group.Phase.TheVariants.{Marking, Writing, Verifying, Closing}
use Rattle.px_group.specs.Room.{HasRooms, closes_for, marks_for, puts_for}
use Rattle.px_cellshapes.specs.Keys.{AreRightKeys}
use Rattle.px_cellshapes.specs.Rows.{AreRightRows}

-- 1. What the code rests on, whatever the folder held

-- the definition is right, and what is read of its region has its shape
pub record IsRightPart (t : Table) (x : IndexRegion) : Type 0 where
  pub index : IsRightIndex t x.index
  pub table : x.index.table ≡ t.id
  pub number : x.index.region ≡ x.region.number
  pub maintained : x.index.state ≢ Disabled
  pub keys : AreRightKeys t x.index (read_of x.region)

-- what a batch keeps in each phase: it marks all indexes, then writes its rows, then closes the marks
abbrev pub FitsPhase : Phase → ℕ → BatchData → Type 0
FitsPhase Marking count b = (is_some b.puts ≡ true) × (length b.closes ≡ count)
FitsPhase Writing count b = (is_some b.puts ≡ true) × (length b.closes ≡ count) × (b.marks ≡ [])
FitsPhase Verifying count b = (b.puts ≡ None) × (b.marks ≡ [])
FitsPhase Closing count b = (b.puts ≡ None) × (b.marks ≡ []) × (b.closes ≡ [])

-- the rows of each part are of the index's shape
abbrev pub AreRightParts : Table → Index → List (List CellData) → Type 0
AreRightParts t i parts = AllByRecursion (AreRightKeys t i) parts

-- what it keeps for each region has the region's shape
pub record IsShaped (g : Group) (m : Begun) : Type 0 where
  pub puts : AllByRecursion (AreRightRows g.table) (puts_for m)
  pub marks : (i : ℕ) (x : IndexRegion) → slice_get g.indexes.items i ≡ Some x → AreRightParts g.table x.index (marks_for i m)
  pub closes : (i : ℕ) (x : IndexRegion) → slice_get g.indexes.items i ≡ Some x → AreRightParts g.table x.index (closes_for i m)

-- the batch has at most so many rows
abbrev pub most_rows : ℕ
most_rows = 1000

-- the batch marks indexes of the table, and its changes are ones that the table lets in; it has its rows twice, to hand them out
pub record IsRightBatch (g : Group) (m : Begun) : Type 0 where
  pub count : m.count ≤ length g.indexes.items
  pub marks : length m.batch.marks ≤ m.count
  pub closes : length m.batch.closes ≤ m.count
  pub fit : AllFit g.table m.batch.changes
  pub distinct : is_distinct (rows_of m.batch.changes) ≡ true
  pub some : m.batch.changes ≢ []
  pub few : length m.batch.changes ≤ most_rows
  pub stage : FitsPhase m.phase m.count m.batch
  pub rows : is_some m.batch.puts ≡ true → m.rows ≡ Some (rows_of m.batch.changes)
  pub receipt : m.receipt ≡ rows_of m.batch.changes
  pub shaped : IsShaped g m

abbrev pub region_of : Region → TableRegion
region_of rows = record { number = rows.number; least_key = [] }

pub record IsRightGroup (g : Group) : Type 0 where
  pub table : IsRightTable g.table
  pub region : g.table.regions ≡ region_of g.rows ∷ []
  pub rows : AreRightRows g.table (read_of g.rows)
  pub parts : AllByRecursion (IsRightPart g.table) g.indexes.items
  pub batches : AllByRecursion (IsRightBatch g) g.batches.items
  pub rooms : HasRooms g

-- 2. What the trail tells of it

abbrev pub batch_in : Begun → BatchData
batch_in m = m.batch

abbrev pub batches_of : Group → List BatchData
batches_of g = map batch_in g.batches.items

abbrev pub as_phase : Phase → BatchPhase
as_phase Marking = trail.Marking
as_phase Writing = trail.Writing
as_phase Verifying = trail.Verifying
as_phase Closing = trail.Closing

-- the batch is in its phase, and marks as many indexes as are counted
pub record IsInPhase (es : List Entry) (t : ℕ) (m : Begun) (h : HeldBatch) : Type 0 where
  pub batch : trail.Batch
  pub is : batch_of t h.stamp es ≡ Some batch
  pub phase : phase_of batch ≡ as_phase m.phase
  pub count : h.count ≡ m.count

abbrev pub AreInPhase : List Entry → ℕ → List Begun → List HeldBatch → Type 0
AreInPhase es t [] hs = Unit {0}
AreInPhase es t (m ∷ ms) [] = Unit {0}
AreInPhase es t (m ∷ ms) (h ∷ hs) = IsInPhase es t m h × AreInPhase es t ms hs

-- how many points of the seat are open at the stamp
abbrev pub one_if : Bool → ℕ
one_if b = if b then 1 else 0

abbrev pub points_in : ℕ → ℕ → List OpenPoint → ℕ
points_in seat s points = sum_by (λ p. one_if ((p.seat == seat) && (p.stamp == s))) points

-- the table and its maintained indexes stand as they are here, and all of its maintained indexes are here
pub record AreStanding (b : Base) (es : List Entry) (g : Group) : Type 0 where
  pub table : table_of b es g.table.id.0 ≡ Some g.table
  pub index : (i : ℕ) (x : IndexRegion) → slice_get g.indexes.items i ≡ Some x → index_of b es x.index.id.0 ≡ Some x.index
  pub all : (y : Index) → index_of b es y.id.0 ≡ Some y → y.table.0 ≡ g.table.id.0 → y.state ≢ Disabled → (i : ℕ) × ((x : IndexRegion) × ((slice_get g.indexes.items i ≡ Some x) × (x.index ≡ y)))

pub record IsTallied (b : Base) (es : List Entry) (g : Group) (hs : List HeldBatch) : Type 0 where
  pub standing : AreStanding b es g
  pub last : last_of b g.table.id.0 es ≡ g.last
  pub horizon : horizon_of b g.table.id.0 es ≡ g.horizon
  pub held : HeldKept b es g.table.id.0 hs
  pub batches : AreHeldAs (batches_of g) hs
  pub phases : AreInPhase es g.table.id.0 g.batches.items hs
  pub points : (seat s : ℕ) → open_points seat g.table.id.0 s es ≡ points_in seat s g.points.items

-- What its end needs of an open batch, whatever became of the regions: it is the trail's, it has its rows for the receipt, and it knows
-- which of them it met.
pub record IsTraced (es : List Entry) (t : ℕ) (m : Begun) : Type 0 where
  pub held : HeldBatch
  pub is : IsHeldBatch es t held
  pub stamp : held.stamp ≡ m.batch.stamp
  pub changes : held.changes ≡ m.batch.changes
  pub distinct : is_distinct (rows_of m.batch.changes) ≡ true
  pub flags : length m.batch.met ≡ length (rows_of m.batch.changes)
  pub met : (r : List Value) → has held.met r ≡ has (flagged m.batch.met (rows_of m.batch.changes)) r
  pub receipt : m.receipt ≡ rows_of m.batch.changes
  pub few : length m.batch.changes ≤ most_rows

-- each batch has a stamp of its own
abbrev pub HaveOwnStamps : List Begun → Type 0
HaveOwnStamps [] = Unit {0}
HaveOwnStamps (m ∷ ms) = AllByRecursion (λ x. m.batch.stamp ≢ x.batch.stamp) ms × HaveOwnStamps ms

pub record AreTraced (es : List Entry) (g : Group) : Type 0 where
  pub each : AllByRecursion (IsTraced es g.table.id.0) g.batches.items
  pub once : HaveOwnStamps g.batches.items

-- 3. What it shows, where what was opened is sound

abbrev pub is_built : IndexState → Bool
is_built Building = false
is_built Active = true
is_built Disabled = false

-- the part of the table's data is the index
pub record IsPartOf (p : IndexPart) (x : IndexRegion) : Type 0 where
  pub id : p.id ≡ x.index.id.0
  pub cells : p.cells ≡ read_of x.region
  pub birth : p.birth ≡ x.index.birth
  pub built : p.is_built ≡ is_built x.index.state

-- how its rows are spelled, and its index rows by their indexes' numbers
abbrev pub form_of : Base → (ℕ → IndexForm) → Group → TableForm
form_of b index g = table_form b g.table.id index (row_form g.table)

pub record IsShownBy (b : Base) (index : ℕ → IndexForm) (es : List Entry) (g : Group) (v : GroupData) (hs : List HeldBatch) : Type 0 where
  pub kept : TableKept (form_of b index g) es v hs
  pub rows : v.cells ≡ read_of g.rows
  pub count : length v.indexes ≡ length g.indexes.items
  pub parts : (i : ℕ) (x : IndexRegion) → slice_get g.indexes.items i ≡ Some x → IsPartOf (get_or v.indexes i no_part) x
  pub forms : (i : ℕ) (x : IndexRegion) → slice_get g.indexes.items i ≡ Some x → index x.index.id.0 ≡ index_form g.table x.index
