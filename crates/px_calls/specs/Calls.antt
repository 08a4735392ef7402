-- What each call does, by the trail that the seat has seen before it and after it.
use Rattle.std.specs.Prelude.{ℕ, ◌≡◌, ◌≢◌, ◌⊎◌, ◌<◌, ◌≤◌, ◌↔◌, true, List, [], ◌∷◌, length, Option, None, Some, IsSome}
use Rattle.std.specs.List.{AllByRecursion}
use Rattle.std.specs.Option.{is_some}
use Rattle.px_values.specs.Limits.{most_of}
use Rattle.px_values.specs.declared.change.Change.{Change}
use Rattle.px_values.specs.declared.limit.Limit.TheVariants as bound
use Rattle.px_values.specs.declared.name.IndexId.{IndexId}
use Rattle.px_values.specs.declared.name.TableId.{TableId}
use Rattle.px_values.specs.declared.row.Value.{Value}
use Rattle.px_tables.specs.declared.found.Found.{Found}
use Rattle.px_tables.specs.declared.index.Index.{Index}
use Rattle.px_tables.specs.declared.index.IndexState.TheVariants.{Active, Building, Disabled}
use Rattle.px_tables.specs.declared.table.Table.{Table}
use Rattle.px_paths.specs.Paths.{columns_on, index_path, owner_of}
use Rattle.px_keys.specs.Spelling.{IsKeyOf}
use Rattle.px_trail.specs.declared.entry.Act.{Act}
use Rattle.px_trail.specs.declared.entry.Act.TheVariants.{Made, IndexMade, IndexState, Dropped, Begun, Phase, Wrote, Opened, Raised, Fixed, Based}
use Rattle.px_trail.specs.declared.entry.Entry.{Entry}
use Rattle.px_trail.specs.Answers.{IsAmong}
use Rattle.px_trail.specs.Batches.{Batch, BatchPhase, IsConcurrent, Verifying, Writing, batch_of, has, is_distinct, rows_of, unwritten}
use Rattle.px_trail.specs.Count.{counted_bytes}
use Rattle.px_trail.specs.Trail.{Base, catalogue_of, horizon_of, index_of, last_of, table_of}
use Rattle.px_calls.specs.declared.definition.Definition.{Definition}
use Rattle.px_calls.specs.declared.definition.Definition.TheVariants as d
use Rattle.px_calls.specs.declared.definition.Made.{Made as Answered}
use Rattle.px_calls.specs.declared.query.BaseRow.{BaseRow}
use Rattle.px_calls.specs.declared.query.Chunk.{Chunk}
use Rattle.px_calls.specs.declared.query.Doubt.{Doubt}
use Rattle.px_calls.specs.declared.query.Fixing.{Fixing}
use Rattle.px_calls.specs.declared.query.Fixing.TheVariants as fixing
use Rattle.px_calls.specs.declared.query.Held.{Held}
use Rattle.px_calls.specs.declared.query.Path.{Path}
use Rattle.px_calls.specs.declared.query.By.TheVariants as by
use Rattle.px_calls.specs.declared.query.Point.{Point}
use Rattle.px_calls.specs.declared.query.Verdict.TheVariants.{Leave}
use Rattle.px_calls.specs.declared.status.IndexCount.{IndexCount}
use Rattle.px_calls.specs.declared.status.Status.{Status}
use Rattle.px_calls.specs.declared.status.Work.{Work}
use Rattle.px_calls.specs.declared.status.Work.TheVariants as work
use Rattle.px_calls.specs.declared.ticket.Marks.{Marks}
use Rattle.px_calls.specs.declared.ticket.Marks.TheVariants as marks
use Rattle.px_calls.specs.declared.ticket.Receipt.{Receipt}
use Rattle.px_calls.specs.declared.ticket.Ticket.{Ticket}
use Rattle.px_calls.specs.declared.ticket.Verifies.{Verifies}
use Rattle.px_calls.specs.declared.ticket.Verifies.TheVariants as verifies
use Rattle.px_calls.specs.declared.ticket.Writes.{Writes}
use Rattle.px_calls.specs.declared.ticket.Writes.TheVariants as writes
use Rattle.px_calls.specs.Known.{Known, Sees, Adds, IsRunning}
use Rattle.px_calls.specs.Causes.{ClosedBy, HasLongKey, WritesManyBytes, WritesManyCells, stamp_at}
use Rattle.px_calls.specs.Looks.{IsRowAt, Shows, ShowsRows, key_by}
use Rattle.px_calls.specs.Requires.{TicketIn, base_owners}

-- a call that adds nothing, on a server that isn't closed
pub record Finds (k k' : Known) : Type 0 where
  pub sees : Sees k k'
  pub running : IsRunning k'

-- 1. Definitions

-- each index has a greater number than those before it
unfoldable pub AreRising : List Index → Type 0
AreRising [] = Unit {0}
AreRising (x ∷ xs) = AllByRecursion (λ y. x.id.0 < y.id.0) xs × AreRising xs

-- a table that stands, and all of its indexes in order of number; the numbers were drawn
pub record IsFound (b : Base) (es : List Entry) (f : Found) : Type 0 where
  pub table : table_of b es f.table.id.0 ≡ Some f.table
  pub drawn : f.table.id.0 < (catalogue_of b es).next
  pub indexes : (x : Index) → IsAmong x f.indexes ↔ ((index_of b es x.id.0 ≡ Some x) × (x.table.0 ≡ f.table.id.0))
  pub indexes_drawn : (x : Index) → IsAmong x f.indexes → x.id.0 < (catalogue_of b es).next
  pub rising : AreRising f.indexes
  pub at : f.at ≡ length es

pub record DidFind (k k' : Known) (name : List ℕ) (f : Found) : Type 0 where
  pub finds : Finds k k'
  pub name_is : f.table.name ≡ name
  pub found : IsFound k'.base k'.seen f

abbrev pub table_id_made : Answered → TableId
table_id_made m = record { 0 = m.number }

abbrev pub index_id_made : Answered → IndexId
index_id_made m = record { 0 = m.number }

-- the entry that a definition adds
abbrev pub act_of : Definition → Answered → Act
act_of (d.Table what) m = Made (table_id_made m) what
act_of (d.Index what) m = IndexMade what.table (index_id_made m) m.stamp what
act_of (d.Active t i) m = IndexState t i Active m.stamp
act_of (d.Disabled t i) m = IndexState t i Disabled m.stamp
act_of (d.Rebuilding t i) m = IndexState t i Building m.stamp
act_of (d.DropTable t) m = Dropped t None
act_of (d.DropIndex t i) m = Dropped t (Some i)

-- A new table and what is dropped have no stamp; what stands keeps its number. An index that is made, or built again, draws a stamp
abbrev pub IsDefinitionMade : Definition → Answered → Type 0
IsDefinitionMade (d.Table what) m = m.stamp ≡ 0
IsDefinitionMade (d.Index what) m = m.stamp ≤ most_of bound.Stamps
IsDefinitionMade (d.Active t i) m = m.number ≡ i.0
IsDefinitionMade (d.Disabled t i) m = m.number ≡ i.0
IsDefinitionMade (d.Rebuilding t i) m = (m.number ≡ i.0) × (m.stamp ≤ most_of bound.Stamps)
IsDefinitionMade (d.DropTable t) m = (m.number ≡ t.0) × (m.stamp ≡ 0)
IsDefinitionMade (d.DropIndex t i) m = (m.number ≡ i.0) × (m.stamp ≡ 0)

pub record DidDefine (k k' : Known) (x : Definition) (m : Answered) : Type 0 where
  pub adds : Adds k k' (act_of x m)
  pub made : IsDefinitionMade x m
  pub at : m.at ≡ length k'.seen

-- 2. Batches

pub record DidBegin (sound : Type 0) (k k' : Known) (t : TableId) (cs : List Change) (ticket : Ticket) : Type 0 where
  pub table : ticket.table ≡ t
  pub adds : Adds k k' (Begun t ticket.stamp cs)
  pub stamp : ticket.stamp ≤ most_of bound.Stamps
  pub trail : counted_bytes k'.seen ≤ most_of bound.Trail
  pub short : sound → HasLongKey k'.base adds.between.seen t.0 cs → ⊥
  pub few : sound → WritesManyCells k'.base adds.between.seen t.0 cs → ⊥
  pub light : sound → WritesManyBytes k'.base adds.between.seen t.0 cs → ⊥

abbrev pub DidMark : Known → Known → Ticket → Marks → Type 0
DidMark k k' t marks.More = Finds k k'
DidMark k k' t marks.AllMarked = Adds k k' (Phase t.table t.stamp 1)

-- some rows were written, and the batch is then in this phase
pub record WroteRows (k k' : Known) (t : Ticket) (phase : BatchPhase) : Type 0 where
  pub rows : List (List Value)
  pub adds : Adds k k' (Wrote t.table t.stamp rows)
  pub next : TicketIn k' t phase

abbrev pub DidWrite : Known → Known → Ticket → Writes → Type 0
DidWrite k k' t writes.More = WroteRows k k' t Writing
DidWrite k k' t writes.AllWritten = WroteRows k k' t Verifying

abbrev pub DidVerify : Known → Known → Ticket → Verifies → Type 0
DidVerify k k' t verifies.More = Finds k k'
DidVerify k k' t verifies.Done = Adds k k' (Phase t.table t.stamp 3)

-- its third phase is done, or this device call closed the server before
abbrev pub IsFinished : Option ℕ → Batch → Known → Type 0
IsFinished None b k = 2 ≤ b.phase
IsFinished (Some call) b k = ClosedBy call k

-- the receipt of a batch that has ended: its rows are counted, and those named on which another batch was pending meanwhile
pub record IsReceipt (k : Known) (t : Ticket) (r : Receipt) : Type 0 where
  pub table : r.table ≡ t.table
  pub stamp : r.stamp ≡ t.stamp
  pub at : r.at ≡ length k.seen
  pub batch : Batch
  pub is : batch_of t.table.0 t.stamp k.seen ≡ Some batch
  pub rows : r.rows ≡ length batch.changes
  pub once : is_distinct r.concurrent ≡ true
  pub concurrent : (row : List Value) → (has r.concurrent row ≡ true) ↔ ((has (rows_of batch.changes) row ≡ true) × IsConcurrent k.seen t.table.0 t.stamp row)
  pub finished : IsFinished r.unfinished batch k

-- 3. Points

pub record DidOpen (k k' : Known) (t : TableId) (scn : Option ℕ) (p : Point) : Type 0 where
  pub table : p.table ≡ t
  pub is_scn : p.scn ≡ is_some scn
  pub stamp : p.stamp ≡ stamp_at scn t.0 k'.base k'.seen
  pub adds : Adds k k' (Opened t p.stamp p.scn)
  pub found : IsFound k'.base k'.seen p.found
  pub found_table : p.found.table.id ≡ t

-- keys of the path in order, each sure or in doubt; and of the rows at the point what is there, if what was opened is sound
pub record DidLook (sound : Type 0) (k k' : Known) (p : Point) (path : Path) (after : Option (List ℕ)) (c : Chunk) : Type 0 where
  pub finds : Finds k k'
  pub shows : Shows p path after c.found c.next
  pub rows : sound → ShowsRows k'.base k'.seen p path after c.found c.next
  pub at : c.at ≡ length k'.seen

-- 4. Doubts

-- the key of the doubt's index belongs to the row with this primary key
pub record IsOwner (b : Base) (es : List Entry) (d : Doubt) (t : ℕ) (row : List Value) : Type 0 where
  pub index : Index
  pub is : index_of b es d.index.0 ≡ Some index
  pub of_table : index.table.0 ≡ t
  pub table : Table
  pub table_is : table_of b es t ≡ Some table
  pub values : List Value
  pub key : IsKeyOf (columns_on (index_path table index)) values d.key
  pub owner : row ≡ owner_of table (index_path table index) values

-- the change of the key's row at the doubt's stamp isn't written yet
pub record IsInFlight (b : Base) (es : List Entry) (d : Doubt) : Type 0 where
  pub table : ℕ
  pub row : List Value
  pub owner : IsOwner b es d table row
  pub batch : Batch
  pub is : batch_of table d.stamp es ≡ Some batch
  pub left : has (unwritten batch) row ≡ true

-- the row is at the point under the doubt's key, and no other is
pub record IsHeld (k : Known) (p : Point) (d : Doubt) (h : Held) : Type 0 where
  pub row : IsRowAt k.base k.seen p h.row
  pub key : key_by p.found (by.Index d.index) h.row ≡ d.key
  pub only : (row : List Value) → IsRowAt k.base k.seen p row → key_by p.found (by.Index d.index) row ≡ d.key → row ≡ h.row
  pub at : h.at ≡ length k.seen

-- what `consult` found of a doubt's row: none exactly where no row has the key at the point
abbrev pub Consulted : Known → Point → Doubt → Option Held → Type 0
Consulted k p d None = (row : List Value) → IsRowAt k.base k.seen p row → key_by p.found (by.Index d.index) row ≢ d.key
Consulted k p d (Some h) = IsHeld k p d h

-- it leaves the verdict in the doubt, which is to leave the version exactly where its change is in flight; and it finds the doubt's row, if what was
-- opened is sound
pub record DidConsult (sound : Type 0) (k k' : Known) (p : Point) (d d' : Doubt) (h : Option Held) : Type 0 where
  pub finds : Finds k k'
  pub index : d'.index ≡ d.index
  pub key : d'.key ≡ d.key
  pub stamp : d'.stamp ≡ d.stamp
  pub verdict : IsSome d'.verdict
  pub leave : (d'.verdict ≡ Some Leave) ↔ IsInFlight k'.base k'.seen d
  pub held : sound → Consulted k' p d h

-- the repair was made, but never where the change is in flight; or the version no longer stands unverified; or it does, and its
-- change is in flight
abbrev pub DidFix : Known → Known → Doubt → Fixing → Type 0
DidFix k k' d fixing.Fixed = Adds k k' (Fixed d.index d.key) × (IsInFlight k'.base k'.seen d → ⊥)
DidFix k k' d fixing.Gone = Finds k k'
DidFix k k' d fixing.InFlight = Finds k k' × IsInFlight k'.base k'.seen d

-- rows were given their base versions: the entry names them by their primary keys, in order, and the answer is the number of entries with it
pub record DidBase (k k' : Known) (p : Point) (i : IndexId) (xs : List BaseRow) (at : ℕ) : Type 0 where
  pub table : Table
  pub table_is : table_of k'.base k'.seen p.table.0 ≡ Some table
  pub adds : Adds k k' (Based i (base_owners table xs))
  pub at_is : at ≡ length k'.seen

-- 5. Upkeep and counts

-- upkeep adds nothing but a horizon that rises
abbrev pub DidWork : Known → Known → Work → Type 0
DidWork k k' work.Did = Finds k k' ⊎ ((t : TableId) × (h : ℕ) × Adds k k' (Raised t h))
DidWork k k' work.Idle = Finds k k'

-- upkeep had no step to make
abbrev pub IsIdleWork : Work → Type 0
IsIdleWork work.Did = ⊥
IsIdleWork work.Idle = Unit {0}

-- an order is no event: what comes of it, upkeep does
abbrev pub DidOrder : Known → Known → Unit {0} → Type 0
DidOrder k k' u = Finds k k'

-- the index as its count names it
abbrev pub IsCountOf : Base → List Entry → ℕ → IndexCount → Type 0
IsCountOf b es t c = (x : Index) × (index_of b es c.index.0 ≡ Some x) × (x.table.0 ≡ t) × (c.name ≡ x.name) × (c.state ≡ x.state)

unfoldable pub AreCountsRising : List IndexCount → Type 0
AreCountsRising [] = Unit {0}
AreCountsRising (c ∷ cs) = AllByRecursion (λ y. c.index.0 < y.index.0) cs × AreCountsRising cs

-- the last stamp, the horizon, and the indexes with their names and states
pub record DidCount (k k' : Known) (t : TableId) (s : Status) : Type 0 where
  pub finds : Finds k k'
  pub last : s.last ≡ last_of k'.base t.0 k'.seen
  pub horizon : s.horizon ≡ horizon_of k'.base t.0 k'.seen
  pub each : AllByRecursion (IsCountOf k'.base k'.seen t.0) s.indexes
  pub rising : AreCountsRising s.indexes
  pub all : (x : Index) → index_of k'.base k'.seen x.id.0 ≡ Some x → x.table.0 ≡ t.0 → (c : IndexCount) × IsAmong c s.indexes × (c.index ≡ x.id)
