-- When a call is refused, and what it leaves.
use Rattle.std.specs.Prelude.{ℕ, zero, suc, ◌≡◌, ◌≢◌, ◌⊎◌, ◌<◌, ◌≤◌, ◌+◌, ◌-◌, ◌==◌, true, if◌then◌else◌, List, [], ◌∷◌, length, min, sum_by, Option, None, Some, IsSome}
use Rattle.std.specs.Option.{is_some}
use Rattle.px_values.specs.Limits.{most_key, most_of}
use Rattle.px_values.specs.States.{RowState, apply}
use Rattle.px_values.specs.declared.change.Change.{Change}
use Rattle.px_values.specs.declared.limit.Limit.{Limit as Bound}
use Rattle.px_values.specs.declared.limit.Limit.TheVariants as bound
use Rattle.px_values.specs.declared.row.Value.{Value}
use Rattle.px_keys.specs.Spelling.{spelled}
use Rattle.px_tables.specs.declared.index.Index.{Index}
use Rattle.px_tables.specs.declared.index.IndexState.TheVariants.{Disabled}
use Rattle.px_tables.specs.declared.index.NewIndex.{NewIndex}
use Rattle.px_tables.specs.declared.table.NewTable.{NewTable}
use Rattle.px_tables.specs.declared.table.Table.{Table}
use Rattle.px_paths.specs.Paths.{columns_on, index_path, key_on, table_path}
use Rattle.px_trail.specs.declared.entry.Act.{Act}
use Rattle.px_trail.specs.declared.entry.Act.TheVariants.{Begun, Ended, Missed, Opened, Released, Shut}
use Rattle.px_trail.specs.declared.entry.Entry.{Entry}
use Rattle.px_trail.specs.Answers.{IsAmong}
use Rattle.px_trail.specs.Batches.{Batch, batch_of, has, unwritten}
use Rattle.px_trail.specs.Count.{counted_bytes, counted_change}
use Rattle.px_trail.specs.States.{applied, begun, greatest_stamp}
use Rattle.px_trail.specs.Trail.{Base, Catalogue, catalogue_of, closing_call, horizon_of, index_of, last_of, shape_of, table_of}
use Rattle.px_calls.specs.declared.definition.Definition.{Definition}
use Rattle.px_calls.specs.declared.definition.Definition.TheVariants as d
use Rattle.px_calls.specs.declared.fault.StepFault.{StepFault}
use Rattle.px_calls.specs.declared.fault.StepFault.TheVariants.{NameExists, NoTable, NoIndex, Limit, Busy, NotReady, InUse, NotYet, BelowHorizon, ReadFault, WriteFault, Damaged, Closed, Memory}
use Rattle.px_calls.specs.Known.{Known, Sees, Adds, IsRunning}
use Rattle.px_calls.specs.Sizes.{WritesTooMuch}

-- A refusal has its cause after exactly what the seat has then seen. ReadFault and WriteFault add the entry that tells it;
-- Closed comes where the server is closed, and the others where it isn't
abbrev pub Refuses : (StepFault → Known → Type 0) → Known → Known → StepFault → Type 0
Refuses Cause k k' ReadFault = Cause ReadFault k' × ((call : ℕ) × Adds k k' (Missed call))
Refuses Cause k k' WriteFault = Cause WriteFault k' × ((call : ℕ) × Adds k k' (Shut call))
Refuses Cause k k' (Closed call) = Cause (Closed call) k' × Sees k k'
Refuses Cause k k' f = Cause f k' × Sees k k' × IsRunning k'

-- this device call closed the server
abbrev pub ClosedBy : ℕ → Known → Type 0
ClosedBy call k = closing_call k.seen ≡ Some call

-- a read may find that this place of the file isn't of the format, but not where what was opened is sound
abbrev pub IsDamagedAt : Type 0 → Known → ℕ → ℕ → Type 0
IsDamagedAt sound k file place = (k.damaged file place ≡ true) × ¬ sound

-- 1. Names, tables and indexes

-- a table or an index has the name
abbrev pub HasName : Catalogue → List ℕ → Type 0
HasName c name = ((t : ℕ) × (x : Table) × (c.tables t ≡ Some x) × (x.name ≡ name)) ⊎ ((i : ℕ) × (x : Index) × (c.indexes i ≡ Some x) × (x.name ≡ name))

-- no table has the name
abbrev pub NamesNoTable : Known → List ℕ → Type 0
NamesNoTable k name = (t : ℕ) (x : Table) → table_of k.base k.seen t ≡ Some x → x.name ≢ name

-- the table stands
abbrev pub TableStands : Known → ℕ → Type 0
TableStands k t = IsSome (table_of k.base k.seen t)

abbrev pub LacksTable : Known → ℕ → Type 0
LacksTable k t = table_of k.base k.seen t ≡ None

-- the table has no index of this number
abbrev pub LacksIndex : Known → ℕ → ℕ → Type 0
LacksIndex k t i = TableStands k t × ((x : Index) → index_of k.base k.seen i ≡ Some x → x.table.0 ≢ t)

-- how many numbers below n have something
unfoldable pub count_below : {A : Type 0} → (ℕ → Option A) → ℕ → ℕ
count_below f zero = 0
count_below f (suc n) = if is_some (f n) then suc (count_below f n) else count_below f n

-- the index, where it is of that table
abbrev pub of_table : ℕ → Option Index → Option Index
of_table t None = None
of_table t (Some x) = if x.table.0 == t then Some x else None

-- how many tables stand, and how many indexes a table has
abbrev pub tables_of : Known → ℕ
tables_of k = let c = catalogue_of k.base k.seen in count_below c.tables c.next

abbrev pub index_count : Known → ℕ → ℕ
index_count k t = let c = catalogue_of k.base k.seen in count_below (λ i. of_table t (c.indexes i)) c.next

-- the next n numbers would pass the greatest
abbrev pub RunsOut : Known → ℕ → Type 0
RunsOut k n = most_of bound.Ids + 1 < (catalogue_of k.base k.seen).next + n

-- 2. What is open

-- points and batches of the table after one act more
abbrev pub uses_step : ℕ → ℕ → Act → ℕ
uses_step t n (Begun t' s cs) = if t'.0 == t then n + 1 else n
uses_step t n (Ended t' s) = if t'.0 == t then n - 1 else n
uses_step t n (Opened t' s scn) = if t'.0 == t then n + 1 else n
uses_step t n (Released t' s) = if t'.0 == t then n - 1 else n
uses_step t n act = n

unfoldable pub uses_from : ℕ → ℕ → List Entry → ℕ
uses_from t n [] = n
uses_from t n (e ∷ es) = uses_from t (uses_step t n e.act) es

-- how many points and batches of the table are open
abbrev pub uses_of : ℕ → List Entry → ℕ
uses_of t es = uses_from t 0 es

abbrev pub IsInUse : Known → ℕ → ℕ → Type 0
IsInUse k t count = (uses_of t k.seen ≡ count) × (0 < count)

-- 3. Definitions

abbrev pub new_table_cause : NewTable → StepFault → Known → Type 0
new_table_cause what NameExists k = HasName (catalogue_of k.base k.seen) what.name
new_table_cause what (Limit bound.Tables count) k = (count ≡ most_of bound.Tables) × (most_of bound.Tables ≤ tables_of k)
new_table_cause what (Limit bound.Ids count) k = (count ≡ most_of bound.Ids) × RunsOut k (length what.least_keys + 1)
new_table_cause what (NotReady region) k = region ≡ 0
new_table_cause what f k = ⊥

abbrev pub new_index_cause : NewIndex → StepFault → Known → Type 0
new_index_cause what NameExists k = HasName (catalogue_of k.base k.seen) what.name
new_index_cause what NoTable k = LacksTable k what.table.0
new_index_cause what (Limit bound.Indexes count) k = (count ≡ most_of bound.Indexes) × (most_of bound.Indexes ≤ index_count k what.table.0)
new_index_cause what (Limit bound.Stamps count) k = (count ≡ most_of bound.Stamps) × (most_of bound.Stamps ≤ last_of k.base what.table.0 k.seen)
new_index_cause what (Limit bound.Ids count) k = (count ≡ most_of bound.Ids) × RunsOut k 2
new_index_cause what (NotReady region) k = region ≡ 0
new_index_cause what f k = ⊥

abbrev pub active_cause : ℕ → ℕ → StepFault → Known → Type 0
active_cause t i NoTable k = LacksTable k t
active_cause t i NoIndex k = LacksIndex k t i
active_cause t i (NotReady region) k = region ≡ 0
active_cause t i f k = ⊥

-- an index is disabled only where no point and no batch of its table is open
abbrev pub disabled_cause : ℕ → ℕ → StepFault → Known → Type 0
disabled_cause t i NoTable k = LacksTable k t
disabled_cause t i NoIndex k = LacksIndex k t i
disabled_cause t i (InUse count) k = IsInUse k t count
disabled_cause t i (NotReady region) k = region ≡ 0
disabled_cause t i f k = ⊥

-- and is built again only there; it takes a stamp, and a number for its region
abbrev pub rebuilding_cause : ℕ → ℕ → StepFault → Known → Type 0
rebuilding_cause t i NoTable k = LacksTable k t
rebuilding_cause t i NoIndex k = LacksIndex k t i
rebuilding_cause t i (Limit bound.Stamps count) k = (count ≡ most_of bound.Stamps) × (most_of bound.Stamps ≤ last_of k.base t k.seen)
rebuilding_cause t i (Limit bound.Ids count) k = (count ≡ most_of bound.Ids) × RunsOut k 1
rebuilding_cause t i (InUse count) k = IsInUse k t count
rebuilding_cause t i (NotReady region) k = region ≡ 0
rebuilding_cause t i f k = ⊥

abbrev pub drop_table_cause : ℕ → StepFault → Known → Type 0
drop_table_cause t NoTable k = LacksTable k t
drop_table_cause t (InUse count) k = IsInUse k t count
drop_table_cause t (NotReady region) k = region ≡ 0
drop_table_cause t f k = ⊥

abbrev pub drop_index_cause : ℕ → ℕ → StepFault → Known → Type 0
drop_index_cause t i NoTable k = LacksTable k t
drop_index_cause t i NoIndex k = LacksIndex k t i
drop_index_cause t i (InUse count) k = IsInUse k t count
drop_index_cause t i (NotReady region) k = region ≡ 0
drop_index_cause t i f k = ⊥

-- of each definition
abbrev pub definition_cause : Definition → StepFault → Known → Type 0
definition_cause (d.Table what) f k = new_table_cause what f k
definition_cause (d.Index what) f k = new_index_cause what f k
definition_cause (d.Active t i) f k = active_cause t.0 i.0 f k
definition_cause (d.Disabled t i) f k = disabled_cause t.0 i.0 f k
definition_cause (d.Rebuilding t i) f k = rebuilding_cause t.0 i.0 f k
definition_cause (d.DropTable t) f k = drop_table_cause t.0 f k
definition_cause (d.DropIndex t i) f k = drop_index_cause t.0 i.0 f k

abbrev pub define_cause : Definition → StepFault → Known → Type 0
define_cause x WriteFault k = Unit {0}
define_cause x (Closed call) k = ClosedBy call k
define_cause x Memory k = Unit {0}
define_cause x f k = definition_cause x f k

abbrev pub find_cause : List ℕ → StepFault → Known → Type 0
find_cause name NoTable k = NamesNoTable k name
find_cause name (Closed call) k = ClosedBy call k
find_cause name Memory k = Unit {0}
find_cause name f k = ⊥

-- 4. Batches

-- the state of a row where all that is begun counts as written
abbrev pub expected_now : Base → List Entry → ℕ → List Value → RowState
expected_now b es t r = applied (shape_of b es t) r greatest_stamp (b.state t r greatest_stamp) (begun t r es)

abbrev pub IsLong : List ℕ → Type 0
IsLong key = most_key < length key

-- the index has a key for the row, and a longer one than keys may be
abbrev pub IsLongIn : Table → Index → RowState → Type 0
IsLongIn t x None = ⊥
IsLongIn t x (Some row) = IsLong (key_on (index_path t x) row)

-- a key that the change needs in a maintained index is too long: that of the row before it, or after it
pub record IsLongIndexed (b : Base) (es : List Entry) (t : Table) (c : Change) : Type 0 where
  pub index : Index
  pub is : index_of b es index.id.0 ≡ Some index
  pub owner : index.table.0 ≡ t.id.0
  pub maintained : index.state ≢ Disabled
  pub long : IsLongIn t index (expected_now b es t.id.0 c.row) ⊎ IsLongIn t index (apply (shape_of b es t.id.0) c.row (expected_now b es t.id.0 c.row) c.what)

-- a key that the changes need is too long: a row key, or a key in an index
pub record HasLongKey (b : Base) (es : List Entry) (t : ℕ) (cs : List Change) : Type 0 where
  pub table : Table
  pub is : table_of b es t ≡ Some table
  pub change : Change
  pub among : IsAmong change cs
  pub long : IsLong (spelled (columns_on (table_path table)) change.row) ⊎ IsLongIndexed b es table change

-- a batch writes more than 8,192 cells in the table or in an index that is maintained
abbrev pub WritesManyCells : Base → List Entry → ℕ → List Change → Type 0
WritesManyCells b es t cs = WritesTooMuch (λ sizes. length sizes) bound.Cells (catalogue_of b es) (shape_of b es t) (λ r. expected_now b es t r) t cs

-- it writes more than 8,388,608 bytes of them
abbrev pub WritesManyBytes : Base → List Entry → ℕ → List Change → Type 0
WritesManyBytes b es t cs = WritesTooMuch (λ sizes. sum_by (λ n. n) sizes) bound.Bytes (catalogue_of b es) (shape_of b es t) (λ r. expected_now b es t r) t cs

-- The limits of a batch. Of keys, cells and bytes they are told of rows, where what was opened is sound. Log and Region stand for room that only a flush
-- could make
abbrev pub batch_limit : Type 0 → ℕ → List Change → Bound → Known → Type 0
batch_limit sound t cs bound.Key k = sound → HasLongKey k.base k.seen t cs
batch_limit sound t cs bound.Cells k = sound → WritesManyCells k.base k.seen t cs
batch_limit sound t cs bound.Bytes k = sound → WritesManyBytes k.base k.seen t cs
batch_limit sound t cs bound.Stamps k = most_of bound.Stamps ≤ last_of k.base t k.seen
batch_limit sound t cs bound.Trail k = most_of bound.Trail < counted_bytes k.seen + sum_by counted_change cs
batch_limit sound t cs bound.Log k = Unit {0}
batch_limit sound t cs bound.Region k = Unit {0}
batch_limit sound t cs which k = ⊥

abbrev pub begin_cause : Type 0 → ℕ → List Change → StepFault → Known → Type 0
begin_cause sound t cs NoTable k = LacksTable k t
begin_cause sound t cs (Limit which count) k = TableStands k t × (count ≡ most_of which) × batch_limit sound t cs which k
begin_cause sound t cs (Busy region cells bytes) k = TableStands k t
begin_cause sound t cs (NotReady region) k = TableStands k t
begin_cause sound t cs ReadFault k = TableStands k t
begin_cause sound t cs (Damaged file place) k = TableStands k t × IsDamagedAt sound k file place
begin_cause sound t cs (Closed call) k = ClosedBy call k
begin_cause sound t cs Memory k = Unit {0}
begin_cause sound t cs f k = ⊥

-- of mark and verify_marks
abbrev pub write_cause : StepFault → Known → Type 0
write_cause WriteFault k = Unit {0}
write_cause (Closed call) k = ClosedBy call k
write_cause f k = ⊥

-- of write: an earlier stamp is pending on a row that this batch is still to write
pub record IsWaiting (k : Known) (t s earlier : ℕ) : Type 0 where
  pub smaller : earlier < s
  pub own : Batch
  pub own_is : batch_of t s k.seen ≡ Some own
  pub batch : Batch
  pub is : batch_of t earlier k.seen ≡ Some batch
  pub row : List Value
  pub to_write : has (unwritten own) row ≡ true
  pub pending : has (unwritten batch) row ≡ true

abbrev pub rows_cause : ℕ → ℕ → StepFault → Known → Type 0
rows_cause t s (NotYet earlier) k = IsWaiting k t s earlier
rows_cause t s WriteFault k = Unit {0}
rows_cause t s (Closed call) k = ClosedBy call k
rows_cause t s f k = ⊥

-- 5. Points and queries

-- the stamp of a point that is opened after these entries: the last one, or under an SCN at most the one below it
abbrev pub stamp_at : Option ℕ → ℕ → Base → List Entry → ℕ
stamp_at None t b es = last_of b t es
stamp_at (Some scn) t b es = min (scn - 1) (last_of b t es)

-- a batch with a stamp at or below the point isn't written
pub record IsUndecided (k : Known) (t p stamp : ℕ) : Type 0 where
  pub below : stamp ≤ p
  pub batch : Batch
  pub is : batch_of t stamp k.seen ≡ Some batch
  pub left : unwritten batch ≢ []

abbrev pub open_cause : ℕ → Option ℕ → StepFault → Known → Type 0
open_cause t scn NoTable k = LacksTable k t
open_cause t (Some scn) (BelowHorizon h) k = TableStands k t × (horizon_of k.base t k.seen ≡ h) × (scn - 1 < h)
open_cause t (Some scn) (NotYet stamp) k = TableStands k t × (horizon_of k.base t k.seen ≤ scn - 1) × IsUndecided k t (stamp_at (Some scn) t k.base k.seen) stamp
open_cause t scn (Closed call) k = ClosedBy call k
open_cause t scn Memory k = Unit {0}
open_cause t scn f k = ⊥

-- of look and consult
abbrev pub read_cause : Type 0 → StepFault → Known → Type 0
read_cause sound ReadFault k = Unit {0}
read_cause sound (Damaged file place) k = IsDamagedAt sound k file place
read_cause sound (Closed call) k = ClosedBy call k
read_cause sound Memory k = Unit {0}
read_cause sound f k = ⊥

abbrev pub fix_cause : Type 0 → StepFault → Known → Type 0
fix_cause sound (Busy region cells bytes) k = Unit {0}
fix_cause sound (NotReady region) k = Unit {0}
fix_cause sound ReadFault k = Unit {0}
fix_cause sound WriteFault k = Unit {0}
fix_cause sound (Damaged file place) k = IsDamagedAt sound k file place
fix_cause sound (Closed call) k = ClosedBy call k
fix_cause sound Memory k = Unit {0}
fix_cause sound f k = ⊥

abbrev pub base_cause : StepFault → Known → Type 0
base_cause (Busy region cells bytes) k = Unit {0}
base_cause (NotReady region) k = Unit {0}
base_cause WriteFault k = Unit {0}
base_cause (Closed call) k = ClosedBy call k
base_cause Memory k = Unit {0}
base_cause f k = ⊥

abbrev pub upkeep_cause : Type 0 → StepFault → Known → Type 0
upkeep_cause sound ReadFault k = Unit {0}
upkeep_cause sound WriteFault k = Unit {0}
upkeep_cause sound (Damaged file place) k = IsDamagedAt sound k file place
upkeep_cause sound (Closed call) k = ClosedBy call k
upkeep_cause sound Memory k = Unit {0}
upkeep_cause sound f k = ⊥

abbrev pub order_cause : StepFault → Known → Type 0
order_cause (Closed call) k = ClosedBy call k
order_cause f k = ⊥

abbrev pub status_cause : Type 0 → ℕ → StepFault → Known → Type 0
status_cause sound t NoTable k = LacksTable k t
status_cause sound t ReadFault k = TableStands k t
status_cause sound t (Damaged file place) k = TableStands k t × IsDamagedAt sound k file place
status_cause sound t (Closed call) k = ClosedBy call k
status_cause sound t Memory k = Unit {0}
status_cause sound t f k = ⊥
