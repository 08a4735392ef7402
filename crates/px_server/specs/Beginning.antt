-- A batch that begins on a table's group: what is made ready and taken for it, how it is let in, and why not.
use Rattle.std.specs.Prelude.{◌≡◌, ◌⊎◌, ◌<◌, ◌≤◌, ◌+◌, ℕ, List, length, slice_get, Some, sum_by}
use Rattle.px_values.specs.Limits.{most_of}
use Rattle.px_values.specs.declared.change.Change.{Change}
use Rattle.px_values.specs.declared.limit.Limit.TheVariants as bound
use Rattle.px_values.specs.declared.name.TableId.{TableId}
use Rattle.px_trail.specs.Batches.{rows_of}
use Rattle.px_trail.specs.Count.{counted_bytes, counted_change}
use Rattle.px_trail.specs.Recorded.{Recorded}
use Rattle.px_trail.specs.declared.entry.Entry.{Entry}
use Rattle.px_turns.specs.Turns.{drawn_stamp}
use Rattle.px_calls.specs.declared.fault.StepFault.{StepFault}
use Rattle.px_calls.specs.declared.fault.StepFault.TheVariants.{Busy, Limit, NotReady, ReadFault, Memory}
use Rattle.px_phases.specs.Batch.{BatchData}
use Rattle.px_group.specs.Group.{IsRightGroup}
use Rattle.px_group.specs.Room.{bytes_at, bytes_of_rows, cells_at, cells_of_rows}
use Rattle.px_group.specs.declared.group.Group.{Group}
use Rattle.px_beginning.specs.Admits.{Admits}
use Rattle.px_beginning.specs.Begins.{IsBatchOf, NeedsLongKey}
use Rattle.px_beginning.specs.Leaves.{LeavesGroup}
use Rattle.px_beginning.specs.Refused.{IsRefusedOf}
use Rattle.px_beginning.specs.Rooms.{AreRoomsOf, HasManyBytes, HasManyCells, PassesAt}
use Rattle.px_beginning.specs.declared.fault.BeginFault.TheVariants as promise
use Rattle.px_beginning.specs.declared.preparing.Prepared.{Prepared}
use Rattle.px_server.specs.declared.readying.Ready.{Ready}
use Rattle.px_server.specs.declared.readying.Started.{Started}

-- 1. Ready

-- the batch with its room, behind the last stamp while the clock shows this, and its changes for its entry
pub record IsReady (g : Group) (cs : List Change) (clock : ℕ) (r : Ready) : Type 0 where
  pub stamp : drawn_stamp g.last clock ≡ Some r.started.stamp
  pub batch : IsBatchOf g r.started.stamp cs r.prepared.batch
  pub written : (r.prepared.written ≡ rows_of cs) × (r.prepared.receipt ≡ rows_of cs)
  pub rooms : AreRoomsOf (length g.indexes.items) r.prepared
  pub changes : r.started.changes ≡ cs

-- why none is made ready; how many cells and bytes a batch has doesn't hang on its stamp
abbrev pub unready_cause : Group → List Change → StepFault → Type 0
unready_cause g cs (Limit bound.Key count) = (count ≡ most_of bound.Key) × NeedsLongKey g cs × (g.last ≤ most_of bound.Stamps)
unready_cause g cs (Limit bound.Cells count) = (count ≡ most_of bound.Cells) × ((stamp : ℕ) × HasManyCells g stamp cs) × (g.last ≤ most_of bound.Stamps)
unready_cause g cs (Limit bound.Bytes count) = (count ≡ most_of bound.Bytes) × ((stamp : ℕ) × HasManyBytes g stamp cs) × (g.last ≤ most_of bound.Stamps)
unready_cause g cs (Limit bound.Stamps count) = (count ≡ most_of bound.Stamps) × (most_of bound.Stamps ≤ g.last)
unready_cause g cs ReadFault = Unit {0}
unready_cause g cs Memory = Unit {0}
unready_cause g cs f = ⊥

-- 2. Room

-- in the trail: for the batch's own entry, and the four that it owes then
pub record HasTaken (old new : Recorded) (cs : List Change) : Type 0 where
  pub entries : new.entries ≡ old.entries
  pub room : new.room ≡ old.room + 5
  pub bytes : new.bytes_room ≡ old.bytes_room + sum_by counted_change cs
  pub few : counted_bytes old.entries + sum_by counted_change cs ≤ most_of bound.Trail

-- Why no room is taken: the trail would pass its limit, or a region refuses what was prepared. Where its log is open, that is one whose record would
-- be too long for it, or one with too many cells.
abbrev pub untaken_cause : Group → Prepared → List Entry → List Change → StepFault → Type 0
untaken_cause g p es cs (Limit bound.Trail count) = (count ≡ most_of bound.Trail) × (most_of bound.Trail < counted_bytes es + sum_by counted_change cs)
untaken_cause g p es cs (Limit bound.Log count) = (count ≡ most_of bound.Log) × ((region : ℕ) × IsRefusedOf g p (promise.NotReady region))
untaken_cause g p es cs (Limit bound.Region count) = (count ≡ most_of bound.Region) × ((region : ℕ) × ((cells : ℕ) × ((bytes : ℕ) × IsRefusedOf g p (promise.Busy region cells bytes))))
untaken_cause g p es cs (Busy region cells bytes) = IsRefusedOf g p (promise.Busy region cells bytes)
untaken_cause g p es cs (NotReady region) = IsRefusedOf g p (promise.NotReady region)
untaken_cause g p es cs Memory = Unit {0}
untaken_cause g p es cs f = ⊥

-- of what was made ready
pub record IsUntaken (g : Group) (es : List Entry) (cs : List Change) (clock : ℕ) (f : StepFault) : Type 0 where
  pub read : Group
  pub leaves : LeavesGroup g read
  pub ready : Ready
  pub is : IsReady g cs clock ready
  pub cause : untaken_cause read ready.prepared es cs f

-- why no batch is let in
abbrev pub IsUnbegun : Group → List Entry → List Change → ℕ → StepFault → Type 0
IsUnbegun g es cs clock f = unready_cause g cs f ⊎ IsUntaken g es cs clock f

-- in the group of the table of this number, while the clock told some number
pub record IsRefusedIn (groups : List Group) (t : TableId) (es : List Entry) (cs : List Change) (f : StepFault) : Type 0 where
  pub place : ℕ
  pub group : Group
  pub at : slice_get groups place ≡ Some group
  pub id : group.table.id ≡ t
  pub clock : ℕ
  pub unbegun : IsUnbegun group es cs clock f

-- A limit, and a region that isn't ready or is busy, are told of a batch only with their cause in the table's group.
abbrev pub RefusesBatch : List Group → TableId → List Entry → List Change → StepFault → Type 0
RefusesBatch groups t es cs (Limit which count) = IsRefusedIn groups t es cs (Limit which count)
RefusesBatch groups t es cs (NotReady region) = IsRefusedIn groups t es cs (NotReady region)
RefusesBatch groups t es cs (Busy region cells bytes) = IsRefusedIn groups t es cs (Busy region cells bytes)
RefusesBatch groups t es cs f = Unit {0}

-- 3. Let in

-- The batch of these changes passes no limit, and is the last of the group, which is right before and after. Until then nothing is read otherwise of the group.
pub record LetsIn (g g' : Group) (cs : List Change) (clock : ℕ) (s : Started) : Type 0 where
  pub stamp : drawn_stamp g.last clock ≡ Some s.stamp
  pub taken : Group
  pub leaves : LeavesGroup g taken
  pub batch : BatchData
  pub is : IsBatchOf taken s.stamp cs batch
  pub few : PassesAt cells_of_rows cells_at (most_of bound.Cells) (length taken.indexes.items) batch → ⊥
  pub light : PassesAt bytes_of_rows bytes_at (most_of bound.Bytes) (length taken.indexes.items) batch → ⊥
  pub admits : Admits taken batch g'
  pub before : IsRightGroup taken
  pub after : IsRightGroup g'
  pub changes : s.changes ≡ cs
