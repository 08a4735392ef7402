-- What one step of a batch does.
use Rattle.std.specs.Prelude.{ℕ, ◌≡◌, ◌≤◌, Ok, Err, List, [], ◌∷◌, ◌++◌, ◌⊎◌, Result, length, drop}
use Rattle.px_values.specs.Limits.{most_of}
use Rattle.px_values.specs.declared.limit.Limit.TheVariants as bound
use Rattle.px_values.specs.declared.change.Change.{Change}
use Rattle.px_values.specs.declared.name.TableId.{TableId}
use Rattle.px_trail.specs.declared.entry.Act.{Act}
use Rattle.px_trail.specs.declared.entry.Act.TheVariants as act
use Rattle.px_trail.specs.declared.entry.Entry.{Entry}
use Rattle.px_trail.specs.Answers.{IsAmong}
use Rattle.px_trail.specs.Batches.{Marking, Writing, Verifying}
use Rattle.px_trail.specs.Count.{counted_bytes}
use Rattle.px_trail.specs.Trail.{Base, acts_by}
use Rattle.px_calls.specs.declared.ticket.Receipt.{Receipt}
use Rattle.px_calls.specs.declared.ticket.Ticket.{Ticket}
use Rattle.px_calls.specs.Known.{Known, Ran, HasMade, outline}
use Rattle.px_calls.specs.Causes.{ClosedBy, HasLongKey, IsDamagedAt, IsWaiting, LacksTable, TableStands, WritesManyBytes, WritesManyCells, batch_limit}
use Rattle.px_calls.specs.Calls.{IsReceipt}
use Rattle.px_calls.specs.Requires.{AreFitting, CanAbandon, CanEnd, IsServerShut, TicketIn}
use Rattle.px_batch.specs.declared.batch.BatchFault.{BatchFault}
use Rattle.px_batch.specs.declared.batch.BatchFault.TheVariants as fault
use Rattle.px_batch.specs.declared.batch.BatchState.{BatchState}
use Rattle.px_batch.specs.declared.batch.BatchState.TheVariants as state
use Rattle.px_batch.specs.declared.batch.BatchTurn.{BatchTurn}
use Rattle.px_batch.specs.declared.batch.BatchTurn.TheVariants as turn

-- 1. Faults

-- what tells the fault, in what the seat has then seen
abbrev pub BatchFaultIs : Type 0 → TableId → List Change → BatchFault → Known → Type 0
BatchFaultIs sound table cs fault.NoTable k = LacksTable k table.0
BatchFaultIs sound table cs (fault.Limit which count) k = TableStands k table.0 × (count ≡ most_of which) × batch_limit sound table.0 cs which k
BatchFaultIs sound table cs fault.ReadFault k = (call : ℕ) × HasMade k (act.Missed call)
BatchFaultIs sound table cs fault.WriteFault k = (call : ℕ) × HasMade k (act.Shut call)
BatchFaultIs sound table cs (fault.Damaged file place) k = IsDamagedAt sound k file place
BatchFaultIs sound table cs (fault.Closed call) k = ClosedBy call k
BatchFaultIs sound table cs fault.Memory k = Unit {0}

-- the entry that tells a failed device call is one of the seat's own after the first n
abbrev pub BatchFaultSince : ℕ → BatchFault → Known → Type 0
BatchFaultSince n fault.ReadFault k = (call : ℕ) × IsAmong (act.Missed call) (acts_by k.seat (drop n k.seen))
BatchFaultSince n fault.WriteFault k = (call : ℕ) × IsAmong (act.Shut call) (acts_by k.seat (drop n k.seen))
BatchFaultSince n f k = Unit {0}

-- the faults that come to a batch that has begun: the server was closed
abbrev pub IsStopping : BatchFault → Type 0
IsStopping fault.WriteFault = Unit {0}
IsStopping (fault.Closed call) = Unit {0}
IsStopping f = ⊥

-- what tells such a fault
abbrev pub StopIs : BatchFault → Known → Type 0
StopIs fault.WriteFault k = (call : ℕ) × HasMade k (act.Shut call)
StopIs (fault.Closed call) k = ClosedBy call k
StopIs f k = ⊥

-- 2. States

-- The batch passed no limit: in front of the entry that begins it no key that it needs was too long, and it wrote neither too many cells nor too many bytes;
-- with that entry the trail had room, and its stamp was one that is left
pub record KeptWithin (sound : Type 0) (b : Base) (es : List Entry) (table : TableId) (cs : List Change) (stamp : ℕ) : Type 0 where
  pub front : List Entry
  pub entry : Entry
  pub rest : List Entry
  pub is : es ≡ front ++ entry ∷ rest
  pub begins : entry.act ≡ act.Begun table stamp cs
  pub short : sound → HasLongKey b front table.0 cs → ⊥
  pub few : sound → WritesManyCells b front table.0 cs → ⊥
  pub light : sound → WritesManyBytes b front table.0 cs → ⊥
  pub stamps : stamp ≤ most_of bound.Stamps
  pub trail : counted_bytes (front ++ entry ∷ []) ≤ most_of bound.Trail

-- The state is as the trail tells. Others' entries keep this
abbrev pub FitsBatch : Type 0 → TableId → List Change → BatchState → Known → Type 0
FitsBatch sound table cs state.Beginning k = AreFitting k table.0 cs
FitsBatch sound table cs state.Settling k = AreFitting k table.0 cs
FitsBatch sound table cs (state.Marking t) k = (t.table ≡ table) × TicketIn k t Marking × KeptWithin sound k.base k.seen table cs t.stamp
FitsBatch sound table cs (state.Writing t) k = (t.table ≡ table) × TicketIn k t Writing × KeptWithin sound k.base k.seen table cs t.stamp
FitsBatch sound table cs (state.Verifying t) k = (t.table ≡ table) × TicketIn k t Verifying × KeptWithin sound k.base k.seen table cs t.stamp
FitsBatch sound table cs (state.Ending t) k = (t.table ≡ table) × CanEnd k t × KeptWithin sound k.base k.seen table cs t.stamp
FitsBatch sound table cs (state.Leaving t f) k = (t.table ≡ table) × CanAbandon k t × StopIs f k
FitsBatch sound table cs state.Over k = Unit {0}

abbrev pub IsBatchGoing : BatchState → Type 0
IsBatchGoing state.Over = ⊥
IsBatchGoing s = Unit {0}

-- what the run has begun and not ended
abbrev pub begun_by_batch : TableId → List Change → BatchState → List Act
begun_by_batch table cs state.Beginning = []
begun_by_batch table cs state.Settling = []
begun_by_batch table cs (state.Marking t) = act.Begun table t.stamp cs ∷ []
begun_by_batch table cs (state.Writing t) = act.Begun table t.stamp cs ∷ []
begun_by_batch table cs (state.Verifying t) = act.Begun table t.stamp cs ∷ []
begun_by_batch table cs (state.Ending t) = act.Begun table t.stamp cs ∷ []
begun_by_batch table cs (state.Leaving t f) = act.Begun table t.stamp cs ∷ []
begun_by_batch table cs state.Over = []

-- a fault that the state tells came after the first n entries
abbrev pub IsBatchSince : ℕ → BatchState → Known → Type 0
IsBatchSince n (state.Leaving t f) k = (n ≤ length k.seen) × BatchFaultSince n f k
IsBatchSince n s k = n ≤ length k.seen

-- 3. Steps

-- the receipt is that of the one batch that the run began and ended, and the batch passed no limit
pub record HasEndedBatch (sound : Type 0) (table : TableId) (cs : List Change) (acts : List Act) (k : Known) (r : Receipt) : Type 0 where
  pub one : acts ≡ act.Begun table r.stamp cs ∷ act.Ended table r.stamp ∷ []
  pub receipt : IsReceipt k (record { table = table; stamp = r.stamp }) r
  pub kept : KeptWithin sound k.base k.seen table cs r.stamp

-- nothing was begun; or the server was closed under one batch that was begun
abbrev pub HasLeft : TableId → List Change → BatchFault → List Act → Known → Type 0
HasLeft table cs f acts k = (acts ≡ []) ⊎ (IsStopping f × IsServerShut k × ((stamp : ℕ) × (acts ≡ act.Begun table stamp cs ∷ [])))

-- the batch that waits, and for which
pub record Waits (k : Known) (old : BatchState) (stamp : ℕ) : Type 0 where
  pub ticket : Ticket
  pub is : old ≡ state.Writing ticket
  pub waiting : IsWaiting k ticket.table.0 ticket.stamp stamp

-- what the run comes to, where `own` is what the seat began and ended for it
abbrev pub IsBatchOutcome : Type 0 → TableId → List Change → List Act → Known → Result Receipt BatchFault → Type 0
IsBatchOutcome sound table cs own k (Ok r) = HasEndedBatch sound table cs own k r
IsBatchOutcome sound table cs own k (Err f) = BatchFaultIs sound table cs f k × HasLeft table cs f own k

-- what a step came to, where `own` is what the seat began and ended for the run so far
abbrev pub Told : Type 0 → TableId → List Change → BatchState → List Act → BatchState → Known → BatchTurn → Type 0
Told sound table cs old own new k turn.Stepped = IsBatchGoing new × (own ≡ begun_by_batch table cs new)
Told sound table cs old own new k (turn.Waiting stamp) = IsBatchGoing new × (own ≡ begun_by_batch table cs new) × Waits k old stamp
Told sound table cs old own new k (turn.Over r) = (new ≡ state.Over) × IsBatchOutcome sound table cs own k r

abbrev pub IsBatchSinceThen : ℕ → BatchState → Known → BatchTurn → Type 0
IsBatchSinceThen n new k turn.Stepped = IsBatchSince n new k
IsBatchSinceThen n new k (turn.Waiting stamp) = IsBatchSince n new k
IsBatchSinceThen n new k (turn.Over (Ok r)) = n ≤ r.at
IsBatchSinceThen n new k (turn.Over (Err f)) = BatchFaultSince n f k

-- one step of a batch
pub record BatchTurns (sound : Type 0) (table : TableId) (cs : List Change) (old : BatchState) (k : Known) (new : BatchState) (k' : Known) (t : BatchTurn) : Type 0 where
  pub acts : List Act
  pub ran : Ran k k' acts
  pub fits : FitsBatch sound table cs new k'
  pub told : Told sound table cs old (begun_by_batch table cs old ++ outline acts) new k' t
  pub since : (n : ℕ) → IsBatchSince n old k → IsBatchSinceThen n new k' t

-- 4. Whole batches

-- A whole batch: on Ok the seat began this one batch and ended it, and none of its own acts begins or ends another. On Err it
-- began none, or the server was closed under the one that it began; a failed device call is told by an entry of the run
pub record RanBatch (sound : Type 0) (table : TableId) (cs : List Change) (k k' : Known) (r : Result Receipt BatchFault) : Type 0 where
  pub acts : List Act
  pub ran : Ran k k' acts
  pub outcome : IsBatchOutcome sound table cs (outline acts) k' r
  pub since : IsBatchSinceThen (length k.seen) state.Over k' (turn.Over r)

-- a batch on its way: what the seat did so far is to have begun what the run holds
pub record SoFar (sound : Type 0) (table : TableId) (cs : List Change) (k k' : Known) (s : BatchState) : Type 0 where
  pub acts : List Act
  pub ran : Ran k k' acts
  pub so_far : outline acts ≡ begun_by_batch table cs s
  pub fits : FitsBatch sound table cs s k'
  pub going : IsBatchGoing s
  pub since : IsBatchSince (length k.seen) s k'
