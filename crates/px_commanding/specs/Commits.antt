-- What one step of a commit of held changes does.
use Rattle.std.specs.Prelude.{ℕ, ◌≡◌, ◌≢◌, ◌≤◌, ◌<◌, ◌++◌, ◌⊎◌, List, [], ◌∷◌, length, vec_capacity, Result, Ok, Err, Vec}
use Rattle.std.specs.Global.{Global}
use Rattle.std.specs.List.{AllByRecursion}
use Rattle.px_tables.specs.declared.found.Found.{Found}
use Rattle.px_tables.specs.declared.table.Table.{Table}
use Rattle.px_trail.specs.declared.entry.Act.{Act}
use Rattle.px_held.specs.HeldData.{HeldData}
use Rattle.px_calls.specs.declared.fault.StepFault.{StepFault}
use Rattle.px_calls.specs.declared.fault.StepFault.TheVariants as step
use Rattle.px_calls.specs.declared.ticket.Receipt.{Receipt}
use Rattle.px_calls.specs.Calls.{IsFound}
use Rattle.px_calls.specs.Causes.{LacksTable, NamesNoTable}
use Rattle.px_calls.specs.Known.{Known, Ran, outline}
use Rattle.px_calls.specs.Requires.{IsChangeOf}
use Rattle.px_batch.specs.Turns as batch
use Rattle.px_batch.specs.declared.batch.BatchFault.{BatchFault}
use Rattle.px_batch.specs.declared.batch.BatchFault.TheVariants as fault
use Rattle.px_batch.specs.declared.batch.BatchState.TheVariants.{Beginning}
use Rattle.px_commanding.specs.declared.commit.CommitRun.{CommitRun}
use Rattle.px_commanding.specs.declared.commit.CommitRun.TheVariants as run
use Rattle.px_commanding.specs.declared.commit.CommitTurn.{CommitTurn}
use Rattle.px_commanding.specs.declared.commit.CommitTurn.TheVariants as turn

-- 1. Faults

abbrev pub unfound : StepFault → BatchFault
unfound step.NoTable = fault.NoTable
unfound (step.Closed call) = fault.Closed call
unfound f = fault.Memory

-- the table of the changes doesn't stand: none has its name, or its number, or its name is another one's
abbrev pub IsGone : Known → HeldData → Type 0
IsGone k h = NamesNoTable k h.name ⊎ (LacksTable k h.table.0 ⊎ ((f : Found) × IsFound k.base k.seen f × (f.table.name ≡ h.name) × (f.table.id ≢ h.table)))

-- what tells the fault, in what the seat has then seen
abbrev pub CommitFaultIs : Type 0 → HeldData → BatchFault → Known → Type 0
CommitFaultIs sound h fault.NoTable k = IsGone k h
CommitFaultIs sound h f k = batch.BatchFaultIs sound h.table h.changes f k

-- 2. States

abbrev pub HasRoomForOne : Vec Receipt Global → Type 0
HasRoomForOne v = (v.items ≡ []) × (0 < vec_capacity v)

-- The state is as the trail tells, where these changes are held. Others' entries keep this
abbrev pub FitsCommit : Type 0 → HeldData → CommitRun → Known → Type 0
FitsCommit sound h run.Finding k = Unit {0}
FitsCommit sound h (run.Changing r room) k = (r.table ≡ h.table) × (r.changes ≡ h.changes) × batch.FitsBatch sound r.table r.changes r.state k × batch.IsBatchGoing r.state × HasRoomForOne room

-- what the run has begun and not ended
abbrev pub begun_by_commit : CommitRun → List Act
begun_by_commit run.Finding = []
begun_by_commit (run.Changing r room) = batch.begun_by_batch r.table r.changes r.state

-- a fault that the state tells came after the first n entries
abbrev pub IsCommitSince : ℕ → CommitRun → Known → Type 0
IsCommitSince n run.Finding k = n ≤ length k.seen
IsCommitSince n (run.Changing r room) k = batch.IsBatchSince n r.state k

-- the batch that is begun where this table was found, or why none is
abbrev pub IsBegun : HeldData → Table → Result CommitRun BatchFault → Type 0
IsBegun h t (Ok run.Finding) = ⊥
IsBegun h t (Ok (run.Changing r room)) = (t.id ≡ h.table) × (r.table ≡ h.table) × (r.changes ≡ h.changes) × (r.state ≡ Beginning) × AllByRecursion (IsChangeOf t) h.changes × HasRoomForOne room
IsBegun h t (Err fault.NoTable) = t.id ≢ h.table
IsBegun h t (Err fault.Memory) = Unit {0}
IsBegun h t (Err f) = ⊥

-- what is told of the end of a batch
abbrev pub IsEnded : Result Receipt BatchFault → Result (Vec Receipt Global) BatchFault → Type 0
IsEnded (Ok r) (Ok rs) = rs.items ≡ r ∷ []
IsEnded (Err f) (Err g) = g ≡ f
IsEnded came r = ⊥

-- 3. Steps

-- What a commit comes to, where `own` is what the seat began and ended for it: one batch of exactly the held changes, with its receipt; or
-- none, unless the server was closed under it
abbrev pub IsCommitOutcome : Type 0 → HeldData → List Act → Known → Result (Vec Receipt Global) BatchFault → Type 0
IsCommitOutcome sound h own k (Ok rs) = (r : Receipt) × (rs.items ≡ r ∷ []) × batch.HasEndedBatch sound h.table h.changes own k r
IsCommitOutcome sound h own k (Err f) = CommitFaultIs sound h f k × batch.HasLeft h.table h.changes f own k

-- it goes on, or is over, where `own` is what the seat did for it so far
abbrev pub Told : Type 0 → HeldData → List Act → Known → CommitTurn → Type 0
Told sound h own k (turn.Stepped r) = FitsCommit sound h r k × (own ≡ begun_by_commit r)
Told sound h own k (turn.Waiting r) = FitsCommit sound h r k × (own ≡ begun_by_commit r)
Told sound h own k (turn.Over r) = IsCommitOutcome sound h own k r

abbrev pub IsCommitSinceThen : ℕ → Known → CommitTurn → Type 0
IsCommitSinceThen n k (turn.Stepped r) = IsCommitSince n r k
IsCommitSinceThen n k (turn.Waiting r) = IsCommitSince n r k
IsCommitSinceThen n k (turn.Over (Ok rs)) = Unit {0}
IsCommitSinceThen n k (turn.Over (Err f)) = batch.BatchFaultSince n f k

-- one step of a commit
pub record CommitTurns (sound : Type 0) (h : HeldData) (old : CommitRun) (k k' : Known) (t : CommitTurn) : Type 0 where
  pub acts : List Act
  pub ran : Ran k k' acts
  pub told : Told sound h (begun_by_commit old ++ outline acts) k' t
  pub since : (n : ℕ) → IsCommitSince n old k → IsCommitSinceThen n k' t
