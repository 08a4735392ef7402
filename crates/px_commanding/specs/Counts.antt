-- What one step of a status does.
use Rattle.std.specs.Prelude.{ℕ, ◌≡◌, ◌≤◌, ◌⊎◌, Some, List, [], length, take, drop, Result, Ok, Err}
use Rattle.std.specs.List.{AllByRecursion}
use Rattle.px_values.specs.declared.name.TableId.{TableId}
use Rattle.px_tables.specs.declared.found.Found.{Found}
use Rattle.px_tables.specs.declared.index.Index.{Index}
use Rattle.px_trail.specs.declared.entry.Act.{Act}
use Rattle.px_trail.specs.declared.entry.Act.TheVariants as act
use Rattle.px_trail.specs.Answers.{IsAmong}
use Rattle.px_trail.specs.Trail.{acts_by, horizon_of, index_of, last_of}
use Rattle.px_calls.specs.declared.fault.StepFault.{StepFault}
use Rattle.px_calls.specs.declared.fault.StepFault.TheVariants as step
use Rattle.px_calls.specs.declared.status.IndexCount.{IndexCount}
use Rattle.px_calls.specs.declared.status.Status.{Status}
use Rattle.px_calls.specs.Calls.{AreCountsRising, IsCountOf, IsFound}
use Rattle.px_calls.specs.Causes.{ClosedBy, IsDamagedAt, LacksTable, NamesNoTable}
use Rattle.px_calls.specs.Known.{HasMade, Known, Ran, outline}
use Rattle.px_commanding.specs.declared.count.CountFault.{CountFault}
use Rattle.px_commanding.specs.declared.count.CountFault.TheVariants as fault
use Rattle.px_commanding.specs.declared.count.CountRun.{CountRun}
use Rattle.px_commanding.specs.declared.count.CountRun.TheVariants as run
use Rattle.px_commanding.specs.declared.count.CountTurn.{CountTurn}
use Rattle.px_commanding.specs.declared.count.CountTurn.TheVariants as turn

abbrev pub unfound : StepFault → CountFault
unfound step.NoTable = fault.NoTable
unfound (step.Closed call) = fault.Closed call
unfound f = fault.Memory

abbrev pub uncounted : StepFault → CountFault
uncounted step.NoTable = fault.NoTable
uncounted step.ReadFault = fault.ReadFault
uncounted (step.Damaged file place) = fault.Damaged file place
uncounted (step.Closed call) = fault.Closed call
uncounted f = fault.Memory

-- the table of this name and number stood after some entry from n on
pub record WasTableFound (n : ℕ) (name : List ℕ) (t : TableId) (k : Known) : Type 0 where
  pub place : ℕ
  pub from : n ≤ place
  pub within : place ≤ length k.seen
  pub found : Found
  pub is : IsFound k.base (take place k.seen) found
  pub named : found.table.name ≡ name
  pub number : found.table.id ≡ t

-- the table's last stamp, its horizon, and its indexes with their names and states, as they now are
pub record IsStatusOf (k : Known) (t : ℕ) (s : Status) : Type 0 where
  pub last : s.last ≡ last_of k.base t k.seen
  pub horizon : s.horizon ≡ horizon_of k.base t k.seen
  pub each : AllByRecursion (IsCountOf k.base k.seen t) s.indexes
  pub rising : AreCountsRising s.indexes
  pub all : (x : Index) → index_of k.base k.seen x.id.0 ≡ Some x → x.table.0 ≡ t → (c : IndexCount) × IsAmong c s.indexes × (c.index ≡ x.id)

-- what tells the fault, in what the seat has then seen, where the run was begun after the first n entries
abbrev pub CountFaultIs : Type 0 → ℕ → List ℕ → CountFault → Known → Type 0
CountFaultIs sound n name fault.NoTable k = NamesNoTable k name ⊎ ((t : TableId) × WasTableFound n name t k × LacksTable k t.0)
CountFaultIs sound n name fault.ReadFault k = (call : ℕ) × HasMade k (act.Missed call)
CountFaultIs sound n name (fault.Damaged file place) k = IsDamagedAt sound k file place
CountFaultIs sound n name (fault.Closed call) k = ClosedBy call k
CountFaultIs sound n name fault.Memory k = Unit {0}

-- the entry that tells a failed device call is one of the seat's own after the first m
abbrev pub CountFaultSince : ℕ → CountFault → Known → Type 0
CountFaultSince m fault.ReadFault k = (call : ℕ) × IsAmong (act.Missed call) (acts_by k.seat (drop m k.seen))
CountFaultSince m f k = Unit {0}

-- The state is as the trail tells, where the run was begun after the first n entries. Others' entries keep this
abbrev pub FitsCount : ℕ → List ℕ → CountRun → Known → Type 0
FitsCount n name run.Finding k = n ≤ length k.seen
FitsCount n name (run.Counting t) k = WasTableFound n name t k

-- what a status comes to: what is told of the table that was found, or why nothing is
abbrev pub IsCountOutcome : Type 0 → ℕ → List ℕ → Known → Result Status CountFault → Type 0
IsCountOutcome sound n name k (Ok s) = (t : TableId) × WasTableFound n name t k × IsStatusOf k t.0 s
IsCountOutcome sound n name k (Err f) = CountFaultIs sound n name f k

abbrev pub Told : Type 0 → ℕ → List ℕ → Known → CountTurn → Type 0
Told sound n name k (turn.Stepped r) = FitsCount n name r k
Told sound n name k (turn.Over r) = IsCountOutcome sound n name k r

abbrev pub IsCountSinceThen : ℕ → Known → CountTurn → Type 0
IsCountSinceThen m k (turn.Stepped r) = Unit {0}
IsCountSinceThen m k (turn.Over (Ok s)) = Unit {0}
IsCountSinceThen m k (turn.Over (Err f)) = CountFaultSince m f k

-- one step of a status, for which nothing is begun, opened or defined
pub record CountTurns (sound : Type 0) (n : ℕ) (name : List ℕ) (old : CountRun) (k k' : Known) (t : CountTurn) : Type 0 where
  pub acts : List Act
  pub ran : Ran k k' acts
  pub quiet : outline acts ≡ []
  pub told : Told sound n name k' t
  pub since : (m : ℕ) → m ≤ length k.seen → IsCountSinceThen m k' t
