-- What one step of a verification does.
use Rattle.std.specs.Prelude.{ℕ, ◌≡◌, ◌⊎◌, ◌≤◌, ◌++◌, true, Option, None, Some, Result, Ok, Err, List, [], length}
use Rattle.px_values.specs.declared.name.IndexId.{IndexId}
use Rattle.px_values.specs.declared.name.TableId.{TableId}
use Rattle.px_trail.specs.declared.entry.Act.{Act}
use Rattle.px_calls.specs.declared.definition.Definition.TheVariants as d
use Rattle.px_calls.specs.declared.definition.Made.{Made}
use Rattle.px_calls.specs.declared.fault.StepFault.TheVariants as step
use Rattle.px_calls.specs.Causes.{rebuilding_cause}
use Rattle.px_calls.specs.Known.{Known, Ran, outline}
use Rattle.px_calls.specs.Requires.{IsDrawn}
use Rattle.px_defining.specs.declared.define.DefineFault.{DefineFault}
use Rattle.px_defining.specs.declared.define.DefineRun.{DefineRun}
use Rattle.px_defining.specs.declared.define.DefineState.TheVariants as ds
use Rattle.px_defining.specs.Turns as define
use Rattle.px_upkeep.specs.declared.build.BuildFault.{BuildFault}
use Rattle.px_upkeep.specs.declared.build.BuildRun.{BuildRun}
use Rattle.px_upkeep.specs.Turns as build
use Rattle.px_upkeep.specs.Turns.{IsPast}
use Rattle.px_verify.specs.declared.answer.ReportFault.{ReportFault}
use Rattle.px_verify.specs.declared.answer.Reported.{Reported}
use Rattle.px_verify.specs.declared.run.ReportRun.{ReportRun}
use Rattle.px_verify.specs.Faults.{ReportFaultSince}
use Rattle.px_verify.specs.Turns as report
use Rattle.px_verifying.specs.declared.answer.Reports.{Reports}
use Rattle.px_verifying.specs.declared.answer.Unfinished.{Unfinished}
use Rattle.px_verifying.specs.declared.answer.VerifyFault.{VerifyFault}
use Rattle.px_verifying.specs.declared.answer.VerifyKind.{VerifyKind}
use Rattle.px_verifying.specs.declared.answer.VerifyTurn.{VerifyTurn}
use Rattle.px_verifying.specs.declared.answer.VerifyTurn.TheVariants as turn
use Rattle.px_verifying.specs.declared.machine.VerifyState.{VerifyState}
use Rattle.px_verifying.specs.declared.machine.VerifyState.TheVariants as state
use Rattle.px_verifying.specs.Faults.{build_fault, definition_fault, report_fault}
use Rattle.px_verifying.specs.Kinds.{IsAtFirst, IsAtLast, IsAtRebuilding, IsWhole, rebuilds}

-- 1. Finished parts: each begins after the first n entries, and `own` is what the seat began, ended, opened, closed and defined for it

-- a report, in what the seat knew when its point was closed
pub record HasReported (sound : Type 0) (n : ℕ) (t : TableId) (i : IndexId) (own : List Act) (k : Known) (a : Reported) : Type 0 where
  pub was : Known
  pub past : IsPast was k
  pub outcome : report.IsReportOutcome sound t i own was (Ok a)
  pub from : n ≤ a.first

-- the definition that put the index back to building, in what the seat knew behind it
pub record HasBegunRebuilding (n : ℕ) (t : TableId) (i : IndexId) (own : List Act) (k : Known) (again : Made) : Type 0 where
  pub was : Known
  pub past : IsPast was k
  pub outcome : define.HasDefined (d.Rebuilding t i) own was again
  pub from : n ≤ again.at

-- that definition, and then a build of the index, which stood active
pub record HasRebuilt (sound : Type 0) (n : ℕ) (t : TableId) (i : IndexId) (own : List Act) (k : Known) (m : Made) : Type 0 where
  pub again : Made
  pub first : List Act
  pub rest : List Act
  pub own_is : own ≡ first ++ rest
  pub begun : HasBegunRebuilding n t i first k again
  pub built : build.IsBuildOutcome sound again.at t i rest k (Ok m)

abbrev pub MayHaveReported : Type 0 → ℕ → TableId → IndexId → List Act → Known → Option Reported → Type 0
MayHaveReported sound n t i own k None = own ≡ []
MayHaveReported sound n t i own k (Some a) = HasReported sound n t i own k a

abbrev pub MayHaveRebuilt : Type 0 → ℕ → TableId → IndexId → List Act → Known → Option Made → Type 0
MayHaveRebuilt sound n t i own k None = own ≡ []
MayHaveRebuilt sound n t i own k (Some m) = HasRebuilt sound n t i own k m

-- how many entries the seat had seen once a part was finished, or before it where there is none
abbrev pub behind_report : ℕ → Option Reported → ℕ
behind_report n None = n
behind_report n (Some a) = a.last

abbrev pub behind_rebuilding : ℕ → Option Made → ℕ
behind_rebuilding n None = n
behind_rebuilding n (Some m) = m.at

abbrev pub to_rebuild : ℕ → Reports → ℕ
to_rebuild n x = behind_report n x.before

abbrev pub to_report_again : ℕ → Reports → ℕ
to_report_again n x = behind_rebuilding (to_rebuild n x) x.rebuilt

-- one part behind the other
pub record HaveDone (sound : Type 0) (n : ℕ) (t : TableId) (i : IndexId) (own : List Act) (k : Known) (x : Reports) : Type 0 where
  pub first : List Act
  pub second : List Act
  pub third : List Act
  pub own_is : own ≡ (first ++ second) ++ third
  pub before : MayHaveReported sound n t i first k x.before
  pub rebuilt : MayHaveRebuilt sound (to_rebuild n x) t i second k x.rebuilt
  pub after : MayHaveReported sound (to_report_again n x) t i third k x.after

abbrev pub none_done : Reports
none_done = record { before = None; rebuilt = None; after = None }

-- 2. A part that was refused

pub record ReportRefused (sound : Type 0) (n : ℕ) (t : TableId) (i : IndexId) (own : List Act) (k : Known) (f : VerifyFault) : Type 0 where
  pub why : ReportFault
  pub fault : f ≡ report_fault why
  pub outcome : report.IsReportOutcome sound t i own k (Err why)
  pub since : ReportFaultSince n why k

pub record DefinitionRefused (sound : Type 0) (n : ℕ) (t : TableId) (i : IndexId) (own : List Act) (k : Known) (f : VerifyFault) : Type 0 where
  pub why : DefineFault
  pub fault : f ≡ definition_fault why
  pub outcome : define.IsDefinitionOutcome sound (d.Rebuilding t i) own k (Err why)
  pub since : define.DefinitionFaultSince n why k

pub record BuildRefused (sound : Type 0) (n : ℕ) (t : TableId) (i : IndexId) (own : List Act) (k : Known) (f : VerifyFault) : Type 0 where
  pub why : BuildFault
  pub fault : f ≡ build_fault why
  pub again : Made
  pub first : List Act
  pub rest : List Act
  pub own_is : own ≡ first ++ rest
  pub begun : HasBegunRebuilding n t i first k again
  pub outcome : build.IsBuildOutcome sound again.at t i rest k (Err why)

-- the next part of the kind was refused, behind those that were finished
abbrev pub WasPartRefused : Type 0 → ℕ → TableId → IndexId → VerifyKind → List Act → Known → Reports → VerifyFault → Type 0
WasPartRefused sound n t i v own k x f =
    (IsAtFirst v x × ReportRefused sound n t i own k f)
    ⊎ ((IsAtRebuilding v x × (DefinitionRefused sound (to_rebuild n x) t i own k f ⊎ BuildRefused sound (to_rebuild n x) t i own k f))
    ⊎ (IsAtLast v x × ReportRefused sound (to_report_again n x) t i own k f))

pub record IsUnfinished (sound : Type 0) (n : ℕ) (t : TableId) (i : IndexId) (v : VerifyKind) (own : List Act) (k : Known) (u : Unfinished) : Type 0 where
  pub finished : List Act
  pub last : List Act
  pub own_is : own ≡ finished ++ last
  pub done : HaveDone sound n t i finished k u.done
  pub refused : WasPartRefused sound n t i v last k u.done u.fault

-- What a verification comes to: each part of its kind, one behind the other; or those before a part that was refused, and why
abbrev pub IsVerificationOutcome : Type 0 → ℕ → TableId → IndexId → VerifyKind → List Act → Known → Result Reports Unfinished → Type 0
IsVerificationOutcome sound n t i v own k (Ok x) = IsWhole v x × HaveDone sound n t i own k x
IsVerificationOutcome sound n t i v own k (Err u) = IsUnfinished sound n t i v own k u

-- 3. States

abbrev pub IsNewReport : TableId → IndexId → ReportRun → Type 0
IsNewReport t i r = (r.table ≡ t) × (r.index ≡ i) × report.IsReportNew r.state

abbrev pub IsNewRebuilding : TableId → IndexId → DefineRun → Type 0
IsNewRebuilding t i r = (r.definition ≡ d.Rebuilding t i) × (r.state ≡ ds.Defining)

-- the part that comes first, where no step was made
abbrev pub Begins : TableId → IndexId → VerifyKind → VerifyState → Type 0
Begins t i v (state.Before r) = IsAtFirst v none_done × IsNewReport t i r
Begins t i v (state.Defining r) = IsAtRebuilding v none_done × IsNewRebuilding t i r
Begins t i v x = ⊥

-- a report that was begun after the first n entries, where `own` is what the seat did for it
pub record IsReporting (sound : Type 0) (n : ℕ) (t : TableId) (i : IndexId) (own : List Act) (r : ReportRun) (k : Known) : Type 0 where
  pub table : r.table ≡ t
  pub index : r.index ≡ i
  pub fits : report.FitsReport sound t i r.state k
  pub going : report.IsReportGoing r.state
  pub own_is : own ≡ report.opened_by_report r.state
  pub since : report.IsReportSince n r.state k

-- the index is to be put back to building
pub record IsDefining (sound : Type 0) (n : ℕ) (t : TableId) (i : IndexId) (own : List Act) (r : DefineRun) (k : Known) : Type 0 where
  pub defining : build.IsDefinitionUnderWay sound (d.Rebuilding t i) r k
  pub own_is : own ≡ []
  pub from : n ≤ length k.seen

-- it was, and is being built
pub record IsBuilding (sound : Type 0) (n : ℕ) (t : TableId) (i : IndexId) (own : List Act) (r : BuildRun) (k : Known) : Type 0 where
  pub again : Made
  pub first : List Act
  pub rest : List Act
  pub own_is : own ≡ first ++ rest
  pub begun : HasBegunRebuilding n t i first k again
  pub fits : build.FitsBuild sound again.at t i rest r k

abbrev pub IsState : Type 0 → ℕ → TableId → IndexId → VerifyKind → List Act → Reports → VerifyState → Known → Type 0
IsState sound n t i v own x (state.Before r) k = IsAtFirst v x × IsReporting sound n t i own r k
IsState sound n t i v own x (state.Defining r) k = IsAtRebuilding v x × IsDefining sound (to_rebuild n x) t i own r k
IsState sound n t i v own x (state.Building r) k = IsAtRebuilding v x × IsBuilding sound (to_rebuild n x) t i own r k
IsState sound n t i v own x (state.After r) k = IsAtLast v x × IsReporting sound (to_report_again n x) t i own r k
IsState sound n t i v own x state.Over k = ⊥

-- what a rebuilding asks: that the numbers were drawn
abbrev pub MayBegin : TableId → IndexId → VerifyKind → Known → Type 0
MayBegin t i v k = rebuilds v ≡ true → IsDrawn k t.0 × IsDrawn k i.0

-- A verification is as the trail tells, where it was begun after the first n entries, `own` is what the seat began, ended, opened, closed and defined
-- for it so far, and x are the parts that are finished. Others' entries keep this
pub record FitsState (sound : Type 0) (n : ℕ) (t : TableId) (i : IndexId) (v : VerifyKind) (own : List Act) (x : Reports) (s : VerifyState) (k : Known) : Type 0 where
  pub drawn : MayBegin t i v k
  pub finished : List Act
  pub current : List Act
  pub own_is : own ≡ finished ++ current
  pub done : HaveDone sound n t i finished k x
  pub is : IsState sound n t i v current x s k

-- 4. Steps

-- what a waiting step waits for
abbrev pub IsAwaited : TableId → IndexId → VerifyState → Known → Type 0
IsAwaited t i (state.Before r) k = (stamp : ℕ) × report.IsAwaitedByReport t r.state k stamp
IsAwaited t i (state.Defining r) k = (count : ℕ) × rebuilding_cause t.0 i.0 (step.InUse count) k
IsAwaited t i (state.Building r) k = Unit {0}
IsAwaited t i (state.After r) k = (stamp : ℕ) × report.IsAwaitedByReport t r.state k stamp
IsAwaited t i state.Over k = ⊥

-- a step that went on came on within its part, or to the next one
abbrev pub MovesOn : VerifyState → VerifyState → Type 0
MovesOn (state.Before r) (state.Before r') = report.ReportMovesOn r.state r'.state
MovesOn (state.Before r) (state.Defining r') = Unit {0}
MovesOn (state.Defining r) (state.Defining r') = Unit {0}
MovesOn (state.Defining r) (state.Building r') = Unit {0}
MovesOn (state.Building r) (state.Building r') = Unit {0}
MovesOn (state.Building r) (state.After r') = Unit {0}
MovesOn (state.After r) (state.After r') = report.ReportMovesOn r.state r'.state
MovesOn old new = ⊥

abbrev pub Told : Type 0 → ℕ → TableId → IndexId → VerifyKind → List Act → VerifyState → Known → Reports → VerifyState → VerifyTurn → Type 0
Told sound n t i v own old k x new turn.Stepped = FitsState sound n t i v own x new k × MovesOn old new
Told sound n t i v own old k x new turn.Waiting = FitsState sound n t i v own x new k × IsAwaited t i old k
Told sound n t i v own old k x new (turn.Over r) = (new ≡ state.Over) × IsVerificationOutcome sound n t i v own k r

-- one step of a verification, where `own` is what the seat did for it before
pub record VerificationTurns (sound : Type 0) (n : ℕ) (t : TableId) (i : IndexId) (v : VerifyKind) (own : List Act) (old : VerifyState) (k k' : Known) (x : Reports) (new : VerifyState) (r : VerifyTurn) : Type 0 where
  pub acts : List Act
  pub ran : Ran k k' acts
  pub told : Told sound n t i v (own ++ outline acts) old k' x new r

-- 5. Whole verifications

-- what a whole one came to, and of the seat's own acts those that it is made of
pub record RanVerify (sound : Type 0) (t : TableId) (i : IndexId) (v : VerifyKind) (k k' : Known) (r : Result Reports Unfinished) : Type 0 where
  pub acts : List Act
  pub ran : Ran k k' acts
  pub outcome : IsVerificationOutcome sound (length k.seen) t i v (outline acts) k' r

-- one on its way
pub record SoFar (sound : Type 0) (t : TableId) (i : IndexId) (v : VerifyKind) (k k' : Known) (x : Reports) (s : VerifyState) : Type 0 where
  pub acts : List Act
  pub ran : Ran k k' acts
  pub fits : FitsState sound (length k.seen) t i v (outline acts) x s k'
