-- Which refusals end a report, and what tells them.
use Rattle.std.specs.Prelude.{ℕ, ◌≡◌, ◌<◌, ◌≤◌, ◌-◌, None, length, drop, take}
use Rattle.px_values.specs.declared.name.IndexId.{IndexId}
use Rattle.px_values.specs.declared.name.TableId.{TableId}
use Rattle.px_tables.specs.declared.found.Found.{Found}
use Rattle.px_trail.specs.declared.entry.Act.TheVariants as act
use Rattle.px_trail.specs.Answers.{IsAmong}
use Rattle.px_trail.specs.Trail.{acts_by, horizon_of}
use Rattle.px_calls.specs.declared.fault.StepFault.{StepFault}
use Rattle.px_calls.specs.declared.fault.StepFault.TheVariants as step
use Rattle.px_calls.specs.Calls.{IsFound}
use Rattle.px_calls.specs.Causes.{ClosedBy, IsDamagedAt, LacksTable, TableStands}
use Rattle.px_calls.specs.Known.{HasMade, Known}
use Rattle.px_calls.specs.Requires.{index_of_found}
use Rattle.px_verify.specs.declared.answer.ReportFault.{ReportFault}
use Rattle.px_verify.specs.declared.answer.ReportFault.TheVariants as fault
use Rattle.px_verify.specs.Points.{greatest_scn}

abbrev pub IsLookFault : StepFault → Type 0
IsLookFault step.ReadFault = Unit {0}
IsLookFault (step.Damaged file place) = Unit {0}
IsLookFault (step.Closed call) = Unit {0}
IsLookFault step.Memory = Unit {0}
IsLookFault f = ⊥

abbrev pub fault_of : StepFault → ReportFault
fault_of step.ReadFault = fault.ReadFault
fault_of (step.Damaged file place) = fault.Damaged file place
fault_of (step.Closed call) = fault.Closed call
fault_of f = fault.Memory

-- the table's definitions in a point lack the index
pub record HasNoIndex (t : TableId) (i : IndexId) (k : Known) : Type 0 where
  pub found : Found
  pub within : found.at ≤ length k.seen
  pub is : IsFound k.base (take found.at k.seen) found
  pub table : found.table.id ≡ t
  pub none : index_of_found found i.0 ≡ None

-- what tells a fault of a report whose point was opened, in what the seat has then seen
abbrev pub FaultIs : Type 0 → TableId → IndexId → ReportFault → Known → Type 0
FaultIs sound t i fault.NoTable k = ⊥
FaultIs sound t i fault.NoIndex k = HasNoIndex t i k
FaultIs sound t i (fault.BelowHorizon h) k = ⊥
FaultIs sound t i fault.ReadFault k = (call : ℕ) × HasMade k (act.Missed call)
FaultIs sound t i (fault.Damaged file place) k = IsDamagedAt sound k file place
FaultIs sound t i (fault.Closed call) k = ClosedBy call k
FaultIs sound t i fault.Memory k = Unit {0}

-- and of a report, whose point may be refused
abbrev pub ReportFaultIs : Type 0 → TableId → IndexId → ReportFault → Known → Type 0
ReportFaultIs sound t i fault.NoTable k = LacksTable k t.0
ReportFaultIs sound t i (fault.BelowHorizon h) k = TableStands k t.0 × (horizon_of k.base t.0 k.seen ≡ h) × (greatest_scn - 1 < h)
ReportFaultIs sound t i f k = FaultIs sound t i f k

-- the entry that tells a failed device call is one of the seat's own after the first n
abbrev pub ReportFaultSince : ℕ → ReportFault → Known → Type 0
ReportFaultSince n fault.ReadFault k = (call : ℕ) × IsAmong (act.Missed call) (acts_by k.seat (drop n k.seen))
ReportFaultSince n f k = Unit {0}
