-- Which refusals end a query, and what tells them.
use Rattle.std.specs.Prelude.{ℕ, ◌≡◌, ◌<◌, ◌≤◌, ◌-◌, Bool, true, false, Option, Some, drop}
use Rattle.px_trail.specs.declared.entry.Act.TheVariants as act
use Rattle.px_trail.specs.Answers.{IsAmong}
use Rattle.px_trail.specs.Trail.{acts_by, horizon_of}
use Rattle.px_calls.specs.declared.fault.StepFault.{StepFault}
use Rattle.px_calls.specs.declared.fault.StepFault.TheVariants as step
use Rattle.px_calls.specs.declared.query.Point.{Point}
use Rattle.px_calls.specs.Causes.{ClosedBy, IsDamagedAt, LacksTable, TableStands}
use Rattle.px_calls.specs.Known.{HasMade, Known}
use Rattle.px_gather.specs.Answers.{IsPointOfQuery}
use Rattle.px_gather.specs.Query.{Query}
use Rattle.px_scan.specs.declared.answer.QueryFault.{QueryFault}
use Rattle.px_scan.specs.declared.answer.QueryFault.TheVariants as fault

abbrev pub IsScanFault : StepFault → Type 0
IsScanFault step.ReadFault = Unit {0}
IsScanFault step.WriteFault = Unit {0}
IsScanFault (step.Damaged file place) = Unit {0}
IsScanFault (step.Closed call) = Unit {0}
IsScanFault step.Memory = Unit {0}
IsScanFault f = ⊥

abbrev pub fault_of : StepFault → QueryFault
fault_of step.ReadFault = fault.ReadFault
fault_of step.WriteFault = fault.WriteFault
fault_of (step.Damaged file place) = fault.Damaged file place
fault_of (step.Closed call) = fault.Closed call
fault_of f = fault.Memory

abbrev pub is_busy : StepFault → Bool
is_busy (step.Busy region cells bytes) = true
is_busy (step.NotReady region) = true
is_busy f = false

-- a point of the query was opened after the first n entries, and the path chosen from the table's definitions there would have to be joined
pub record IsJoined (n : ℕ) (q : Query) (scn : Option ℕ) (k : Known) : Type 0 where
  pub point : Point
  pub from : n ≤ point.found.at
  pub is_point : IsPointOfQuery k.base k.seen q scn point
  pub joins : q.joins point.found point.stamp ≡ true

-- what tells a fault of a scan that is on its way, in what the seat has then seen
abbrev pub FaultIs : Type 0 → Query → QueryFault → Known → Type 0
FaultIs sound q fault.NoTable k = ⊥
FaultIs sound q (fault.BelowHorizon h) k = ⊥
FaultIs sound q fault.IndexJoin k = ⊥
FaultIs sound q fault.ReadFault k = (call : ℕ) × HasMade k (act.Missed call)
FaultIs sound q fault.WriteFault k = (call : ℕ) × HasMade k (act.Shut call)
FaultIs sound q (fault.Damaged file place) k = IsDamagedAt sound k file place
FaultIs sound q (fault.Closed call) k = ClosedBy call k
FaultIs sound q fault.Memory k = Unit {0}

-- and of one that ends at this point: its path may be one that would have to be joined
abbrev pub FaultAt : Type 0 → Query → Point → QueryFault → Known → Type 0
FaultAt sound q p fault.IndexJoin k = q.joins p.found p.stamp ≡ true
FaultAt sound q p f k = FaultIs sound q f k

-- and of a query, whose point may be refused
abbrev pub QueryFaultIs : Type 0 → Query → Option ℕ → QueryFault → Known → Type 0
QueryFaultIs sound q scn fault.NoTable k = LacksTable k q.table
QueryFaultIs sound q scn fault.IndexJoin k = IsJoined 0 q scn k
QueryFaultIs sound q (Some scn) (fault.BelowHorizon h) k = TableStands k q.table × (horizon_of k.base q.table k.seen ≡ h) × (scn - 1 < h)
QueryFaultIs sound q scn f k = FaultIs sound q f k

-- the entry that tells a failed device call is one of the seat's own after the first n
abbrev pub QueryFaultSince : ℕ → QueryFault → Known → Type 0
QueryFaultSince n fault.ReadFault k = (call : ℕ) × IsAmong (act.Missed call) (acts_by k.seat (drop n k.seen))
QueryFaultSince n fault.WriteFault k = (call : ℕ) × IsAmong (act.Shut call) (acts_by k.seat (drop n k.seen))
QueryFaultSince n f k = Unit {0}

-- so, and a point at which no path was found was opened after them
abbrev pub QueryEndSince : ℕ → Query → Option ℕ → QueryFault → Known → Type 0
QueryEndSince n q scn fault.IndexJoin k = IsJoined n q scn k
QueryEndSince n q scn f k = QueryFaultSince n f k
