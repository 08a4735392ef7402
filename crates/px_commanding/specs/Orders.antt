-- What one step of an order to upkeep does.
use Rattle.std.specs.Prelude.{ℕ, ◌≡◌, ◌≤◌, ◌⊎◌, List, [], ◌∷◌, length, drop, Result, Ok, Err}
use Rattle.px_values.specs.declared.name.TableId.{TableId}
use Rattle.px_trail.specs.declared.entry.Act.{Act}
use Rattle.px_trail.specs.declared.entry.Act.TheVariants as act
use Rattle.px_trail.specs.Answers.{IsAmong}
use Rattle.px_trail.specs.Trail.{acts_by}
use Rattle.px_calls.specs.declared.fault.StepFault.{StepFault}
use Rattle.px_calls.specs.declared.fault.StepFault.TheVariants as step
use Rattle.px_calls.specs.declared.status.Ordered.{Ordered}
use Rattle.px_calls.specs.Causes.{ClosedBy, IsDamagedAt}
use Rattle.px_calls.specs.Known.{HasMade, IsRunning, Known, Ran}
use Rattle.px_commanding.specs.declared.order.OrderFault.{OrderFault}
use Rattle.px_commanding.specs.declared.order.OrderFault.TheVariants as fault
use Rattle.px_commanding.specs.declared.order.OrderRun.{OrderRun}
use Rattle.px_commanding.specs.declared.order.OrderRun.TheVariants as run
use Rattle.px_commanding.specs.declared.order.OrderTurn.{OrderTurn}
use Rattle.px_commanding.specs.declared.order.OrderTurn.TheVariants as turn

-- 1. Faults

abbrev pub undone : StepFault → OrderFault
undone step.ReadFault = fault.ReadFault
undone step.WriteFault = fault.WriteFault
undone (step.Damaged file place) = fault.Damaged file place
undone (step.Closed call) = fault.Closed call
undone f = fault.Memory

-- what tells the fault, in what the seat has then seen
abbrev pub OrderFaultIs : Type 0 → OrderFault → Known → Type 0
OrderFaultIs sound fault.ReadFault k = (call : ℕ) × HasMade k (act.Missed call)
OrderFaultIs sound fault.WriteFault k = (call : ℕ) × HasMade k (act.Shut call)
OrderFaultIs sound (fault.Damaged file place) k = IsDamagedAt sound k file place
OrderFaultIs sound (fault.Closed call) k = ClosedBy call k
OrderFaultIs sound fault.Memory k = Unit {0}

-- the entry that tells a failed device call is one of the seat's own after the first m
abbrev pub OrderFaultSince : ℕ → OrderFault → Known → Type 0
OrderFaultSince m fault.ReadFault k = (call : ℕ) × IsAmong (act.Missed call) (acts_by k.seat (drop m k.seen))
OrderFaultSince m fault.WriteFault k = (call : ℕ) × IsAmong (act.Shut call) (acts_by k.seat (drop m k.seen))
OrderFaultSince m f k = Unit {0}

-- 2. Steps

-- what is ordered
abbrev pub job_of : OrderRun → Ordered
job_of (run.Ordering job) = job
job_of (run.Working job) = job

-- the run gives the order first, then steps upkeep, and is over only where that has nothing left to do, or a call is refused
abbrev pub OrderLeads : (ordered done : Ordered → Type 0) → OrderRun → OrderTurn → Type 0
OrderLeads ordered done (run.Ordering job) (turn.Stepped r) = (r ≡ run.Working job) × ordered job
OrderLeads ordered done (run.Ordering job) (turn.Over (Ok u)) = ⊥
OrderLeads ordered done (run.Working job) (turn.Stepped r) = r ≡ run.Working job
OrderLeads ordered done (run.Working job) (turn.Over (Ok u)) = done job
OrderLeads ordered done r (turn.Over (Err f)) = Unit {0}

-- what the step adds to the trail: nothing but a horizon that rises, or what tells a failed device call
abbrev pub AreAdded : OrderTurn → List Act → Type 0
AreAdded (turn.Stepped r) acts = (acts ≡ []) ⊎ ((t : TableId) × (h : ℕ) × (acts ≡ act.Raised t h ∷ []))
AreAdded (turn.Over (Err fault.ReadFault)) acts = (call : ℕ) × (acts ≡ act.Missed call ∷ [])
AreAdded (turn.Over (Err fault.WriteFault)) acts = (call : ℕ) × (acts ≡ act.Shut call ∷ [])
AreAdded (turn.Over r) acts = acts ≡ []

-- what an order comes to: it is done while the server isn't closed, or why not
abbrev pub IsOrderOutcome : Type 0 → Known → Result (Unit {0}) OrderFault → Type 0
IsOrderOutcome sound k (Ok u) = IsRunning k
IsOrderOutcome sound k (Err f) = OrderFaultIs sound f k

abbrev pub Told : Type 0 → Known → OrderTurn → Type 0
Told sound k (turn.Stepped r) = Unit {0}
Told sound k (turn.Over r) = IsOrderOutcome sound k r

abbrev pub IsOrderSinceThen : ℕ → Known → OrderTurn → Type 0
IsOrderSinceThen m k (turn.Stepped r) = Unit {0}
IsOrderSinceThen m k (turn.Over (Ok u)) = Unit {0}
IsOrderSinceThen m k (turn.Over (Err f)) = OrderFaultSince m f k

-- one step of an order, for which nothing is begun, opened or defined
pub record OrderTurns (sound : Type 0) (k k' : Known) (t : OrderTurn) : Type 0 where
  pub acts : List Act
  pub ran : Ran k k' acts
  pub added : AreAdded t acts
  pub told : Told sound k' t
  pub since : (m : ℕ) → m ≤ length k.seen → IsOrderSinceThen m k' t
