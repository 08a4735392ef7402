-- What one step of a definition does.
use Rattle.std.specs.Prelude.{ℕ, ◌≡◌, ◌≤◌, Ok, Err, List, [], ◌∷◌, length, drop, Result}
use Rattle.px_trail.specs.declared.entry.Act.{Act}
use Rattle.px_trail.specs.declared.entry.Act.TheVariants as act
use Rattle.px_trail.specs.Answers.{IsAmong}
use Rattle.px_trail.specs.Trail.{acts_by}
use Rattle.px_calls.specs.declared.definition.Definition.{Definition}
use Rattle.px_calls.specs.declared.definition.Made.{Made}
use Rattle.px_calls.specs.declared.fault.StepFault.{StepFault}
use Rattle.px_calls.specs.declared.fault.StepFault.TheVariants as step
use Rattle.px_calls.specs.Known.{Adds, Known, Ran, HasMade, outline}
use Rattle.px_calls.specs.Causes.{ClosedBy, IsDamagedAt, definition_cause}
use Rattle.px_calls.specs.Calls.{IsDefinitionMade, act_of}
use Rattle.px_calls.specs.Requires.{CanDefine}
use Rattle.px_defining.specs.declared.define.DefineFault.{DefineFault}
use Rattle.px_defining.specs.declared.define.DefineFault.TheVariants as fault
use Rattle.px_defining.specs.declared.define.DefineState.{DefineState}
use Rattle.px_defining.specs.declared.define.DefineState.TheVariants as state
use Rattle.px_defining.specs.declared.define.DefineTurn.{DefineTurn}
use Rattle.px_defining.specs.declared.define.DefineTurn.TheVariants as turn

-- 1. Faults

abbrev pub fault_of : StepFault → DefineFault
fault_of step.NameExists = fault.NameExists
fault_of step.NoTable = fault.NoTable
fault_of step.NoIndex = fault.NoIndex
fault_of (step.Limit which count) = fault.Limit which count
fault_of step.ReadFault = fault.ReadFault
fault_of step.WriteFault = fault.WriteFault
fault_of (step.Damaged file place) = fault.Damaged file place
fault_of (step.Closed call) = fault.Closed call
fault_of f = fault.Memory

-- where a refusal leads: to upkeep, to the same step again, or to the end
abbrev pub state_after : StepFault → DefineState
state_after (step.NotReady region) = state.Settling
state_after (step.InUse count) = state.Defining
state_after f = state.Over

abbrev pub turn_after : StepFault → DefineTurn
turn_after (step.NotReady region) = turn.Stepped
turn_after (step.InUse count) = turn.Waiting count
turn_after f = turn.Over (Err (fault_of f))

-- what tells the fault, in what the seat has then seen
abbrev pub DefinitionFaultIs : Type 0 → Definition → DefineFault → Known → Type 0
DefinitionFaultIs sound x fault.NameExists k = definition_cause x step.NameExists k
DefinitionFaultIs sound x fault.NoTable k = definition_cause x step.NoTable k
DefinitionFaultIs sound x fault.NoIndex k = definition_cause x step.NoIndex k
DefinitionFaultIs sound x (fault.Limit which count) k = definition_cause x (step.Limit which count) k
DefinitionFaultIs sound x fault.ReadFault k = (call : ℕ) × HasMade k (act.Missed call)
DefinitionFaultIs sound x fault.WriteFault k = (call : ℕ) × HasMade k (act.Shut call)
DefinitionFaultIs sound x (fault.Damaged file place) k = IsDamagedAt sound k file place
DefinitionFaultIs sound x (fault.Closed call) k = ClosedBy call k
DefinitionFaultIs sound x fault.Memory k = Unit {0}

-- the entry that tells a failed device call is one of the seat's own after the first n
abbrev pub DefinitionFaultSince : ℕ → DefineFault → Known → Type 0
DefinitionFaultSince n fault.ReadFault k = (call : ℕ) × IsAmong (act.Missed call) (acts_by k.seat (drop n k.seen))
DefinitionFaultSince n fault.WriteFault k = (call : ℕ) × IsAmong (act.Shut call) (acts_by k.seat (drop n k.seen))
DefinitionFaultSince n f k = Unit {0}

-- 2. States

-- The state is as the trail tells. Others' entries keep this
abbrev pub FitsDefinition : Type 0 → Definition → DefineState → Known → Type 0
FitsDefinition sound x state.Defining k = CanDefine sound k x
FitsDefinition sound x state.Settling k = CanDefine sound k x
FitsDefinition sound x state.Over k = Unit {0}

abbrev pub IsDefinitionGoing : DefineState → Type 0
IsDefinitionGoing state.Over = ⊥
IsDefinitionGoing s = Unit {0}

-- 3. Steps

-- the one entry that the run added is that of the definition
pub record HasDefined (x : Definition) (own : List Act) (k : Known) (m : Made) : Type 0 where
  pub one : own ≡ act_of x m ∷ []
  pub made : IsDefinitionMade x m
  pub at : m.at ≡ length k.seen

-- what the run comes to, where `own` is what the seat began, ended, opened, closed and defined for it
abbrev pub IsDefinitionOutcome : Type 0 → Definition → List Act → Known → Result Made DefineFault → Type 0
IsDefinitionOutcome sound x own k (Ok m) = HasDefined x own k m
IsDefinitionOutcome sound x own k (Err f) = DefinitionFaultIs sound x f k × (own ≡ [])

-- what a step came to
abbrev pub Told : Type 0 → Definition → List Act → DefineState → Known → DefineTurn → Type 0
Told sound x own new k turn.Stepped = IsDefinitionGoing new × (own ≡ [])
Told sound x own new k (turn.Waiting count) = IsDefinitionGoing new × (own ≡ []) × definition_cause x (step.InUse count) k
Told sound x own new k (turn.Over r) = (new ≡ state.Over) × IsDefinitionOutcome sound x own k r

abbrev pub IsDefinitionSinceThen : ℕ → Known → DefineTurn → Type 0
IsDefinitionSinceThen n k turn.Stepped = n ≤ length k.seen
IsDefinitionSinceThen n k (turn.Waiting count) = n ≤ length k.seen
IsDefinitionSinceThen n k (turn.Over (Ok m)) = n ≤ m.at
IsDefinitionSinceThen n k (turn.Over (Err f)) = DefinitionFaultSince n f k

-- the definition's entry is the last that the seat has then seen
abbrev pub AddsThen : Definition → Known → Known → DefineTurn → Type 0
AddsThen x k k' (turn.Over (Ok m)) = Adds k k' (act_of x m)
AddsThen x k k' t = Unit {0}

-- one step of a definition
pub record DefinitionTurns (sound : Type 0) (x : Definition) (old : DefineState) (k : Known) (new : DefineState) (k' : Known) (t : DefineTurn) : Type 0 where
  pub acts : List Act
  pub ran : Ran k k' acts
  pub fits : FitsDefinition sound x new k'
  pub told : Told sound x (outline acts) new k' t
  pub since : (n : ℕ) → n ≤ length k.seen → IsDefinitionSinceThen n k' t
  pub adds : AddsThen x k k' t
