-- A query's turns, one after another.
use Rattle.std.specs.Prelude.{ℕ, Bool, Option, Err, List, [], ◌∷◌}
use Rattle.px_trail.specs.Answers.{IsAmong}
use Rattle.px_calls.specs.declared.query.Doubt.{Doubt}
use Rattle.px_calls.specs.declared.query.Fixing.{Fixing}
use Rattle.px_calls.specs.declared.query.Held.{Held}
use Rattle.px_calls.specs.declared.query.Point.{Point}
use Rattle.px_calls.specs.Calls.{DidConsult, DidFix}
use Rattle.px_calls.specs.Doubtful.{IndexVersion}
use Rattle.px_calls.specs.Known.{Known, TimePasses}
use Rattle.px_gather.specs.Query.{Query}
use Rattle.px_scan.specs.declared.answer.QueryTurn.{QueryTurn}
use Rattle.px_scan.specs.declared.machine.QueryState.{QueryState}
use Rattle.px_scan.specs.declared.machine.QueryState.TheVariants as state
use Rattle.px_scan.specs.Turns.{QueryEdge, QueryTurns}

-- a step: what the seat knew before and after its call, the state then, what it came to, how many rows of tables were looked at by then, and which
-- versions of index rows were then in doubt
pub record QueryStep : Type 0 where
  pub before : Known
  pub after : Known
  pub state : QueryState
  pub turn : QueryTurn
  pub looked : ℕ
  pub doubtful : Point → IndexVersion → Bool

-- steps from a state on, with others' entries before each
abbrev pub AreSteps : Type 0 → Query → Option ℕ → QueryState → Known → List QueryStep → Type 0
AreSteps sound q scn s k [] = Unit {0}
AreSteps sound q scn s k (o ∷ os) = TimePasses k o.before × QueryTurns sound q scn s o.before o.state o.after o.turn × AreSteps sound q scn o.state o.after os

-- which call led from each state to the next
abbrev pub AreEdges : Type 0 → QueryState → List QueryStep → Type 0
AreEdges sound s [] = Unit {0}
AreEdges sound s (o ∷ os) = QueryEdge sound s o.before o.state o.after × AreEdges sound o.state os

abbrev pub query_after : QueryState → List QueryStep → QueryState
query_after s [] = s
query_after s (o ∷ os) = query_after o.state os

-- the state tells no fault
abbrev pub IsUnfaulted : QueryState → Type 0
IsUnfaulted (state.Closing p (Err f)) = ⊥
IsUnfaulted s = Unit {0}

abbrev pub AreUnfaulted : List QueryStep → Type 0
AreUnfaulted [] = Unit {0}
AreUnfaulted (o ∷ os) = IsUnfaulted o.state × AreUnfaulted os

-- one of the steps fixed the doubt
pub record HasFix (d : Doubt) (os : List QueryStep) : Type 0 where
  pub step : QueryStep
  pub among : IsAmong step os
  pub answer : Fixing
  pub fixed : DidFix step.before step.after d answer

-- one of the steps consulted the doubt, and one fixed it as that left it
pub record IsDoubtSettled (sound : Type 0) (p : Point) (d : Doubt) (os : List QueryStep) : Type 0 where
  pub step : QueryStep
  pub among : IsAmong step os
  pub left : Doubt
  pub held : Option Held
  pub consulted : DidConsult sound step.before step.after p d left held
  pub has_fix : HasFix left os
