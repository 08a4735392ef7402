-- A whole query, from its first step to its last, with no step of others between them.
use Rattle.std.specs.Prelude.{ℕ, ◌≡◌, ◌≤◌, ◌+◌, ◌*◌, Bool, true, Option, Result, Ok, List, [], ◌∷◌, ◌++◌}
use Rattle.px_calls.specs.declared.query.Point.{Point}
use Rattle.px_calls.specs.declared.steps.Steps.{Ghosts as StepsGhosts}
use Rattle.px_calls.specs.Doubtful.{IndexVersion}
use Rattle.px_calls.specs.Known.{Known}
use Rattle.px_gather.specs.Query.{Query}
use Rattle.px_scan.specs.declared.answer.Answer.{Answer}
use Rattle.px_scan.specs.declared.answer.QueryFault.{QueryFault}
use Rattle.px_scan.specs.declared.answer.QueryTurn.TheVariants as turn
use Rattle.px_scan.specs.declared.machine.QueryState.{QueryState}
use Rattle.px_scan.specs.declared.machine.QueryState.TheVariants as state
use Rattle.px_scan.specs.Chains.{QueryStep, query_after}
use Rattle.px_scan.specs.Fixes.{AreFixed, AreKeepingDoubts}
use Rattle.px_scan.specs.Looking.{AreLooking, HaveFoundDoubts, IsByIndex, looked_after, refused_in}
use Rattle.px_scan.specs.Turns.{IsQueryGoing, IsQueryNew, QueryTurns}

-- steps from a state on that is not over, each from what the seat knew behind the one before
abbrev pub AreNextSteps : Type 0 → Query → Option ℕ → QueryState → Known → List QueryStep → Type 0
AreNextSteps sound q scn s k [] = Unit {0}
AreNextSteps sound q scn s k (o ∷ os) = IsQueryGoing s × (o.before ≡ k) × QueryTurns sound q scn s o.before o.state o.after o.turn × AreNextSteps sound q scn o.state o.after os

-- the step was one call of the server, which led from the first to the second: so what it tells of rows and doubts is what that call left
pub record IsStepCall {S : Type 0} (g : StepsGhosts S) (s : S) (o : QueryStep) (s' : S) : Type 0 where
  pub one : g.one_call s s'
  pub before : o.before ≡ g.known s
  pub after : o.after ≡ g.known s'
  pub looked : o.looked ≡ g.looked s'
  pub doubtful : o.doubtful ≡ g.doubtful s'

-- each step was one call, from where the one before led, and there was no other call
abbrev pub AreStepCalls : {S : Type 0} → StepsGhosts S → S → List QueryStep → S → Type 0
AreStepCalls g s [] s' = s' ≡ s
AreStepCalls {S} g s (o ∷ os) s' = (mid : S) × IsStepCall g s o mid × AreStepCalls g mid os s'

-- each look of the steps is by an index
abbrev pub AreByIndex : QueryState → List QueryStep → Type 0
AreByIndex s [] = Unit {0}
AreByIndex s (o ∷ os) = IsByIndex s × AreByIndex o.state os

-- what the seat knew behind the steps, and which versions were then in doubt
abbrev pub known_behind : Known → List QueryStep → Known
known_behind k [] = k
known_behind k (o ∷ os) = known_behind o.after os

abbrev pub doubtful_after : (Point → IndexVersion → Bool) → List QueryStep → Point → IndexVersion → Bool
doubtful_after f [] = f
doubtful_after f (o ∷ os) = doubtful_after o.doubtful os

-- a query on its way, by its steps so far, from one server to another
pub record IsOnCourse {S : Type 0} (g : StepsGhosts S) (q : Query) (scn : Option ℕ) (s : S) (first now : QueryState) (s' : S) (os : List QueryStep) : Type 0 where
  pub of : AreNextSteps g.sound q scn first (g.known s) os
  pub calls : AreStepCalls g s os s'
  pub at : query_after first os ≡ now
  pub knows : known_behind (g.known s) os ≡ g.known s'
  pub as_alone : (g.known s').alone ≡ (g.known s).alone
  pub looked : looked_after (g.looked s) os ≡ g.looked s'
  pub doubtful : doubtful_after (g.doubtful s) os ≡ g.doubtful s'
  pub looking : (g.known s).alone ≡ true → AreByIndex first os → AreLooking g.sound (g.looked s) first os
  pub keeping : (g.known s).alone ≡ true → g.sound → AreKeepingDoubts (g.known s) (g.doubtful s) first os

-- A query, by its steps, of which each was one call, and which made no other. Where nobody else acts: if it is by an index, it looked at no more than two
-- rows of tables for each version in doubt that its looks found, and one for each repair that was refused; and if it came to an answer, each doubt that it
-- consulted has an entry of its repair, unless it is to be left.
pub record IsCourse {S : Type 0} (g : StepsGhosts S) (q : Query) (scn : Option ℕ) (s s' : S) (r : Result Answer QueryFault) : Type 0 where
  pub first : QueryState
  pub is_new : IsQueryNew first
  pub earlier : List QueryStep
  pub last : QueryStep
  pub of : AreNextSteps g.sound q scn first (g.known s) (earlier ++ last ∷ [])
  pub calls : AreStepCalls g s (earlier ++ last ∷ []) s'
  pub over : last.state ≡ state.Over
  pub ends : last.turn ≡ turn.Over r
  pub looked : (g.known s).alone ≡ true → AreByIndex first (earlier ++ last ∷ [])
      → (d : ℕ) × HaveFoundDoubts g.sound first (earlier ++ last ∷ []) d × (g.looked s' ≤ g.looked s + 2 * d + refused_in first (earlier ++ last ∷ []))
  pub fixed : (g.known s).alone ≡ true → g.sound → (a : Answer) → r ≡ Ok a → AreFixed first (earlier ++ last ∷ [])
