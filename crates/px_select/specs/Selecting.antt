-- What one step of a SELECT does, and what it comes to.
use Rattle.std.specs.Prelude.{ℕ, ◌≡◌, ◌≤◌, ◌⊎◌, Option, Result, Ok, Err, List, [], ◌++◌, length}
use Rattle.px_trail.specs.declared.entry.Act.{Act}
use Rattle.px_calls.specs.declared.query.Path.{Path}
use Rattle.px_calls.specs.declared.query.Point.{Point}
use Rattle.px_calls.specs.Known.{Known, Ran, outline}
use Rattle.px_gather.specs.Answers.{IsPointOfQuery}
use Rattle.px_gather.specs.Query.{IsPathFor}
use Rattle.px_plan.specs.declared.plan.Asked.{Asked}
use Rattle.px_planned.specs.Queries.{IsPathTaken, query_of}
use Rattle.px_planned.specs.declared.planned.Planned.{Planned}
use Rattle.px_scan.specs.Faults.{QueryEndSince, QueryFaultIs}
use Rattle.px_scan.specs.Turns.{FitsScan, IsAwaitedByQuery, IsQueryGoing, IsQuerySince, OpensAndCloses, QueryEdge, opened_by_query, point_acts}
use Rattle.px_scan.specs.declared.answer.Answer.{Answer}
use Rattle.px_scan.specs.declared.answer.QueryFault.{QueryFault}
use Rattle.px_scan.specs.declared.answer.QueryFault.TheVariants as fault
use Rattle.px_scan.specs.declared.answer.QueryTurn.{QueryTurn}
use Rattle.px_scan.specs.declared.answer.QueryTurn.TheVariants as scan
use Rattle.px_scan.specs.declared.machine.QueryState.{QueryState}
use Rattle.px_scan.specs.declared.machine.QueryState.TheVariants as state
use Rattle.px_sorted.specs.Sorting.{answer_of}
use Rattle.px_answers.specs.Selects.{IsSelectBy}
use Rattle.px_select.specs.declared.run.SelectTurn.{SelectTurn}
use Rattle.px_select.specs.declared.run.SelectTurn.TheVariants as turn
use Rattle.px_select.specs.declared.run.Selected.{Selected}

-- 1. Answers

-- The answer of a SELECT, in the keys of the path that px_plan chooses by the definitions that stood when its point was opened, at the point's stamp. It is
-- right if what was opened is sound
pub record IsSelectAnswer (sound : Type 0) (k : Known) (p : Planned) (scn : Option ℕ) (a : Selected) : Type 0 where
  pub point : Point
  pub is_point : IsPointOfQuery k.base k.seen (query_of p) scn point
  pub at : point.found.at ≡ a.first
  pub path : Path
  pub chosen : IsPathFor (query_of p) point path
  pub taken : IsPathTaken p.asked point.found point.stamp path.by
  pub answer : sound → IsSelectBy k.base k.seen p scn point.found path.by a.first a.last a.shown

-- What a SELECT came to, where `own` is what the seat began, ended, opened, closed and defined for it
abbrev pub IsSelectOutcome : Type 0 → Planned → Option ℕ → List Act → Known → Result Selected QueryFault → Type 0
IsSelectOutcome sound p scn own k (Ok a) = IsSelectAnswer sound k p scn a × (own ≡ point_acts k.base k.seen (query_of p) scn a.first) × (a.first ≤ a.last) × (a.last ≡ length k.seen)
IsSelectOutcome sound p scn own k (Err f) = QueryFaultIs sound (query_of p) scn f k × ((own ≡ []) ⊎ OpensAndCloses (query_of p) own)

-- what is answered of a scan that is over: its rows sorted, cut and shown, its fault, or that no memory was found
abbrev pub IsEnd : Asked → Result Answer QueryFault → Result Selected QueryFault → Type 0
IsEnd a (Ok x) (Ok s) = s ≡ record { shown = answer_of a x.rows.items; first = x.first; last = x.last }
IsEnd a (Ok x) (Err f) = f ≡ fault.Memory
IsEnd a (Err f) (Ok s) = ⊥
IsEnd a (Err f) (Err g) = g ≡ f

-- 2. Steps

abbrev pub Told : Type 0 → Planned → Option ℕ → List Act → QueryState → QueryState → Known → SelectTurn → Type 0
Told sound p scn own old new k turn.Stepped = IsQueryGoing new × (own ≡ opened_by_query new)
Told sound p scn own old new k (turn.Waiting stamp) = IsQueryGoing new × (own ≡ opened_by_query new) × IsAwaitedByQuery (query_of p) scn old k stamp
Told sound p scn own old new k (turn.Over r) = (new ≡ state.Over) × IsSelectOutcome sound p scn own k r

abbrev pub IsSelectSinceThen : ℕ → Planned → Option ℕ → QueryState → Known → SelectTurn → Type 0
IsSelectSinceThen n p scn new k turn.Stepped = IsQuerySince n new k
IsSelectSinceThen n p scn new k (turn.Waiting stamp) = IsQuerySince n new k
IsSelectSinceThen n p scn new k (turn.Over (Ok a)) = n ≤ a.first
IsSelectSinceThen n p scn new k (turn.Over (Err f)) = QueryEndSince n (query_of p) scn f k

-- one step of a SELECT: what each call does is px_scan's
pub record SelectTurns (sound : Type 0) (p : Planned) (scn : Option ℕ) (old : QueryState) (k : Known) (new : QueryState) (k' : Known) (t : SelectTurn) : Type 0 where
  pub acts : List Act
  pub ran : Ran k k' acts
  pub fits : FitsScan sound (query_of p) scn new k'
  pub told : Told sound p scn (opened_by_query old ++ outline acts) old new k' t
  pub since : (n : ℕ) → IsQuerySince n old k → IsSelectSinceThen n p scn new k' t
  pub edge : QueryEdge sound old k new k'

-- what a step of a SELECT comes to, where that of its query comes to this
abbrev pub IsTurnOf : Asked → QueryTurn → SelectTurn → Type 0
IsTurnOf a scan.Stepped t = t ≡ turn.Stepped
IsTurnOf a (scan.Waiting stamp) t = t ≡ turn.Waiting stamp
IsTurnOf a (scan.Over end) t = (r : Result Selected QueryFault) × (t ≡ turn.Over r) × IsEnd a end r

-- 3. A whole SELECT

-- its answer or its fault, and of the seat's own acts those that opened its point and closed it
pub record RanSelect (sound : Type 0) (p : Planned) (scn : Option ℕ) (k k' : Known) (r : Result Selected QueryFault) : Type 0 where
  pub acts : List Act
  pub ran : Ran k k' acts
  pub outcome : IsSelectOutcome sound p scn (outline acts) k' r
  pub since : IsSelectSinceThen (length k.seen) p scn state.Over k' (turn.Over r)
