-- What one step of a query does.
use Rattle.std.specs.Prelude.{ℕ, ◌≡◌, ◌≤◌, ◌⊎◌, Bool, false, Option, Some, IsSome, Result, Ok, Err, List, [], ◌∷◌, ◌++◌, map, length, take, Vec}
use Rattle.std.specs.declared.alloc.Global.{Global}
use Rattle.std.specs.Option.{is_some}
use Rattle.px_values.specs.declared.name.TableId.{TableId}
use Rattle.px_tables.specs.declared.found.Found.{Found}
use Rattle.px_tables.specs.declared.table.Table.{Table}
use Rattle.px_trail.specs.declared.entry.Act.{Act}
use Rattle.px_trail.specs.declared.entry.Act.TheVariants as act
use Rattle.px_trail.specs.declared.entry.Entry.{Entry}
use Rattle.px_trail.specs.Answers.{Given}
use Rattle.px_trail.specs.Trail.{Base, acts_by, table_of}
use Rattle.px_calls.specs.declared.query.By.{By}
use Rattle.px_calls.specs.declared.query.Chunk.{Chunk}
use Rattle.px_calls.specs.declared.query.Doubt.{Doubt}
use Rattle.px_calls.specs.declared.query.Fixing.{Fixing}
use Rattle.px_calls.specs.declared.query.FoundKey.{FoundKey}
use Rattle.px_calls.specs.declared.query.FoundKey.TheVariants.{InDoubt}
use Rattle.px_calls.specs.declared.query.Held.{Held}
use Rattle.px_calls.specs.declared.query.Path.{Path}
use Rattle.px_calls.specs.declared.query.Point.{Point}
use Rattle.px_calls.specs.Known.{Known, Ran, outline}
use Rattle.px_calls.specs.Causes.{IsUndecided, stamp_at}
use Rattle.px_calls.specs.Calls.{DidConsult, DidFix, DidLook, IsFound}
use Rattle.px_calls.specs.Looks.{AreDoubtsOf}
use Rattle.px_calls.specs.Requires.{HasOpen, IsDrawn, IsScn}
use Rattle.px_gather.specs.Answers.{IsAnswerBy, IsPointOfQuery}
use Rattle.px_gather.specs.Gathered.{Ended, Frame, Gathered, Pending, is_full, up_to}
use Rattle.px_gather.specs.Query.{IsPathFor, Query}
use Rattle.px_scan.specs.declared.answer.Answer.{Answer}
use Rattle.px_scan.specs.declared.answer.Placed.{Placed}
use Rattle.px_scan.specs.declared.answer.QueryFault.{QueryFault}
use Rattle.px_scan.specs.declared.answer.QueryTurn.{QueryTurn}
use Rattle.px_scan.specs.declared.answer.QueryTurn.TheVariants as turn
use Rattle.px_scan.specs.declared.keys.Stop.{Stop}
use Rattle.px_scan.specs.declared.keys.Stop.TheVariants as stop
use Rattle.px_scan.specs.declared.machine.QueryState.{QueryState}
use Rattle.px_scan.specs.declared.machine.QueryState.TheVariants as state
use Rattle.px_scan.specs.declared.machine.Scan.{Scan}
use Rattle.px_scan.specs.Faults.{FaultAt, QueryEndSince, QueryFaultIs, QueryFaultSince}

-- 1. Time

-- what is seen later: the seat itself began, ended, opened, closed and defined nothing in between
pub record Grown (k k' : Known) : Type 0 where
  pub more : List Entry
  pub seen : k'.seen ≡ k.seen ++ more
  pub quiet : outline (acts_by k.seat more) ≡ []
  pub seat : k'.seat ≡ k.seat
  pub base : k'.base ≡ k.base
  pub damaged : k'.damaged ≡ k.damaged

-- calls that begin, end, open, close and define nothing
pub record Quiet (k k' : Known) : Type 0 where
  pub acts : List Act
  pub ran : Ran k k' acts
  pub quiet : outline acts ≡ []

-- the query was bound to the table as it stands, if it stands
pub record IsBound (k : Known) (q : Query) : Type 0 where
  pub drawn : IsDrawn k q.table
  pub is : (x : Table) → table_of k.base k.seen q.table ≡ Some x → x ≡ q.bound

-- 2. States

-- the rows that were kept, each with its place
abbrev pub given_of : List Placed → List Given
given_of ps = map (λ p. record { row = p.row; at = p.at }) ps

abbrev pub frame_of : Query → Known → Point → Path → Frame
frame_of q k p path = record { base = k.base; point = p; query = q; path = path }

abbrev pub frame : Query → Known → Scan → Frame
frame q k x = frame_of q k x.point x.path

pub record IsReadingAt (k : Known) (q : Query) (scn : Option ℕ) (p : Point) : Type 0 where
  pub is_open : HasOpen k p
  pub point : IsPointOfQuery k.base k.seen q scn p

-- a scan on its way, of which these keys are left; and what it has gathered, if what was opened is sound
pub record IsScanning (sound : Type 0) (k : Known) (q : Query) (scn : Option ℕ) (x : Scan) (keys : List FoundKey) (next : Option (List ℕ)) (at : ℕ) : Type 0 where
  pub reading : IsReadingAt k q scn x.point
  pub path : IsPathFor q x.point x.path
  pub doubts : AreDoubtsOf x.point.found x.path.by keys
  pub pending : sound → Pending (frame q k x) k.seen at keys next (given_of x.rows.items)

-- how a scan ended, whose point is still to be closed
abbrev pub HasEnded : Type 0 → Known → Query → Point → Result (Vec Placed Global) QueryFault → Type 0
HasEnded sound k q p (Ok rows) = (path : Path) × IsPathFor q p path × (sound → Ended (frame_of q k p path) k.seen (given_of rows.items))
HasEnded sound k q p (Err f) = FaultAt sound q p f k × QueryFaultSince p.found.at f k

-- The state is as the trail tells, and what was gathered is right if what was opened is sound. Others' entries keep this
abbrev pub FitsScan : Type 0 → Query → Option ℕ → QueryState → Known → Type 0
FitsScan sound q scn (state.Opening rows) k = (rows.items ≡ []) × IsBound k q × IsScn scn
FitsScan sound q scn (state.Looking x after) k = IsReadingAt k q scn x.point × IsPathFor q x.point x.path × (sound → Gathered (frame q k x) k.seen (up_to after) (given_of x.rows.items))
FitsScan sound q scn (state.Consulting x rest d) k = IsScanning sound k q scn x (InDoubt d ∷ rest.keys.items) rest.next rest.at × (sound → is_full q.limit (length (given_of x.rows.items)) ≡ false)
FitsScan sound q scn (state.Fixing x rest d) k = IsScanning sound k q scn x rest.keys.items rest.next rest.at × IsSome d.verdict
FitsScan sound q scn (state.Settling x rest d) k = IsScanning sound k q scn x rest.keys.items rest.next rest.at × IsSome d.verdict
FitsScan sound q scn (state.Closing p end) k = IsReadingAt k q scn p × HasEnded sound k q p end
FitsScan sound q scn state.Over k = Unit {0}

abbrev pub IsQueryNew : QueryState → Type 0
IsQueryNew (state.Opening rows) = rows.items ≡ []
IsQueryNew s = ⊥

abbrev pub IsQueryGoing : QueryState → Type 0
IsQueryGoing state.Over = ⊥
IsQueryGoing s = Unit {0}

abbrev pub opening : Point → List Act
opening p = act.Opened p.table p.stamp p.scn ∷ []

-- what the run has opened and not closed
abbrev pub opened_by_query : QueryState → List Act
opened_by_query (state.Opening rows) = []
opened_by_query (state.Looking x after) = opening x.point
opened_by_query (state.Consulting x rest d) = opening x.point
opened_by_query (state.Fixing x rest d) = opening x.point
opened_by_query (state.Settling x rest d) = opening x.point
opened_by_query (state.Closing p end) = opening p
opened_by_query state.Over = []

-- the point was not opened before the first n entries were there
abbrev pub IsQuerySince : ℕ → QueryState → Known → Type 0
IsQuerySince n (state.Opening rows) k = n ≤ length k.seen
IsQuerySince n (state.Looking x after) k = n ≤ x.point.found.at
IsQuerySince n (state.Consulting x rest d) k = n ≤ x.point.found.at
IsQuerySince n (state.Fixing x rest d) k = n ≤ x.point.found.at
IsQuerySince n (state.Settling x rest d) k = n ≤ x.point.found.at
IsQuerySince n (state.Closing p end) k = n ≤ p.found.at
IsQuerySince n state.Over k = Unit {0}

-- 3. Answers

abbrev pub queried_table : Query → TableId
queried_table q = record { 0 = q.table }

-- the point of an answer, opened and closed
abbrev pub point_acts : Base → List Entry → Query → Option ℕ → ℕ → List Act
point_acts b es q scn first = let s = stamp_at scn q.table b (take first es) in act.Opened (queried_table q) s (is_some scn) ∷ act.Released (queried_table q) s ∷ []

abbrev pub OpensAndCloses : Query → List Act → Type 0
OpensAndCloses q acts = (stamp : ℕ) × (scn : Bool) × (acts ≡ act.Opened (queried_table q) stamp scn ∷ act.Released (queried_table q) stamp ∷ [])

-- The answer, in the order of the keys of a path that was chosen from the definitions in the point. It is right if what was opened is sound
pub record IsQueryAnswer (sound : Type 0) (k : Known) (q : Query) (scn : Option ℕ) (a : Answer) : Type 0 where
  pub point : Point
  pub found : IsFound k.base (take a.first k.seen) point.found
  pub at : point.found.at ≡ a.first
  pub is_point : IsPointOfQuery k.base k.seen q scn point
  pub path : Path
  pub chosen : IsPathFor q point path
  pub answer : sound → IsAnswerBy k.base k.seen q scn point.found path.by a.first a.last (given_of a.rows.items)

-- What a query came to, where `own` is what the seat began, ended, opened, closed and defined for it
abbrev pub IsQueryOutcome : Type 0 → Query → Option ℕ → List Act → Known → Result Answer QueryFault → Type 0
IsQueryOutcome sound q scn own k (Ok a) = IsQueryAnswer sound k q scn a × (own ≡ point_acts k.base k.seen q scn a.first) × (a.first ≤ a.last) × (a.last ≡ length k.seen)
IsQueryOutcome sound q scn own k (Err f) = QueryFaultIs sound q scn f k × ((own ≡ []) ⊎ OpensAndCloses q own)

-- 4. Steps

-- the stamp for which an opening waits
abbrev pub IsAwaitedByQuery : Query → Option ℕ → QueryState → Known → ℕ → Type 0
IsAwaitedByQuery q (Some scn) (state.Opening rows) k stamp = IsUndecided k q.table (stamp_at (Some scn) q.table k.base k.seen) stamp
IsAwaitedByQuery q scn s k stamp = ⊥

abbrev pub Told : Type 0 → Query → Option ℕ → List Act → QueryState → QueryState → Known → QueryTurn → Type 0
Told sound q scn own old new k turn.Stepped = IsQueryGoing new × (own ≡ opened_by_query new)
Told sound q scn own old new k (turn.Waiting stamp) = IsQueryGoing new × (own ≡ opened_by_query new) × IsAwaitedByQuery q scn old k stamp
Told sound q scn own old new k (turn.Over r) = (new ≡ state.Over) × IsQueryOutcome sound q scn own k r

abbrev pub IsQuerySinceThen : ℕ → Query → Option ℕ → QueryState → Known → QueryTurn → Type 0
IsQuerySinceThen n q scn new k turn.Stepped = IsQuerySince n new k
IsQuerySinceThen n q scn new k (turn.Waiting stamp) = IsQuerySince n new k
IsQuerySinceThen n q scn new k (turn.Over (Ok a)) = n ≤ a.first
IsQuerySinceThen n q scn new k (turn.Over (Err f)) = QueryEndSince n q scn f k

-- the states that follow where the keys of a doubt or a look are gone through
abbrev pub IsNext : QueryState → Type 0
IsNext (state.Looking x after) = Unit {0}
IsNext (state.Consulting x rest d) = Unit {0}
IsNext (state.Closing p end) = Unit {0}
IsNext s = ⊥

abbrev pub AfterLook : Type 0 → Scan → Option (List ℕ) → Known → QueryState → Known → Type 0
AfterLook sound x after k (state.Closing p (Err f)) k' = Unit {0}
AfterLook sound x after k new k' = IsNext new × ((c : Chunk) × DidLook sound k k' x.point x.path after c)

abbrev pub AfterConsult : Type 0 → Scan → Doubt → Known → QueryState → Known → Type 0
AfterConsult sound x d k (state.Fixing y rest d') k' = (h : Option Held) × DidConsult sound k k' x.point d d' h
AfterConsult sound x d k (state.Closing p (Err f)) k' = Unit {0}
AfterConsult sound x d k new k' = ⊥

abbrev pub AfterFix : Doubt → Known → QueryState → Known → Type 0
AfterFix d k (state.Settling y rest d') k' = d' ≡ d
AfterFix d k (state.Closing p (Err f)) k' = Unit {0}
AfterFix d k new k' = IsNext new × ((w : Fixing) × DidFix k k' d w)

abbrev pub AfterWork : Doubt → QueryState → Type 0
AfterWork d (state.Settling y rest d') = d' ≡ d
AfterWork d (state.Fixing y rest d') = d' ≡ d
AfterWork d (state.Closing p (Err f)) = Unit {0}
AfterWork d new = ⊥

-- A look is made, and gone through up to its next doubt. Each doubt is consulted once. With the verdict that this left it is then fixed, and `fix`
-- is called again after upkeep until it answers; or the scan ends with a fault
abbrev pub QueryEdge : Type 0 → QueryState → Known → QueryState → Known → Type 0
QueryEdge sound (state.Looking x after) k new k' = AfterLook sound x after k new k'
QueryEdge sound (state.Consulting x rest d) k new k' = AfterConsult sound x d k new k'
QueryEdge sound (state.Fixing x rest d) k new k' = AfterFix d k new k'
QueryEdge sound (state.Settling x rest d) k new k' = AfterWork d new
QueryEdge sound s k new k' = Unit {0}

-- a scan that ended with a fault comes to that fault and to nothing else
abbrev pub ClosesAs : QueryState → QueryTurn → Type 0
ClosesAs (state.Closing p (Err f)) t = t ≡ turn.Over (Err f)
ClosesAs s t = Unit {0}

-- one step of a query
pub record QueryTurns (sound : Type 0) (q : Query) (scn : Option ℕ) (old : QueryState) (k : Known) (new : QueryState) (k' : Known) (t : QueryTurn) : Type 0 where
  pub acts : List Act
  pub ran : Ran k k' acts
  pub fits : FitsScan sound q scn new k'
  pub told : Told sound q scn (opened_by_query old ++ outline acts) old new k' t
  pub since : (n : ℕ) → IsQuerySince n old k → IsQuerySinceThen n q scn new k' t
  pub edge : QueryEdge sound old k new k'
  pub closes : ClosesAs old t

-- a state that goes on from a point
pub record GoesOn (sound : Type 0) (k : Known) (q : Query) (scn : Option ℕ) (p : Point) (new : QueryState) : Type 0 where
  pub fits : FitsScan sound q scn new k
  pub going : IsQueryGoing new
  pub opened_is : opened_by_query new ≡ opening p
  pub since : (n : ℕ) → n ≤ p.found.at → IsQuerySince n new k

-- where the sure keys of a chunk end
abbrev pub StopsAt : Frame → List Entry → ℕ → List FoundKey → Option (List ℕ) → Stop → List Given → Type 0
StopsAt f es at keys next (stop.Doubt d) rows = (is_full f.query.limit (length rows) ≡ false) × Pending f es at (InDoubt d ∷ keys) next rows
StopsAt f es at keys next stop.End rows = Pending f es at [] next rows
StopsAt f es at keys next stop.Full rows = Ended f es rows
StopsAt f es at keys next stop.NoMemory rows = Unit {0}

-- the doubts that are left where the sure keys end are of the index that is read
abbrev pub AreStillDoubts : Found → By → List FoundKey → Stop → Type 0
AreStillDoubts f by keys (stop.Doubt d) = AreDoubtsOf f by (InDoubt d ∷ keys)
AreStillDoubts f by keys s = Unit {0}

-- 5. Whole queries

-- a whole query: its answer or its fault, and of the seat's own acts those that opened its point and closed it
pub record RanQuery (sound : Type 0) (q : Query) (scn : Option ℕ) (k k' : Known) (r : Result Answer QueryFault) : Type 0 where
  pub acts : List Act
  pub ran : Ran k k' acts
  pub outcome : IsQueryOutcome sound q scn (outline acts) k' r
  pub since : IsQuerySinceThen (length k.seen) q scn state.Over k' (turn.Over r)

-- a query on its way: what the seat did so far is to have opened what the run holds
pub record QuerySoFar (sound : Type 0) (q : Query) (scn : Option ℕ) (k k' : Known) (s : QueryState) : Type 0 where
  pub acts : List Act
  pub ran : Ran k k' acts
  pub so_far : outline acts ≡ opened_by_query s
  pub fits : FitsScan sound q scn s k'
  pub going : IsQueryGoing s
  pub since : IsQuerySince (length k.seen) s k'
