-- What one step of a DELETE does, and what it comes to.
use Rattle.std.specs.Prelude.{ℕ, ◌≡◌, ◌≢◌, ◌≤◌, ◌+◌, ◌*◌, Option, None, Result, Ok, Err, List, [], ◌∷◌, ◌++◌, map, length, take, drop, vec_capacity}
use Rattle.std.specs.List.Sorted.{IsStrictlySortedBy}
use Rattle.px_values.specs.declared.change.Change.{Change}
use Rattle.px_values.specs.declared.name.TableId.{TableId}
use Rattle.px_tables.specs.declared.table.Table.{Table}
use Rattle.px_expr.specs.declared.bound.Bound.{Bound}
use Rattle.px_trail.specs.declared.entry.Act.{Act}
use Rattle.px_trail.specs.declared.entry.Entry.{Entry}
use Rattle.px_trail.specs.Answers.{Given, IsCurrent}
use Rattle.px_trail.specs.Batches.{rows_of}
use Rattle.px_trail.specs.Legal.{IsLegal}
use Rattle.px_trail.specs.Trail.{acts_by}
use Rattle.px_calls.specs.declared.query.Path.{Path}
use Rattle.px_calls.specs.declared.query.Point.{Point}
use Rattle.px_calls.specs.declared.ticket.Receipt.{Receipt}
use Rattle.px_calls.specs.Known.{Known, Ran, outline}
use Rattle.px_calls.specs.Requires.{AreFitting}
use Rattle.px_batch.specs.Turns as batch
use Rattle.px_batch.specs.declared.batch.BatchFault.{BatchFault}
use Rattle.px_batch.specs.declared.run.BatchRun.{BatchRun}
use Rattle.px_gather.specs.Answers.{IsPointOfQuery}
use Rattle.px_gather.specs.Query.{IsPathFor}
use Rattle.px_planned.specs.Queries.{query_of}
use Rattle.px_planned.specs.declared.planned.Planned.{Planned}
use Rattle.px_scan.specs.Faults as scan_faults
use Rattle.px_scan.specs.Turns as scan
use Rattle.px_sorted.specs.Sorting.{row_shown}
use Rattle.px_answers.specs.Selects.{selects}
use Rattle.px_select.specs.Selecting as selecting
use Rattle.px_select.specs.declared.run.SelectRun.{SelectRun}
use Rattle.px_select.specs.declared.run.Selected.{Selected}
use Rattle.px_removals.specs.Removals.{AreRemovals, IsSplit, key_order}
use Rattle.px_deleting.specs.Asking.{planned_for}
use Rattle.px_deleting.specs.declared.deleted.DeleteFault.{DeleteFault}
use Rattle.px_deleting.specs.declared.deleted.DeleteFault.TheVariants as fault
use Rattle.px_deleting.specs.declared.deleted.DeleteTurn.{DeleteTurn}
use Rattle.px_deleting.specs.declared.deleted.DeleteTurn.TheVariants as turn
use Rattle.px_deleting.specs.declared.deleted.Deleted.{Deleted}
use Rattle.px_deleting.specs.declared.deleted.Removed.{Removed}
use Rattle.px_deleting.specs.declared.machine.DeleteState.{DeleteState}
use Rattle.px_deleting.specs.declared.machine.DeleteState.TheVariants as state
use Rattle.px_deleting.specs.declared.machine.Left.{Left}

-- 1. What was done so far

-- what was known at a moment that has passed: what was seen by then is the beginning of what is seen now
pub record WasKnown (past k : Known) : Type 0 where
  pub more : List Entry
  pub seen : k.seen ≡ past.seen ++ more
  pub base : k.base ≡ past.base
  pub seat : k.seat ≡ past.seat

-- the rows were found, by a query whose point was opened and closed, and these changes remove them
pub record HasFoundRows (sound : Type 0) (p : Planned) (k : Known) (first : ℕ) (acts : List Act) (cs : List Change) : Type 0 where
  pub past : Known
  pub was : WasKnown past k
  pub answer : Selected
  pub opened : answer.first ≡ first
  pub outcome : selecting.IsSelectOutcome sound p None acts past (Ok answer)
  pub removals : AreRemovals p.table.key answer.shown.rows cs

-- the batch was begun and ended, and has this receipt
pub record HasMadeBatch (sound : Type 0) (k : Known) (t : TableId) (cs : List Change) (acts : List Act) (r : Receipt) : Type 0 where
  pub past : Known
  pub was : WasKnown past k
  pub ended : batch.HasEndedBatch sound t cs acts past r

-- these batches were made, one after another
abbrev pub AreMade : Type 0 → Known → TableId → List (List Change) → List Receipt → List Act → Type 0
AreMade sound k t [] [] acts = acts ≡ []
AreMade sound k t (cs ∷ parts) (r ∷ rs) acts = (mine : List Act) × (others : List Act) × (acts ≡ mine ++ others) × HasMadeBatch sound k t cs mine r × AreMade sound k t parts rs others
AreMade sound k t parts rs acts = ⊥

-- The rows are found, some of their parts are removed, and the next one is under way. Since they were found the seat has done no more than that
pub record IsRemoving (sound : Type 0) (p : Planned) (own : List Act) (k : Known) (run : BatchRun) (left : Left) : Type 0 where
  pub changes : List Change
  pub parts : List (List Change)
  pub rest : List Change
  pub finding : List Act
  pub making : List Act
  pub found : HasFoundRows sound p k left.first finding changes
  pub made : AreMade sound k p.table.id parts left.receipts.items making
  pub split : IsSplit changes parts rest
  pub some : rest ≢ []
  pub part : run.changes ≡ take 1000 rest
  pub behind : left.changes.items ≡ drop 1000 rest
  pub rows : left.rows ≡ length changes
  pub own_is : own ≡ finding ++ (making ++ batch.begun_by_batch p.table.id run.changes run.state)
  pub found_first : outline (acts_by k.seat found.was.more) ≡ making ++ batch.begun_by_batch p.table.id run.changes run.state

-- what the seat began, ended, opened, closed and defined for the run so far
abbrev pub HasDone : Type 0 → Planned → List Act → DeleteState → Known → Type 0
HasDone sound p own (state.Finding run) k = own ≡ scan.opened_by_query run.scan.state
HasDone sound p own (state.Removing run left) k = IsRemoving sound p own k run left
HasDone sound p own state.Over k = Unit {0}

-- 2. States

-- what is asked of a run that makes its first step: its query was bound to the table as it stands
pub record CanBegin (k : Known) (p : Planned) : Type 0 where
  pub legal : IsLegal k.base k.seen
  pub bound : scan.IsBound k (query_of p)

abbrev pub IsDeleteNew : Planned → DeleteState → Type 0
IsDeleteNew p (state.Finding run) = (run.scan.query ≡ p) × (run.scan.scn ≡ None) × scan.IsQueryNew run.scan.state
IsDeleteNew p s = ⊥

-- the rows are being found
pub record FitsFinding (sound : Type 0) (p : Planned) (run : SelectRun) (k : Known) : Type 0 where
  pub can : CanBegin k p
  pub planned : run.scan.query ≡ p
  pub scn : run.scan.scn ≡ None
  pub fits : scan.FitsScan sound (query_of run.scan.query) run.scan.scn run.scan.state k
  pub going : scan.IsQueryGoing run.scan.state

-- a batch of them is being removed, and there is room for the receipts of all batches that are left
pub record FitsRemoving (sound : Type 0) (p : Planned) (run : BatchRun) (left : Left) (k : Known) : Type 0 where
  pub legal : IsLegal k.base k.seen
  pub table : run.table ≡ p.table.id
  pub left_table : left.table ≡ p.table.id
  pub fits : batch.FitsBatch sound run.table run.changes run.state k
  pub going : batch.IsBatchGoing run.state
  pub ordered : IsStrictlySortedBy (key_order p.table.key) (rows_of left.changes.items)
  pub fitting : AreFitting k p.table.id.0 left.changes.items
  pub room : length left.changes.items + 1000 * (length left.receipts.items + 1) ≤ 1000 * vec_capacity left.receipts

-- The state is as the trail tells. Others' entries keep this
abbrev pub FitsDelete : Type 0 → Planned → DeleteState → Known → Type 0
FitsDelete sound p (state.Finding run) k = FitsFinding sound p run k
FitsDelete sound p (state.Removing run left) k = FitsRemoving sound p run left k
FitsDelete sound p state.Over k = Unit {0}

abbrev pub IsDeleteGoing : DeleteState → Type 0
IsDeleteGoing state.Over = ⊥
IsDeleteGoing s = Unit {0}

-- nothing was opened or begun before the first n entries were there
abbrev pub IsDeleteSince : ℕ → DeleteState → Known → Type 0
IsDeleteSince n (state.Finding run) k = scan.IsQuerySince n run.scan.state k
IsDeleteSince n (state.Removing run left) k = (n ≤ left.first) × batch.IsBatchSince n run.state k
IsDeleteSince n state.Over k = Unit {0}

-- 3. Outcomes

-- All that were found are removed: each part has its receipt, and the rows are counted. They were found before the first part was begun
pub record HasRemoved (sound : Type 0) (p : Planned) (own : List Act) (k : Known) (rs : List Receipt) (m : Removed) : Type 0 where
  pub changes : List Change
  pub parts : List (List Change)
  pub finding : List Act
  pub making : List Act
  pub found : HasFoundRows sound p k m.first finding changes
  pub made : AreMade sound k p.table.id parts rs making
  pub split : IsSplit changes parts []
  pub rows : m.rows ≡ length changes
  pub own_is : own ≡ finding ++ making
  pub found_first : outline (acts_by k.seat found.was.more) ≡ making

-- The next part is not made, and none behind it; those before it are, and have their receipts. The rows were found before the first part was begun
pub record HasStopped (sound : Type 0) (p : Planned) (own : List Act) (k : Known) (rs : List Receipt) (f : BatchFault) : Type 0 where
  pub changes : List Change
  pub parts : List (List Change)
  pub rest : List Change
  pub first : ℕ
  pub finding : List Act
  pub making : List Act
  pub stopping : List Act
  pub found : HasFoundRows sound p k first finding changes
  pub made : AreMade sound k p.table.id parts rs making
  pub split : IsSplit changes parts rest
  pub some : rest ≢ []
  pub outcome : batch.IsBatchOutcome sound p.table.id (take 1000 rest) stopping k (Err f)
  pub own_is : own ≡ finding ++ (making ++ stopping)
  pub found_first : outline (acts_by k.seat found.was.more) ≡ making ++ stopping

-- What a DELETE came to that opened nothing before the first n entries were there, where `own` is what the seat began, ended, opened, closed and
-- defined for it
abbrev pub IsDeleteEnd : Type 0 → Planned → ℕ → List Act → Known → List Receipt → Result Removed DeleteFault → Type 0
IsDeleteEnd sound p n own k rs (Ok m) = HasRemoved sound p own k rs m
IsDeleteEnd sound p n own k rs (Err (fault.Unread f)) = (rs ≡ []) × selecting.IsSelectOutcome sound p None own k (Err f)
IsDeleteEnd sound p n own k rs (Err (fault.Unmade f)) = (h : HasStopped sound p own k rs f) × (n ≤ h.first)

abbrev pub IsDeleteOutcome : Type 0 → Planned → ℕ → List Act → Known → Deleted → Type 0
IsDeleteOutcome sound p n own k d = IsDeleteEnd sound p n own k d.receipts.items d.end

-- its point was opened after the first n entries, or the entry of a failed device call came after them
abbrev pub IsEndSince : ℕ → Result Removed DeleteFault → Known → Type 0
IsEndSince n (Ok m) k = n ≤ m.first
IsEndSince n (Err (fault.Unread f)) k = scan_faults.QueryFaultSince n f k
IsEndSince n (Err (fault.Unmade f)) k = batch.BatchFaultSince n f k

-- 4. Steps

-- the batch that waits, and for which
abbrev pub IsAwaited : Planned → DeleteState → Known → ℕ → Type 0
IsAwaited p (state.Finding run) k stamp = scan.IsAwaitedByQuery (query_of p) None run.scan.state k stamp
IsAwaited p (state.Removing run left) k stamp = batch.Waits k run.state stamp
IsAwaited p state.Over k stamp = ⊥

-- what a step of a run came to that began nothing before the first n entries were there, where `own` is what the seat did for it so far
abbrev pub Told : Type 0 → Planned → ℕ → DeleteState → List Act → DeleteState → Known → DeleteTurn → Type 0
Told sound p n old own new k turn.Stepped = IsDeleteGoing new × HasDone sound p own new k
Told sound p n old own new k (turn.Waiting stamp) = IsDeleteGoing new × HasDone sound p own new k × IsAwaited p old k stamp
Told sound p n old own new k (turn.Over d) = (new ≡ state.Over) × IsDeleteOutcome sound p n own k d

abbrev pub IsDeleteSinceThen : ℕ → DeleteState → Known → DeleteTurn → Type 0
IsDeleteSinceThen n new k turn.Stepped = IsDeleteSince n new k
IsDeleteSinceThen n new k (turn.Waiting stamp) = IsDeleteSince n new k
IsDeleteSinceThen n new k (turn.Over d) = IsEndSince n d.end k

-- while the rows are being found, each call is one that px_scan makes there
abbrev pub Edge : Type 0 → DeleteState → Known → DeleteState → Known → Type 0
Edge sound (state.Finding run) k (state.Finding new) k' = scan.QueryEdge sound run.scan.state k new.scan.state k'
Edge sound s k new k' = Unit {0}

-- one step of a DELETE
pub record DeleteTurns (sound : Type 0) (p : Planned) (old : DeleteState) (k : Known) (new : DeleteState) (k' : Known) (t : DeleteTurn) : Type 0 where
  pub acts : List Act
  pub ran : Ran k k' acts
  pub fits : FitsDelete sound p new k'
  pub told : (n : ℕ) (own : List Act) → IsDeleteSince n old k → HasDone sound p own old k → Told sound p n old (own ++ outline acts) new k' t
  pub since : (n : ℕ) → IsDeleteSince n old k → IsDeleteSinceThen n new k' t
  pub edge : Edge sound old k new k'

-- 5. A whole DELETE

pub record RanDelete (sound : Type 0) (p : Planned) (k k' : Known) (d : Deleted) : Type 0 where
  pub acts : List Act
  pub ran : Ran k k' acts
  pub outcome : IsDeleteOutcome sound p (length k.seen) (outline acts) k' d
  pub since : IsEndSince (length k.seen) d.end k'

-- a DELETE on its way
pub record SoFar (sound : Type 0) (p : Planned) (k k' : Known) (s : DeleteState) : Type 0 where
  pub acts : List Act
  pub ran : Ran k k' acts
  pub done : HasDone sound p (outline acts) s k'
  pub fits : FitsDelete sound p s k'
  pub going : IsDeleteGoing s
  pub since : IsDeleteSince (length k.seen) s k'

-- 6. Which rows

-- the changes remove the rows with the keys of a current answer to the condition, at a point and by a path that was chosen there
pub record AreCurrent (k : Known) (t : Table) (filter : Option Bound) (first : ℕ) (cs : List Change) : Type 0 where
  pub past : Known
  pub was : WasKnown past k
  pub point : Point
  pub is_point : IsPointOfQuery past.base past.seen (query_of (planned_for t filter)) None point
  pub path : Path
  pub chosen : IsPathFor (query_of (planned_for t filter)) point path
  pub given : List Given
  pub current : IsCurrent past.base past.seen (selects (planned_for t filter) point.found path.by) first (length past.seen) given
  pub removals : AreRemovals t.key (map (λ g. row_shown (map (λ p. p.column) t.key) g.row) given) cs
