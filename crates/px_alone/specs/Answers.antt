-- What a statement or a session command is answered on the tables as they stand, and what it does to them.
use Rattle.std.specs.Prelude.{ℕ, ◌≡◌, ◌≢◌, ◌<◌, ◌≤◌, ◌+◌, ◌-◌, ◌⊎◌, ◌++◌, Bool, true, false, List, [], ◌∷◌, length, map, take, Option, None, Some, IsSome, Ok, Err, sum_by}
use Rattle.std.specs.List.{AllByRecursion}
use Rattle.px_values.specs.States.{RowState, Shape, apply}
use Rattle.px_values.specs.declared.change.Change.{Change}
use Rattle.px_values.specs.declared.limit.Limit.{Limit}
use Rattle.px_values.specs.declared.limit.Limit.TheVariants as bound
use Rattle.px_values.specs.declared.name.IndexId.{IndexId}
use Rattle.px_values.specs.declared.name.TableId.{TableId}
use Rattle.px_values.specs.declared.print.CountWord.TheVariants.{Affected, Held}
use Rattle.px_values.specs.declared.row.Value.{Value}
use Rattle.px_keys.specs.Spelling.{spelled}
use Rattle.px_paths.specs.Paths.{columns_on, table_path}
use Rattle.px_lex.specs.Script.{SeenPiece}
use Rattle.px_ast.specs.declared.definition.DropIndex.{DropIndex}
use Rattle.px_ast.specs.declared.statement.Delete.{Delete}
use Rattle.px_ast.specs.declared.statement.Select.{Select}
use Rattle.px_ast.specs.declared.statement.Statement.{Statement}
use Rattle.px_ast.specs.declared.statement.Statement.TheVariants as s
use Rattle.px_ast.specs.declared.statement.Upsert.{Upsert}
use Rattle.px_bind.specs.Queries.{IsQuery, delete_faults, filter_of, select_faults}
use Rattle.px_bind.specs.Requests.{faults_in}
use Rattle.px_bind.specs.Upserts.{upsert_change, upsert_faults}
use Rattle.px_bind.specs.declared.request.Query.{Query}
use Rattle.px_commands.specs.declared.command.Command.TheVariants as commands
use Rattle.px_create.specs.Indexes.{index_faults, index_id_named, new_index}
use Rattle.px_create.specs.Tables.{new_table, table_faults}
use Rattle.px_deleting.specs.Asking.{query_for}
use Rattle.px_held.specs.HeldData.{HeldData}
use Rattle.px_plan.specs.Asked.{asked_of}
use Rattle.px_plan.specs.Explained.{explained}
use Rattle.px_plan.specs.declared.plan.Asked.{Asked as Asks}
use Rattle.px_plan.specs.declared.plan.Plan.{Plan}
use Rattle.px_plan.specs.declared.plan.PlanFault.TheVariants.{IndexJoin}
use Rattle.px_planned.specs.Queries.{IsPathTaken, joins_at}
use Rattle.px_sorted.specs.Sorting.{row_shown}
use Rattle.px_answers.specs.Selects.{selects}
use Rattle.px_removals.specs.Removals.{AreRemovals, IsSplit}
use Rattle.px_resolve.specs.Answers.{IsFirstBindFault}
use Rattle.px_resolve.specs.declared.fault.BindFault.{BindFault}
use Rattle.px_tables.specs.declared.found.Found.{Found}
use Rattle.px_tables.specs.declared.index.Index.{Index}
use Rattle.px_tables.specs.declared.index.IndexState.TheVariants as states
use Rattle.px_tables.specs.declared.table.Table.{Table}
use Rattle.px_trail.specs.Answers.{AreInOrder, Asked, Given, IsAmong, IsCutByLimit, IsRowGiven, IsWithinLimit}
use Rattle.px_trail.specs.States.{greatest_stamp}
use Rattle.px_trail.specs.Trail.{Catalogue, IsFreeName}
use Rattle.px_trail.specs.declared.entry.Act.{Act}
use Rattle.px_trail.specs.declared.entry.Act.TheVariants.{Begun, IndexState}
use Rattle.px_calls.specs.Calls.{AreCountsRising, IsDefinitionMade, act_of, index_id_made}
use Rattle.px_values.specs.Limits.{most_of}
use Rattle.px_calls.specs.Causes.{HasName, IsLong, IsLongIn, count_below, of_table}
use Rattle.px_calls.specs.Sizes.{WritesTooMuch}
use Rattle.px_calls.specs.declared.query.By.{By}
use Rattle.px_calls.specs.declared.definition.Definition.{Definition}
use Rattle.px_calls.specs.declared.definition.Definition.TheVariants as d
use Rattle.px_calls.specs.declared.definition.Made.{Made}
use Rattle.px_calls.specs.declared.status.IndexCount.{IndexCount}
use Rattle.px_calls.specs.declared.status.Ordered.{Ordered}
use Rattle.px_calls.specs.declared.status.Status.{Status}
use Rattle.px_reply.specs.declared.refusal.Refusal.{Refusal}
use Rattle.px_reply.specs.declared.refusal.Refusal.TheVariants as refusal
use Rattle.px_reply.specs.declared.reply.Defined.TheVariants as defined
use Rattle.px_reply.specs.declared.reply.Reply.{Reply}
use Rattle.px_reply.specs.declared.reply.Reply.TheVariants as reply
use Rattle.px_item.specs.Builds.{altered, to_build}
use Rattle.px_item.specs.Right.{AsksCommit, AreTooManyOf, IsAtOnce, IsCommandRead, IsFullOf, IsHolding, IsHoldingAll, IsPlanned, IsReadItem, MayHold, MayRun, after_commit, bind_refusal, command_ordering, definition_word, emptied, index_absent, is_none_of, name_taken, one_change, order_reply, table_absent, table_named}
use Rattle.px_item.specs.declared.answered.After.{After}
use Rattle.px_item.specs.declared.answered.After.TheVariants as next_is
use Rattle.px_item.specs.declared.answered.Answered.{Answered}
use Rattle.px_item.specs.declared.answered.Settings.{Settings}
use Rattle.px_alone.specs.Tables.{HasTable, IsStampDrawn, IsIn, IsKept, HasNoTable, Tables, after, after_all, point_stamp, stamp_of, state_in}

-- ---- 1. Outcomes

-- the stamps that a statement draws, what is told of it, the settings behind it, and what it does to the tables
pub record AloneOutcome : Type 0 where
  pub stamps : List ℕ
  pub reply : Reply
  pub next : After
  pub acts : List Act

-- nothing is done: this is told, and these are the settings then
abbrev pub Tells : AloneOutcome → Reply → Settings → Type 0
Tells o r st = o ≡ record { stamps = []; reply = r; next = next_is.Next st; acts = [] }

abbrev pub TellsRefusal : AloneOutcome → Refusal → Settings → Type 0
TellsRefusal o r st = Tells o (reply.Refused r) st

-- one batch of these changes is done
abbrev pub DoesBatch : AloneOutcome → TableId → ℕ → List Change → Reply → After → Type 0
DoesBatch o t stamp cs r next = o ≡ record { stamps = stamp ∷ []; reply = r; next = next; acts = Begun t stamp cs ∷ [] }

-- ---- 2. Rows

-- exactly the rows of the table as of a stamp that meet the condition, in order, up to LIMIT
pub record IsExactIn (x : Tables) (q : Asked) (p : ℕ) (given : List Given) : Type 0 where
  pub held : (g : Given) → IsAmong g given → IsIn x q.table p g.row × (q.meets g.row ≡ true)
  pub ordered : AreInOrder q given
  pub within : IsWithinLimit q.limit (length given)
  pub whole : (row : List Value) → IsIn x q.table p row → q.meets row ≡ true → IsRowGiven q given row ⊎ IsCutByLimit q given row

-- The answer of a query: of the rows of the table whose condition is true the first ones, up to LIMIT, in the order of the ORDER BY and then of the keys of
-- the path that px_plan chooses; and of each what is shown. Under an SCN as of that, which isn't below the horizon, and else as they are now
pub record IsQueryAnswered (x : Tables) (f : Found) (scn : Option ℕ) (a : Asks) (answer : List (List Value)) : Type 0 where
  pub kept : IsKept x f.table.id.0 scn
  pub by : By
  pub taken : IsPathTaken a f (point_stamp x f.table.id.0 scn) by
  pub given : List Given
  pub exact : IsExactIn x (selects (record { table = f.table; asked = a }) f by) (stamp_of x f.table.id.0 scn) given
  pub shown : answer ≡ map (λ g. row_shown a.shown g.row) given

-- the rows that a DELETE finds are removed by these changes
pub record AreRowsFound (x : Tables) (f : Found) (y : Delete) (cs : List Change) : Type 0 where
  pub keys : List (List Value)
  pub selected : IsQueryAnswered x f None (asked_of (query_for f.table (filter_of f.table.columns y.filter))) keys
  pub removals : AreRemovals f.table.key keys cs

-- one batch of each part, each with its stamp
abbrev pub batches : TableId → List (List Change) → List ℕ → List Act
batches t (cs ∷ parts) (stamp ∷ stamps) = Begun t stamp cs ∷ batches t parts stamps
batches t parts stamps = []

-- ---- 3. Held changes

-- an UPSERT or a DELETE in which nothing is wrong, of another table than the one of what is held
pub record MakesWay (x : Tables) (st : Settings) (p : SeenPiece) (h : HeldData) : Type 0 where
  pub statement : Statement
  pub found : Found
  pub read : IsReadItem p (Ok statement)
  pub free : st.scn ≡ None
  pub holds : MayHold st statement
  pub finds : HasTable x found (table_named statement)
  pub right : faults_in found statement ≡ []
  pub other : found.table.id ≢ h.table

-- what is held is to be committed: the piece is a commit, or it turns autocommit on or makes way for itself, and is asked once more
abbrev pub AsksForCommit : Tables → Settings → SeenPiece → HeldData → (again : Bool) → Type 0
AsksForCommit x st p h true = AsksCommit p true ⊎ MakesWay x st p h
AsksForCommit x st p h false = AsksCommit p false

-- the table of what is held doesn't stand any more
abbrev pub IsTableGone : Tables → HeldData → Type 0
IsTableGone x h = HasNoTable x h.name ⊎ ((x.catalogue.tables h.table.0 ≡ None) ⊎ ((f : Found) × HasTable x f h.name × (f.table.id ≢ h.table)))

-- ---- 4. Definitions

-- the table stands under this name, and an index of it under that one
abbrev pub Stands : Tables → Table → List ℕ → Type 0
Stands x z name = (x.catalogue.tables z.id.0 ≡ Some z) × (z.name ≡ name)

abbrev pub HasIndex : Tables → Table → Index → List ℕ → Type 0
HasIndex x z i name = (x.catalogue.indexes i.id.0 ≡ Some i) × (i.table.0 ≡ z.id.0) × (i.name ≡ name)

-- the definition that a statement asks for, in which nothing is wrong: of a table that stands, but for a CREATE TABLE
abbrev pub AsksFor : Tables → Statement → Definition → Type 0
AsksFor x (s.CreateTable t) e = (is_none_of t.splits ≡ true) × (table_faults t ≡ []) × (e ≡ d.Table (new_table t))
AsksFor x (s.DropTable t) e = (z : Table) × Stands x z t.name × (e ≡ d.DropTable z.id)
AsksFor x (s.CreateIndex i) e = (z : Table) × Stands x z i.table × (index_faults z i ≡ []) × (e ≡ d.Index (new_index z i))
AsksFor x (s.DropIndex i) e = (z : Table) × (w : Index) × Stands x z i.table × HasIndex x z w i.name × (e ≡ d.DropIndex z.id w.id)
AsksFor x (s.AlterIndex i) e = (z : Table) × (w : Index) × Stands x z i.table × HasIndex x z w i.name × (e ≡ altered z.id i.action w.id)
AsksFor x y e = ⊥

-- the index is built again from each of these stamps on
abbrev pub built_again : TableId → IndexId → List ℕ → List Act
built_again t i [] = []
built_again t i (stamp ∷ stamps) = IndexState t i states.Building stamp ∷ built_again t i stamps

-- the stamps that a definition draws
abbrev pub stamps_of : Definition → Made → List ℕ
stamps_of (d.Index what) m = m.stamp ∷ []
stamps_of (d.Rebuilding t i) m = m.stamp ∷ []
stamps_of e m = []

-- a new table and a new index have a name that is free, and take the next numbers, after those of their regions; and an index that is built draws a stamp
abbrev pub TakesNext : Tables → Definition → Made → Type 0
TakesNext x (d.Table what) m = IsFreeName x.catalogue what.name × (m.number ≡ x.catalogue.next + length what.least_keys)
TakesNext x (d.Index what) m = IsFreeName x.catalogue what.name × (m.number ≡ x.catalogue.next + 1) × IsStampDrawn x what.table.0 m.stamp
TakesNext x (d.Rebuilding t i) m = IsStampDrawn x t.0 m.stamp
TakesNext x e m = Unit {0}

-- a refused build leaves the index disabled, or as it was
abbrev pub LeavesIndex : TableId → IndexId → List Act → Type 0
LeavesIndex t i acts = (acts ≡ []) ⊎ ((stamp : ℕ) × (acts ≡ IndexState t i states.Disabled stamp ∷ []))

-- why an index isn't built: a row's key in it would be too long, or no stamp or no number is left; its birth is below the horizon; or it is gone, and is told by
-- the name that the statement has for it
abbrev pub StopsBuild : Statement → Refusal → Type 0
StopsBuild y (refusal.Limit bound.Key) = Unit {0}
StopsBuild y (refusal.Limit bound.Stamps) = Unit {0}
StopsBuild y (refusal.Limit bound.Ids) = Unit {0}
StopsBuild y (refusal.BelowHorizon h) = Unit {0}
StopsBuild y (refusal.NoIndex name) = index_absent y ≡ reply.Refused (refusal.NoIndex name)
StopsBuild y r = ⊥

-- a table or an index has the name of what would be made
abbrev pub IsNameTaken : Tables → Definition → Type 0
IsNameTaken x (d.Table what) = HasName x.catalogue what.name
IsNameTaken x (d.Index what) = HasName x.catalogue what.name
IsNameTaken x e = ⊥

-- ---- 5. Limits

-- a key that a change needs in a maintained index is too long: that of the row before it, or after it
pub record IsLongAloneIn (d : Catalogue) (shapes : ℕ → Shape) (state : ℕ → List Value → RowState) (t : Table) (c : Change) : Type 0 where
  pub index : Index
  pub is : d.indexes index.id.0 ≡ Some index
  pub owner : index.table.0 ≡ t.id.0
  pub maintained : index.state ≢ states.Disabled
  pub long : IsLongIn t index (state t.id.0 c.row) ⊎ IsLongIn t index (apply (shapes t.id.0) c.row (state t.id.0 c.row) c.what)

-- a key that the changes need is too long: a row key, or a key in an index
pub record IsLongAlone (d : Catalogue) (shapes : ℕ → Shape) (state : ℕ → List Value → RowState) (t : ℕ) (cs : List Change) : Type 0 where
  pub table : Table
  pub is : d.tables t ≡ Some table
  pub change : Change
  pub among : IsAmong change cs
  pub long : IsLong (spelled (columns_on (table_path table)) change.row) ⊎ IsLongAloneIn d shapes state table change

-- Why a batch of these changes isn't done: a key that it needs is too long, it writes too many cells or bytes in the table or in a maintained index, or no
-- stamp is left. That the trail, the log and a region have no room is none of the tables'
abbrev pub IsOfBatch : Tables → ℕ → List Change → Limit → Type 0
IsOfBatch x t cs bound.Key = IsLongAlone x.catalogue x.shapes (λ u r. state_in x u r greatest_stamp) t cs
IsOfBatch x t cs bound.Cells = WritesTooMuch (λ sizes. length sizes) bound.Cells x.catalogue (x.shapes t) (λ r. state_in x t r greatest_stamp) t cs
IsOfBatch x t cs bound.Bytes = WritesTooMuch (λ sizes. sum_by (λ n. n) sizes) bound.Bytes x.catalogue (x.shapes t) (λ r. state_in x t r greatest_stamp) t cs
IsOfBatch x t cs bound.Stamps = most_of bound.Stamps ≤ x.last t
IsOfBatch x t cs bound.Trail = Unit {0}
IsOfBatch x t cs bound.Log = Unit {0}
IsOfBatch x t cs bound.Region = Unit {0}
IsOfBatch x t cs which = ⊥

-- the limits of which the tables tell
abbrev pub IsToldByTables : Limit → Type 0
IsToldByTables bound.Key = Unit {0}
IsToldByTables bound.Cells = Unit {0}
IsToldByTables bound.Bytes = Unit {0}
IsToldByTables bound.Stamps = Unit {0}
IsToldByTables which = ⊥

-- a batch of these changes passes none of them
abbrev pub PassesNoLimit : Tables → ℕ → List Change → Type 0
PassesNoLimit x t cs = (which : Limit) → IsToldByTables which → IsOfBatch x t cs which → ⊥

-- each part is a batch whose stamp is drawn behind the one before, and that passes no limit where the parts before it are done
abbrev pub AreBatchesDone : Tables → TableId → List (List Change) → List ℕ → Type 0
AreBatchesDone x t [] [] = Unit {0}
AreBatchesDone x t (cs ∷ parts) (stamp ∷ stamps) = IsStampDrawn x t.0 stamp × PassesNoLimit x t.0 cs × AreBatchesDone (after x (Begun t stamp cs)) t parts stamps
AreBatchesDone x t parts stamps = ⊥

-- the next so many numbers would pass the greatest
abbrev pub RunsOutIn : Tables → ℕ → Type 0
RunsOutIn x n = most_of bound.Ids + 1 < x.catalogue.next + n

-- so many tables stand already, or indexes of the table, or no number or no stamp is left
abbrev pub IsOfDefinition : Tables → Definition → Limit → Type 0
IsOfDefinition x (d.Table what) bound.Tables = most_of bound.Tables ≤ count_below x.catalogue.tables x.catalogue.next
IsOfDefinition x (d.Table what) bound.Ids = RunsOutIn x (length what.least_keys + 1)
IsOfDefinition x (d.Index what) bound.Indexes = most_of bound.Indexes ≤ count_below (λ n. of_table what.table.0 (x.catalogue.indexes n)) x.catalogue.next
IsOfDefinition x (d.Index what) bound.Stamps = most_of bound.Stamps ≤ x.last what.table.0
IsOfDefinition x (d.Index what) bound.Ids = RunsOutIn x 2
IsOfDefinition x (d.Rebuilding t i) bound.Stamps = most_of bound.Stamps ≤ x.last t.0
IsOfDefinition x (d.Rebuilding t i) bound.Ids = RunsOutIn x 1
IsOfDefinition x e which = ⊥

-- ---- 6. Status

abbrev pub IsIndexCount : Tables → ℕ → IndexCount → Type 0
IsIndexCount x t c = (i : Index) × (x.catalogue.indexes c.index.0 ≡ Some i) × (i.table.0 ≡ t) × (c.name ≡ i.name) × (c.state ≡ i.state)

-- The table's last stamp, its horizon, and its indexes with their states. Its counts of cells, files and unverified keys are none of the tables'
pub record IsStatus (x : Tables) (t : ℕ) (r : Status) : Type 0 where
  pub last : r.last ≡ x.last t
  pub horizon : r.horizon ≡ x.horizon t
  pub each : AllByRecursion (IsIndexCount x t) r.indexes
  pub rising : AreCountsRising r.indexes
  pub all : (i : Index) → x.catalogue.indexes i.id.0 ≡ Some i → i.table.0 ≡ t → (c : IndexCount) × IsAmong c r.indexes × (c.index ≡ i.id)

-- ---- 7. Statements and commands

-- what comes of a piece on these tables, under these settings
pub data ComesAlone (x : Tables) (st : Settings) (p : SeenPiece) (o : AloneOutcome) : Type 0 where
  -- what needs no table: what can't be read, what may not be under an SCN, settings, and a CREATE TABLE in which something is wrong
  is_at_once : (a : Answered) → IsAtOnce st p a → o ≡ record { stamps = []; reply = a.reply; next = a.after; acts = [] } → ComesAlone x st p o
  -- the table doesn't stand
  is_unfound : (y : Statement) → IsReadItem p (Ok y) → MayRun st y → HasNoTable x (table_named y) → Tells o (table_absent y) st → ComesAlone x st p o
  -- the first of all that is wrong with the statement
  is_wrong : (y : Statement) (f : Found) (fault : BindFault) → IsReadItem p (Ok y) → MayRun st y → HasTable x f (table_named y) → IsFirstBindFault (faults_in f y) fault → TellsRefusal o (bind_refusal fault) st → ComesAlone x st p o
  -- a SELECT, and an EXPLAIN
  is_selected : (q : Select) (f : Found) (query : Query) (answer : List (List Value)) → IsReadItem p (Ok (s.Select q)) → HasTable x f q.table → select_faults f.table.columns q ≡ [] → IsQuery f.table q query → IsQueryAnswered x f st.scn (asked_of query) answer
      → Tells o (reply.Rows answer) st → ComesAlone x st p o
  is_below_horizon : (q : Select) (f : Found) (scn : ℕ) → IsReadItem p (Ok (s.Select q)) → HasTable x f q.table → select_faults f.table.columns q ≡ [] → st.scn ≡ Some scn → scn - 1 < x.horizon f.table.id.0
      → TellsRefusal o (refusal.BelowHorizon (x.horizon f.table.id.0)) st → ComesAlone x st p o
  is_joined : (q : Select) (f : Found) (query : Query) → IsReadItem p (Ok (s.Select q)) → HasTable x f q.table → select_faults f.table.columns q ≡ [] → IsQuery f.table q query → IsKept x f.table.id.0 st.scn → joins_at (asked_of query) f (point_stamp x f.table.id.0 st.scn) ≡ true
      → TellsRefusal o refusal.IndexJoin st → ComesAlone x st p o
  is_explained : (q : Select) (f : Found) (plan : Plan) → IsReadItem p (Ok (s.Explain q)) → HasTable x f q.table → IsPlanned f st.scn q (Ok plan) → Tells o (reply.Explained (explained plan)) st → ComesAlone x st p o
  is_not_explained : (q : Select) (f : Found) → IsReadItem p (Ok (s.Explain q)) → HasTable x f q.table → IsPlanned f st.scn q (Err IndexJoin) → TellsRefusal o refusal.IndexJoin st → ComesAlone x st p o
  -- an UPSERT: a batch of one row, or a row that is held
  is_changed : (u : Upsert) (f : Found) (stamp : ℕ) → IsReadItem p (Ok (s.Upsert u)) → st.scn ≡ None → st.autocommit ≡ true → HasTable x f u.table → upsert_faults f.table u ≡ [] → IsStampDrawn x f.table.id.0 stamp → PassesNoLimit x f.table.id.0 (one_change f u)
      → DoesBatch o f.table.id stamp (one_change f u) (reply.Count 1 Affected) (next_is.Next st) → ComesAlone x st p o
  is_held : (u : Upsert) (f : Found) (st' : Settings) → IsReadItem p (Ok (s.Upsert u)) → st.scn ≡ None → st.autocommit ≡ false → HasTable x f u.table → upsert_faults f.table u ≡ [] → IsHolding f.table (upsert_change f.table u) st st'
      → Tells o (reply.Count 1 Held) st' → ComesAlone x st p o
  is_full : (u : Upsert) (f : Found) → IsReadItem p (Ok (s.Upsert u)) → st.scn ≡ None → st.autocommit ≡ false → HasTable x f u.table → upsert_faults f.table u ≡ [] → IsFullOf f.table (upsert_change f.table u) st.held
      → TellsRefusal o (refusal.Limit bound.Rows) st → ComesAlone x st p o
  -- a DELETE: the rows that a query finds, in batches of 1,000; or their removals are held
  is_deleted : (y : Delete) (f : Found) (cs : List Change) (parts : List (List Change)) (stamps : List ℕ) → IsReadItem p (Ok (s.Delete y)) → st.scn ≡ None → st.autocommit ≡ true → HasTable x f y.table → delete_faults f.table.columns y ≡ [] → AreRowsFound x f y cs
      → IsSplit cs parts [] → AreBatchesDone x f.table.id parts stamps → o ≡ record { stamps = stamps; reply = reply.Count (length cs) Affected; next = next_is.Next st; acts = batches f.table.id parts stamps } → ComesAlone x st p o
  is_not_deleted : (y : Delete) (f : Found) (cs rest : List Change) (parts : List (List Change)) (stamps : List ℕ) (which : Limit) → IsReadItem p (Ok (s.Delete y)) → st.scn ≡ None → st.autocommit ≡ true → HasTable x f y.table → delete_faults f.table.columns y ≡ [] → AreRowsFound x f y cs
      → IsSplit cs parts rest → rest ≢ [] → AreBatchesDone x f.table.id parts stamps → IsOfBatch (after_all x (batches f.table.id parts stamps)) f.table.id.0 (take 1000 rest) which → o ≡ record { stamps = stamps; reply = reply.Refused (refusal.Limit which); next = next_is.Next st; acts = batches f.table.id parts stamps } → ComesAlone x st p o
  are_held : (y : Delete) (f : Found) (cs : List Change) (st' : Settings) → IsReadItem p (Ok (s.Delete y)) → st.scn ≡ None → st.autocommit ≡ false → HasTable x f y.table → delete_faults f.table.columns y ≡ [] → AreRowsFound x f y cs → IsHoldingAll f.table cs st st'
      → Tells o (reply.Count (length cs) Held) st' → ComesAlone x st p o
  are_too_many : (y : Delete) (f : Found) (cs : List Change) → IsReadItem p (Ok (s.Delete y)) → st.scn ≡ None → st.autocommit ≡ false → HasTable x f y.table → delete_faults f.table.columns y ≡ [] → AreRowsFound x f y cs → AreTooManyOf f.table cs st
      → TellsRefusal o (refusal.Limit bound.Rows) st → ComesAlone x st p o
  -- a commit: one batch of what is held, of which nothing is held then, where its table stands; or its table is gone
  is_committed : (again : Bool) (h : HeldData) (stamp : ℕ) → st.held ≡ Some h → AsksForCommit x st p h again → IsSome (x.catalogue.tables h.table.0) → IsStampDrawn x h.table.0 stamp → PassesNoLimit x h.table.0 h.changes → DoesBatch o h.table stamp h.changes (reply.Count (length h.changes) Affected) (after_commit again (emptied st)) → ComesAlone x st p o
  is_gone : (again : Bool) (h : HeldData) → st.held ≡ Some h → AsksForCommit x st p h again → IsTableGone x h → TellsRefusal o (refusal.NoTable h.name) (emptied st) → ComesAlone x st p o
  -- a batch that is refused by a limit does nothing
  is_limited : (u : Upsert) (f : Found) (which : Limit) → IsReadItem p (Ok (s.Upsert u)) → st.scn ≡ None → st.autocommit ≡ true → HasTable x f u.table → upsert_faults f.table u ≡ [] → IsOfBatch x f.table.id.0 (one_change f u) which → TellsRefusal o (refusal.Limit which) st → ComesAlone x st p o
  is_not_committed : (again : Bool) (h : HeldData) (which : Limit) → st.held ≡ Some h → AsksForCommit x st p h again → IsSome (x.catalogue.tables h.table.0) → IsOfBatch x h.table.0 h.changes which → TellsRefusal o (refusal.Limit which) (emptied st) → ComesAlone x st p o
  -- definitions: a table that is made, a DROP, and an index that is disabled; and an index that is built, at once
  is_defined : (y : Statement) (e : Definition) (m : Made) → IsReadItem p (Ok y) → st.scn ≡ None → AsksFor x y e → to_build e ≡ None → IsDefinitionMade e m → TakesNext x e m
      → o ≡ record { stamps = []; reply = reply.Defined (definition_word y); next = next_is.Next st; acts = act_of e m ∷ [] } → ComesAlone x st p o
  is_built : (y : Statement) (e : Definition) (t : TableId) (m : Made) (again : List ℕ) (birth : ℕ) → IsReadItem p (Ok y) → st.scn ≡ None → AsksFor x y e → to_build e ≡ Some t → IsDefinitionMade e m → TakesNext x e m
      → o ≡ record { stamps = stamps_of e m ++ again; reply = reply.Defined (definition_word y); next = next_is.Next st; acts = act_of e m ∷ (built_again t (index_id_made m) again ++ IndexState t (index_id_made m) states.Active birth ∷ []) } → ComesAlone x st p o
  is_not_built : (y : Statement) (e : Definition) (t : TableId) (m : Made) (again : List ℕ) (left : List Act) (why : Refusal) → IsReadItem p (Ok y) → st.scn ≡ None → AsksFor x y e → to_build e ≡ Some t
      → IsDefinitionMade e m → TakesNext x e m → StopsBuild y why → LeavesIndex t (index_id_made m) left
      → o ≡ record { stamps = stamps_of e m ++ again; reply = reply.Refused why; next = next_is.Next st; acts = act_of e m ∷ (built_again t (index_id_made m) again ++ left) } → ComesAlone x st p o
  is_taken : (y : Statement) (e : Definition) → IsReadItem p (Ok y) → st.scn ≡ None → AsksFor x y e → IsNameTaken x e → Tells o (name_taken y) st → ComesAlone x st p o
  is_index_absent : (i : DropIndex) (f : Found) → IsReadItem p (Ok (s.DropIndex i)) → st.scn ≡ None → HasTable x f i.table → i.if_exists ≡ true → index_id_named f.indexes i.name ≡ None → Tells o (reply.Defined defined.IndexAbsent) st → ComesAlone x st p o
  is_not_defined : (y : Statement) (e : Definition) (which : Limit) → IsReadItem p (Ok y) → st.scn ≡ None → AsksFor x y e → IsOfDefinition x e which → TellsRefusal o (refusal.Limit which) st → ComesAlone x st p o
  -- a status, a flush and a compaction
  is_counted : (name : List ℕ) (f : Found) (r : Status) → IsCommandRead p (Ok (commands.Status name)) → HasTable x f name → IsStatus x f.table.id.0 r → Tells o (reply.Status r) st → ComesAlone x st p o
  is_not_counted : (name : List ℕ) → IsCommandRead p (Ok (commands.Status name)) → HasNoTable x name → TellsRefusal o (refusal.NoTable name) st → ComesAlone x st p o
  is_ordered : (job : Ordered) → IsCommandRead p (Ok (command_ordering job)) → Tells o (order_reply job) st → ComesAlone x st p o
