-- What is right to answer to a statement or a session command, by what the seat has then seen.
use Rattle.std.specs.Prelude.{ℕ, ◌≡◌, ◌≢◌, ◌≤◌, ◌<◌, ◌+◌, ◌-◌, ◌⊎◌, ◌&&◌, not, Bool, true, false, if◌then◌else◌, List, [], ◌∷◌, length, take, min, Option, None, Some, Result, Ok, Err, Vec}
use Rattle.std.specs.Global.{Global}
use Rattle.std.specs.Option.{is_some, option_map}
use Rattle.px_values.specs.Limits.{most_of}
use Rattle.px_values.specs.declared.change.Change.{Change}
use Rattle.px_values.specs.declared.limit.Limit.TheVariants as bound
use Rattle.px_values.specs.declared.name.TableId.{TableId}
use Rattle.px_values.specs.declared.print.CountWord.TheVariants.{Affected, Held}
use Rattle.px_lex.specs.Lexemes.{IsTextReading, Lexeme}
use Rattle.px_lex.specs.Script.{SeenPiece, seen_piece}
use Rattle.px_lex.specs.declared.script.PieceKind.TheVariants as kinds
use Rattle.px_ast.specs.declared.statement.Statement.{Statement}
use Rattle.px_ast.specs.declared.statement.Statement.TheVariants as s
use Rattle.px_ast.specs.declared.statement.Delete.{Delete}
use Rattle.px_ast.specs.declared.statement.Upsert.{Upsert}
use Rattle.px_ast.specs.declared.definition.IndexAction.{IndexAction}
use Rattle.px_ast.specs.declared.definition.IndexAction.TheVariants.{Disable, Rebuild}
use Rattle.px_ast.specs.declared.definition.CreateTable.{CreateTable}
use Rattle.px_ast.specs.declared.definition.DropIndex.{DropIndex}
use Rattle.px_parse.specs.Texts as texts
use Rattle.px_parse.specs.declared.syntax.SyntaxFault.{SyntaxFault}
use Rattle.px_parse.specs.declared.syntax.SyntaxFault.TheVariants as syntax
use Rattle.px_commanding.specs.Commits as commits
use Rattle.px_commanding.specs.Commits.{HasRoomForOne}
use Rattle.px_commanding.specs.Counts as counts
use Rattle.px_commanding.specs.declared.commit.CommitRun.TheVariants as committing
use Rattle.px_commanding.specs.declared.count.CountFault.{CountFault}
use Rattle.px_commanding.specs.declared.count.CountFault.TheVariants as uncounted
use Rattle.px_commanding.specs.Orders as orders
use Rattle.px_commanding.specs.declared.order.OrderFault.{OrderFault}
use Rattle.px_commanding.specs.declared.order.OrderFault.TheVariants as undone_by
use Rattle.px_commands.specs.Commands as said
use Rattle.px_commands.specs.declared.command.Command.{Command}
use Rattle.px_commands.specs.declared.command.Command.TheVariants as commands
use Rattle.px_commands.specs.declared.command.CommandFault.{CommandFault}
use Rattle.px_commands.specs.declared.command.CommandFault.TheVariants as command
use Rattle.px_held.specs.Held.{with_changes}
use Rattle.px_held.specs.HeldData.{HeldData, HoldsOne, changes_in, held_with, with_more}
use Rattle.px_held.specs.declared.holding.HoldFault.{HoldFault}
use Rattle.px_held.specs.declared.holding.HoldFault.TheVariants as unheld
use Rattle.px_tables.specs.declared.found.Found.{Found}
use Rattle.px_tables.specs.declared.table.Table.{Table}
use Rattle.px_resolve.specs.Answers.{IsFirstBindFault}
use Rattle.px_resolve.specs.declared.fault.BindFault.{BindFault}
use Rattle.px_resolve.specs.declared.fault.BindFault.TheVariants as bind
use Rattle.px_create.specs.Indexes.{index_id_named, new_index}
use Rattle.px_create.specs.Tables.{new_table, table_faults}
use Rattle.px_ast.specs.declared.statement.Select.{Select}
use Rattle.px_bind.specs.Queries.{IsQuery, delete_faults, filter_of, select_faults}
use Rattle.px_bind.specs.declared.request.Query.{Query}
use Rattle.px_plan.specs.Asked.{asked_of}
use Rattle.px_plan.specs.Explained.{explained}
use Rattle.px_plan.specs.Plans as plans
use Rattle.px_plan.specs.declared.plan.Plan.{Plan}
use Rattle.px_plan.specs.declared.plan.PlanFault.{PlanFault}
use Rattle.px_plan.specs.declared.plan.PlanFault.TheVariants.{IndexJoin}
use Rattle.px_planned.specs.declared.planned.Planned.{Planned}
use Rattle.px_planned.specs.Queries.{query_of}
use Rattle.px_scan.specs.Faults as scan
use Rattle.px_scan.specs.Turns as scanning
use Rattle.px_scan.specs.declared.answer.QueryFault.{QueryFault}
use Rattle.px_scan.specs.declared.answer.QueryFault.TheVariants as unread
use Rattle.px_select.specs.Selecting as selecting
use Rattle.px_select.specs.declared.run.Selected.{Selected}
use Rattle.px_expr.specs.declared.bound.Bound.{Bound}
use Rattle.px_deleting.specs.Asking.{planned_for}
use Rattle.px_deleting.specs.Deleting as deleting
use Rattle.px_deleting.specs.declared.deleted.DeleteFault.{DeleteFault}
use Rattle.px_deleting.specs.declared.deleted.DeleteFault.TheVariants as undeleted
use Rattle.px_deleting.specs.declared.deleted.Deleted.{Deleted}
use Rattle.px_deleting.specs.declared.deleted.Removed.{Removed}
use Rattle.px_calls.specs.Requires.{IsScn}
use Rattle.px_bind.specs.Requests.{faults_in}
use Rattle.px_bind.specs.Upserts.{upsert_change, upsert_faults}
use Rattle.px_trail.specs.declared.entry.Act.{Act}
use Rattle.px_trail.specs.declared.entry.Entry.{Entry}
use Rattle.px_trail.specs.Trail.{Base, table_shape}
use Rattle.px_trail.specs.Batches.{has, rows_of}
use Rattle.px_calls.specs.declared.definition.Definition.{Definition}
use Rattle.px_calls.specs.declared.definition.Definition.TheVariants as d
use Rattle.px_calls.specs.declared.definition.Made.{Made}
use Rattle.px_calls.specs.declared.fault.StepFault.{StepFault}
use Rattle.px_calls.specs.declared.fault.StepFault.TheVariants as step
use Rattle.px_calls.specs.declared.status.Ordered.{Ordered}
use Rattle.px_calls.specs.declared.status.Ordered.TheVariants as jobs
use Rattle.px_calls.specs.declared.status.Status.{Status}
use Rattle.px_calls.specs.declared.ticket.Receipt.{Receipt}
use Rattle.px_calls.specs.Calls.{IsFound, index_id_made}
use Rattle.px_calls.specs.Causes.{ClosedBy, NamesNoTable}
use Rattle.px_calls.specs.Known.{IsRunning, Known}
use Rattle.px_calls.specs.Requires.{IsChangeOf, IsNewIndex, IsNewTable}
use Rattle.px_batch.specs.Turns as batch
use Rattle.px_batch.specs.declared.batch.BatchFault.{BatchFault}
use Rattle.px_batch.specs.declared.batch.BatchFault.TheVariants as unmade
use Rattle.px_batch.specs.declared.batch.BatchState.TheVariants as batches
use Rattle.px_defining.specs.Turns as define
use Rattle.px_defining.specs.declared.define.DefineFault.{DefineFault}
use Rattle.px_defining.specs.declared.define.DefineFault.TheVariants as undone
use Rattle.px_defining.specs.declared.define.DefineRun.{DefineRun}
use Rattle.px_defining.specs.declared.define.DefineState.TheVariants as defines
use Rattle.px_upkeep.specs.Turns as building
use Rattle.px_upkeep.specs.declared.build.BuildFault.{BuildFault}
use Rattle.px_upkeep.specs.declared.build.BuildFault.TheVariants as unbuilt
use Rattle.px_upkeep.specs.declared.build.BuildRun.{BuildRun}
use Rattle.px_reply.specs.declared.refusal.Refusal.{Refusal}
use Rattle.px_reply.specs.declared.refusal.Refusal.TheVariants as refusal
use Rattle.px_reply.specs.declared.reply.Defined.{Defined}
use Rattle.px_reply.specs.declared.reply.Defined.TheVariants as defined
use Rattle.px_reply.specs.declared.reply.Reply.{Reply}
use Rattle.px_reply.specs.declared.reply.Reply.TheVariants as reply
use Rattle.px_item.specs.Builds.{IsAskedFor, IsBuiltBehind, altered, to_build}
use Rattle.px_item.specs.declared.answered.After.{After}
use Rattle.px_item.specs.declared.answered.After.TheVariants as next_is
use Rattle.px_item.specs.declared.answered.Answered.{Answered}
use Rattle.px_item.specs.declared.answered.Asked.{Asked}
use Rattle.px_item.specs.declared.answered.Settings.{Settings}
use Rattle.px_item.specs.declared.binding.Next.{Next}
use Rattle.px_item.specs.declared.binding.Next.TheVariants as next
use Rattle.px_item.specs.declared.item.ItemState.{ItemState}
use Rattle.px_item.specs.declared.item.ItemState.TheVariants as state
use Rattle.px_item.specs.declared.item.ItemTurn.{ItemTurn}
use Rattle.px_item.specs.declared.item.ItemTurn.TheVariants as turn
use Rattle.px_item.specs.declared.reading.Read.{Read}
use Rattle.px_item.specs.declared.reading.Read.TheVariants as read

-- ---- what a seat knows

-- whoever else acts
abbrev pub plain : Known → Known
plain k = record { seat = k.seat; base = k.base; damaged = k.damaged; alone = false; seen = k.seen }

-- what it knew after the first n entries
abbrev pub known_after : ℕ → Known → Known
known_after n k = record { seat = k.seat; base = k.base; damaged = k.damaged; alone = false; seen = take n k.seen }

-- ---- how refusals of lower layers are told

abbrev pub syntax_refusal : SyntaxFault → Refusal
syntax_refusal (syntax.Unexpected place) = refusal.Syntax place
syntax_refusal (syntax.LeftOut name) = refusal.LeftOut name
syntax_refusal syntax.TooDeep = refusal.Limit bound.Depth
syntax_refusal syntax.Memory = refusal.Memory

-- counted from the `!`. A text is shorter than the greatest place
abbrev pub behind_mark : ℕ → ℕ
behind_mark place = min (place + 1) 18446744073709551615

abbrev pub command_refusal : CommandFault → Refusal
command_refusal (command.Syntax place) = refusal.Syntax (behind_mark place)
command_refusal (command.OutOfRange place) = refusal.OutOfRange (behind_mark place)
command_refusal command.Memory = refusal.Memory

abbrev pub bind_refusal : BindFault → Refusal
bind_refusal (bind.NoIndex name) = refusal.NoIndex name
bind_refusal (bind.NoColumn name) = refusal.NoColumn name
bind_refusal (bind.Twice name) = refusal.Twice name
bind_refusal (bind.Mismatch place) = refusal.Mismatch place
bind_refusal (bind.OutOfRange place) = refusal.OutOfRange place
bind_refusal (bind.NullKey name) = refusal.NullKey name
bind_refusal (bind.Passed limit) = refusal.Limit limit
bind_refusal bind.Memory = refusal.Memory

abbrev pub batch_refusal : List ℕ → BatchFault → Refusal
batch_refusal name unmade.NoTable = refusal.NoTable name
batch_refusal name (unmade.Limit which count) = refusal.Limit which
batch_refusal name unmade.ReadFault = refusal.ReadFault
batch_refusal name unmade.WriteFault = refusal.WriteFault
batch_refusal name (unmade.Damaged file place) = refusal.Damaged file place
batch_refusal name (unmade.Closed call) = refusal.Closed call
batch_refusal name unmade.Memory = refusal.Memory

abbrev pub count_refusal : List ℕ → CountFault → Refusal
count_refusal name uncounted.NoTable = refusal.NoTable name
count_refusal name uncounted.ReadFault = refusal.ReadFault
count_refusal name (uncounted.Damaged file place) = refusal.Damaged file place
count_refusal name (uncounted.Closed call) = refusal.Closed call
count_refusal name uncounted.Memory = refusal.Memory

abbrev pub order_refusal : OrderFault → Refusal
order_refusal undone_by.ReadFault = refusal.ReadFault
order_refusal undone_by.WriteFault = refusal.WriteFault
order_refusal (undone_by.Damaged file place) = refusal.Damaged file place
order_refusal (undone_by.Closed call) = refusal.Closed call
order_refusal undone_by.Memory = refusal.Memory

-- ---- settings

abbrev pub with_scn : Settings → Option ℕ → Settings
with_scn st scn = record { scn = scn; autocommit = st.autocommit; held = st.held }

abbrev pub with_autocommit : Settings → Bool → Settings
with_autocommit st on = record { scn = st.scn; autocommit = on; held = st.held }

-- what was held is held no more
abbrev pub emptied : Settings → Settings
emptied st = record { scn = st.scn; autocommit = st.autocommit; held = None }

-- after a commit: the piece is asked once more, or the next one is
abbrev pub after_commit : Bool → Settings → After
after_commit true st = next_is.Again st
after_commit false st = next_is.Next st

-- ---- statements

-- the table that a statement names
abbrev pub table_named : Statement → List ℕ
table_named (s.CreateTable t) = t.name
table_named (s.DropTable t) = t.name
table_named (s.CreateIndex i) = i.table
table_named (s.DropIndex i) = i.table
table_named (s.AlterIndex i) = i.table
table_named (s.Upsert u) = u.table
table_named (s.Delete x) = x.table
table_named (s.Select q) = q.table
table_named (s.Explain q) = q.table

abbrev pub is_upsert : Statement → Bool
is_upsert (s.Upsert u) = true
is_upsert x = false

abbrev pub is_delete : Statement → Bool
is_delete (s.Delete x) = true
is_delete x = false

abbrev pub drops_index : Statement → Bool
drops_index (s.DropIndex i) = true
drops_index x = false

abbrev pub alters_index : Statement → Bool
alters_index (s.AlterIndex i) = true
alters_index x = false

abbrev pub is_select : Statement → Bool
is_select (s.Select q) = true
is_select x = false

abbrev pub is_explain : Statement → Bool
is_explain (s.Explain q) = true
is_explain x = false

abbrev pub creates_table : Statement → Bool
creates_table (s.CreateTable t) = true
creates_table x = false

abbrev pub is_none_of : {X : Type 0} → List X → Bool
is_none_of [] = true
is_none_of (x ∷ xs) = false

-- the statements whose answers are built: a new table has one region
abbrev pub is_answer_built : Statement → Bool
is_answer_built (s.CreateTable t) = is_none_of t.splits
is_answer_built (s.Upsert u) = true
is_answer_built (s.Delete x) = true
is_answer_built (s.DropTable t) = true
is_answer_built (s.CreateIndex i) = true
is_answer_built (s.DropIndex i) = true
is_answer_built (s.AlterIndex i) = true
is_answer_built (s.Select q) = true
is_answer_built (s.Explain q) = true

-- the statements that change something, which none may under an SCN
abbrev pub changes : Statement → Bool
changes (s.Select q) = false
changes (s.Explain q) = false
changes x = true

-- its row is held
abbrev pub holds : Settings → Statement → Bool
holds st x = not st.autocommit && is_upsert x

-- the removals of its rows are held
abbrev pub holds_rows : Settings → Statement → Bool
holds_rows st x = not st.autocommit && is_delete x

-- what it changes is held
abbrev pub MayHold : Settings → Statement → Type 0
MayHold st x = (holds st x ≡ true) ⊎ (holds_rows st x ≡ true)

abbrev pub MayRun : Settings → Statement → Type 0
MayRun st x = changes x ≡ true → st.scn ≡ None

-- the statement's table doesn't stand. A CREATE TABLE asks for none
abbrev pub table_absent : Statement → Reply
table_absent (s.CreateTable t) = reply.Refused refusal.Memory
table_absent (s.DropTable t) = if t.if_exists then reply.Defined defined.TableAbsent else reply.Refused (refusal.NoTable t.name)
table_absent x = reply.Refused (refusal.NoTable (table_named x))

-- the statement's index doesn't stand
abbrev pub index_absent : Statement → Reply
index_absent (s.DropIndex i) = if i.if_exists then reply.Defined defined.IndexAbsent else reply.Refused (refusal.NoIndex i.name)
index_absent (s.CreateIndex i) = reply.Refused (refusal.NoIndex i.name)
index_absent (s.AlterIndex i) = reply.Refused (refusal.NoIndex i.name)
index_absent x = reply.Refused refusal.Memory

-- the name of what the statement makes stands
abbrev pub name_taken : Statement → Reply
name_taken (s.CreateTable t) = if t.if_not_exists then reply.Defined defined.TableKept else reply.Refused (refusal.NameExists t.name)
name_taken (s.CreateIndex i) = if i.if_not_exists then reply.Defined defined.IndexKept else reply.Refused (refusal.NameExists i.name)
name_taken x = reply.Refused refusal.Memory

-- the statement's table wasn't found
abbrev pub unfound : Statement → StepFault → Reply
unfound x step.NoTable = table_absent x
unfound x (step.Closed call) = reply.Refused (refusal.Closed call)
unfound x f = reply.Refused refusal.Memory

abbrev pub undefined : Statement → DefineFault → Reply
undefined x undone.NameExists = name_taken x
undefined x undone.NoTable = table_absent x
undefined x undone.NoIndex = index_absent x
undefined x (undone.Limit which count) = reply.Refused (refusal.Limit which)
undefined x undone.ReadFault = reply.Refused refusal.ReadFault
undefined x undone.WriteFault = reply.Refused refusal.WriteFault
undefined x (undone.Damaged file place) = reply.Refused (refusal.Damaged file place)
undefined x (undone.Closed call) = reply.Refused (refusal.Closed call)
undefined x f = reply.Refused refusal.Memory

-- the statement's index doesn't stand active
abbrev pub not_built : Statement → BuildFault → Reply
not_built x unbuilt.NoTable = table_absent x
not_built x unbuilt.NoIndex = index_absent x
not_built x (unbuilt.Limit which count) = reply.Refused (refusal.Limit which)
not_built x (unbuilt.BelowHorizon h) = reply.Refused (refusal.BelowHorizon h)
not_built x unbuilt.ReadFault = reply.Refused refusal.ReadFault
not_built x unbuilt.WriteFault = reply.Refused refusal.WriteFault
not_built x (unbuilt.Damaged file place) = reply.Refused (refusal.Damaged file place)
not_built x (unbuilt.Closed call) = reply.Refused (refusal.Closed call)
not_built x unbuilt.Memory = reply.Refused refusal.Memory

-- the word of what an ALTER INDEX did
abbrev pub altered_word : IndexAction → Defined
altered_word Disable = defined.IndexDisabled
altered_word Rebuild = defined.IndexRebuilt

-- the word of what was made, altered or dropped
abbrev pub definition_word : Statement → Defined
definition_word (s.CreateTable t) = defined.TableCreated
definition_word (s.CreateIndex i) = defined.IndexCreated
definition_word (s.DropIndex i) = defined.IndexDropped
definition_word (s.AlterIndex i) = altered_word i.action
definition_word x = defined.TableDropped

-- the definition that a statement asks for, with the table that it was bound to
abbrev pub definition_asked : Found → Statement → Option Definition
definition_asked f (s.DropTable t) = Some (d.DropTable f.table.id)
definition_asked f (s.CreateIndex i) = Some (d.Index (new_index f.table i))
definition_asked f (s.DropIndex i) = option_map (λ n. d.DropIndex f.table.id n) (index_id_named f.indexes i.name)
definition_asked f (s.AlterIndex i) = option_map (λ n. altered f.table.id i.action n) (index_id_named f.indexes i.name)
definition_asked f x = None

-- ---- pieces

-- the statement that a piece is, or why it is none
abbrev pub IsReadItem : SeenPiece → Result Statement SyntaxFault → Type 0
IsReadItem p r = (p.kind ≡ kinds.Statement) × ((xs : List Lexeme) × IsTextReading p.text xs × texts.AnswersStatement p.text xs r)

-- the session command that a piece is behind its `!`, or why it is none
abbrev pub IsCommandRead : SeenPiece → Result Command CommandFault → Type 0
IsCommandRead p r = (p.kind ≡ kinds.Command) × ((text : List ℕ) × (p.text ≡ 33 ∷ text) × ((xs : List Lexeme) × IsTextReading text xs × said.AnswersCommand text xs r))

-- ---- answers

-- it says this, rests on no receipt and no place, and leaves these settings to the next piece
abbrev pub SaysOnly : Answered → Reply → Settings → Type 0
SaysOnly a r st = (a.reply ≡ r) × (a.receipts ≡ []) × (a.places ≡ []) × (a.after ≡ next_is.Next st)

abbrev pub SaysRefused : Answered → Refusal → Settings → Type 0
SaysRefused a r st = SaysOnly a (reply.Refused r) st

-- what a command is answered that makes no call: a commit makes none where nothing is held
abbrev pub SaysOf : Settings → Command → Answered → Type 0
SaysOf st (commands.Scn n) a = SaysOnly a (reply.Scn n) (with_scn st n)
SaysOf st (commands.Autocommit true) a = (st.held ≡ None) × SaysOnly a (reply.Autocommit true) (with_autocommit st true)
SaysOf st (commands.Autocommit false) a = SaysOnly a (reply.Autocommit false) (with_autocommit st false)
SaysOf st commands.Commit a = (st.held ≡ None) × SaysOnly a (reply.Count 0 Affected) st
SaysOf st c a = ⊥

-- the command asks for a commit of what is held: to go on with the command itself, or for its own sake
abbrev pub AsksCommit : SeenPiece → (again : Bool) → Type 0
AsksCommit p true = IsCommandRead p (Ok (commands.Autocommit true))
AsksCommit p false = IsCommandRead p (Ok commands.Commit)

-- the command that gives an order to upkeep, and what is told where it is done
abbrev pub command_ordering : Ordered → Command
command_ordering jobs.FlushAll = commands.Flush
command_ordering jobs.CompactAll = commands.Compact

abbrev pub order_reply : Ordered → Reply
order_reply jobs.FlushAll = reply.Flushed
order_reply jobs.CompactAll = reply.Compacted

-- what is answered without a call
pub data IsAtOnce (st : Settings) (p : SeenPiece) (a : Answered) : Type 0 where
  is_long : p.kind ≡ kinds.Statement → most_of bound.Statement < length p.text → SaysRefused a (refusal.Limit bound.Statement) st → IsAtOnce st p a
  is_not_read : (e : SyntaxFault) → IsReadItem p (Err e) → SaysRefused a (syntax_refusal e) st → IsAtOnce st p a
  is_not_built : (x : Statement) → IsReadItem p (Ok x) → is_answer_built x ≡ false → SaysRefused a refusal.Form st → IsAtOnce st p a
  is_under_scn : (x : Statement) → IsReadItem p (Ok x) → changes x ≡ true → is_some st.scn ≡ true → SaysRefused a refusal.UnderScn st → IsAtOnce st p a
  -- a CREATE TABLE asks for no table that stands, and so what is wrong with it is told at once
  is_wrong_table : (t : CreateTable) (fault : BindFault) → IsReadItem p (Ok (s.CreateTable t)) → is_none_of t.splits ≡ true → st.scn ≡ None → IsFirstBindFault (table_faults t) fault → SaysRefused a (bind_refusal fault) st → IsAtOnce st p a
  is_no_command : (e : CommandFault) → IsCommandRead p (Err e) → SaysRefused a (command_refusal e) st → IsAtOnce st p a
  is_command : (c : Command) → IsCommandRead p (Ok c) → SaysOf st c a → IsAtOnce st p a
  is_lacking : SaysRefused a refusal.Memory st → IsAtOnce st p a

-- a table of this name stood after some entry from `first` on, with its indexes
pub record IsBoundTo (b : Base) (es : List Entry) (first : ℕ) (f : Found) (name : List ℕ) : Type 0 where
  pub place : ℕ
  pub from : first ≤ place
  pub within : place ≤ length es
  pub found : IsFound b (take place es) f
  pub named : f.table.name ≡ name

-- no table of this name stood after some entry from `first` on
pub record IsLacking (k : Known) (first : ℕ) (name : List ℕ) : Type 0 where
  pub place : ℕ
  pub from : first ≤ place
  pub within : place ≤ length k.seen
  pub none : NamesNoTable (known_after place k) name

-- the table's batch of this one change
abbrev pub one_change : Found → Upsert → List Change
one_change f u = upsert_change f.table u ∷ []

-- ---- changes that are held

-- this change of the table is held with what was held before, all of the same table
abbrev pub HoldsNow : Table → Change → Option HeldData → Option HeldData → Type 0
HoldsNow t c None (Some h') = HoldsOne t c h'
HoldsNow t c (Some h) (Some h') = (h.table ≡ t.id) × (h' ≡ with_more t h c)
HoldsNow t c o None = ⊥

-- so, and no other setting has changed
abbrev pub IsHolding : Table → Change → Settings → Settings → Type 0
IsHolding t c st st' = (st'.scn ≡ st.scn) × (st'.autocommit ≡ st.autocommit) × HoldsNow t c st.held st'.held

-- as many rows of the table are held as may be, and none is this one
abbrev pub IsFullOf : Table → Change → Option HeldData → Type 0
IsFullOf t c o = (h : HeldData) × (o ≡ Some h) × (h.table ≡ t.id) × (1000 ≤ length h.changes) × (has (rows_of h.changes) c.row ≡ false)

-- changes of another table are held
abbrev pub IsOfAnother : Option HeldData → TableId → Type 0
IsOfAnother None t = ⊥
IsOfAnother (Some h) t = t ≢ h.table

abbrev pub IsOfNoOther : Option HeldData → TableId → Type 0
IsOfNoOther None t = Unit {0}
IsOfNoOther (Some h) t = h.table ≡ t

-- these changes of the table are held with what was held before, all of the same table, and no other setting has changed
pub record IsHoldingAll (t : Table) (cs : List Change) (st st' : Settings) : Type 0 where
  pub scn : st'.scn ≡ st.scn
  pub autocommit : st'.autocommit ≡ st.autocommit
  pub other : IsOfNoOther st.held t.id
  pub held : st'.held ≡ held_with t st.held cs
  pub rows : length (with_changes (table_shape t) (changes_in st.held) cs) ≤ 1000

-- with these changes more rows of the table would be held than may be
pub record AreTooManyOf (t : Table) (cs : List Change) (st : Settings) : Type 0 where
  pub other : IsOfNoOther st.held t.id
  pub many : 1000 < length (with_changes (table_shape t) (changes_in st.held) cs)

-- an UPSERT or a DELETE in which nothing is wrong, of another table than the one of what is held
pub record MakesWay (k : Known) (first : ℕ) (st : Settings) (p : SeenPiece) (h : HeldData) : Type 0 where
  pub statement : Statement
  pub found : Found
  pub read : IsReadItem p (Ok statement)
  pub free : st.scn ≡ None
  pub holds : MayHold st statement
  pub bound : IsBoundTo k.base k.seen first found (table_named statement)
  pub right : faults_in found statement ≡ []
  pub other : found.table.id ≢ h.table

-- Why what is held is committed: the piece is a commit; or it turns autocommit on, or changes another table, and is asked once more behind it
abbrev pub AsksToCommit : Known → (first : ℕ) → Settings → SeenPiece → HeldData → (again : Bool) → Type 0
AsksToCommit k first st p h true = AsksCommit p true ⊎ MakesWay k first st p h
AsksToCommit k first st p h false = AsksCommit p false

-- the query that a SELECT asks for, with the table that it was bound to
abbrev pub IsAskedOf : Found → Select → Planned → Type 0
IsAskedOf f q x = (select_faults f.table.columns q ≡ []) × ((query : Query) × IsQuery f.table q query × (x ≡ record { table = f.table; asked = asked_of query }))

abbrev pub query_refusal : List ℕ → QueryFault → Refusal
query_refusal name unread.NoTable = refusal.NoTable name
query_refusal name (unread.BelowHorizon h) = refusal.BelowHorizon h
query_refusal name unread.IndexJoin = refusal.IndexJoin
query_refusal name unread.ReadFault = refusal.ReadFault
query_refusal name unread.WriteFault = refusal.WriteFault
query_refusal name (unread.Damaged file place) = refusal.Damaged file place
query_refusal name (unread.Closed call) = refusal.Closed call
query_refusal name unread.Memory = refusal.Memory

-- the rows that are shown, each with its place, and the place of the point's opening
pub record SaysRows (a : Answered) (r : Selected) (st : Settings) : Type 0 where
  pub rows : a.reply ≡ reply.Rows r.shown.rows
  pub receipts : a.receipts ≡ []
  pub places : a.places ≡ r.shown.places
  pub first : a.first ≡ r.first
  pub after : a.after ≡ next_is.Next st

-- the query by which a DELETE finds its rows, with the table that it was bound to
abbrev pub deletion_query : Found → Delete → Planned
deletion_query f x = planned_for f.table (filter_of f.table.columns x.filter)

-- the point of an EXPLAIN: as of the SCN, or the current one
abbrev pub point_of : Option ℕ → Option ℕ
point_of None = None
point_of (Some scn) = Some (scn - 1)

-- the plan of a query of an EXPLAIN, in which nothing is wrong, with the definitions that it was bound to; or why it has none
abbrev pub IsPlanned : Found → Option ℕ → Select → Result Plan PlanFault → Type 0
IsPlanned f scn q r = (select_faults f.table.columns q ≡ []) × ((x : Query) × IsQuery f.table q x × plans.AnswersPlan f (point_of scn) x r)

-- a batch of a DELETE wasn't made. Memory may lack for the name of a table that doesn't stand
abbrev pub StopsDelete : Reply → List ℕ → BatchFault → Type 0
StopsDelete r name f = (r ≡ reply.Refused (batch_refusal name f)) ⊎ ((r ≡ reply.Refused refusal.Memory) × (f ≡ unmade.NoTable))

-- what is right, where `own` is what the seat began, ended, opened, closed and defined for it since it had seen the first `before` entries
pub data IsRight (sound : Type 0) (k : Known) (before : ℕ) (own : List Act) (st : Settings) (p : SeenPiece) (a : Answered) : Type 0 where
  is_at_once : IsAtOnce st p a → own ≡ [] → IsRight sound k before own st p a
  is_unfound : (x : Statement) → IsReadItem p (Ok x) → MayRun st x → IsLacking k a.first (table_named x) → SaysOnly a (table_absent x) st → own ≡ [] → IsRight sound k before own st p a
  is_closed : (x : Statement) (call : ℕ) → IsReadItem p (Ok x) → ClosedBy call k → SaysRefused a (refusal.Closed call) st → own ≡ [] → IsRight sound k before own st p a
  is_wrong : (x : Statement) (f : Found) (fault : BindFault) → IsReadItem p (Ok x) → MayRun st x → IsBoundTo k.base k.seen a.first f (table_named x) → IsFirstBindFault (faults_in f x) fault → SaysRefused a (bind_refusal fault) st → own ≡ []
      → IsRight sound k before own st p a
  -- an UPSERT is one batch of one row, and its receipt is told
  is_changed : (u : Upsert) (f : Found) (r : Receipt) → IsReadItem p (Ok (s.Upsert u)) → st.scn ≡ None → st.autocommit ≡ true → IsBoundTo k.base k.seen a.first f u.table → upsert_faults f.table u ≡ [] → batch.HasEndedBatch sound f.table.id (one_change f u) own k r
      → (a.reply ≡ reply.Count 1 Affected) × (a.receipts ≡ r ∷ []) × (a.places ≡ []) × (a.after ≡ next_is.Next st) → IsRight sound k before own st p a
  is_not_changed : (u : Upsert) (f : Found) (fault : BatchFault) → IsReadItem p (Ok (s.Upsert u)) → st.scn ≡ None → st.autocommit ≡ true → IsBoundTo k.base k.seen a.first f u.table → upsert_faults f.table u ≡ [] → batch.BatchFaultIs sound f.table.id (one_change f u) fault k
      → batch.BatchFaultSince before fault k → batch.HasLeft f.table.id (one_change f u) fault own k → SaysRefused a (batch_refusal u.table fault) st → IsRight sound k before own st p a
  -- without autocommit an UPSERT is held, and nothing is done for it; or it isn't, where too many rows would be
  is_held : (u : Upsert) (f : Found) (st' : Settings) → IsReadItem p (Ok (s.Upsert u)) → st.scn ≡ None → st.autocommit ≡ false → IsBoundTo k.base k.seen a.first f u.table → upsert_faults f.table u ≡ [] → IsHolding f.table (upsert_change f.table u) st st'
      → SaysOnly a (reply.Count 1 Held) st' → own ≡ [] → IsRight sound k before own st p a
  is_full : (u : Upsert) (f : Found) → IsReadItem p (Ok (s.Upsert u)) → st.scn ≡ None → st.autocommit ≡ false → IsBoundTo k.base k.seen a.first f u.table → upsert_faults f.table u ≡ [] → IsFullOf f.table (upsert_change f.table u) st.held
      → SaysRefused a (refusal.Limit bound.Rows) st → own ≡ [] → IsRight sound k before own st p a
  -- a commit is one batch of exactly what is held, and its receipt is told; whatever came of it, nothing is held then
  is_committed : (again : Bool) (h : HeldData) (rs : Vec Receipt Global) → st.held ≡ Some h → AsksToCommit k a.first st p h again → commits.IsCommitOutcome sound h own k (Ok rs)
      → (a.reply ≡ reply.Count (length h.changes) Affected) × (a.receipts ≡ rs.items) × (a.places ≡ []) × (a.after ≡ after_commit again (emptied st)) → IsRight sound k before own st p a
  -- where it is refused, what asked for it isn't asked once more
  is_not_committed : (again : Bool) (h : HeldData) (fault : BatchFault) → st.held ≡ Some h → AsksToCommit k a.first st p h again → commits.IsCommitOutcome sound h own k (Err fault) → batch.BatchFaultSince before fault k
      → StopsDelete a.reply h.name fault → (a.receipts ≡ []) × (a.places ≡ []) × (a.after ≡ next_is.Next (emptied st)) → IsRight sound k before own st p a
  -- a status tells of the table that was found
  is_counted : (name : List ℕ) (s : Status) → IsCommandRead p (Ok (commands.Status name)) → counts.IsCountOutcome sound a.first name k (Ok s) → SaysOnly a (reply.Status s) st → own ≡ [] → IsRight sound k before own st p a
  is_not_counted : (name : List ℕ) (fault : CountFault) → IsCommandRead p (Ok (commands.Status name)) → counts.IsCountOutcome sound a.first name k (Err fault) → counts.CountFaultSince before fault k
      → SaysRefused a (count_refusal name fault) st ⊎ SaysRefused a refusal.Memory st → own ≡ [] → IsRight sound k before own st p a
  -- an order is done, where upkeep had nothing left to do on a server that isn't closed
  is_ordered : (job : Ordered) → IsCommandRead p (Ok (command_ordering job)) → IsRunning k → SaysOnly a (order_reply job) st → own ≡ [] → IsRight sound k before own st p a
  is_not_ordered : (job : Ordered) (fault : OrderFault) → IsCommandRead p (Ok (command_ordering job)) → orders.OrderFaultIs sound fault k → orders.OrderFaultSince before fault k → SaysRefused a (order_refusal fault) st → own ≡ [] → IsRight sound k before own st p a
  -- a DROP, and an ALTER INDEX that disables one, is one entry
  is_defined : (x : Statement) (f : Found) (m : Made) (e : Definition) → IsReadItem p (Ok x) → st.scn ≡ None → IsBoundTo k.base k.seen a.first f (table_named x) → faults_in f x ≡ [] → definition_asked f x ≡ Some e → to_build e ≡ None → define.HasDefined e own k m
      → SaysOnly a (reply.Defined (definition_word x)) st → IsRight sound k before own st p a
  is_not_defined : (x : Statement) (f : Found) (fault : DefineFault) (e : Definition) → IsReadItem p (Ok x) → st.scn ≡ None → IsBoundTo k.base k.seen a.first f (table_named x) → faults_in f x ≡ [] → definition_asked f x ≡ Some e → define.DefinitionFaultIs sound e fault k
      → define.DefinitionFaultSince before fault k → own ≡ [] → SaysOnly a (undefined x fault) st → IsRight sound k before own st p a
  -- a CREATE INDEX, and an ALTER INDEX that builds one again, is one entry and then a build, at whose end the index stood active as it was asked for; or the build is refused, and leaves the index as is told there
  is_index_built : (x : Statement) (f : Found) (e : Definition) (t : TableId) (m c : Made) (rest : List Act) → IsReadItem p (Ok x) → st.scn ≡ None → IsBoundTo k.base k.seen a.first f (table_named x) → faults_in f x ≡ [] → definition_asked f x ≡ Some e → to_build e ≡ Some t
      → IsBuiltBehind a.first e m own rest k → (built : building.IsBuildOutcome sound m.at t (index_id_made m) rest k (Ok c)) → IsAskedFor e built.0.index → SaysOnly a (reply.Defined (definition_word x)) st → IsRight sound k before own st p a
  is_index_not_built : (x : Statement) (f : Found) (e : Definition) (t : TableId) (m : Made) (rest : List Act) (fault : BuildFault) → IsReadItem p (Ok x) → st.scn ≡ None → IsBoundTo k.base k.seen a.first f (table_named x) → faults_in f x ≡ [] → definition_asked f x ≡ Some e → to_build e ≡ Some t
      → IsBuiltBehind a.first e m own rest k → building.IsBuildOutcome sound m.at t (index_id_made m) rest k (Err fault) → SaysOnly a (not_built x fault) st ⊎ SaysRefused a refusal.Memory st → IsRight sound k before own st p a
  -- a CREATE TABLE is one entry
  is_created : (t : CreateTable) (m : Made) → IsReadItem p (Ok (s.CreateTable t)) → is_none_of t.splits ≡ true → st.scn ≡ None → table_faults t ≡ [] → define.HasDefined (d.Table (new_table t)) own k m → SaysOnly a (reply.Defined defined.TableCreated) st
      → IsRight sound k before own st p a
  is_not_created : (t : CreateTable) (fault : DefineFault) → IsReadItem p (Ok (s.CreateTable t)) → is_none_of t.splits ≡ true → st.scn ≡ None → table_faults t ≡ [] → define.DefinitionFaultIs sound (d.Table (new_table t)) fault k → define.DefinitionFaultSince before fault k → own ≡ []
      → SaysOnly a (undefined (s.CreateTable t) fault) st → IsRight sound k before own st p a
  is_index_absent : (i : DropIndex) (f : Found) → IsReadItem p (Ok (s.DropIndex i)) → st.scn ≡ None → IsBoundTo k.base k.seen a.first f i.table → i.if_exists ≡ true → index_id_named f.indexes i.name ≡ None → SaysOnly a (reply.Defined defined.IndexAbsent) st → own ≡ []
      → IsRight sound k before own st p a
  -- a SELECT is answered at a point, by a path that is chosen there: exactly, under an SCN; and else as it is current
  is_selected : (q : Select) (f : Found) (x : Planned) (r : Selected) → IsReadItem p (Ok (s.Select q)) → IsBoundTo k.base k.seen before f q.table → IsAskedOf f q x → selecting.IsSelectOutcome sound x st.scn own k (Ok r) → SaysRows a r st
      → IsRight sound k before own st p a
  is_not_selected : (q : Select) (f : Found) (x : Planned) (fault : QueryFault) → IsReadItem p (Ok (s.Select q)) → IsBoundTo k.base k.seen before f q.table → IsAskedOf f q x → selecting.IsSelectOutcome sound x st.scn own k (Err fault) → scan.QueryEndSince before (query_of x) st.scn fault k
      → SaysRefused a (query_refusal q.table fault) st ⊎ SaysRefused a refusal.Memory st → IsRight sound k before own st p a
  -- a DELETE removes the rows that a current query found before the first of its batches, and their receipts are told with the number of rows
  is_deleted : (x : Delete) (f : Found) (m : Removed) → IsReadItem p (Ok (s.Delete x)) → st.scn ≡ None → st.autocommit ≡ true → IsBoundTo k.base k.seen a.first f x.table → delete_faults f.table.columns x ≡ [] → deleting.HasRemoved sound (deletion_query f x) own k a.receipts m
      → a.first ≤ m.first → (a.reply ≡ reply.Count m.rows Affected) × (a.places ≡ []) × (a.after ≡ next_is.Next st) → IsRight sound k before own st p a
  -- one of its batches isn't made, and none behind it; its rows were found within the item, and the receipts of the batches before it are told
  is_not_deleted : (x : Delete) (f : Found) (fault : BatchFault) → IsReadItem p (Ok (s.Delete x)) → st.scn ≡ None → st.autocommit ≡ true → IsBoundTo k.base k.seen a.first f x.table → delete_faults f.table.columns x ≡ [] → (h : deleting.HasStopped sound (deletion_query f x) own k a.receipts fault)
      → (a.first ≤ h.first) × batch.BatchFaultSince a.first fault k → StopsDelete a.reply x.table fault → (a.places ≡ []) × (a.after ≡ next_is.Next st) → IsRight sound k before own st p a
  -- its rows weren't found, and none is removed, and no removal held
  is_not_found : (x : Delete) (f : Found) (fault : QueryFault) → IsReadItem p (Ok (s.Delete x)) → st.scn ≡ None → IsBoundTo k.base k.seen a.first f x.table → delete_faults f.table.columns x ≡ [] → selecting.IsSelectOutcome sound (deletion_query f x) None own k (Err fault)
      → scan.QueryFaultSince a.first fault k → SaysRefused a (query_refusal x.table fault) st ⊎ SaysRefused a refusal.Memory st → IsRight sound k before own st p a
  -- without autocommit the removals of the rows that a current query found are held with what was held; or none of them is, where too many rows would be
  are_held : (x : Delete) (f : Found) (first : ℕ) (cs : List Change) (st' : Settings) → IsReadItem p (Ok (s.Delete x)) → st.scn ≡ None → st.autocommit ≡ false → IsBoundTo k.base k.seen a.first f x.table → delete_faults f.table.columns x ≡ []
      → deleting.HasFoundRows sound (deletion_query f x) k first own cs → a.first ≤ first → IsHoldingAll f.table cs st st' → SaysOnly a (reply.Count (length cs) Held) st' → IsRight sound k before own st p a
  are_too_many : (x : Delete) (f : Found) (first : ℕ) (cs : List Change) → IsReadItem p (Ok (s.Delete x)) → st.scn ≡ None → st.autocommit ≡ false → IsBoundTo k.base k.seen a.first f x.table → delete_faults f.table.columns x ≡ []
      → deleting.HasFoundRows sound (deletion_query f x) k first own cs → a.first ≤ first → AreTooManyOf f.table cs st → SaysRefused a (refusal.Limit bound.Rows) st → IsRight sound k before own st p a
  -- an EXPLAIN tells the path by the definitions alone
  is_explained : (q : Select) (f : Found) (x : Plan) → IsReadItem p (Ok (s.Explain q)) → IsBoundTo k.base k.seen a.first f q.table → IsPlanned f st.scn q (Ok x) → SaysOnly a (reply.Explained (explained x)) st → own ≡ [] → IsRight sound k before own st p a
  is_not_explained : (q : Select) (f : Found) → IsReadItem p (Ok (s.Explain q)) → IsBoundTo k.base k.seen a.first f q.table → IsPlanned f st.scn q (Err IndexJoin) → SaysRefused a refusal.IndexJoin st → own ≡ [] → IsRight sound k before own st p a

-- a piece is asked once more: what was held was committed, and is held no more
pub record MadeWay (st st' : Settings) (r : Reply) : Type 0 where
  pub held : st.held ≢ None
  pub none : st'.held ≡ None
  pub reply : (n : ℕ) × (r ≡ reply.Count n Affected)

-- ---- parts of the way there

abbrev pub ReadsAs : Settings → SeenPiece → ℕ → Read → Type 0
ReadsAs st p first (read.Told a) = IsAtOnce st p a × (a.first ≡ first)
ReadsAs st p first (read.Asks asked x) = (seen_piece asked.piece ≡ p) × (asked.settings ≡ st) × (asked.first ≡ first) × IsReadItem p (Ok x) × MayRun st x × (is_answer_built x ≡ true)
ReadsAs st p first (read.Commits asked again) = (seen_piece asked.piece ≡ p) × (asked.settings ≡ st) × (asked.first ≡ first) × AsksCommit p again × (st.held ≢ None)
ReadsAs st p first (read.Counts asked name) = (seen_piece asked.piece ≡ p) × (asked.settings ≡ st) × (asked.first ≡ first) × IsCommandRead p (Ok (commands.Status name))
ReadsAs st p first (read.Orders asked job) = (seen_piece asked.piece ≡ p) × (asked.settings ≡ st) × (asked.first ≡ first) × IsCommandRead p (Ok (command_ordering job))

-- what a CREATE TABLE asks for, or the first of all that is wrong with it
abbrev pub IsCreation : CreateTable → Result DefineRun Refusal → Type 0
IsCreation t (Ok run) = (table_faults t ≡ []) × (run.definition ≡ d.Table (new_table t)) × (run.state ≡ defines.Defining) × IsNewTable (new_table t)
IsCreation t (Err r) = (r ≡ refusal.Memory) ⊎ ((fault : BindFault) × IsFirstBindFault (table_faults t) fault × (r ≡ bind_refusal fault))

-- only a CREATE TABLE is bound before its first call
abbrev pub IsCreationIf : Statement → Option (Result DefineRun Refusal) → Type 0
IsCreationIf (s.CreateTable t) (Some r) = IsCreation t r
IsCreationIf (s.CreateTable t) None = ⊥
IsCreationIf x (Some r) = ⊥
IsCreationIf x None = Unit {0}

-- what comes of a batch of one change of this table
abbrev pub IsBatchOfOne : Table → TableId → Change → Next → Type 0
IsBatchOfOne x t c (next.Change run room) = (run.table ≡ t) × (run.changes ≡ c ∷ []) × (run.state ≡ batches.Beginning) × IsChangeOf x c × HasRoomForOne room
IsBatchOfOne x t c (next.Define run) = ⊥
IsBatchOfOne x t c (next.Select run) = ⊥
IsBatchOfOne x t c (next.Delete run) = ⊥
IsBatchOfOne x t c (next.Tell r) = r ≡ reply.Refused refusal.Memory

-- the change of an UPSERT of a row of this table, or the first of all that is wrong with it
abbrev pub IsUpsertChange : Found → Statement → Result Change Refusal → Type 0
IsUpsertChange f x (Ok c) = (length f.table.columns ≤ 255) × ((u : Upsert) × (x ≡ s.Upsert u) × (upsert_faults f.table u ≡ []) × (c ≡ upsert_change f.table u))
IsUpsertChange f x (Err r) = (r ≡ refusal.Memory) ⊎ ((fault : BindFault) × IsFirstBindFault (faults_in f x) fault × (r ≡ bind_refusal fault))

-- what is held after one change more, or why it is the same
abbrev pub AddsChange : Table → Option HeldData → Change → Option HeldData → Result (Unit {0}) HoldFault → Type 0
AddsChange t o c o' (Ok u) = HoldsNow t c o o'
AddsChange t o c o' (Err unheld.Rows) = (o' ≡ o) × IsFullOf t c o
AddsChange t o c o' (Err unheld.Memory) = o' ≡ o

-- what is told of so many rows that are held, or aren't
abbrev pub held_reply : ℕ → Result (Unit {0}) HoldFault → Reply
held_reply rows (Ok u) = reply.Count rows Held
held_reply rows (Err unheld.Rows) = reply.Refused (refusal.Limit bound.Rows)
held_reply rows (Err unheld.Memory) = reply.Refused refusal.Memory

-- what is told of the plan of a query
abbrev pub IsExplanation : Found → Option ℕ → Query → Reply → Type 0
IsExplanation f point x r = (r ≡ reply.Refused refusal.Memory) ⊎ (((p : Plan) × plans.AnswersPlan f point x (Ok p) × (r ≡ reply.Explained (explained p))) ⊎ (plans.AnswersPlan f point x (Err IndexJoin) × (r ≡ reply.Refused refusal.IndexJoin)))

abbrev pub IsTold : Option ℕ → Found → Statement → Reply → Type 0
IsTold scn f (s.DropIndex i) r = (r ≡ reply.Refused refusal.Memory) ⊎ (((fault : BindFault) × IsFirstBindFault (faults_in f (s.DropIndex i)) fault × (r ≡ reply.Refused (bind_refusal fault)))
    ⊎ ((i.if_exists ≡ true) × (index_id_named f.indexes i.name ≡ None) × (r ≡ reply.Defined defined.IndexAbsent)))
IsTold scn f (s.Explain q) r = (r ≡ reply.Refused refusal.Memory) ⊎ (((fault : BindFault) × IsFirstBindFault (faults_in f (s.Explain q)) fault × (r ≡ reply.Refused (bind_refusal fault)))
    ⊎ ((select_faults f.table.columns q ≡ []) × ((x : Query) × IsQuery f.table q x × IsExplanation f (point_of scn) x r)))
IsTold scn f x r = (r ≡ reply.Refused refusal.Memory) ⊎ ((fault : BindFault) × IsFirstBindFault (faults_in f x) fault × (r ≡ reply.Refused (bind_refusal fault)))

-- what comes of a query on this table
abbrev pub IsPlannedOf : Table → Option ℕ → Query → Next → Type 0
IsPlannedOf t scn q (next.Select run) = (run.scan.query ≡ record { table = t; asked = asked_of q }) × (run.scan.scn ≡ scn) × scanning.IsQueryNew run.scan.state
IsPlannedOf t scn q (next.Tell r) = r ≡ reply.Refused refusal.Memory
IsPlannedOf t scn q n = ⊥

-- what comes of the condition of a DELETE of rows of this table
abbrev pub IsDeletionOf : Table → Option Bound → Next → Type 0
IsDeletionOf t filter (next.Delete run) = deleting.IsDeleteNew (planned_for t filter) run.state
IsDeletionOf t filter (next.Tell r) = r ≡ reply.Refused refusal.Memory
IsDeletionOf t filter n = ⊥

-- an index that is made is one of this table
abbrev pub IsFitFor : Table → Definition → Type 0
IsFitFor t (d.Index what) = (what.table ≡ t.id) × IsNewIndex t what
IsFitFor t e = Unit {0}

-- what comes of a statement whose table was found
abbrev pub IsNext : Option ℕ → Found → Statement → Next → Type 0
IsNext scn f x (next.Change run room) = (u : Upsert) × (x ≡ s.Upsert u) × (upsert_faults f.table u ≡ []) × (run.table ≡ f.table.id) × (run.changes ≡ one_change f u) × (run.state ≡ batches.Beginning) × IsChangeOf f.table (upsert_change f.table u) × HasRoomForOne room
IsNext scn f x (next.Define run) = (faults_in f x ≡ []) × (definition_asked f x ≡ Some run.definition) × (run.state ≡ defines.Defining) × IsFitFor f.table run.definition
IsNext scn f x (next.Select run) = (q : Select) × (x ≡ s.Select q) × IsAskedOf f q run.scan.query × (run.scan.scn ≡ scn) × scanning.IsQueryNew run.scan.state × IsScn scn
IsNext scn f x (next.Delete run) = (y : Delete) × (x ≡ s.Delete y) × (delete_faults f.table.columns y ≡ []) × deleting.IsDeleteNew (deletion_query f y) run.state
IsNext scn f x (next.Tell r) = IsTold scn f x r

-- the state in which a statement goes on whose table was found
abbrev pub FollowsTo : Option ℕ → Statement → Found → ItemState → Type 0
FollowsTo scn x f (state.Finding y) = ⊥
FollowsTo scn x f (state.Changing y run room) = (y ≡ x) × IsNext scn f x (next.Change run room)
FollowsTo scn x f (state.Defining y run) = (y ≡ x) × IsNext scn f x (next.Define run)
FollowsTo scn x f (state.Building y run) = ⊥
FollowsTo scn x f (state.Selecting y run) = (y ≡ x) × IsNext scn f x (next.Select run)
FollowsTo scn x f (state.Deleting y run) = (y ≡ x) × IsNext scn f x (next.Delete run)
FollowsTo scn x f (state.Seeking y run) = ⊥
FollowsTo scn x f (state.Committing again run) = ⊥
FollowsTo scn x f (state.Counting name run) = ⊥
FollowsTo scn x f (state.Ordering run) = ⊥

abbrev pub FollowsFound : Asked → Statement → Found → ItemTurn → Type 0
FollowsFound asked x f (turn.Stepped r) = (r.asked ≡ asked) × FollowsTo asked.settings.scn x f r.state
FollowsFound asked x f (turn.Waiting r) = ⊥
FollowsFound asked x f (turn.Over a) = (a.first ≡ asked.first) × ((r : Reply) × IsTold asked.settings.scn f x r × SaysOnly a r asked.settings)

-- what was held is to be committed before
abbrev pub GoesToCommit : Asked → TableId → ItemState → Type 0
GoesToCommit asked t (state.Committing again run) = (again ≡ true) × (run ≡ committing.Finding) × ((h : HeldData) × (asked.settings.held ≡ Some h) × (t ≢ h.table))
GoesToCommit asked t st = ⊥

-- what comes of one change more of the table
abbrev pub Keeps : Asked → Table → Change → ItemTurn → Type 0
Keeps asked t c (turn.Stepped r) = (r.asked ≡ asked) × GoesToCommit asked t.id r.state
Keeps asked t c (turn.Waiting r) = ⊥
Keeps asked t c (turn.Over a) = (a.first ≡ asked.first) × (SaysRefused a refusal.Memory asked.settings ⊎ (((st' : Settings) × IsHolding t c asked.settings st' × SaysOnly a (reply.Count 1 Held) st') ⊎ (IsFullOf t c asked.settings.held × SaysRefused a (refusal.Limit bound.Rows) asked.settings)))

-- what comes of an UPSERT whose table was found, where its row is held
abbrev pub Holds : Asked → Statement → Found → ItemTurn → Type 0
Holds asked x f t = ((a : Answered) × (t ≡ turn.Over a) × (a.first ≡ asked.first) × (SaysRefused a refusal.Memory asked.settings ⊎ ((fault : BindFault) × IsFirstBindFault (faults_in f x) fault × SaysRefused a (bind_refusal fault) asked.settings)))
    ⊎ ((u : Upsert) × (x ≡ s.Upsert u) × (upsert_faults f.table u ≡ []) × Keeps asked f.table (upsert_change f.table u) t)

abbrev pub IsOneRow : Asked → Receipt → Answered → Type 0
IsOneRow asked r a = (a.first ≡ asked.first) × ((a.reply ≡ reply.Count 1 Affected) × (a.receipts ≡ r ∷ []) × (a.places ≡ []) × (a.after ≡ next_is.Next asked.settings))

abbrev pub IsChanged : Asked → Statement → Result Receipt BatchFault → Answered → Type 0
IsChanged asked x (Ok r) a = IsOneRow asked r a
IsChanged asked x (Err f) a = (a.first ≡ asked.first) × (SaysRefused a (batch_refusal (table_named x) f) asked.settings ⊎ (SaysRefused a refusal.Memory asked.settings × (f ≡ unmade.NoTable)))

abbrev pub IsDefined : Asked → Statement → Result Made DefineFault → Answered → Type 0
IsDefined asked x (Ok m) a = (a.first ≡ asked.first) × SaysOnly a (reply.Defined (definition_word x)) asked.settings
IsDefined asked x (Err f) a = (a.first ≡ asked.first) × (SaysOnly a (undefined x f) asked.settings ⊎ SaysRefused a refusal.Memory asked.settings)

abbrev pub IsBuilt : Asked → Statement → Result Made BuildFault → Answered → Type 0
IsBuilt asked x (Ok m) a = (a.first ≡ asked.first) × SaysOnly a (reply.Defined (definition_word x)) asked.settings
IsBuilt asked x (Err why) a = (a.first ≡ asked.first) × (SaysOnly a (not_built x why) asked.settings ⊎ SaysRefused a refusal.Memory asked.settings)

-- the build that follows a definition that was made
abbrev pub IsBuildOf : Definition → Made → Option BuildRun → Type 0
IsBuildOf e m None = to_build e ≡ None
IsBuildOf e m (Some run) = (t : TableId) × (to_build e ≡ Some t) × building.IsBuildNew t (index_id_made m) run

abbrev pub IsBuildBehind : Statement → Definition → Made → ItemState → Type 0
IsBuildBehind x e m (state.Building y run) = (y ≡ x) × IsBuildOf e m (Some run)
IsBuildBehind x e m st = ⊥

-- what comes of a definition that was made
abbrev pub GoesOnBehind : Asked → Statement → Definition → Made → ItemTurn → Type 0
GoesOnBehind asked x e m (turn.Stepped r) = (r.asked ≡ asked) × IsBuildBehind x e m r.state
GoesOnBehind asked x e m (turn.Waiting r) = ⊥
GoesOnBehind asked x e m (turn.Over a) = (to_build e ≡ None) × IsDefined asked x (Ok m) a

abbrev pub IsSelection : Asked → Statement → Result Selected QueryFault → Answered → Type 0
IsSelection asked x (Ok r) a = SaysRows a r asked.settings
IsSelection asked x (Err f) a = (a.first ≡ asked.first) × (SaysRefused a (query_refusal (table_named x) f) asked.settings ⊎ SaysRefused a refusal.Memory asked.settings)

-- what is told of the end of a DELETE
abbrev pub TellsEnd : Statement → Result Removed DeleteFault → Reply → Type 0
TellsEnd x (Ok m) r = r ≡ reply.Count m.rows Affected
TellsEnd x (Err (undeleted.Unread f)) r = (r ≡ reply.Refused (query_refusal (table_named x) f)) ⊎ (r ≡ reply.Refused refusal.Memory)
TellsEnd x (Err (undeleted.Unmade f)) r = StopsDelete r (table_named x) f

abbrev pub IsDeletion : Asked → Statement → Deleted → Answered → Type 0
IsDeletion asked x d a = (a.first ≡ asked.first) × TellsEnd x d.end a.reply × (a.receipts ≡ d.receipts.items) × (a.places ≡ []) × (a.after ≡ next_is.Next asked.settings)

-- what is told of the end of a commit
abbrev pub CommitTold : Asked → HeldData → (again : Bool) → Result (Vec Receipt Global) BatchFault → Answered → Type 0
CommitTold asked h again (Ok rs) a = (a.reply ≡ reply.Count (length h.changes) Affected) × (a.receipts ≡ rs.items) × (a.places ≡ []) × (a.after ≡ after_commit again (emptied asked.settings))
CommitTold asked h again (Err fault) a = StopsDelete a.reply h.name fault × (a.receipts ≡ []) × (a.places ≡ []) × (a.after ≡ next_is.Next (emptied asked.settings))

abbrev pub IsCommitted : Asked → (again : Bool) → Result (Vec Receipt Global) BatchFault → Answered → Type 0
IsCommitted asked again r a = (a.first ≡ asked.first) × ((h : HeldData) × (asked.settings.held ≡ Some h) × CommitTold asked h again r a)

-- what is told of the end of a status
abbrev pub IsCounted : Asked → List ℕ → Result Status CountFault → Answered → Type 0
IsCounted asked name (Ok x) a = (a.first ≡ asked.first) × SaysOnly a (reply.Status x) asked.settings
IsCounted asked name (Err f) a = (a.first ≡ asked.first) × (SaysRefused a (count_refusal name f) asked.settings ⊎ SaysRefused a refusal.Memory asked.settings)

-- what is told of the end of an order
abbrev pub IsOrdered : Asked → Ordered → Result (Unit {0}) OrderFault → Answered → Type 0
IsOrdered asked job (Ok u) a = (a.first ≡ asked.first) × SaysOnly a (order_reply job) asked.settings
IsOrdered asked job (Err f) a = (a.first ≡ asked.first) × SaysRefused a (order_refusal f) asked.settings
