-- What one step of an item does.
use Rattle.std.specs.Prelude.{ℕ, ◌≡◌, ◌≢◌, ◌≤◌, ◌++◌, ◌⊎◌, Bool, true, false, List, [], length, None, Some, Ok}
use Rattle.px_lex.specs.Script.{SeenPiece, seen_piece}
use Rattle.px_ast.specs.declared.statement.Statement.{Statement}
use Rattle.px_ast.specs.declared.statement.Statement.TheVariants as s
use Rattle.px_ast.specs.declared.statement.Delete.{Delete}
use Rattle.px_ast.specs.declared.statement.Upsert.{Upsert}
use Rattle.px_ast.specs.declared.definition.CreateTable.{CreateTable}
use Rattle.px_tables.specs.declared.found.Found.{Found}
use Rattle.px_ast.specs.declared.statement.Select.{Select}
use Rattle.px_planned.specs.Queries.{query_of}
use Rattle.px_scan.specs.Turns as scan
use Rattle.px_select.specs.declared.run.SelectRun.{SelectRun}
use Rattle.px_deleting.specs.Deleting as deleting
use Rattle.px_deleting.specs.declared.run.DeleteRun.{DeleteRun}
use Rattle.px_bind.specs.Queries.{delete_faults}
use Rattle.px_bind.specs.Requests.{faults_in}
use Rattle.px_bind.specs.Upserts.{upsert_faults}
use Rattle.px_create.specs.Tables.{new_table, table_faults}
use Rattle.px_values.specs.declared.name.TableId.{TableId}
use Rattle.px_trail.specs.declared.entry.Act.{Act}
use Rattle.px_trail.specs.Legal.{IsLegal}
use Rattle.px_calls.specs.declared.definition.Definition.{Definition}
use Rattle.px_calls.specs.declared.definition.Definition.TheVariants as d
use Rattle.px_calls.specs.declared.definition.Made.{Made}
use Rattle.px_calls.specs.Calls.{index_id_made}
use Rattle.px_calls.specs.declared.status.Ordered.{Ordered}
use Rattle.px_calls.specs.Known.{Known, Ran, outline}
use Rattle.px_held.specs.HeldData.{HeldData}
use Rattle.px_commands.specs.declared.command.Command.TheVariants as commands
use Rattle.px_commanding.specs.Commits as commits
use Rattle.px_commanding.specs.Commits.{HasRoomForOne}
use Rattle.px_commanding.specs.Counts as counts
use Rattle.px_commanding.specs.Orders as orders
use Rattle.px_commanding.specs.declared.commit.CommitRun.{CommitRun}
use Rattle.px_commanding.specs.declared.commit.CommitRun.TheVariants as committing
use Rattle.px_commanding.specs.declared.count.CountRun.{CountRun}
use Rattle.px_commanding.specs.declared.count.CountRun.TheVariants as counting
use Rattle.px_commanding.specs.declared.order.OrderRun.{OrderRun}
use Rattle.px_commanding.specs.declared.order.OrderRun.TheVariants as ordering
use Rattle.px_batch.specs.declared.run.BatchRun.{BatchRun}
use Rattle.px_batch.specs.Turns as batch
use Rattle.px_defining.specs.declared.define.DefineRun.{DefineRun}
use Rattle.px_defining.specs.Turns as define
use Rattle.px_upkeep.specs.declared.build.BuildRun.{BuildRun}
use Rattle.px_upkeep.specs.Turns as building
use Rattle.px_item.specs.Builds.{IsBuiltBehind, StandsAs, to_build}
use Rattle.px_item.specs.declared.answered.Asked.{Asked}
use Rattle.px_item.specs.declared.answered.Settings.{Settings}
use Rattle.px_item.specs.declared.item.Begun.{Begun}
use Rattle.px_item.specs.declared.item.Begun.TheVariants as begins
use Rattle.px_item.specs.declared.item.ItemRun.{ItemRun}
use Rattle.px_item.specs.declared.item.ItemState.{ItemState}
use Rattle.px_item.specs.declared.item.ItemState.TheVariants as state
use Rattle.px_item.specs.declared.item.ItemTurn.{ItemTurn}
use Rattle.px_item.specs.declared.item.ItemTurn.TheVariants as turn
use Rattle.px_item.specs.Right.{AsksCommit, AsksToCommit, IsAskedOf, MayRun, IsAtOnce, IsBoundTo, IsCommandRead, IsCreation, IsOfNoOther, IsReadItem, IsRight, command_ordering, creates_table, definition_asked, is_none_of, one_change, order_reply, plain, deletion_query, table_named}

-- the statement was read, and may change something
pub record IsAsking (asked : Asked) (x : Statement) : Type 0 where
  pub read : IsReadItem (seen_piece asked.piece) (Ok x)
  pub free : MayRun asked.settings x

-- the batch of an UPSERT is under way
pub record IsChanging (sound : Type 0) (before : ℕ) (asked : Asked) (x : Statement) (run : BatchRun) (k : Known) : Type 0 where
  pub upsert : Upsert
  pub is : x ≡ s.Upsert upsert
  pub alone : asked.settings.autocommit ≡ true
  pub found : Found
  pub bound : IsBoundTo k.base k.seen asked.first found upsert.table
  pub right : upsert_faults found.table upsert ≡ []
  pub table : run.table ≡ found.table.id
  pub changes : run.changes ≡ one_change found upsert
  pub fits : batch.FitsBatch sound run.table run.changes run.state k
  pub going : batch.IsBatchGoing run.state
  pub since : batch.IsBatchSince before run.state k

-- what an index or a DROP asks for is being defined
pub record IsDefining (sound : Type 0) (asked : Asked) (x : Statement) (run : DefineRun) (k : Known) : Type 0 where
  pub found : Found
  pub bound : IsBoundTo k.base k.seen asked.first found (table_named x)
  pub right : faults_in found x ≡ []
  pub definition : definition_asked found x ≡ Some run.definition
  pub fits : define.FitsDefinition sound run.definition run.state k
  pub going : define.IsDefinitionGoing run.state

-- a CREATE TABLE is under way
pub record IsCreating (sound : Type 0) (x : Statement) (run : DefineRun) (k : Known) : Type 0 where
  pub create : CreateTable
  pub is : x ≡ s.CreateTable create
  pub whole : is_none_of create.splits ≡ true
  pub right : table_faults create ≡ []
  pub definition : run.definition ≡ d.Table (new_table create)
  pub fits : define.FitsDefinition sound run.definition run.state k
  pub going : define.IsDefinitionGoing run.state

-- the definition was made, and its index is being built; this was done for it
pub record IsBuilding (sound : Type 0) (asked : Asked) (own : List Act) (x : Statement) (run : BuildRun) (k : Known) : Type 0 where
  pub found : Found
  pub bound : IsBoundTo k.base k.seen asked.first found (table_named x)
  pub right : faults_in found x ≡ []
  pub definition : Definition
  pub asks : definition_asked found x ≡ Some definition
  pub table : TableId
  pub builds : to_build definition ≡ Some table
  pub made : Made
  pub rest : List Act
  pub behind : IsBuiltBehind asked.first definition made own rest k
  pub stands : StandsAs definition made k
  pub legal : IsLegal k.base k.seen
  pub fits : building.FitsBuild sound made.at table (index_id_made made) rest run k

-- a SELECT is under way
pub record IsSelecting (sound : Type 0) (before : ℕ) (asked : Asked) (x : Statement) (run : SelectRun) (k : Known) : Type 0 where
  pub select : Select
  pub is : x ≡ s.Select select
  pub found : Found
  pub bound : IsBoundTo k.base k.seen before found select.table
  pub planned : IsAskedOf found select run.scan.query
  pub scn : run.scan.scn ≡ asked.settings.scn
  pub fits : scan.FitsScan sound (query_of run.scan.query) run.scan.scn run.scan.state k
  pub going : scan.IsQueryGoing run.scan.state
  pub since : scan.IsQuerySince before run.scan.state k
  pub first : scan.IsQuerySince asked.first run.scan.state k

-- a DELETE is under way, and this was done for it: the changes of its finished batches stand in the trail alone
pub record IsDeleting (sound : Type 0) (asked : Asked) (own : List Act) (x : Statement) (run : DeleteRun) (k : Known) : Type 0 where
  pub delete : Delete
  pub is : x ≡ s.Delete delete
  pub alone : asked.settings.autocommit ≡ true
  pub found : Found
  pub bound : IsBoundTo k.base k.seen asked.first found delete.table
  pub right : delete_faults found.table.columns delete ≡ []
  pub fits : deleting.FitsDelete sound (deletion_query found delete) run.state k
  pub going : deleting.IsDeleteGoing run.state
  pub done : deleting.HasDone sound (deletion_query found delete) own run.state k
  pub since : deleting.IsDeleteSince asked.first run.state k

-- the rows of a DELETE are being found, whose removals are held then
pub record IsSeeking (sound : Type 0) (asked : Asked) (x : Statement) (run : SelectRun) (k : Known) : Type 0 where
  pub delete : Delete
  pub is : x ≡ s.Delete delete
  pub off : asked.settings.autocommit ≡ false
  pub found : Found
  pub bound : IsBoundTo k.base k.seen asked.first found delete.table
  pub right : delete_faults found.table.columns delete ≡ []
  pub places : length found.table.columns ≤ 255
  pub other : IsOfNoOther asked.settings.held found.table.id
  pub planned : run.scan.query ≡ deletion_query found delete
  pub scn : run.scan.scn ≡ None
  pub fits : scan.FitsScan sound (query_of run.scan.query) run.scan.scn run.scan.state k
  pub going : scan.IsQueryGoing run.scan.state
  pub since : scan.IsQuerySince asked.first run.scan.state k

-- what is held is being committed
pub record IsCommitting (sound : Type 0) (before : ℕ) (asked : Asked) (again : Bool) (run : CommitRun) (k : Known) : Type 0 where
  pub held : HeldData
  pub is : asked.settings.held ≡ Some held
  pub asks : AsksToCommit k asked.first asked.settings (seen_piece asked.piece) held again
  pub fits : commits.FitsCommit sound held run k
  pub since : commits.IsCommitSince before run k

-- a table is being counted
pub record IsCounting (asked : Asked) (name : List ℕ) (run : CountRun) (k : Known) : Type 0 where
  pub read : IsCommandRead (seen_piece asked.piece) (Ok (commands.Status name))
  pub fits : counts.FitsCount asked.first name run k

-- an order is given, and being done
abbrev pub IsOrdering : Asked → OrderRun → Type 0
IsOrdering asked run = IsCommandRead (seen_piece asked.piece) (Ok (command_ordering (orders.job_of run)))

abbrev pub FitsState : Type 0 → ℕ → Asked → List Act → ItemState → Known → Type 0
FitsState sound before asked own (state.Finding x) k = IsAsking asked x
FitsState sound before asked own (state.Changing x run room) k = IsAsking asked x × IsChanging sound before asked x run k × HasRoomForOne room
FitsState sound before asked own (state.Defining x run) k = IsAsking asked x × (IsDefining sound asked x run k ⊎ IsCreating sound x run k)
FitsState sound before asked own (state.Building x run) k = IsAsking asked x × IsBuilding sound asked own x run k
FitsState sound before asked own (state.Selecting x run) k = IsAsking asked x × IsSelecting sound before asked x run k
FitsState sound before asked own (state.Deleting x run) k = IsAsking asked x × IsDeleting sound asked own x run k
FitsState sound before asked own (state.Seeking x run) k = IsAsking asked x × IsSeeking sound asked x run k
FitsState sound before asked own (state.Committing again run) k = IsCommitting sound before asked again run k
FitsState sound before asked own (state.Counting name run) k = IsCounting asked name run k
FitsState sound before asked own (state.Ordering run) k = IsOrdering asked run

-- what the item has begun and not ended. What a build has done is in IsBuilding, and what a DELETE has in IsDeleting
abbrev pub HasBegun : List Act → ItemState → Type 0
HasBegun own (state.Finding x) = own ≡ []
HasBegun own (state.Changing x run room) = own ≡ batch.begun_by_batch run.table run.changes run.state
HasBegun own (state.Defining x run) = own ≡ []
HasBegun own (state.Building x run) = Unit {0}
HasBegun own (state.Selecting x run) = own ≡ scan.opened_by_query run.scan.state
HasBegun own (state.Deleting x run) = Unit {0}
HasBegun own (state.Seeking x run) = own ≡ scan.opened_by_query run.scan.state
HasBegun own (state.Committing again run) = own ≡ commits.begun_by_commit run
HasBegun own (state.Counting name run) = own ≡ []
HasBegun own (state.Ordering run) = own ≡ []

-- The state is as the trail tells, where `own` is what the seat began, ended, opened, closed and defined for the item so far. Others' entries keep this
pub record FitsItem (sound : Type 0) (before : ℕ) (asked : Asked) (own : List Act) (st : ItemState) (k : Known) : Type 0 where
  pub begins : before ≤ asked.first
  pub within : asked.first ≤ length k.seen
  pub state : FitsState sound before asked own st k
  pub done : HasBegun own st

-- it goes on, or is over and rightly answered, where `own` is what the seat began, ended, opened, closed and defined for it so far
abbrev pub Told : Type 0 → ℕ → Asked → List Act → Known → ItemTurn → Type 0
Told sound before asked own k (turn.Stepped r) = (r.asked ≡ asked) × FitsItem sound before asked own r.state k
Told sound before asked own k (turn.Waiting r) = (r.asked ≡ asked) × FitsItem sound before asked own r.state k
Told sound before asked own k (turn.Over a) = (asked.first ≤ a.first) × (a.first ≤ length k.seen) × IsRight sound (plain k) before own asked.settings (seen_piece asked.piece) a

-- one step of an item, for which this was done before it
pub record ItemTurns (sound : Type 0) (before : ℕ) (asked : Asked) (own : List Act) (k k' : Known) (t : ItemTurn) : Type 0 where
  pub acts : List Act
  pub ran : Ran k k' acts
  pub told : Told sound before asked (own ++ outline acts) k' t

-- it is over, and told that an order of this job is done
abbrev pub TellsDone : Ordered → ItemTurn → Type 0
TellsDone job (turn.Over a) = a.reply ≡ order_reply job
TellsDone job t = ⊥

-- the state before the first step: a CREATE TABLE is bound by then
abbrev pub IsStart : Asked → ItemState → Type 0
IsStart asked (state.Finding x) = IsAsking asked x × (creates_table x ≡ false)
IsStart asked (state.Changing x run room) = ⊥
IsStart asked (state.Defining x run) = IsAsking asked x × ((t : CreateTable) × (x ≡ s.CreateTable t) × (is_none_of t.splits ≡ true) × IsCreation t (Ok run))
IsStart asked (state.Building x run) = ⊥
IsStart asked (state.Selecting x run) = ⊥
IsStart asked (state.Deleting x run) = ⊥
IsStart asked (state.Seeking x run) = ⊥
IsStart asked (state.Committing again run) = AsksCommit (seen_piece asked.piece) again × (asked.settings.held ≢ None) × (run ≡ committing.Finding)
IsStart asked (state.Counting name run) = IsCommandRead (seen_piece asked.piece) (Ok (commands.Status name)) × (run ≡ counting.Finding)
IsStart asked (state.Ordering run) = IsOrdering asked run × (run ≡ ordering.Ordering (orders.job_of run))

-- an item that has made no step
pub record IsItemBegun (st : Settings) (p : SeenPiece) (r : ItemRun) : Type 0 where
  pub piece : seen_piece r.asked.piece ≡ p
  pub settings : r.asked.settings ≡ st
  pub state : IsStart r.asked r.state

abbrev pub Begins : Settings → SeenPiece → ℕ → Begun → Type 0
Begins st p first (begins.Told a) = IsAtOnce st p a × (a.first ≡ first)
Begins st p first (begins.Under r) = IsItemBegun st p r × (r.asked.first ≡ first)
