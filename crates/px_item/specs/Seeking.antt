-- Parts of the way of a DELETE whose removals are held.
use Rattle.std.specs.Prelude.{◌≡◌, ◌≤◌, ◌<◌, ◌⊎◌, List, [], length, Option, None, Result, Ok, Err}
use Rattle.px_values.specs.declared.change.Change.{Change}
use Rattle.px_values.specs.declared.limit.Limit.TheVariants as bound
use Rattle.px_values.specs.declared.name.TableId.{TableId}
use Rattle.px_values.specs.declared.print.CountWord.TheVariants.{Held}
use Rattle.px_ast.specs.declared.statement.Statement.{Statement}
use Rattle.px_ast.specs.declared.statement.Statement.TheVariants as s
use Rattle.px_ast.specs.declared.statement.Delete.{Delete}
use Rattle.px_tables.specs.declared.found.Found.{Found}
use Rattle.px_tables.specs.declared.table.Table.{Table}
use Rattle.px_trail.specs.Trail.{table_shape}
use Rattle.px_resolve.specs.Answers.{IsFirstBindFault}
use Rattle.px_resolve.specs.declared.fault.BindFault.{BindFault}
use Rattle.px_bind.specs.Queries.{delete_faults}
use Rattle.px_bind.specs.Requests.{faults_in}
use Rattle.px_held.specs.Held.{with_changes}
use Rattle.px_held.specs.HeldData.{HeldData, changes_in, held_with}
use Rattle.px_held.specs.declared.holding.HoldFault.{HoldFault}
use Rattle.px_held.specs.declared.holding.HoldFault.TheVariants as unheld
use Rattle.px_planned.specs.declared.planned.Planned.{Planned}
use Rattle.px_scan.specs.Turns as scan
use Rattle.px_scan.specs.declared.answer.QueryFault.{QueryFault}
use Rattle.px_select.specs.declared.run.Selected.{Selected}
use Rattle.px_removals.specs.Removals.{AreRemovals}
use Rattle.px_reply.specs.declared.refusal.Refusal.{Refusal}
use Rattle.px_reply.specs.declared.refusal.Refusal.TheVariants as refusal
use Rattle.px_reply.specs.declared.reply.Reply.TheVariants as reply
use Rattle.px_item.specs.declared.answered.Answered.{Answered}
use Rattle.px_item.specs.declared.answered.Asked.{Asked}
use Rattle.px_item.specs.declared.answered.Settings.{Settings}
use Rattle.px_item.specs.declared.item.ItemState.{ItemState}
use Rattle.px_item.specs.declared.item.ItemState.TheVariants as state
use Rattle.px_item.specs.declared.item.ItemTurn.{ItemTurn}
use Rattle.px_item.specs.declared.item.ItemTurn.TheVariants as turn
use Rattle.px_item.specs.Right.{AreTooManyOf, GoesToCommit, IsHoldingAll, IsOfNoOther, SaysOnly, SaysRefused, bind_refusal, deletion_query, query_refusal, table_named}

-- the query by which a DELETE finds the rows of this table, or the first of all that is wrong with it
abbrev pub IsSearchOf : Found → Statement → Result Planned Refusal → Type 0
IsSearchOf f x (Ok p) = (length f.table.columns ≤ 255) × ((y : Delete) × (x ≡ s.Delete y) × (delete_faults f.table.columns y ≡ []) × (p ≡ deletion_query f y))
IsSearchOf f x (Err r) = (r ≡ refusal.Memory) ⊎ ((fault : BindFault) × IsFirstBindFault (faults_in f x) fault × (r ≡ bind_refusal fault))

-- the rows are to be found by this query, or what was held of another table is to be committed before
abbrev pub SearchesIn : Asked → Statement → TableId → Planned → ItemState → Type 0
SearchesIn asked x t p (state.Seeking y run) = (y ≡ x) × IsOfNoOther asked.settings.held t × (run.scan.query ≡ p) × (run.scan.scn ≡ None) × scan.IsQueryNew run.scan.state
SearchesIn asked x t p (state.Committing again run) = GoesToCommit asked t (state.Committing again run)
SearchesIn asked x t p st = ⊥

abbrev pub Searches : Asked → Statement → TableId → Planned → ItemTurn → Type 0
Searches asked x t p (turn.Stepped r) = (r.asked ≡ asked) × SearchesIn asked x t p r.state
Searches asked x t p (turn.Waiting r) = ⊥
Searches asked x t p (turn.Over a) = ⊥

-- what comes of a DELETE whose table was found, where its removals are held
abbrev pub Seeks : Asked → Statement → Found → ItemTurn → Type 0
Seeks asked x f t = ((a : Answered) × (t ≡ turn.Over a) × (a.first ≡ asked.first) × (SaysRefused a refusal.Memory asked.settings ⊎ ((fault : BindFault) × IsFirstBindFault (faults_in f x) fault × SaysRefused a (bind_refusal fault) asked.settings)))
    ⊎ ((length f.table.columns ≤ 255) × ((y : Delete) × (x ≡ s.Delete y) × (delete_faults f.table.columns y ≡ []) × Searches asked x f.table.id (deletion_query f y) t))

-- what is held with these changes, or why it is the same
abbrev pub AddsRows : Table → Option HeldData → List Change → Option HeldData → Result (Unit {0}) HoldFault → Type 0
AddsRows t o cs o' (Ok u) = (o' ≡ held_with t o cs) × (length (with_changes (table_shape t) (changes_in o) cs) ≤ 1000)
AddsRows t o cs o' (Err unheld.Rows) = (o' ≡ o) × (1000 < length (with_changes (table_shape t) (changes_in o) cs))
AddsRows t o cs o' (Err unheld.Memory) = o' ≡ o

-- what is told of these removals of rows of the table
abbrev pub KeepsRows : Asked → Table → List Change → Answered → Type 0
KeepsRows asked t cs a = (a.first ≡ asked.first) × (SaysRefused a refusal.Memory asked.settings ⊎ (((st' : Settings) × IsHoldingAll t cs asked.settings st' × SaysOnly a (reply.Count (length cs) Held) st') ⊎ (AreTooManyOf t cs asked.settings × SaysRefused a (refusal.Limit bound.Rows) asked.settings)))

-- what is told of the rows that were found
abbrev pub KeepsFound : Asked → Table → Selected → Answered → Type 0
KeepsFound asked t r a = ((a.first ≡ asked.first) × SaysRefused a refusal.Memory asked.settings) ⊎ ((cs : List Change) × AreRemovals t.key r.shown.rows cs × KeepsRows asked t cs a)

-- what is told of the end of the search
abbrev pub IsSought : Asked → Statement → Table → Result Selected QueryFault → Answered → Type 0
IsSought asked x t (Ok r) a = KeepsFound asked t r a
IsSought asked x t (Err f) a = (a.first ≡ asked.first) × (SaysRefused a (query_refusal (table_named x) f) asked.settings ⊎ SaysRefused a refusal.Memory asked.settings)
