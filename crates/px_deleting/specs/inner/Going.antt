-- How a DELETE goes on without a call.
use Rattle.std.specs.Prelude.{ℕ, ◌≡◌, ◌≢◌, ◌≤◌, ◌*◌, ◌⊎◌, Ok, Err, List, [], ◌∷◌, ◌++◌, length, take, drop, vec_capacity}
use Rattle.std.specs.List.{AllByRecursion}
use Rattle.px_values.specs.declared.change.Change.{Change}
use Rattle.px_values.specs.declared.name.TableId.{TableId}
use Rattle.px_calls.specs.declared.ticket.Receipt.{Receipt}
use Rattle.px_calls.specs.Requires.{IsChangeOf}
use Rattle.px_batch.specs.declared.batch.BatchFault.{BatchFault}
use Rattle.px_batch.specs.declared.batch.BatchFault.TheVariants as unmade
use Rattle.px_batch.specs.declared.batch.BatchState.TheVariants as batches
use Rattle.px_batch.specs.declared.run.BatchRun.{BatchRun}
use Rattle.px_planned.specs.declared.planned.Planned.{Planned}
use Rattle.px_scan.specs.declared.answer.QueryFault.{QueryFault}
use Rattle.px_scan.specs.declared.answer.QueryFault.TheVariants as unread
use Rattle.px_select.specs.declared.run.Selected.{Selected}
use Rattle.px_removals.specs.Removals.{AreRemovals}
use Rattle.px_deleting.specs.declared.deleted.DeleteFault.TheVariants as fault
use Rattle.px_deleting.specs.declared.deleted.DeleteTurn.{DeleteTurn}
use Rattle.px_deleting.specs.declared.deleted.DeleteTurn.TheVariants as turn
use Rattle.px_deleting.specs.declared.machine.DeleteState.{DeleteState}
use Rattle.px_deleting.specs.declared.machine.DeleteState.TheVariants as state
use Rattle.px_deleting.specs.declared.machine.Left.{Left}

-- no row was removed
abbrev pub IsUnread : QueryFault → DeleteTurn → Type 0
IsUnread f (turn.Over d) = (d.receipts.items ≡ []) × (d.end ≡ Err (fault.Unread f))
IsUnread f t = ⊥

-- a batch is not made
abbrev pub IsStopped : List Receipt → BatchFault → DeleteTurn → Type 0
IsStopped rs f (turn.Over d) = (d.receipts.items ≡ rs) × (d.end ≡ Err (fault.Unmade f))
IsStopped rs f t = ⊥

-- all is removed
abbrev pub IsWhole : Left → DeleteTurn → Type 0
IsWhole left (turn.Over d) = (d.receipts.items ≡ left.receipts.items) × (d.end ≡ Ok (record { rows = left.rows; first = left.first }))
IsWhole left t = ⊥

-- the next part of the changes is to be begun as a batch, and these are left behind it
pub record IsNextRun (t : TableId) (cs : List Change) (run : BatchRun) (left : Left) : Type 0 where
  pub some : cs ≢ []
  pub table : run.table ≡ t
  pub part : run.changes ≡ take 1000 cs
  pub beginning : run.state ≡ batches.Beginning
  pub left_table : left.table ≡ t
  pub behind : left.changes.items ≡ drop 1000 cs

-- what comes of the changes that remove what was found
abbrev pub IsAfterFound : TableId → List Change → ℕ → DeleteState → DeleteTurn → Type 0
IsAfterFound t cs first (state.Removing run left) turn.Stepped = IsNextRun t cs run left × (left.receipts.items ≡ []) × (length cs ≤ 1000 * vec_capacity left.receipts) × (left.rows ≡ length cs) × (left.first ≡ first)
IsAfterFound t cs first state.Over (turn.Over d) = (d.receipts.items ≡ []) × (((cs ≡ []) × (d.end ≡ Ok (record { rows = 0; first = first }))) ⊎ (d.end ≡ Err (fault.Unread unread.Memory)))
IsAfterFound t cs first new t' = ⊥

-- and of the answer
abbrev pub IsAfterAnswer : Planned → Selected → DeleteState → DeleteTurn → Type 0
IsAfterAnswer p a new t =
    ((cs : List Change) × AreRemovals p.table.key a.shown.rows cs × AllByRecursion (IsChangeOf p.table) cs × IsAfterFound p.table.id cs a.first new t)
    ⊎ ((new ≡ state.Over) × IsUnread unread.Memory t)

-- and of a batch that has ended
abbrev pub IsAfterBatch : Left → Receipt → DeleteState → DeleteTurn → Type 0
IsAfterBatch left r (state.Removing run new) turn.Stepped =
    IsNextRun left.table left.changes.items run new × (new.receipts.items ≡ left.receipts.items ++ r ∷ []) × (vec_capacity new.receipts ≡ vec_capacity left.receipts) × (new.rows ≡ left.rows) × (new.first ≡ left.first)
IsAfterBatch left r state.Over (turn.Over d) =
    (d.receipts.items ≡ left.receipts.items ++ r ∷ [])
    × (((left.changes.items ≡ []) × (d.end ≡ Ok (record { rows = left.rows; first = left.first }))) ⊎ ((left.changes.items ≢ []) × (d.end ≡ Err (fault.Unmade unmade.Memory))))
IsAfterBatch left r new t = ⊥
