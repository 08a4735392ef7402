-- How many calls are left to a batch.
use Rattle.std.specs.Prelude.{ℕ, ◌+◌, ◌==◌, List, if◌then◌else◌, length, sum_by}
use Rattle.px_calls.specs.declared.ticket.Ticket.{Ticket}
use Rattle.px_phases.specs.Batch.{BatchData}
use Rattle.px_group.specs.declared.group.Begun.{Begun}
use Rattle.px_group.specs.declared.group.Group.{Group}
use Rattle.px_group.specs.declared.group.Phase.{Phase}
use Rattle.px_group.specs.declared.group.Phase.TheVariants.{Marking, Writing, Verifying, Closing}

-- before it may end, at most: one for each index that is still to be marked, one for each whose marks are still to be closed, and one for each phase
abbrev pub calls_left_in : Phase → BatchData → ℕ
calls_left_in Marking b = 3 + length b.marks + length b.closes
calls_left_in Writing b = 2 + length b.closes
calls_left_in Verifying b = 1 + length b.closes
calls_left_in Closing b = 0

-- to a batch of this stamp
abbrev pub left_at : ℕ → Begun → ℕ
left_at s m = if m.batch.stamp == s then calls_left_in m.phase m.batch else 0

-- of this table
abbrev pub left_by : ℕ → ℕ → Group → ℕ
left_by t s g = if g.table.id.0 == t then sum_by (left_at s) g.batches.items else 0

abbrev pub calls_left : List Group → Ticket → ℕ
calls_left groups ticket = sum_by (left_by ticket.table.0 ticket.stamp) groups
