use Rattle.std.proofs.Common.{◌≡◌, length, take, true}
use Rattle.std.specs.List.{AllByRecursion}
use Rattle.px_calls.specs.declared.status.Ordered.TheVariants as jobs
use Rattle.px_region.specs.Ordered.{IsFlushOrdered}
use Rattle.px_server.specs.Upkeep.{IsOrderedIndex, IsWantedIndex, Settles}
use Rattle.px_server.proofs.upkeep.order_table.Given as goal

abbrev pub invariant-loop-place : goal.invariant-loop-place
invariant-loop-place g l = ((disk : g.row.D.Denot) → Settles g.D.Disk disk l.fn.group l.group)
    × (IsFlushOrdered l.group.rows × ((length l.group.indexes.items ≡ length l.fn.group.indexes.items) × (AllByRecursion IsOrderedIndex (take l.place l.group.indexes.items) × (l.job ≡ jobs.CompactAll → (l.group.rows.wanted ≡ true) × AllByRecursion IsWantedIndex (take l.place l.group.indexes.items)))))
