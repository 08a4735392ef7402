use Rattle.std.proofs.Common.{◌≡◌, length, take}
use Rattle.std.specs.List.{AllByRecursion}
use Rattle.px_calls.specs.declared.status.Ordered.TheVariants as jobs
use Rattle.px_server.specs.Upkeep.{AllSettle, IsOrderedTable, IsWantedTable}
use Rattle.px_server.proofs.upkeep.order_all.Given as goal

abbrev pub invariant-loop-place : goal.invariant-loop-place
invariant-loop-place g l = ((disk : g.row.D.Denot) → AllSettle g.D.Disk disk l.fn.groups l.groups) × ((length l.groups ≡ length l.fn.groups) × (AllByRecursion IsOrderedTable (take l.place l.groups) × (l.job ≡ jobs.CompactAll → AllByRecursion IsWantedTable (take l.place l.groups))))
