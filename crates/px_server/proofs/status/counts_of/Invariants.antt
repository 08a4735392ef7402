use Rattle.std.proofs.Common.{◌≡◌, map, take}
use Rattle.std.specs.List.{All}
use Rattle.px_recovery.specs.Tables.{indexes_of}
use Rattle.px_server.specs.Counts.{CountsKeys, bare, count_as}
use Rattle.px_server.proofs.status.counts_of.Given as goal

abbrev pub invariant-loop-index : goal.invariant-loop-index
invariant-loop-index l = record {
  indexes : map bare l.counts.items ≡ map count_as (indexes_of l.table.0 (take l.index-index l.indexes));
  keys : All (CountsKeys l.group) l.counts.items;
}
