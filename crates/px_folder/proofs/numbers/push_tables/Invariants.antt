use Rattle.std.proofs.Common.{◌≡◌, ◌++◌, take}
use Rattle.std.specs.List.{flat_map}
use Rattle.px_recovery.specs.Folder.{regions_of}
use Rattle.px_folder.proofs.numbers.push_tables.Given as goal

abbrev pub invariant-loop-table : goal.invariant-loop-table
invariant-loop-table l = l.numbers.items ≡ l.initial.numbers.items ++ flat_map regions_of (take l.table-index l.tables)
