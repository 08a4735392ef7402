use Rattle.std.proofs.Common.{◌≡◌, ◌++◌, map, take}
use Rattle.std.specs.Prelude.{IsPermutation, filter}
use Rattle.std.specs.List.{All}
use Rattle.px_recovery.specs.Tables.{indexes_of}
use Rattle.px_opening.specs.Opened.{IsPartRead, index_of_region, is_standing, region_in}
use Rattle.px_opening.proofs.parts.take_indexes.Given as goal

abbrev pub invariant-loop-index : goal.invariant-loop-index
invariant-loop-index l = record {
  indexes : map index_of_region l.parts.items ≡ filter is_standing (indexes_of l.table.id.0 (take l.index-index l.indexes));
  moved : IsPermutation l.initial.regions.items (map region_in l.parts.items ++ l.regions.items);
  parts : All (IsPartRead l.table) l.parts.items;
}
