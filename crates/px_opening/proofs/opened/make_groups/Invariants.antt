use Rattle.std.proofs.Common.{◌≡◌, ℕ, map, take}
use Rattle.std.specs.Prelude.{IsPermutation}
use Rattle.std.specs.List.{All}
use Rattle.px_region.specs.Region.{RegionData}
use Rattle.px_opening.specs.Opened.{IsDataOf, IsGroupOf, regions_in, table_in_group}
use Rattle.px_opening.proofs.opened.make_groups.Given as goal

abbrev pub invariant-loop-table : goal.invariant-loop-table
invariant-loop-table l = record {
  tables : map table_in_group l.groups.items ≡ take l.table-index l.standing.tables;
  moved : IsPermutation l.initial.regions.items (regions_in l.groups.items l.regions.items);
  groups : (f : ℕ → RegionData) → All (IsDataOf f) l.initial.regions.items → All (IsGroupOf f l.standing.indexes) l.groups.items;
}
