use Rattle.std.proofs.Common.{◌≡◌, ℕ, map, take}
use Rattle.std.specs.List.{All}
use Rattle.px_region.specs.Region.{RegionData}
use Rattle.px_tablefolder.specs.Folder.{greatest_horizon, greatest_in_indexes}
use Rattle.px_recovery.specs.Tables.{index_files, indexes_of}
use Rattle.px_opening.specs.Opened.{IsDataOf}
use Rattle.px_opening.proofs.heights.index_heights.Given as goal

abbrev pub invariant-loop-index : goal.invariant-loop-index
invariant-loop-index l = (f : ℕ → RegionData) → All (IsDataOf f) l.regions → (l.heights.last ≡ greatest_in_indexes (map (index_files f) (indexes_of l.number (take l.index-index l.indexes)))) × (l.heights.horizon ≡ greatest_horizon (map (index_files f) (indexes_of l.number (take l.index-index l.indexes))))
