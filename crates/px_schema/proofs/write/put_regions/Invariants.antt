use Rattle.std.proofs.Common.{◌≡◌, ◌++◌, take}
use Rattle.std.specs.List.{flat_map}
use Rattle.px_schema.specs.Spelled.{region_bytes}
use Rattle.px_schema.proofs.write.put_regions.Given as goal

abbrev pub invariant-loop-region : goal.invariant-loop-region
invariant-loop-region l = l.to.items ≡ l.initial.to.items ++ flat_map region_bytes (take l.region-index l.regions)
