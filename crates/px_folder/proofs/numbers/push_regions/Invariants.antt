use Rattle.std.proofs.Common.{◌≡◌, ◌++◌, map, take}
use Rattle.px_folder.proofs.numbers.push_regions.Given as goal

abbrev pub invariant-loop-region : goal.invariant-loop-region
invariant-loop-region l = l.numbers.items ≡ l.initial.numbers.items ++ map (λ r. r.number) (take l.region-index l.regions)
