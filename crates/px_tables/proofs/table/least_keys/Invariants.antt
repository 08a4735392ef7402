use Rattle.std.proofs.Common.{◌≡◌, take, map}
use Rattle.px_tables.proofs.table.least_keys.Given as goal

abbrev pub invariant-loop-region : goal.invariant-loop-region
invariant-loop-region l = l.copies.items ≡ map (λ r. r.least_key) (take l.region-index l.regions)
