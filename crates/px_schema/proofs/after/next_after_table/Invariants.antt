use Rattle.std.proofs.Common.{◌≡◌, take, map}
use Rattle.px_schema.specs.Stands.{above}
use Rattle.px_schema.proofs.after.next_after_table.Given as goal

abbrev pub invariant-loop-region : goal.invariant-loop-region
invariant-loop-region l = l.least ≡ above l.next (map (λ r. r.number) (take l.region-index l.region-items))
