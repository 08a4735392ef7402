use Rattle.std.proofs.Common.{◌-◌, ◌<◌, ℕ}
use Rattle.px_pieces.specs.Taking.{IsPartWay}
use Rattle.px_schema.specs.Parts.{no_region, region}
use Rattle.px_schema.proofs.list.regions_from_place.Given as goal

abbrev pub invariant-loop-taken : goal.invariant-loop-taken
invariant-loop-taken l = IsPartWay no_region (λ (left most : ℕ). region most) (λ most r. 65535) l.count 0 l.bytes l.at l.list.items (l.count - l._taken) l.most l.end × (l.most < 65536)
