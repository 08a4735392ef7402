use Rattle.std.proofs.Common.{◌≡◌, take}
use Rattle.px_trail.specs.Trail.{numbered_regions}
use Rattle.px_standing.proofs.made.regions_of.Given as goal

abbrev pub invariant-loop-place : goal.invariant-loop-place
invariant-loop-place l = l.regions.items ≡ numbered_regions l.next (take l.place l.least_keys)
