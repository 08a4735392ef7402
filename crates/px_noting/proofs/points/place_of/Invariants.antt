use Rattle.std.proofs.Common.{◌<◌, drop}
use Rattle.px_group.specs.Group.{points_in}
use Rattle.px_noting.proofs.points.place_of.Given as goal

abbrev pub invariant-loop-place : goal.invariant-loop-place
invariant-loop-place l = 0 < points_in l.seat l.stamp (drop l.place l.points)
