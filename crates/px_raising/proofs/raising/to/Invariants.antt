use Rattle.std.proofs.Common.{◌≡◌, drop}
use Rattle.px_raising.specs.Turning.{to_points}
use Rattle.px_raising.proofs.raising.to.Given as goal

abbrev pub invariant-loop-point : goal.invariant-loop-point
invariant-loop-point l = to_points (drop l.point-index l.points) l.least ≡ to_points l.points l.fn.most
