use Rattle.std.proofs.Common.{◌≡◌, drop}
use Rattle.px_raising.specs.Turning.{below_batches}
use Rattle.px_raising.proofs.raising.below.Given as goal

abbrev pub invariant-loop-begun : goal.invariant-loop-begun
invariant-loop-begun l = below_batches (drop l.begun-index l.batches) l.least ≡ below_batches l.batches l.fn.most
