use Rattle.std.proofs.Common.{take}
use Rattle.px_ranges.specs.inner.Cuts.{FitsFirst}
use Rattle.px_ranges.proofs.bounds.all_fit.Given as goal

abbrev pub invariant-loop-index : goal.invariant-loop-index
invariant-loop-index l = FitsFirst l.columns (take l.index l.values)
