use Rattle.px_opening.proofs.heights.find_region.Given as goal

abbrev pub invariant-loop-region : goal.invariant-loop-region
invariant-loop-region l = Unit {0}
