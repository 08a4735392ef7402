use Rattle.std.proofs.Common.{◌≡◌, take}
use Rattle.std.specs.Option.{option_copied}
use Rattle.px_plan.specs.Choice.{IsBest, candidates, rank_of}
use Rattle.px_plan.proofs.best.best.Given as goal

abbrev pub invariant-loop-index : goal.invariant-loop-index
invariant-loop-index l = record {
  best : IsBest (rank_of l.found.table l.conjuncts l.order) (candidates l.found.table l.point l.columns (take l.index-index l.indexes)) (option_copied l.best);
  rank : l.best_rank ≡ rank_of l.found.table l.conjuncts l.order (option_copied l.best);
}
