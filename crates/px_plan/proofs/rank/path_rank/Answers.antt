use Rattle.px_plan.proofs.Columns.{told_short}
use Rattle.px_plan.proofs.rank.path_rank.Goals as goal

pub rank_told-rank-requires : goal.rank_told-rank-requires
rank_told-rank-requires c = told_short c.in_ok-told.told c.args.path.now c.args.conjuncts.now c.in_ok-told.ensures.leading
