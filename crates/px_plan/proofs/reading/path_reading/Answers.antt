use Rattle.px_plan.proofs.Columns.{told_is_for, told_short}
use Rattle.px_plan.proofs.reading.path_reading.Goals as goal

pub told_bounds-bounds-requires : goal.told_bounds-bounds-requires
told_bounds-bounds-requires c = told_is_for c.in_ok-told.told c.args.path.now c.args.conjuncts.now c.in_ok-told.ensures.leading

pub rank_told-rank-requires : goal.rank_told-rank-requires
rank_told-rank-requires c = told_short c.in_ok-told.told c.args.path.now c.args.conjuncts.now c.in_ok-told.ensures.leading
