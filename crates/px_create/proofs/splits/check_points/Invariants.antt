use Rattle.std.proofs.Common.{◌≡◌, None, drop}
use Rattle.std.specs.Option.{option_copied}
use Rattle.px_create.specs.Tables.{points_faults}
use Rattle.px_create.proofs.splits.check_points.Given as goal

abbrev pub invariant-loop-index : goal.invariant-loop-index
invariant-loop-index l = points_faults l.column None l.literals ≡ points_faults l.column (option_copied l.before) (drop l.index l.literals)
