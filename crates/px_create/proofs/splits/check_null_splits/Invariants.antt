use Rattle.std.proofs.Common.{◌≡◌, drop}
use Rattle.std.specs.List.{flat_map}
use Rattle.px_create.specs.Tables.{null_split}
use Rattle.px_create.proofs.splits.check_null_splits.Given as goal

abbrev pub invariant-loop-literal : goal.invariant-loop-literal
invariant-loop-literal l = flat_map (null_split l.columns l.first) l.literals ≡ flat_map (null_split l.columns l.first) (drop l.literal-index l.literals)
