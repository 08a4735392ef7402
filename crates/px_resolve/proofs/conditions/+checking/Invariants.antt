use Rattle.std.proofs.Common.{◌≡◌, drop}
use Rattle.std.specs.List.{flat_map}
use Rattle.px_resolve.specs.Conditions.{condition_faults}
use Rattle.px_resolve.proofs.conditions.+checking.Given as goal

abbrev pub invariant-check_parts-loop-part : goal.invariant-check_parts-loop-part
invariant-check_parts-loop-part l = flat_map (condition_faults l.check l.columns) l.parts ≡ flat_map (condition_faults l.check l.columns) (drop l.part-index l.parts)
