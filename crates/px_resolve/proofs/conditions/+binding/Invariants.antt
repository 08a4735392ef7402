use Rattle.std.proofs.Common.{◌≡◌, map, take}
use Rattle.px_resolve.specs.Conditions.{bound_over}
use Rattle.px_resolve.proofs.conditions.+binding.Given as goal

abbrev pub invariant-bound_parts-loop-part : goal.invariant-bound_parts-loop-part
invariant-bound_parts-loop-part l = l.bounds.items ≡ map (bound_over l.columns) (take l.part-index l.parts)
