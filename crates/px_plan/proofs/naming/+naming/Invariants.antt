use Rattle.std.proofs.Common.{◌≡◌, ◌++◌, take}
use Rattle.std.specs.List.{flat_map}
use Rattle.px_plan.specs.Naming.{columns_in}
use Rattle.px_plan.proofs.naming.+naming.Given as goal

abbrev pub invariant-add_conditions-loop-part : goal.invariant-add_conditions-loop-part
invariant-add_conditions-loop-part l = l.to.items ≡ l.fn.to.items ++ flat_map columns_in (take l.part-index l.parts)
