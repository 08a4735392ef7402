use Rattle.std.proofs.Common.{◌≡◌, ◌++◌, map, take}
use Rattle.px_plan.proofs.naming.add_order.Given as goal

abbrev pub invariant-loop-part : goal.invariant-loop-part
invariant-loop-part l = l.to.items ≡ l.fn.to.items ++ map (λ p. p.column) (take l.part-index l.order)
