use Rattle.std.proofs.Common.{◌≡◌, drop}
use Rattle.px_plan.specs.Answers.{by_order}
use Rattle.px_sorted.proofs.sorted.order_of.Given as goal

abbrev pub invariant-loop-place : goal.invariant-loop-place
invariant-loop-place l = by_order l.order l.a l.b ≡ by_order (drop l.place-index l.order) l.a l.b
