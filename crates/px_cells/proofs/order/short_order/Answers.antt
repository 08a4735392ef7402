use Rattle.std.proofs.Common.{◌∙◌, arith}
use Rattle.px_cells.proofs.KeyOrders.{by_byte, by_lengths, fewer}
use Rattle.px_cells.proofs.order.short_order.Goals as goal

pub returns-then-a-at : goal.returns-then-a-at
returns-then-a-at c = c.unequal.ensures ∙ by_byte c.args.a.now c.args.b.now c.loop-at.at (omega arith) (omega arith) c.loop-at.invariant c.if-a-at.true

pub returns : goal.returns
returns c = by_lengths c.args.a.now c.args.b.now c.args.both _ c.requires (fewer c.args.a.now c.args.b.now _ _ (omega arith) c.loop-at.invariant) c.cmp.ensures
