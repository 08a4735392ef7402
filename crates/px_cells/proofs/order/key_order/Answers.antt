use Rattle.std.proofs.Common.{◌∙◌, ◌-◌, arith}
use Rattle.px_cells.proofs.KeyOrders.{Alike, alike_by_word, by_lengths, by_word, fewer}
use Rattle.px_cells.proofs.order.key_order.Goals as goal

pub returns-then-x-y : goal.returns-then-x-y
returns-then-x-y c =
    c.unequal.ensures ∙ by_word c.args.a.now c.args.b.now c.type_inv.a c.type_inv.b c.loop-at.at _ _ (omega arith) (omega arith) c.word-x.ensures c.word-y.ensures c.loop-at.invariant c.if-x-y.true

pub loop-at-preserved : goal.loop-at-preserved
loop-at-preserved c =
    alike_by_word c.args.a.now c.args.b.now c.type_inv.a c.type_inv.b c.loop-at.at _ _ (omega arith) (omega arith) c.word-x.ensures c.word-y.ensures c.loop-at.invariant c.if-x-y.false

pub returns-then-x-y-2 : goal.returns-then-x-y-2
returns-then-x-y-2 c =
    let h : Alike c.args.a.now c.args.b.now (c.min-both.result - 8) = fewer c.args.a.now c.args.b.now _ _ (omega arith) c.loop-at.invariant in
    c.unequal-then-x-y-2.ensures ∙ by_word c.args.a.now c.args.b.now c.type_inv.a c.type_inv.b (c.min-both.result - 8) _ _ (omega arith) (omega arith) c.word-x-2.ensures c.word-y-2.ensures h c.if-x-y-2.true

pub returns : goal.returns
returns c =
    let h : Alike c.args.a.now c.args.b.now (c.min-both.result - 8) = fewer c.args.a.now c.args.b.now _ _ (omega arith) c.loop-at.invariant in
    let all = alike_by_word c.args.a.now c.args.b.now c.type_inv.a c.type_inv.b (c.min-both.result - 8) _ _ (omega arith) (omega arith) c.word-x-2.ensures c.word-y-2.ensures h c.if-x-y-2.false in
    by_lengths c.args.a.now c.args.b.now c.min-both.result _ c.min-both.ensures (fewer c.args.a.now c.args.b.now _ _ (omega arith) all) c.cmp.ensures
