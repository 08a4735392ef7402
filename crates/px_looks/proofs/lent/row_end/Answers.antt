use Rattle.std.proofs.Common.{◌∙◌, drop, take, refl, arith, subst, sym}
use Rattle.std.proofs.lemmas.List.{take-append-drop}
use Rattle.px_cells.specs.Order.{IsAscending}
use Rattle.px_cells.proofs.Among.{ascending_left}
use Rattle.px_region.specs.Giving.{key_at}
use Rattle.px_looks.specs.inner.Lent.{IsRowEnd}
use Rattle.px_looks.proofs.Among.{key_there}
use Rattle.px_looks.proofs.Ends.{end_next, end_one, next_ends, part_ends}
use Rattle.px_looks.proofs.lent.row_end.Goals as goal

pub loop-from-init : goal.loop-from-init
loop-from-init c = record { on = omega arith; before = omega arith; within = (let w = c.requires.within in omega arith); known = key_there c.args.cells.now c.args.at c.index-cells-at.result c.requires.within c.index-cells-at.is ∙ sym c.key-key.ensures }

pub loop-from-preserved : goal.loop-from-preserved
loop-from-preserved c =
    let i = c.loop-from.invariant in
    let w = c.has_key.ensures.within c.loop-from-test.true in
    let m = c.min-step.ensures in
    record { on = (let a = i.on in let b = i.before in omega arith); before = (let a = i.on in let b = i.before in omega arith); within = omega arith; known = c.has_key.ensures.same c.loop-from-test.true }

pub halved_end-requires-clause-sorted : goal.halved_end-requires-clause-sorted
halved_end-requires-clause-sorted c =
    ascending_left (take c.loop-from.to c.args.cells.now) (drop c.loop-from.to c.args.cells.now) (subst IsAscending (sym (take-append-drop c.loop-from.to c.args.cells.now)) c.requires.sorted)

next : (c : goal.Then-to-from-eq1) → IsRowEnd c.args.cells.now c.args.at c.loop-from.to (key_at c.args.cells.now c.args.at)
next c =
    let i = c.loop-from.invariant in
    let f = key_there c.args.cells.now c.args.at c.index-cells-at.result c.requires.within c.index-cells-at.is ∙ sym c.key-key.ensures in
    next_ends c.args.cells.now c.args.at c.loop-from.from c.loop-from.to (key_at c.args.cells.now c.args.at) c.requires.sorted i.on i.before i.within refl (i.known ∙ sym f)
    (λ lt q. c.has_key.ensures.other c.loop-from-test.false lt (q ∙ f)) (let e = c.if-to-from-eq1.true in let b = i.before in omega arith)

part : (c : goal.After-halved_end) → IsRowEnd c.args.cells.now c.args.at c.halved_end.result (key_at c.args.cells.now c.args.at)
part c =
    let i = c.loop-from.invariant in
    let f = key_there c.args.cells.now c.args.at c.index-cells-at.result c.requires.within c.index-cells-at.is ∙ sym c.key-key.ensures in
    part_ends c.args.cells.now c.args.at c.loop-from.from c.loop-from.to (key_at c.args.cells.now c.args.at) c.requires.sorted i.on i.before i.within refl (i.known ∙ sym f)
    (λ lt q. c.has_key.ensures.other c.loop-from-test.false lt (q ∙ f)) c.halved_end.result c.halved_end.ensures

pub returns-then-to-from-eq1-clause-row : goal.returns-then-to-from-eq1-clause-row
returns-then-to-from-eq1-clause-row c = next c

pub returns-then-to-from-eq1-clause-one : goal.returns-then-to-from-eq1-clause-one
returns-then-to-from-eq1-clause-one c = end_one c.args.cells.now c.args.at c.loop-from.to (key_at c.args.cells.now c.args.at) (next c)

pub returns-then-to-from-eq1-clause-next : goal.returns-then-to-from-eq1-clause-next
returns-then-to-from-eq1-clause-next c = end_next c.args.cells.now c.args.at c.loop-from.to (key_at c.args.cells.now c.args.at) (next c)

pub returns-clause-row : goal.returns-clause-row
returns-clause-row c = part c

pub returns-clause-on : goal.returns-clause-on
returns-clause-on c = (part c).on

pub returns-clause-within : goal.returns-clause-within
returns-clause-within c = (part c).within

pub returns-clause-one : goal.returns-clause-one
returns-clause-one c = end_one c.args.cells.now c.args.at c.halved_end.result (key_at c.args.cells.now c.args.at) (part c)

pub returns-clause-next : goal.returns-clause-next
returns-clause-next c = end_next c.args.cells.now c.args.at c.halved_end.result (key_at c.args.cells.now c.args.at) (part c)
