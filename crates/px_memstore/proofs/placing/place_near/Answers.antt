use Rattle.std.proofs.Common.{◌≡◌, ◌+◌, ◌-◌, ℕ, arith, drop, refl, subst, take}
use Rattle.std.specs.List.{AllByRecursion}
use Rattle.px_cells.specs.Order.{Below}
use Rattle.px_memstore.proofs.Near.{all_before, near_below, near_from, none_behind, part_sorted}
use Rattle.px_memstore.proofs.Placed.{less_is_so, less_so_is}
use Rattle.px_memstore.proofs.placing.place_near.Goals as goal

pub place_for-requires : goal.place_for-requires
place_for-requires c = part_sorted c.args.cells.now (c.loop-step.high - c.loop-step.step + 1) (c.loop-step.high - (c.loop-step.high - c.loop-step.step + 1)) c.requires

pub place_for-requires-2 : goal.place_for-requires-2
place_for-requires-2 c = part_sorted c.args.cells.now 0 c.loop-step.high c.requires

pub loop-step-preserved : goal.loop-step-preserved
loop-step-preserved c =
    let cells = c.args.cells.now in
    let i = c.loop-step.invariant in
    let s = i.some in
    let w = i.within in
    let t = c.loop-step-test.true in
    let low = c.loop-step.high - c.loop-step.step in
    let m = c.saturating_mul-step.ensures in
    record {
      some = omega arith;
      within = omega (arith, w);
      from = none_behind cells low c.index-cells-low.result c.args.cell.now c.requires (omega (arith, s, w, t)) c.index-cells-low.is (less_is_so c.index-cells-low.result c.args.cell.now c.cell_order.result c.is_lt.result c.cell_order.ensures c.is_lt.ensures c.if-is_lt.false);
    }

pub returns-then-is_lt-clause-below : goal.returns-then-is_lt-clause-below
returns-then-is_lt-clause-below c =
    let cells = c.args.cells.now in
    let i = c.loop-step.invariant in
    let s = i.some in
    let w = i.within in
    let t = c.loop-step-test.true in
    let low = c.loop-step.high - c.loop-step.step in
    let below = less_so_is c.index-cells-low.result c.args.cell.now c.cell_order.result c.is_lt.result c.cell_order.ensures c.is_lt.ensures c.if-is_lt.true in
    near_below cells c.args.cell.now (low + 1) (c.loop-step.high - (low + 1)) c.place_for.result (low + 1 + c.place_for.result) (take (c.loop-step.high - (low + 1)) (drop (low + 1) cells)) refl refl (omega (arith, s, w, t)) c.place_for.ensures.within
    (all_before cells low c.index-cells-low.result c.args.cell.now c.requires (omega (arith, s, w, t)) c.index-cells-low.is below) c.place_for.ensures.below

pub returns-then-is_lt-clause-from : goal.returns-then-is_lt-clause-from
returns-then-is_lt-clause-from c =
    let cells = c.args.cells.now in
    let i = c.loop-step.invariant in
    let s = i.some in
    let w = i.within in
    let t = c.loop-step-test.true in
    let low = c.loop-step.high - c.loop-step.step in
    let end : c.loop-step.high ≡ low + 1 + (c.loop-step.high - (low + 1)) = omega (arith, s, t) in
    near_from cells c.args.cell.now (low + 1) (c.loop-step.high - (low + 1)) c.place_for.result (low + 1 + c.place_for.result) (take (c.loop-step.high - (low + 1)) (drop (low + 1) cells)) refl refl (omega (arith, s, w, t)) c.place_for.ensures.within c.place_for.ensures.from
    (subst (λ (n : ℕ). AllByRecursion (λ m. Below m c.args.cell.now → ⊥) (drop n cells)) end i.from)

pub returns-clause-below : goal.returns-clause-below
returns-clause-below c =
    let cells = c.args.cells.now in
    let w = c.loop-step.invariant.within in
    near_below cells c.args.cell.now 0 c.loop-step.high c.place_for-2.result c.place_for-2.result (take c.loop-step.high cells) (omega arith) refl (omega (arith, w)) c.place_for-2.ensures.within tt c.place_for-2.ensures.below

pub returns-clause-from : goal.returns-clause-from
returns-clause-from c =
    let cells = c.args.cells.now in
    let w = c.loop-step.invariant.within in
    let end : c.loop-step.high ≡ 0 + c.loop-step.high = omega arith in
    near_from cells c.args.cell.now 0 c.loop-step.high c.place_for-2.result c.place_for-2.result (take c.loop-step.high cells) (omega arith) refl (omega (arith, w)) c.place_for-2.ensures.within c.place_for-2.ensures.from
    (subst (λ (n : ℕ). AllByRecursion (λ m. Below m c.args.cell.now → ⊥) (drop n cells)) end c.loop-step.invariant.from)
