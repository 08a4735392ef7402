use Rattle.std.proofs.Common.{◌<◌, ◌-◌, false, length, sym, subst, refl, arith}
use Rattle.std.proofs.lemmas.Bool.{both_ways}
use Rattle.std.proofs.lemmas.List.{get_or_read}
use Rattle.px_cells.specs.CellData.{CellData}
use Rattle.px_cells.specs.Order.{Below}
use Rattle.px_cells.specs.Scan.{cell_at, no_cell}
use Rattle.px_cells.proofs.Listing.{ascending_more}
use Rattle.px_cells.proofs.RowLemmas.{below_at}
use Rattle.px_reads.proofs.Shapes.{one_ascending}
use Rattle.px_reads.proofs.order.are_sorted.Goals as goal

pub loop-i-init : goal.loop-i-init
loop-i-init c = one_ascending c.args.cells.now

pub returns-then-not-is_before : goal.returns-then-not-is_before
returns-then-not-is_before c = (
  λ t. absurd (both_ways false refl t),
  λ s.
      (let i = c.loop-i-test.true in
      let some = c.loop-i.auto.i in
      let cells = c.args.cells.now in
      let before : c.loop-i.i - 1 < length cells = omega arith in
      let a = get_or_read cells (c.loop-i.i - 1) c.index-cells-i.result before c.index-cells-i.is no_cell in
      let b = get_or_read cells c.loop-i.i c.index-cells-i-in-loop-i.result i c.index-cells-i-in-loop-i.is no_cell in
      let below = below_at cells (c.loop-i.i - 1) c.loop-i.i no_cell s (omega arith) i in
      let h = c.is_before.ensures.1 (subst (λ (x : CellData). Below x c.index-cells-i-in-loop-i.result) (sym a) (subst (λ (x : CellData). Below (cell_at cells (c.loop-i.i - 1)) x) (sym b) below)) in
      absurd (both_ways c.is_before.result c.if-not-is_before.true h)),
)

pub loop-i-preserved : goal.loop-i-preserved
loop-i-preserved c =
    let i = c.loop-i-test.true in
    let some = c.loop-i.auto.i in
    let cells = c.args.cells.now in
    let before : c.loop-i.i - 1 < length cells = omega arith in
    let a = get_or_read cells (c.loop-i.i - 1) c.index-cells-i.result before c.index-cells-i.is no_cell in
    let b = get_or_read cells c.loop-i.i c.index-cells-i-in-loop-i.result i c.index-cells-i-in-loop-i.is no_cell in
    ascending_more cells c.loop-i.i i c.loop-i.invariant
    (λ p. subst (λ (x : CellData). Below x (cell_at cells c.loop-i.i)) a (subst (λ (x : CellData). Below c.index-cells-i.result x) b (c.is_before.ensures.0 c.if-not-is_before.false)))
