use Rattle.std.proofs.Common.{false, refl, subst, sym}
use Rattle.std.specs.List.{AllByRecursion}
use Rattle.std.proofs.lemmas.Bool.{both_ways}
use Rattle.std.proofs.lemmas.List.{take_all}
use Rattle.px_frozen.specs.inner.Fit.{IsFit, IsWhole}
use Rattle.px_frozen.proofs.Fitting.{fit_in, whole_next, written_by}
use Rattle.px_frozen.proofs.rereading.are_written.Goals as goal

pub returns-then-not-is_fit : goal.returns-then-not-is_fit
returns-then-not-is_fit c = (
  λ t. absurd (both_ways false refl t),
  λ w. absurd (both_ways _ c.if-not-is_fit.true (c.is_fit.ensures.fit.1 (subst IsFit (sym c.cell-item.is) (fit_in c.args.cells.now c.loop-cell.cell-index c.cell-item.result w.bare w.short c.loop-cell-test.true)))),
)

pub loop-cell-preserved : goal.loop-cell-preserved
loop-cell-preserved c =
    whole_next c.args.cells.now c.loop-cell.cell-index c.cell-item.result c.loop-cell-test.true c.cell-item.is c.loop-cell.invariant (record { fit = c.is_fit.ensures.fit.0 c.if-not-is_fit.false; ranged = c.is_fit.ensures.ranged })

pub returns : goal.returns
returns c = (
  λ t. written_by c.args.cells.now (subst (AllByRecursion IsWhole) (take_all c.loop-cell.cell-index c.args.cells.now c.loop-cell-test.false) c.loop-cell.invariant) (c.is_cell_list.ensures.0 t),
  λ w. c.is_cell_list.ensures.1 w.listed,
)
