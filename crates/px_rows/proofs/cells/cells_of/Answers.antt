use Rattle.std.proofs.Common.{◌≡◌, ◌∙◌, List, ℕ, subst, sym, ap}
use Rattle.px_cells.specs.Contents.{value_at}
use Rattle.px_cells.specs.Order.{IsCellList}
use Rattle.px_rows.specs.Keys.{row_key}
use Rattle.px_rows.specs.inner.Found.{AreOf}
use Rattle.px_rows.specs.inner.Lists.{change_list}
use Rattle.px_rows.proofs.Lists.{change_values, change_is_list, change_own}
use Rattle.px_rows.proofs.cells.cells_of.Goals as goal

pub returns-in-Ok-clause-cells : goal.returns-in-Ok-clause-cells
returns-in-Ok-clause-cells c =
    let key : c.as_slice-2.result.now ≡ row_key c.args.table.now c.args.change.now.row = c.as_slice-2.ensures ∙ (c.in_ok-key.ensures.ok.0 ∙ ap (row_key c.args.table.now) c.as_slice.ensures) in
    ap value_at (c.in-Ok.ensures ∙ ap (λ (k : List ℕ). change_list c.args.table.now.columns k c.args.stamp c.args.change.now.what) key)
    ∙ change_values c.args.table.now c.args.change.now.row c.args.stamp c.args.change.now.what c.requires.fits.1

pub returns-in-Ok-clause-list : goal.returns-in-Ok-clause-list
returns-in-Ok-clause-list c = subst IsCellList (sym c.in-Ok.ensures) (change_is_list c.args.table.now.columns c.as_slice-2.result.now c.args.stamp c.args.change.now.what)

pub returns-in-Ok-clause-own : goal.returns-in-Ok-clause-own
returns-in-Ok-clause-own c =
    let key : c.as_slice-2.result.now ≡ row_key c.args.table.now c.args.change.now.row = c.as_slice-2.ensures ∙ (c.in_ok-key.ensures.ok.0 ∙ ap (row_key c.args.table.now) c.as_slice.ensures) in
    subst (AreOf (row_key c.args.table.now c.args.change.now.row)) (sym (c.in-Ok.ensures ∙ ap (λ (k : List ℕ). change_list c.args.table.now.columns k c.args.stamp c.args.change.now.what) key))
    (change_own c.args.table.now.columns (row_key c.args.table.now c.args.change.now.row) c.args.stamp c.args.change.now.what)
