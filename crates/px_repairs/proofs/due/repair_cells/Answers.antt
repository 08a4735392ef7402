use Rattle.std.proofs.Common.{◌≡◌, List, ap, length, sym, subst, ◌∙◌, arith}
use Rattle.std.specs.List.{AllByRecursion}
use Rattle.px_cells.specs.CellData.{CellData}
use Rattle.px_cells.specs.Contents.{value_at}
use Rattle.px_cells.specs.Order.{IsApart}
use Rattle.px_indexrow.specs.Form.{FitsRowState}
use Rattle.px_indexrow.specs.Verdicts.{verdict_of}
use Rattle.px_indexrow.proofs.KeysHeld.{row_count}
use Rattle.px_keptcells.specs.Kept.{IsFitting}
use Rattle.px_rows.specs.Spelled.{row_form}
use Rattle.px_repairs.proofs.Fitting.{fix_apart, fix_fits}
use Rattle.px_repairs.proofs.due.repair_cells.Goals as goal

pub row_at-requires-clause-count : goal.row_at-requires-clause-count
row_at-requires-clause-count c = ap length c.deref.ensures.value ∙ row_count c.args.table.now c.args.doubted.now.row.items c.requires.row.fits

pub add-requires-clause-fitting : goal.add-requires-clause-fitting
add-requires-clause-fitting c =
    (let t = c.args.table.now in
    let state = c.in_ok-state.state in
    let is : state ≡ (row_form t).spelled (value_at c.args.doubted.now.cells.items) c.args.doubted.now.row.items c.args.horizon = c.in_ok-state.ensures ∙ (λ i. (row_form t).spelled (value_at (c.deref-2.ensures.value i)) (c.deref.ensures.value i) c.args.horizon) in
    let fits : FitsRowState t state = subst (FitsRowState t) (sym is) (c.requires.row.typed c.args.horizon) in
    subst (λ (l : List CellData). AllByRecursion IsFitting l) (sym c.in_ok-cells.ensures) (fix_fits t c.args.index.now c.requires.table.columns c.requires.index c.args.horizon state fits c.args.key.now c.requires.short c.args.stamp (omega arith) (verdict_of c.for_state-repair.result)))

pub add-requires-clause-apart : goal.add-requires-clause-apart
add-requires-clause-apart c =
    (let t = c.args.table.now in
    let state = c.in_ok-state.state in
    let is : state ≡ (row_form t).spelled (value_at c.args.doubted.now.cells.items) c.args.doubted.now.row.items c.args.horizon = c.in_ok-state.ensures ∙ (λ i. (row_form t).spelled (value_at (c.deref-2.ensures.value i)) (c.deref.ensures.value i) c.args.horizon) in
    let fits : FitsRowState t state = subst (FitsRowState t) (sym is) (c.requires.row.typed c.args.horizon) in
    subst (λ (l : List CellData). IsApart l) (sym c.in_ok-cells.ensures) (fix_apart t c.args.index.now c.requires.table.columns c.requires.index c.args.horizon state fits c.args.key.now c.requires.short c.args.stamp (omega arith) (verdict_of c.for_state-repair.result)))
