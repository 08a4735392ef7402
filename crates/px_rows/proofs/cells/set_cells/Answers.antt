use Rattle.std.proofs.Common.{◌∙◌, sym, subst, List}
use Rattle.px_tables.specs.declared.table.TableColumn.{TableColumn}
use Rattle.px_values.specs.Types.{HasType}
use Rattle.px_rows.specs.Keys.{column_in}
use Rattle.px_rows.proofs.Lists.{set_first, set_more, set_same}
use Rattle.px_rows.proofs.Spelled.{assigned_fits}
use Rattle.px_rows.proofs.cells.set_cells.Goals.{in-Some+in_ok-column_cell+in_ok-push-2, in_default}
use Rattle.px_rows.proofs.cells.set_cells.Goals as goal

pub loop-place-init : goal.loop-place-init
loop-place-init c = set_first c.as_slice-columns.result.now c.args.key.now c.args.stamp c.args.assignments.now c.new-cells.result c.push.new.self c.in_ok-cell.field-0 c.new-cells.ensures c.in_ok-cell.ensures c.in_ok-push.ensures.ok

pub column_cell-requires-clause-has_type : goal.column_cell-requires-clause-has_type
column_cell-requires-clause-has_type c =
    subst (λ (x : List TableColumn). HasType (column_in x c.loop-place.place).column_type c.in-Some.value.now) (sym c.as_slice-columns.ensures)
    (assigned_fits c.args.table.now c.args.assignments.now c.requires.fits c.loop-place.place c.in-Some.value.now (sym c.in-Some.ensures)).has_type

pub loop-place-preserved : goal.loop-place-preserved
loop-place-preserved c =
    let columns = c.as_slice-columns.result.now in
    elim c.match-assigned.branch [
      | in-Some+in_ok-column_cell+in_ok-push-2 w ↦ w.cells-is ∙ set_more columns c.args.key.now c.args.stamp c.args.assignments.now c.loop-place.place c.loop-place.cells w.push-in-Some.new.self w.in_ok-column_cell.field-0 w.in-Some.value.now c.loop-place.invariant (sym w.in-Some.ensures) w.in_ok-column_cell.ensures w.in_ok-push-2.ensures.ok
      | in_default w ↦ set_same columns c.args.key.now c.args.stamp c.args.assignments.now c.loop-place.place c.loop-place.cells c.match-assigned.cells c.loop-place.invariant (sym w.in_default.ensures) w.cells-is
    ]
