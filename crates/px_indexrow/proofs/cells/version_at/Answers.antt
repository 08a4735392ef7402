use Rattle.std.proofs.Common.{◌≡◌, ◌∙◌, ◌-◌, ℕ, List, get_or, suc, ap, arith, Some}
use Rattle.px_values.specs.declared.row.Value.TheVariants.{Null}
use Rattle.px_rows.specs.Keys.{column_in}
use Rattle.px_rows.specs.Stored.{stored}
use Rattle.px_indexrow.specs.Form.{bytes_if, index_form}
use Rattle.px_indexrow.specs.Lists.{column_cell, version_cells}
use Rattle.px_indexrow.proofs.Versions.{version_done, version_more}
use Rattle.px_indexrow.proofs.cells.version_at.Goals as goal

pub loop-left-preserved : goal.loop-left-preserved
loop-left-preserved c =
    let t = c.args.table.now in
    let f = index_form t c.args.index.now in
    let i = c.loop-left.invariant in
    let n = c.loop-left.left in
    let row = c.args.state.now in
    let cell : c.in_ok-column.field-0 ≡ column_cell c.args.key.now c.args.stamp (f.place (n - 1)) (f.col (Some row) (n - 1)) =
    c.in_ok-column.ensures ∙ ap (λ (xs : List ℕ). column_cell c.args.key.now c.args.stamp (suc (suc (get_or xs (n - 1) 0))) (bytes_if (stored (column_in t.columns (get_or xs (n - 1) 0)).column_type (get_or row (get_or xs (n - 1) 0) Null)) (get_or row (get_or xs (n - 1) 0) Null))) c.as_slice-included.ensures in
    record {
      within = (let w = i.within in omega arith);
      cells = version_more f c.args.key.now c.args.stamp (Some row) n c.in_ok-column.field-0 c.loop-left.cells c.push-in-loop-left.new.self (version_cells f c.args.key.now c.args.stamp c.args.byte (Some row)) c.loop-left-test.true i.cells cell c.in_ok-push-2.ensures.ok;
    }

pub returns : goal.returns
returns c =
    let f = index_form c.args.table.now c.args.index.now in
    let t = c.loop-left-test.false in
    version_done f c.args.key.now c.args.stamp (Some c.args.state.now) c.loop-left.left c.loop-left.cells (version_cells f c.args.key.now c.args.stamp c.args.byte (Some c.args.state.now)) (omega arith) c.loop-left.invariant.cells
