use Rattle.std.proofs.Common.{◌≡◌, ◌∙◌, List, ap, sym, subst, Some, arith}
use Rattle.std.specs.List.{AllByRecursion}
use Rattle.px_cells.specs.CellData.{CellData}
use Rattle.px_cells.specs.Order.{IsApart}
use Rattle.px_indexrow.specs.Form.{index_form}
use Rattle.px_indexrow.specs.Lists.{version_cells}
use Rattle.px_keptcells.specs.Kept.{HaveOtherKeys, IsFitting, laid}
use Rattle.px_baserows.specs.Rows.{IsBaseRow}
use Rattle.px_baserows.proofs.Fitting.{version_apart, version_fits}
use Rattle.px_baserows.proofs.Given.{all_at, elsewhere}
use Rattle.px_baserows.proofs.versions.base_versions.Goals as goal

pub add-requires-clause-fitting : goal.add-requires-clause-fitting
add-requires-clause-fitting c =
    let t = c.args.table.now in
    let x = c.args.index.now in
    let base = c.base-item.result in
    let is = all_at (IsBaseRow t x) c.args.rows.now c.loop-base.base-index base c.requires.rows.each c.loop-base-test.true c.base-item.is in
    let cells : c.in_ok-cells.cells ≡ version_cells (index_form t x) base.key c.args.stamp 1 (Some base.row) = c.in_ok-cells.ensures ∙ (λ i. version_cells (index_form t x) (c.as_slice-key.ensures i) c.args.stamp 1 (Some (c.as_slice-row.ensures i))) in
    subst (AllByRecursion IsFitting) (sym cells) (version_fits t x c.requires.table.columns c.requires.index (Some base.row) is.fits base.key is.short c.args.stamp c.ranges.stamp.fits)

pub add-requires-clause-apart : goal.add-requires-clause-apart
add-requires-clause-apart c =
    let t = c.args.table.now in
    let x = c.args.index.now in
    let base = c.base-item.result in
    let is = all_at (IsBaseRow t x) c.args.rows.now c.loop-base.base-index base c.requires.rows.each c.loop-base-test.true c.base-item.is in
    let cells : c.in_ok-cells.cells ≡ version_cells (index_form t x) base.key c.args.stamp 1 (Some base.row) = c.in_ok-cells.ensures ∙ (λ i. version_cells (index_form t x) (c.as_slice-key.ensures i) c.args.stamp 1 (Some (c.as_slice-row.ensures i))) in
    subst IsApart (sym cells) (version_apart t x c.requires.table.columns c.requires.index (Some base.row) is.fits base.key is.short c.args.stamp c.ranges.stamp.fits)

pub add-requires-clause-other_keys : goal.add-requires-clause-other_keys
add-requires-clause-other_keys c =
    let t = c.args.table.now in
    let x = c.args.index.now in
    let base = c.base-item.result in
    let cells : c.in_ok-cells.cells ≡ version_cells (index_form t x) base.key c.args.stamp 1 (Some base.row) = c.in_ok-cells.ensures ∙ (λ i. version_cells (index_form t x) (c.as_slice-key.ensures i) c.args.stamp 1 (Some (c.as_slice-row.ensures i))) in
    subst (λ (p : List (List CellData)). HaveOtherKeys (laid p) c.in_ok-cells.cells) (sym c.loop-base.invariant)
    (subst (HaveOtherKeys (laid (Rattle.px_baserows.specs.Rows.base_parts (index_form t x) c.args.stamp (Rattle.std.proofs.Common.take c.loop-base.base-index c.args.rows.now)))) (sym cells) (elsewhere t x c.args.stamp c.args.rows.now c.requires.rows c.loop-base.base-index base c.loop-base-test.true c.base-item.is))
