use Rattle.std.proofs.Common.{◌∙◌, List, sym, subst}
use Rattle.px_cells.specs.CellData.{CellData}
use Rattle.px_cells.specs.Rows.{IsRow}
use Rattle.px_region.specs.Region.{read_of}
use Rattle.px_cells.specs.Contents.{value_at}
use Rattle.px_rows.specs.Spelled.{IsPlainAt}
use Rattle.px_rows.specs.inner.Found.{AreOf}
use Rattle.px_looks.proofs.RowCells.{row_is_list, row_is_own, row_is_plain, row_spelled}
use Rattle.px_looks.proofs.row.row_state.Given.{Over}
use Rattle.px_looks.proofs.row.row_state.Goals as goal

taken : (g : Over) (c : goal.After-as_slice g) → IsRow (read_of c.args.region.now) c.args.key.now c.as_slice.result.now
taken g c = subst (λ (l : List CellData). IsRow l c.args.key.now c.as_slice.result.now) c.look_at.ensures.alike.store (subst (λ (l : List CellData). IsRow (read_of c.look_at.new.self) c.args.key.now l) (sym c.as_slice.ensures.value) c.in_ok-cells.ensures.row)

pub row_at-requires-clause-list : goal.row_at-requires-clause-list
row_at-requires-clause-list g c = row_is_list _ _ _ (taken g c) c.requires.region

pub row_at-requires-clause-own : goal.row_at-requires-clause-own
row_at-requires-clause-own g c = subst (λ k. AreOf k c.as_slice.result.now) c.requires.key (row_is_own _ _ _ (taken g c))

pub row_at-requires-clause-plain : goal.row_at-requires-clause-plain
row_at-requires-clause-plain g c = subst (IsPlainAt (value_at c.as_slice.result.now)) c.requires.key (row_is_plain _ _ _ (taken g c) c.requires.plain)

pub returns-clause-state : goal.returns-clause-state
returns-clause-state g c =
    let is = subst (λ (l : List CellData). IsRow l c.args.key.now c.as_slice.result.now) c.look_at.ensures.alike.store (subst (λ (l : List CellData). IsRow (read_of c.look_at.new.self) c.args.key.now l) (sym c.as_slice.ensures.value) c.in_ok-cells.ensures.row) in
    c.in-Ok.ensures ∙ row_spelled (read_of c.args.region.now) c.as_slice.result.now c.args.key.now is c.args.table.now c.args.row.now c.args.point c.requires.key
