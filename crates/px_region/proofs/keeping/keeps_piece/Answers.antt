use Rattle.std.proofs.Common.{◌≡◌, List, true, subst, sym}
use Rattle.px_cells.specs.CellData.{CellData}
use Rattle.px_cells.specs.Visible.{IsView}
use Rattle.px_region.proofs.Right.{alike_kept}
use Rattle.px_region.proofs.keeping.keeps_piece.Goals as goal

pub returns : goal.returns
returns c = λ e.
    let yes : c.are_right.result ≡ true = cc in
    let view = subst (λ (l : List CellData). IsView c.args.piece.now c.args.horizon l) (sym c.as_slice.ensures) c.in_ok-seen.ensures in
    alike_kept c.args.piece.now c.as_slice.result.now c.args.horizon (c.is_cell_list.ensures.0 c.if-not-is_cell_list.false) view c.args.kept.now (c.are_right.ensures yes)
