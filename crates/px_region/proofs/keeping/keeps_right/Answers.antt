use Rattle.std.proofs.Common.{◌∙◌, List, Ok, ap, arith, subst}
use Rattle.px_cells.specs.CellData.{CellData}
use Rattle.px_cells.specs.Order.{IsAscending}
use Rattle.px_memstore.specs.Left.{left}
use Rattle.px_merge.specs.Kept.{IsKeptList}
use Rattle.px_region.proofs.Right.{piece_kept}
use Rattle.px_region.proofs.keeping.keeps_right.Goals as goal

pub loop-at-preserved : goal.loop-at-preserved
loop-at-preserved c =
    let ps = c.args.store.now.pieces in
    let kept = c.args.kept.now in
    let h = c.args.horizon in
    let own = c.keeps_piece.ensures (c.in_ok-keeps_piece.was ∙ ap (λ b. Ok b) c.if-not-branch.false) in
    piece_kept ps c.loop-at.at h kept (omega arith) c.piece_count-at-end.ensures.apart (subst IsAscending c.piece_count-at-end.ensures.cells c.piece_count-at-end.ensures.sorted) c.loop-at.invariant (subst (λ (l : List CellData). IsKeptList l h (left kept h l)) c.piece.ensures.cells own)
