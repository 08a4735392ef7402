use Rattle.std.proofs.Common.{◌∙◌, ◌<◌, List, length, sym, subst, arith}
use Rattle.px_cells.specs.CellData.{CellData}
use Rattle.px_memstore.proofs.Chained.{chained_all}
use Rattle.px_region.specs.Stamps.{AreStampsFrom}
use Rattle.px_region.proofs.Least.{from_piece}
use Rattle.px_region.proofs.stamps.least_in.Goals as goal

pub loop-at-preserved : goal.loop-at-preserved
loop-at-preserved c =
    let ps = c.args.store.now.pieces in
    let at = c.loop-at.at in
    let lt : at < length ps = omega arith in
    from_piece ps at c.loop-at.least c.least_of-least.result lt c.least_of-least.ensures.within c.loop-at.invariant (subst (λ (l : List CellData). AreStampsFrom c.least_of-least.result l) c.piece.ensures.cells c.least_of-least.ensures.from)

pub returns : goal.returns
returns c = subst (λ (l : List CellData). AreStampsFrom c.loop-at.least l) (chained_all c.args.store.now.pieces c.loop-at.at (omega arith) ∙ sym c.piece_count-at-end.ensures.cells) c.loop-at.invariant
