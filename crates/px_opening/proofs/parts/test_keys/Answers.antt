use Rattle.std.proofs.Common.{◌∙◌, ◌<◌, List, length, subst, sym, arith}
use Rattle.px_cells.specs.CellData.{CellData}
use Rattle.px_cellshapes.specs.Keys.{AreRightKeys}
use Rattle.px_memstore.proofs.Chained.{chained_all}
use Rattle.px_region.specs.Region.{pieces_of}
use Rattle.px_opening.proofs.Pieces.{keys_next, no_keys}
use Rattle.px_opening.proofs.parts.test_keys.Goals as goal

pub loop-at-init : goal.loop-at-init
loop-at-init c = no_keys c.args.table.now c.args.index.now

pub loop-at-preserved : goal.loop-at-preserved
loop-at-preserved c =
    let t = c.args.table.now in
    let i = c.args.index.now in
    let ps = pieces_of c.args.region.now in
    let lt : c.loop-at.at < length ps = omega arith in
    keys_next ps c.loop-at.at lt t i c.loop-at.invariant (subst (λ (cells : List CellData). AreRightKeys t i cells) c.piece.ensures.cells (c.in_ok-are_right_keys.ensures.0 c.if-not-branch.false))

pub returns-clause-right : goal.returns-clause-right
returns-clause-right c = λ ok.
    subst (λ (cells : List CellData). AreRightKeys c.args.table.now c.args.index.now cells) (chained_all (pieces_of c.args.region.now) c.loop-at.at (omega arith) ∙ sym c.piece_count-at-end.ensures.cells) c.loop-at.invariant
