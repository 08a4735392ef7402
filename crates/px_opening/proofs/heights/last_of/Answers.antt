use Rattle.std.proofs.Common.{◌≡◌, ◌∙◌, ◌<◌, [], length, get_or, ap, sym, arith, rules}
use Rattle.std.specs.Prelude.{max}
use Rattle.px_memstore.proofs.Chained.{chained_all}
use Rattle.px_region.specs.Region.{pieces_of}
use Rattle.px_tablefolder.specs.Folder.{last_cell}
use Rattle.px_opening.proofs.Building.{no_cell}
use Rattle.px_opening.proofs.Pieces.{last_piece}
use Rattle.px_opening.proofs.heights.last_of.Goals as goal

pub loop-at-init : goal.loop-at-init
loop-at-init c = no_cell

pub loop-at-preserved : goal.loop-at-preserved
loop-at-preserved c =
    let ps = pieces_of c.args.region.now in
    let at = c.loop-at.at in
    let lt : at < length ps = omega arith in
    let e = last_piece ps at lt in
    let s : c.last_stamp.result ≡ last_cell (get_or ps at []) = c.last_stamp.ensures ∙ ap last_cell c.piece.ensures.cells in
    let m : c.max-last.result ≡ max c.loop-at.last c.last_stamp.result = search rules in
    let i = c.loop-at.invariant in
    omega arith

pub returns : goal.returns
returns c = c.loop-at.invariant ∙ ap last_cell (chained_all (pieces_of c.args.region.now) c.loop-at.at (omega arith) ∙ sym c.piece_count-at-end.ensures.cells)
