use Rattle.std.proofs.Common.{◌≡◌, ◌<◌, ◌+◌, ◌++◌, ◌∙◌, [], List, length, get_or, take, sym, subst, arith, rules}
use Rattle.px_cells.specs.CellData.{CellData}
use Rattle.px_cells.specs.Order.{IsCellList}
use Rattle.px_cells.specs.Sight.{IsPlainRegion}
use Rattle.px_cells.specs.Visible.{IsView}
use Rattle.px_memstore.specs.Pieces.{chained}
use Rattle.px_memstore.proofs.Chained.{chained_all}
use Rattle.px_region.specs.Region.{pieces_of}
use Rattle.px_server.proofs.Joined.{piece_list, view_next, view_none}
use Rattle.px_server.proofs.status.seen_of.Goals as goal

pub loop-at-init : goal.loop-at-init
loop-at-init c =
    let e : c.new-seen.result.items ≡ [] = search rules in
    subst (λ (l : List CellData). IsView [] 18446744073709551615 l) (sym e) (view_none 18446744073709551615)

pub visible_in-requires : goal.visible_in-requires
visible_in-requires c =
    let ps = pieces_of c.args.region.now in
    let lt : c.loop-at.at < length ps = omega arith in
    subst IsCellList (sym c.piece.ensures.cells) (piece_list ps c.loop-at.at lt c.piece_count-at-end.ensures.apart (subst IsPlainRegion c.piece_count-at-end.ensures.cells c.requires))

pub loop-at-preserved : goal.loop-at-preserved
loop-at-preserved c =
    let ps = pieces_of c.args.region.now in
    let at = c.loop-at.at in
    let lt : at < length ps = omega arith in
    let part = c.into_vec-part.result.items in
    let here : IsView (get_or ps at []) 18446744073709551615 part =
    (let e : part ≡ c.in_ok-visible_in.field-0 = c.into_vec-part.ensures in
    subst (λ (l : List CellData). IsView l 18446744073709551615 part) c.piece.ensures.cells (subst (λ (l : List CellData). IsView c.piece.result.now 18446744073709551615 l) (sym e) c.in_ok-visible_in.ensures)) in
    let items : c.append.new.self.items ≡ c.loop-at.seen.items ++ part = search rules in
    subst (λ (l : List CellData). IsView (chained (take (at + 1) ps)) 18446744073709551615 l) (sym items)
    (view_next ps at lt c.piece_count-at-end.ensures.apart 18446744073709551615 c.loop-at.seen.items part c.loop-at.invariant here)

pub returns : goal.returns
returns c =
    subst (λ (l : List CellData). IsView l 18446744073709551615 c.loop-at.seen.items) (chained_all (pieces_of c.args.region.now) c.loop-at.at (omega arith) ∙ sym c.piece_count-at-end.ensures.cells) c.loop-at.invariant
