use Rattle.std.proofs.Common.{subst, sym, ◌+◌, ◌∙◌}
use Rattle.px_cells.proofs.RowLemmas.{rest_ascending}
use Rattle.px_looks.specs.inner.Lent.{IsRowEnd}
use Rattle.px_looks.proofs.Among.{key_there}
use Rattle.px_looks.proofs.Ends.{row_ends}
use Rattle.px_looks.proofs.lent.halved_end.Goals as goal

pub place_after-requires : goal.place_after-requires
place_after-requires c = rest_ascending c.args.cells.now c.key.result.now c.args.at 0 c.requires.sorted

pub returns : goal.returns
returns c =
    let is = c.key.ensures ∙ sym (key_there c.args.cells.now c.args.at c.index-cells-at.result c.requires.within c.index-cells-at.is) in
    subst (IsRowEnd c.args.cells.now c.args.at (c.args.at + c.place_after.result)) is
    (row_ends c.args.cells.now c.args.at c.place_after.result c.key.result.now c.requires.sorted c.requires.within is c.place_after.ensures.within c.place_after.ensures.up_to c.place_after.ensures.above)
