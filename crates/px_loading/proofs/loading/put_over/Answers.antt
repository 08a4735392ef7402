use Rattle.std.proofs.Common.{List, ◌++◌, ap, ◌∙◌}
use Rattle.px_cells.specs.CellData.{CellData}
use Rattle.px_merge.specs.Settle.{settle}
use Rattle.px_merge.proofs.Settling.{settled_is}
use Rattle.px_loading.proofs.loading.put_over.Goals as goal

pub returns-clause-put : goal.returns-clause-put
returns-clause-put c =
    settled_is (c.args.newer ++ c.reserve.new.self.cells) c.put.new.self.cells c.put.ensures.merged ∙ ap (λ (l : List CellData). settle (c.args.newer ++ l)) c.reserve.ensures.cells
