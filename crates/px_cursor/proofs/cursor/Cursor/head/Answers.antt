use Rattle.std.proofs.Common.{List, get_or, ap, ◌∙◌}
use Rattle.px_cells.specs.CellData.{CellData}
use Rattle.px_cursor.proofs.Cursors.{head_is}
use Rattle.px_cursor.proofs.cursor.Cursor.head.Goals as goal

pub returns-then-self : goal.returns-then-self
returns-then-self c =
    head_is c.args.self.now.block c.args.self.now.at c.args.self.now.until c.index-as_slice-self.result c.if-self.true c.args.self.now.within
    (c.index-as_slice-self.is ∙ ap (λ (l : List CellData). get_or l c.args.self.now.at c.index-as_slice-self.result) c.as_slice.ensures)
