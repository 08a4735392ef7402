use Rattle.std.proofs.Common.{◌∷◌, ◌∙◌, List, Vec, Global, ap, map, take}
use Rattle.px_cells.specs.CellData.{CellData}
use Rattle.px_cells.specs.declared.cell.Cell.{Cell}
use Rattle.px_memstore.proofs.pieces.Pieces.split_first.Goals as goal

pub returns-clause-cut : goal.returns-clause-cut
returns-clause-cut c =
    (λ j. c.move_tail.ensures.kept j ∷ map (λ (v : Vec Cell Global). v.items) (c.insert.ensures j))
    ∙ ap (λ (l : List CellData). take c.args.place c.args.self.now.first.items ∷ (l ∷ map (λ (v : Vec Cell Global). v.items) c.args.self.now.others.items)) c.move_tail.ensures.moved
