use Rattle.std.proofs.Common.{◌∷◌, ◌∙◌, List, Vec, Global, ap, map}
use Rattle.px_cells.specs.declared.cell.Cell.{Cell}
use Rattle.px_memstore.proofs.Finding.{cut_lists}
use Rattle.px_memstore.proofs.pieces.Pieces.split_other.Goals as goal

pub returns-clause-cut : goal.returns-clause-cut
returns-clause-cut c =
    ap (λ (l : List (Vec Cell Global)). c.args.self.now.first.items ∷ map (λ (v : Vec Cell Global). v.items) l) c.insert.ensures
    ∙ cut_lists (λ (v : Vec Cell Global). v.items) c.args.self.now.first.items c.args.self.now.others.items c.args.at c.args.place c.move_tail.new.from c.move_tail.new.to c.index_mut.result.now c.requires.at c.index_mut.ensures.value c.move_tail.ensures.kept c.move_tail.ensures.moved
