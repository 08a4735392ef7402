use Rattle.std.proofs.Common.{◌∙◌, List, Vec, Global, ap, map, rules}
use Rattle.std.proofs.lemmas.Fn.{filter_same}
use Rattle.px_cells.specs.declared.cell.Cell.{Cell}
use Rattle.px_memstore.specs.inner.Pieces.{is_filled}
use Rattle.px_memstore.proofs.Thinning.{map_filter}
use Rattle.px_memstore.proofs.keeping.drop_empty.Goals as goal

pub returns : goal.returns
returns c =
    ap (λ (l : List (Vec Cell Global)). map (λ (v : Vec Cell Global). v.items) l) (filter_same _ (λ (v : Vec Cell Global). is_filled v.items) _ (λ x b f' k. search rules) _ _ c.retain.ensures.filtered)
    ∙ map_filter (λ (v : Vec Cell Global). v.items) c.args.pieces.now.items
