use Rattle.std.proofs.Common.{List, [], ◌∷◌, ◌∙◌, ap, subst, sym}
use Rattle.px_cells.specs.CellData.{CellData}
use Rattle.px_merge.specs.Merged.{AreSorted, joined}
use Rattle.px_merge.specs.Settle.{settle}
use Rattle.px_merge.specs.Taking.{IsHead}
use Rattle.px_merge.proofs.Settling.{settle_is, settle_sorted}
use Rattle.std.proofs.lemmas.List.{take_rest}
use Rattle.px_sources.specs.Sources.{AllBegin, shown_of}
use Rattle.px_sources.specs.declared.source.Source.{Source}
use Rattle.px_sources.proofs.Heads.{settle_first}
use Rattle.px_sources.proofs.Sources.{first_begins, head_begins, none_begins}
use Rattle.px_sources.proofs.least.+least.Goals as goal

pub returns-in-empty : goal.returns-in-empty
returns-in-empty t c = λ lists begin sorted. ap (λ (l : List (List CellData)). settle (joined l)) (none_begins c.args.sources.now lists c.in-empty.len_below begin) ∙ settle_sorted [] tt

pub returns-in-len1-up : goal.returns-in-len1-up
returns-in-len1-up t c = λ lists begin sorted.
    let f = first_begins c.args.sources.now lists c.first-item.result c.in-len1-up.len_at_least c.first-item.is begin in
    let s : AreSorted (f.list ∷ f.others) = subst AreSorted f.is sorted in
    subst (IsHead c.lesser.result) (sym (ap (λ (l : List (List CellData)). settle (joined l)) f.is ∙ settle_first f.list (joined f.others)))
    (c.lesser.ensures f.list (settle (joined f.others)) s.0 (settle_is (joined f.others)).ascending (head_begins c.head.result (shown_of c.first-item.result) f.list c.head.ensures f.begins) (c.least.ensures f.others (subst (λ (l : List Source). AllBegin l f.others) (sym (take_rest c.args.sources.now 1)) f.rest) s.1))
