use Rattle.std.proofs.Common.{◌≡◌, ◌∙◌, List, ap, subst, sym}
use Rattle.px_cells.specs.CellData.{CellData}
use Rattle.px_cells.specs.Order.{IsAscending}
use Rattle.px_memstore.specs.Left.{left}
use Rattle.px_frozen.specs.FrozenData.{FrozenData}
use Rattle.px_region.proofs.forget.thin.Goals as goal

pub keep_only-requires : goal.keep_only-requires
keep_only-requires g c = subst (λ (l : List CellData). IsAscending l) (sym c.cells.ensures.cells) c.cells.ensures.written.listed.ascending

pub returns-in-Some-clause-left : goal.returns-in-Some-clause-left
returns-in-Some-clause-left g c = λ kept is.
    let a = c.take_kept.ensures.taken in
    let b = c.in-Some.is in
    let same : c.in-Some.kept ≡ kept = cc in
    c.keep_only.ensures.left ∙ ap (λ (l : List CellData). left l c.args.horizon c.args.store.now.cells) (c.cells.ensures.cells ∙ ap (λ (k : FrozenData). k.cells) same)

pub returns-in-Some-clause-sorted : goal.returns-in-Some-clause-sorted
returns-in-Some-clause-sorted g c = λ kept is.
    let a = c.take_kept.ensures.taken in
    let b = c.in-Some.is in
    let same : c.in-Some.kept ≡ kept = cc in
    subst (λ (k : FrozenData). IsAscending k.cells) same c.cells.ensures.written.listed.ascending

pub returns-in-None-clause-left : goal.returns-in-None-clause-left
returns-in-None-clause-left g c = λ kept is.
    let a = c.take_kept.ensures.taken in
    let b = c.in-None.is in
    cc

pub returns-in-None-clause-sorted : goal.returns-in-None-clause-sorted
returns-in-None-clause-sorted g c = λ kept is.
    let a = c.take_kept.ensures.taken in
    let b = c.in-None.is in
    cc
