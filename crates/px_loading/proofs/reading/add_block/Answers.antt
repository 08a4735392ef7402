use Rattle.std.proofs.Common.{◌≡◌, ◌<◌, false, true, List, [], ◌++◌, length, take, get_or, refl, sym, ap, subst, ◌∙◌, arith}
use Rattle.px_cells.specs.CellData.{CellData}
use Rattle.px_cells.specs.Order.{IsAscending}
use Rattle.px_block.specs.Reading.{ComesAfter}
use Rattle.px_file.specs.Format.{cells_in}
use Rattle.px_file.proofs.Blocks.{length-index_of}
use Rattle.px_loading.proofs.Loaded.{block_after, join_after}
use Rattle.px_loading.proofs.reading.add_block.Goals as goal

pub returns-then-not-comes_after-clause-sound : goal.returns-then-not-comes_after-clause-sound
returns-then-not-comes_after-clause-sound g c = λ blocks at place tells has so-far told.
    let inside : c.args.number < length blocks = (let l = length-index_of 8 blocks in let e = ap length has.index.entries in let w = c.requires.within in omega arith) in
    let front : c.deref.result.now ≡ cells_in (take c.args.number blocks) = c.deref.ensures.value ∙ so-far in
    let here : c.as_slice.result.now ≡ get_or blocks c.args.number [] = c.as_slice.ensures ∙ c.in-Ok.ensures.cells blocks has tells in
    let none : false ≡ true = c.if-not-comes_after.ensures.1
    (subst (λ (l : List CellData). ComesAfter l c.as_slice.result.now) (sym front) (subst (ComesAfter (cells_in (take c.args.number blocks))) (sym here) (block_after blocks c.args.number has.right inside))) in
    cc

pub returns-clause-sorted : goal.returns-clause-sorted
returns-clause-sorted g c =
    let all : c.append.new.self.items ≡ c.args.cells.now.items ++ c.in-Ok.block = c.in_ok-append.ensures.items ∙ ap (λ (l : List CellData). c.args.cells.now.items ++ l) c.into_vec-more.ensures in
    let after : ComesAfter c.args.cells.now.items c.in-Ok.block =
    subst (λ (l : List CellData). ComesAfter l c.in-Ok.block) c.deref.ensures.value (subst (ComesAfter c.deref.result.now) c.as_slice.ensures (c.if-not-comes_after.ensures.0 refl)) in
    subst IsAscending (sym all) (join_after c.args.cells.now.items c.in-Ok.block c.requires.sorted c.in-Ok.ensures.listed.ascending after)
