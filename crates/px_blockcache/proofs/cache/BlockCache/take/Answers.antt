use Rattle.std.proofs.Common.{◌≡◌, ℕ, List, get_or, sym, ap, subst, ◌∙◌}
use Rattle.std.specs.List.{swap_remove}
use Rattle.std.specs.Prelude.{All, Contains}
use Rattle.std.proofs.Math.Logic.{∥∥₁_elim}
use Rattle.std.proofs.lemmas.List.Elements.{All-contains_itself}
use Rattle.px_blockcache.specs.Cached.{BlockData, IsBlockOf, IsRightBlock}
use Rattle.px_blockcache.proofs.Right.{all_left, cell_is, left_there, list_prop, right_stay}
use Rattle.px_blockcache.proofs.cache.BlockCache.take.Goals as goal

pub returns-in-Some-clause-cells : goal.returns-in-Some-clause-cells
returns-in-Some-clause-cells g c = λ blocks has tells are. (
    let b = c.swap_remove.result in
    let place = c.in-Some.place in
    let found = c.in-Some.ensures.found in
    let at : b ≡ get_or c.args.self.now place b = c.swap_remove.ensures.value ∙ ap (λ (l : List BlockData). get_or l place b) c.self.view_is in
    let of : IsBlockOf b c.number.result c.args.number = subst (λ (x : BlockData). IsBlockOf x c.number.result c.args.number) (sym at) (found.1 b) in
    let own : IsBlockOf b c.args.file.now.file c.args.number = subst (λ (n : ℕ). IsBlockOf b n c.args.number) c.number.ensures of in
    ap (λ (x : BlockData). x.cells) c.cells.view_is ∙ cell_is g.D.Disk c.args.disk.now c.args.self.now place b c.args.file.now blocks c.args.number found.0 at own has tells are)

pub returns-in-Some-clause-listed : goal.returns-in-Some-clause-listed
returns-in-Some-clause-listed g c = ∥∥₁_elim c.cells.inside.listed (list_prop c.cells.inside.cells) (λ is. is)

pub returns-in-Some-clause-right : goal.returns-in-Some-clause-right
returns-in-Some-clause-right g c = λ are tells.
    let after : c.swap_remove.new.self.items ≡ swap_remove c.args.self.now c.in-Some.place c.swap_remove.result = c.swap_remove.ensures.items ∙ ap (λ (l : List BlockData). swap_remove l c.in-Some.place c.swap_remove.result) c.self.view_is in
    subst (All (IsRightBlock g.D.Disk c.args.disk.now)) (sym after) (all_left (IsRightBlock g.D.Disk c.args.disk.now) c.args.self.now c.in-Some.place c.swap_remove.result c.in-Some.ensures.found.0 (are tells))

pub returns-in-Some-clause-fewer : goal.returns-in-Some-clause-fewer
returns-in-Some-clause-fewer g c =
    let after : c.swap_remove.new.self.items ≡ swap_remove c.args.self.now c.in-Some.place c.swap_remove.result = c.swap_remove.ensures.items ∙ ap (λ (l : List BlockData). swap_remove l c.in-Some.place c.swap_remove.result) c.self.view_is in
    subst (All (Contains c.args.self.now)) (sym after) (left_there c.args.self.now c.in-Some.place c.swap_remove.result c.in-Some.ensures.found.0)

pub returns-in-None-clause-right : goal.returns-in-None-clause-right
returns-in-None-clause-right g c = right_stay g.D.Disk c.args.disk.now c.block.new.disk c.args.self.now (λ k x within. ap (λ seen. seen (get_or c.args.self.now k x).file) c.block.ensures.seen)

pub returns-in-None-clause-fewer : goal.returns-in-None-clause-fewer
returns-in-None-clause-fewer g c = All-contains_itself c.args.self.now
