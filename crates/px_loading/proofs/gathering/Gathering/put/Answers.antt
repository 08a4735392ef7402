use Rattle.std.proofs.Common.{List, ◌++◌, refl, ap, subst, sym, ◌∙◌}
use Rattle.std.proofs.Math.Logic.{∥∥₁_elim}
use Rattle.px_cells.specs.CellData.{CellData}
use Rattle.px_cells.specs.Order.{IsAscending}
use Rattle.px_merge.specs.Settle.{settle}
use Rattle.px_merge.proofs.Settling.{settled_is}
use Rattle.px_loading.proofs.Gathered.{ascending_prop}
use Rattle.px_loading.proofs.gathering.Gathering.put.Goals as goal

pub put-requires-clause-sorted : goal.put-requires-clause-sorted
put-requires-clause-sorted c =
    let there = c.from_vec.ensures ∙ ap (λ v. v.items) c.replace-cells.ensures.value in
    ∥∥₁_elim c.args.self.now.sorted (ascending_prop c.from_vec.result) (λ a. subst IsAscending (sym there) a)

pub returns-in-Ok-clause-done : goal.returns-in-Ok-clause-done
returns-in-Ok-clause-done c =
    let there = c.from_vec.ensures ∙ ap (λ v. v.items) c.replace-cells.ensures.value in (
      settled_is (c.from_vec.result ++ c.reserve.new.self.cells) c.put.new.self.cells c.put.ensures.merged ∙ ap (λ (l : List CellData). settle (l ++ c.reserve.new.self.cells)) there
          ∙ ap (λ (l : List CellData). settle (c.args.self.now.cells.items ++ l)) c.reserve.ensures.cells,
      ap (λ v. v.items) c.replace-cells.ensures.after ∙ c.new.ensures.items,
      refl,
    )
