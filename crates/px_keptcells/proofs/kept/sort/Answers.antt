use Rattle.std.proofs.Common.{rules}
use Rattle.std.proofs.lemmas.List.Sorted.{answers_always, ranks_by}
use Rattle.px_cells.proofs.Orders.{cell_cmp_total}
use Rattle.px_keptcells.proofs.Sorted.{before, sorted_ascending}
use Rattle.px_keptcells.proofs.kept.sort.Goals as goal

pub returns-clause-sorted : goal.returns-clause-sorted
returns-clause-sorted c a =
    sorted_ascending c.args.cells.now.items c.sort_unstable_by.new.self.items a c.sort_unstable_by.ensures.permutation
    (c.sort_unstable_by.ensures.sorted before (ranks_by cell_cmp_total (λ c. c)) (answers_always _ _ _ (λ f a r g h. search rules)))
