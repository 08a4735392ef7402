use Rattle.std.proofs.Common.{rules}
use Rattle.std.proofs.lemmas.Result.{on_ok_weaker}
use Rattle.std.proofs.lemmas.Fn.{always_returns_same}
use Rattle.px_sorted.specs.Sorting.{is_ordered_before}
use Rattle.px_sorted.proofs.Ascending.{rank}
use Rattle.px_sorted.proofs.Stable.{only_sorted}
use Rattle.px_sorted.proofs.sorted.sort.Goals as goal

pub returns-clause-ok : goal.returns-clause-ok
returns-clause-ok c =
    let order = c.args.order.now in
    on_ok_weaker c.sort_by.result
    (λ sorted. (let by = always_returns_same _ _ _ (λ a r f k. search rules) in only_sorted (is_ordered_before order) (rank order) c.args.rows.now.items _ (sorted (is_ordered_before order) (rank order) by) (c.sort_by.ensures.stable (is_ordered_before order) (rank order) by)))
    c.sort_by.ensures.sorted
