use Rattle.std.proofs.Common.{◌≡◌, ◌++◌, map}
use Rattle.std.specs.Vec.Iter.{into_iter_items}
use Rattle.px_sorted.specs.Sorting.{row_shown}
use Rattle.px_sorted.proofs.answer.shown_rows.Given as goal

abbrev pub invariant-loop-placed : goal.invariant-loop-placed
invariant-loop-placed l = l.all.items ++ map (λ p. row_shown l.columns p.row) (into_iter_items l.placed-iterator) ≡ map (λ p. row_shown l.columns p.row) l.fn.rows.items
