use Rattle.std.proofs.Common.{◌≡◌, take}
use Rattle.px_sorted.specs.Sorting.{row_shown}
use Rattle.px_sorted.proofs.answer.shown_row.Given as goal

abbrev pub invariant-loop-column : goal.invariant-loop-column
invariant-loop-column l = l.values.items ≡ row_shown (take l.column-index l.columns) l.row
