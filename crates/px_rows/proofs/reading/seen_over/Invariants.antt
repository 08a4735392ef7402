use Rattle.std.proofs.Common.{◌≡◌, List, length}
use Rattle.px_cells.specs.Contents.{value_at}
use Rattle.px_values.specs.declared.row.Value.{Value}
use Rattle.px_rows.specs.Keys.{row_key}
use Rattle.px_rows.specs.Spelled.{IsPlainAt, column_at, overlay, row_spelling}
use Rattle.px_rows.specs.inner.Found.{AreOf, IsFamily, first_of}
use Rattle.px_rows.proofs.reading.seen_over.Given as goal

abbrev pub invariant-loop-place : goal.invariant-loop-place
invariant-loop-place l = record {
  length : length l.values.items ≡ length l.columns;
  seen : (r : List Value) → AreOf (row_key l.table r) l.cells → IsPlainAt (value_at l.cells) (row_key l.table r) → IsFamily (value_at l.cells) (row_key l.table r) l.point l.family → l.values.items ≡ overlay (first_of l.place (column_at (row_spelling l.table) (value_at l.cells) r l.point)) 0 l.initial.values.items;
}
