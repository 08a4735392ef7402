use Rattle.std.proofs.Common.{◌≡◌, ◌≤◌, length, take}
use Rattle.std.specs.Prelude.{vec_len, vec_capacity}
use Rattle.std.specs.List.{AllByRecursion}
use Rattle.px_rows.specs.Keys.{row_key}
use Rattle.px_values.specs.Limits.{most_key}
use Rattle.px_beginning.specs.Reads.{keys_of_rows}
use Rattle.px_beginning.proofs.rows.row_keys.Given as goal

abbrev pub invariant-loop-change : goal.invariant-loop-change
invariant-loop-change l = record {
  keys : l.keys.items ≡ keys_of_rows l.table (take l.change-index l.changes);
  short : AllByRecursion (λ c. length (row_key l.table c.row) ≤ most_key) (take l.change-index l.changes);
  count : vec_len l.keys ≡ l.change-index;
  room : length l.changes ≤ vec_capacity l.keys;
}
