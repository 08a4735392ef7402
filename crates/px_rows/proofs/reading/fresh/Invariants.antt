use Rattle.std.proofs.Common.{◌≡◌, take, length, map, replicate}
use Rattle.px_values.specs.declared.row.Value.TheVariants.{Null}
use Rattle.px_values.specs.States.{with_values}
use Rattle.px_rows.proofs.reading.fresh.Given as goal

abbrev pub invariant-loop-index : goal.invariant-loop-index
invariant-loop-index l = record {
  row : l.values.items ≡ with_values (map (λ p. p.column) (take l.index l.key)) (take l.index l.row) (replicate (length l.table.columns) Null);
  length : length l.values.items ≡ length l.table.columns;
}
