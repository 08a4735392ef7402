use Rattle.std.proofs.Common.{◌≡◌, take, map}
use Rattle.px_keys.specs.Spelling.{columns_of, values_of}
use Rattle.px_indexrow.specs.Form.{index_column, value_of_column}
use Rattle.px_indexrow.proofs.keys.parts_of.Given as goal

abbrev pub invariant-loop-index : goal.invariant-loop-index
invariant-loop-index l = record {
  columns : columns_of l.parts.items ≡ map (index_column l.table) (take l.index l.places);
  values : values_of l.parts.items ≡ map (λ p. value_of_column l.table.key l.row l.state p.column) (take l.index l.places);
}
