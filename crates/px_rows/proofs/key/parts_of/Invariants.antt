use Rattle.std.proofs.Common.{◌≡◌, take, map}
use Rattle.px_keys.specs.Spelling.{columns_of, values_of}
use Rattle.px_rows.specs.Keys.{key_column}
use Rattle.px_rows.proofs.key.parts_of.Given as goal

abbrev pub invariant-loop-index : goal.invariant-loop-index
invariant-loop-index l = record {
  columns : columns_of l.parts.items ≡ map (key_column l.columns) (take l.index l.key);
  values : values_of l.parts.items ≡ take l.index l.row;
}
