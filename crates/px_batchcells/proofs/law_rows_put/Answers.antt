use Rattle.px_batchcells.proofs.RowsPut.{puts_keys, puts_values, writes_some}
use Rattle.px_batchcells.proofs.law_rows_put.Goals as goal

pub returns : goal.returns
returns c = record {
  keys = puts_keys;
  puts = puts_values;
  some = writes_some;
}
