use Rattle.px_recovery.proofs.Explains.{by_entry, by_none, index_batch, index_forgot, noted_kept, rows_batch, rows_forgot}
use Rattle.px_recovery.proofs.law_tables.Goals as goal

pub returns : goal.returns
returns c = record {
  none = by_none;
  entry = by_entry;
  noted = noted_kept;
  rows = rows_batch;
  index = λ b es more f v told t by x found w kept high low n batch. index_batch b es more f v told t by x found w kept high low n batch;
  forgot_rows = rows_forgot;
  forgot_index = λ b es more f v told t by x found w kept high low n place i there at is j lt id h cells read same. index_forgot b es more f v told t by x found w kept high n place i there at is j lt id h cells read same low;
}
