-- What a reader of a region's log has taken.
use Rattle.std.specs.Prelude.{◌≡◌, List, map}
use Rattle.std.specs.List.{AllByRecursion}
use Rattle.px_gatelog.specs.Format.{LogRecord}
use Rattle.px_merge.specs.Settle.{settle}
use Rattle.px_wal.specs.Batches.{LogBatch, batches_above, later_first}
use Rattle.px_wal.specs.Form.{AreBatches, IsLogBatch, IsUpTo, batch_byte_count, batch_record, cell_count, is_some, last_batch_number}
use Rattle.px_wal.specs.declared.reader.BatchReader.{BatchReader}

-- These batches were taken. Of those above the flushed number the cells are stored and counted.
pub record HoldsBatches (reader : BatchReader) (batches : List LogBatch) : Type 0 where
  pub right : AreBatches reader.flushed batches
  pub last : reader.last ≡ last_batch_number reader.flushed batches
  pub some : reader.some ≡ is_some batches
  pub store : reader.store.cells ≡ settle (later_first (batches_above reader.flushed batches))
  pub cells : reader.cells ≡ cell_count (batches_above reader.flushed batches)
  pub bytes : reader.bytes ≡ batch_byte_count (batches_above reader.flushed batches)

abbrev pub HoldsRecords : BatchReader → List LogRecord → Type 0
HoldsRecords reader records = (batches : List LogBatch) × (records ≡ map batch_record batches) × HoldsBatches reader batches

-- these are the records before those of the newest segment: batches that go up to the number that is kept
abbrev pub HoldsOlder : BatchReader → List LogRecord → Type 0
HoldsOlder reader records = (older : List LogBatch) × (records ≡ map batch_record older) × AllByRecursion IsLogBatch older × IsUpTo reader.flushed older reader.older_to
