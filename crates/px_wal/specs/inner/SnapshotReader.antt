-- What a reader of a manifest has taken.
use Rattle.std.specs.Prelude.{List}
use Rattle.px_gatelog.specs.Format.{LogRecord}
use Rattle.px_wal.specs.Snapshot.{IsLast, IsSnapshot}
use Rattle.px_wal.specs.SnapshotOf.{snapshot_of}
use Rattle.px_wal.specs.declared.snapshot_reader.SnapshotReader.{SnapshotReader}

-- the last of the records has what the reader has
pub record HoldsLast (reader : SnapshotReader) (records : List LogRecord) : Type 0 where
  pub last : IsLast records (snapshot_of reader.snapshot)
  pub right : IsSnapshot (snapshot_of reader.snapshot)
