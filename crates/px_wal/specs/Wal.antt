-- A region's log that the program appends to.
use Rattle.std.specs.Prelude.{◌≡◌, ◌≤◌, ◌+◌, ◌++◌, ℕ, List, map}
use Rattle.px_outside.specs.Disk.{Image}
use Rattle.px_outside.specs.declared.disk.Disk.{Ghosts}
use Rattle.px_cells.specs.CellData.{CellData}
use Rattle.px_gatelog.specs.Format.{SegmentRead, older_of, records_of}
use Rattle.px_gatelog.specs.GateLog.{is_log_open, room_of_log}
use Rattle.px_gatelog.specs.Records.{HasRecords, IsNeverWritten, RecordsStand, has_files}
use Rattle.px_merge.specs.Settle.{settle}
use Rattle.px_wal.specs.Batches.{LogBatch, batches_above, batches_between, later_first}
use Rattle.px_wal.specs.Files.{file_of}
use Rattle.px_wal.specs.Form.{AreBatches, IsUpTo, batch_byte_count, batch_record, cell_count, last_batch_number, wal_form}
use Rattle.px_wal.specs.declared.wal.Wal.{Wal}
use Rattle.px_wal.specs.declared.wal.Replayed.{Replayed}
use Rattle.px_wal.specs.declared.wal.Reread.{Reread}

-- the log has an open segment
abbrev pub is_wal_open : Wal → Type 0
is_wal_open wal = is_log_open wal.log

-- how many bytes the newest segment has left
abbrev pub room_of_wal : Wal → ℕ
room_of_wal wal = room_of_log wal.log

-- the files of a region's log
abbrev pub log_files : ℕ → ℕ → Type 0
log_files region = has_files (file_of region 0) (file_of region 1)

-- the batch that these cells are next
abbrev pub next_batch : Wal → List CellData → LogBatch
next_batch wal cells = record { number = wal.last + 1; cells = cells }

-- the image's files of a region's log have these batches, where it was flushed up to a number
pub record LogStands (region flushed : ℕ) (image : Image) (batches : List LogBatch) : Type 0 where
  pub records : RecordsStand (wal_form flushed) (file_of region 0) (file_of region 1) image (map batch_record batches)
  pub right : AreBatches flushed batches

-- the batches of the log's older segment, which go up to a number, and those of its newest
pub record IsCut (flushed upto : ℕ) (segments : List SegmentRead) (batches : List LogBatch) : Type 0 where
  pub older : List LogBatch
  pub newer : List LogBatch
  pub all : batches ≡ older ++ newer
  pub before : records_of (older_of segments) ≡ map batch_record older
  pub upto_is : IsUpTo flushed older upto

-- the disk tells that the region's log has these batches, all of it on the disk, and it goes on from there
pub record HasBatches {D : Type 0} (d : Ghosts D) (region flushed : ℕ) (wal : Wal) (disk : D) (batches : List LogBatch) : Type 0 where
  pub log : HasRecords d (wal_form flushed) (file_of region 0) (file_of region 1) disk wal.log (map batch_record batches)
  pub right : AreBatches flushed batches
  pub last : wal.last ≡ last_batch_number flushed batches
  pub cut : IsCut flushed wal.older_to log.segments batches

-- ---- the switch to another segment

-- The older segment's batches were flushed, so it may go, and the numbers go on above the flushed one.
abbrev pub MaySwitch : ℕ → Wal → Type 0
MaySwitch flushed wal = (wal.older_to ≤ flushed) × (flushed ≤ wal.last)

-- what is read again of batches above a number, up to another
pub record IsReread (flushed upto : ℕ) (batches : List LogBatch) (r : Reread) : Type 0 where
  pub store : r.store.cells ≡ settle (later_first (batches_between flushed upto batches))
  pub cells : r.cells ≡ cell_count (batches_between flushed upto batches)
  pub bytes : r.bytes ≡ batch_byte_count (batches_between flushed upto batches)

-- ---- opening

-- of the batches above the flushed number, the cells and their count
pub record IsStoredAbove (flushed : ℕ) (batches : List LogBatch) (r : Replayed) : Type 0 where
  pub store : r.store.cells ≡ settle (later_first (batches_above flushed batches))
  pub cells : r.cells ≡ cell_count (batches_above flushed batches)
  pub bytes : r.bytes ≡ batch_byte_count (batches_above flushed batches)

-- what the files stood for, and the log goes on from there
pub record IsReplayed {D : Type 0} (d : Ghosts D) (region flushed : ℕ) (old new : D) (r : Replayed) : Type 0 where
  pub batches : List LogBatch
  pub stood : LogStands region flushed (d.seen old) batches
  pub has : HasBatches d region flushed r.wal new batches
  pub stored : IsStoredAbove flushed batches r

-- ---- a region of which no file was ever written

-- its log has no batch
pub record IsFreshLog (region : ℕ) (wal : Wal) : Type 0 where
  pub log : IsNeverWritten wal.log (file_of region 0) (file_of region 1)
  pub last : wal.last ≡ 0
  pub older_to : wal.older_to ≡ 0
