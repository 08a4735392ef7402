-- The cells that a flush writes.
use Rattle.std.specs.Prelude.{◌≡◌, ◌≤◌, ℕ, List}
use Rattle.px_merge.specs.Settle.{settle}
use Rattle.px_wal.specs.Batches.{LogBatch, batches_between, later_first}
use Rattle.px_wal.specs.Form.{batch_byte_count, cell_count, last_batch_number}
use Rattle.px_frozen.specs.FrozenData.{FrozenData}

-- They are what is read of the log's batches above the flushed number, up to another, and these batches have so many cells
-- and bytes.
pub record IsFrozen (flushed : ℕ) (batches : List LogBatch) (frozen : FrozenData) : Type 0 where
  pub within : frozen.upto ≤ last_batch_number flushed batches
  pub cells : frozen.cells ≡ settle (later_first (batches_between flushed frozen.upto batches))
  pub counted : frozen.count ≡ cell_count (batches_between flushed frozen.upto batches)
  pub weighed : frozen.bytes ≡ batch_byte_count (batches_between flushed frozen.upto batches)
