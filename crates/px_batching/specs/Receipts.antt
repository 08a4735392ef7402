-- What a receipt tells of a batch that has ended.
use Rattle.std.specs.Prelude.{◌≡◌, ◌↔◌, ℕ, true, List, length, Some}
use Rattle.px_values.specs.declared.row.Value.{Value}
use Rattle.px_trail.specs.declared.entry.Entry.{Entry}
use Rattle.px_trail.specs.Batches.{Batch, IsConcurrent, batch_of, has, is_distinct, rows_of}
use Rattle.px_batching.specs.declared.ending.Told.{Told}

-- its rows are counted, and those are named, each once, on which another batch was pending meanwhile
pub record IsReceiptOf (es : List Entry) (t s : ℕ) (told : Told) : Type 0 where
  pub batch : Batch
  pub is : batch_of t s es ≡ Some batch
  pub rows : told.rows ≡ length batch.changes
  pub once : is_distinct told.concurrent ≡ true
  pub concurrent : (row : List Value) → (has told.concurrent row ≡ true) ↔ ((has (rows_of batch.changes) row ≡ true) × IsConcurrent es t s row)
