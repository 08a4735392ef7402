-- What a flush writes while further batches come, and once it is named.
use Rattle.std.proofs.Common.{◌≡◌, ℕ, ◌+◌, ◌<◌, ◌≤◌, List, [], ◌∷◌, ◌++◌, sym, ap, ◌∙◌, arith}
use Rattle.px_merge.specs.Settle.{settle}
use Rattle.px_wal.specs.Batches.{LogBatch, batches_above, batches_between, later_first}
use Rattle.px_wal.specs.Form.{batch_byte_count, cell_count, last_batch_number}
use Rattle.px_wal.proofs.Numbers.{last_more}
use Rattle.px_frozen.specs.Frozen.{IsFrozen}
use Rattle.px_frozen.specs.FrozenData.{FrozenData}
use Rattle.px_frozen.proofs.Counting.{between_same, bytes_cut, cells_cut}

pub frozen_more : (flushed : ℕ) (batches : List LogBatch) (b : LogBatch) (frozen : FrozenData) → last_batch_number flushed batches < b.number → IsFrozen flushed batches frozen → IsFrozen flushed (batches ++ b ∷ []) frozen
frozen_more flushed batches b frozen next is =
    let same : batches_between flushed frozen.upto (batches ++ b ∷ []) ≡ batches_between flushed frozen.upto batches = between_same flushed frozen.upto batches b (let w = is.within in omega arith) in
    record {
      within = (let w = is.within in let l = last_more flushed batches b in omega arith);
      cells = is.cells ∙ ap (λ (l : List LogBatch). settle (later_first l)) (sym same);
      counted = is.counted ∙ ap cell_count (sym same);
      weighed = is.weighed ∙ ap batch_byte_count (sym same);
    }

module _ (flushed : ℕ) (batches : List LogBatch) (frozen : FrozenData) (le : flushed ≤ frozen.upto) (is : IsFrozen flushed batches frozen) where
  pub cells_freed : cell_count (batches_above flushed batches) ≡ frozen.count + cell_count (batches_above frozen.upto batches)
  cells_freed = cells_cut flushed frozen.upto batches le ∙ ap (λ (n : ℕ). n + cell_count (batches_above frozen.upto batches)) (sym is.counted)

  pub bytes_freed : batch_byte_count (batches_above flushed batches) ≡ frozen.bytes + batch_byte_count (batches_above frozen.upto batches)
  bytes_freed = bytes_cut flushed frozen.upto batches le ∙ ap (λ (n : ℕ). n + batch_byte_count (batches_above frozen.upto batches)) (sym is.weighed)
