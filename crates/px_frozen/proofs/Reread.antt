-- What is read of a log again.
use Rattle.std.proofs.Common.{◌≡◌, ℕ, ◌<◌, List, sym, subst, ◌∙◌, arith}
use Rattle.std.specs.Prelude.{nat_lt, nat_le, ◌&&◌}
use Rattle.px_outside.specs.declared.disk.Disk.{Ghosts}
use Rattle.px_cellbytes.specs.Reading.{IsWritten}
use Rattle.px_wal.specs.Batches.{LogBatch, batches_between}
use Rattle.px_wal.specs.Form.{IsLogBatch}
use Rattle.px_wal.specs.Wal.{HasBatches, IsReread}
use Rattle.px_wal.specs.declared.wal.Reread.{Reread}
use Rattle.px_wal.specs.declared.wal.Wal.{Wal}
use Rattle.px_wal.proofs.Rereading.{older_within}
use Rattle.px_frozen.specs.Frozen.{IsFrozen}
use Rattle.px_frozen.specs.FrozenData.{FrozenData}
use Rattle.px_frozen.proofs.Fitting.{filtered, settled_written}

module _ {D : Type 0} (d : Ghosts D) (region flushed : ℕ) (disk : D) (wal : Wal) (batches : List LogBatch) (has : HasBatches d region flushed wal disk batches) (r : Reread) (again : IsReread flushed wal.older_to batches r) where
  -- what was read again are the batches of the older segment
  pub frozen_by : flushed < wal.older_to → (frozen : FrozenData) → frozen.upto ≡ wal.older_to → frozen.cells ≡ r.store.cells → frozen.count ≡ r.cells → frozen.bytes ≡ r.bytes → IsFrozen flushed batches frozen
  frozen_by left frozen upto cells count bytes =
      let within = older_within d region flushed wal disk batches has left in
      let there : IsReread flushed frozen.upto batches r = subst (λ (n : ℕ). IsReread flushed n batches r) (sym upto) again in
      record {
        within = omega (arith, within, upto);
        cells = cells ∙ there.store;
        counted = count ∙ there.cells;
        weighed = bytes ∙ there.bytes;
      }

  pub again_written : IsWritten r.store.cells
  again_written = subst IsWritten (sym again.store)
      (settled_written (batches_between flushed wal.older_to batches) (filtered IsLogBatch (λ b. nat_lt flushed b.number && nat_le b.number wal.older_to) batches has.right.each))
