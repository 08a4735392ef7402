-- What is read again of a region's log.
use Rattle.std.proofs.Common.{◌≡◌, ℕ, ◌<◌, ◌≤◌, List, ◌++◌, sym, ap, subst, ◌∙◌}
use Rattle.std.specs.List.{AllByRecursion}
use Rattle.px_outside.specs.declared.disk.Disk.{Ghosts}
use Rattle.px_gatelog.specs.Format.{older_of, records_of}
use Rattle.px_gatelog.specs.GateLog.{IsLogSettled}
use Rattle.px_memstore.specs.Stored.{Stored as MemData}
use Rattle.px_merge.specs.Settle.{settle}
use Rattle.px_wal.specs.Batches.{AreRisingBatches, LogBatch, batches_above, batches_between, later_first}
use Rattle.px_wal.specs.Form.{IsLogBatch, batch_byte_count, cell_count, last_batch_number, wal_form}
use Rattle.px_wal.specs.Wal.{HasBatches, IsReread}
use Rattle.px_wal.specs.inner.Reader.{HoldsRecords}
use Rattle.px_wal.specs.declared.reader.BatchReader.{BatchReader}
use Rattle.px_wal.specs.declared.wal.Reread.{Reread}
use Rattle.px_wal.specs.declared.wal.Wal.{Wal}
use Rattle.px_wal.proofs.Cuts.{all_left}
use Rattle.px_wal.proofs.Numbers.{form_flushed}
use Rattle.px_wal.proofs.OneStanding.{batches_once}
use Rattle.px_wal.proofs.Parting.{older_between, upto_within}

module _ {D : Type 0} (d : Ghosts D) (region flushed : ℕ) (wal : Wal) (disk : D) (batches : List LogBatch) (has : HasBatches d region flushed wal disk batches) where
  -- the log as a reader with this flushed number sees it
  pub settled_for : (n : ℕ) → n ≡ flushed → IsLogSettled d (wal_form n) wal.log disk has.log.segments
  settled_for n is = subst (λ (k : ℕ). IsLogSettled d (wal_form k) wal.log disk has.log.segments) (sym is) has.log.settled

  older_each : AllByRecursion IsLogBatch has.cut.older
  older_each = all_left IsLogBatch has.cut.older has.cut.newer (subst (AllByRecursion IsLogBatch) has.cut.all has.right.each)

  rising : AreRisingBatches (has.cut.older ++ has.cut.newer)
  rising = subst AreRisingBatches has.cut.all has.right.rising

  between_is : batches_between flushed wal.older_to batches ≡ batches_above flushed has.cut.older
  between_is = ap (batches_between flushed wal.older_to) has.cut.all ∙ older_between flushed wal.older_to has.cut.older has.cut.newer rising has.cut.upto_is

  -- a number above the flushed one, up to which the older batches go, is at most the last
  pub older_within : flushed < wal.older_to → wal.older_to ≤ last_batch_number flushed batches
  older_within left = subst (λ (l : List LogBatch). wal.older_to ≤ last_batch_number flushed l) (sym has.cut.all) (upto_within flushed wal.older_to has.cut.older has.cut.newer rising has.cut.upto_is left)

  pub reread_by : (before after : BatchReader) (r : Reread) → before.flushed ≡ flushed → wal_form after.flushed ≡ wal_form before.flushed → HoldsRecords after (records_of (older_of has.log.segments))
      → r.store ≡ after.store → r.cells ≡ after.cells → r.bytes ≡ after.bytes → IsReread flushed wal.older_to batches r
  reread_by before after r is form taken store cells bytes =
      let holds = taken.2 in
      let now : after.flushed ≡ flushed = form_flushed after.flushed before.flushed form ∙ is in
      let same : taken.0 ≡ has.cut.older = batches_once taken.0 has.cut.older holds.right.each older_each (sym taken.1 ∙ has.cut.before) in
      let there : batches_above after.flushed taken.0 ≡ batches_between flushed wal.older_to batches = ap (λ (n : ℕ). batches_above n taken.0) now ∙ ap (batches_above flushed) same ∙ sym between_is in
      record {
        store = ap (λ (s : MemData). s.cells) store ∙ holds.store ∙ ap (λ (l : List LogBatch). settle (later_first l)) there;
        cells = cells ∙ holds.cells ∙ ap cell_count there;
        bytes = bytes ∙ holds.bytes ∙ ap batch_byte_count there;
      }
