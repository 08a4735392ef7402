-- What a reader of a region's log has taken.
use Rattle.std.proofs.Common.{◌≡◌, ◌≢◌, ℕ, ◌+◌, ◌<◌, ◌≤◌, true, false, eqb, Option, Some, List, [], ◌∷◌, ◌++◌, length, refl, sym, ap, subst, ◌∙◌}
use Rattle.std.specs.Prelude.{map, option_map}
use Rattle.std.specs.List.{AllByRecursion}
use Rattle.std.proofs.lemmas.Bool.{ne_eqb}
use Rattle.std.proofs.lemmas.List.{map-append}
use Rattle.px_gatelog.specs.Format.{LogRecord}
use Rattle.px_cells.specs.CellData.{CellData}
use Rattle.px_cells.specs.Order.{IsSettled}
use Rattle.px_cellbytes.specs.Spelling.{all_bytes}
use Rattle.px_merge.specs.Settle.{settle}
use Rattle.px_wal.specs.Batches.{LogBatch, batches_above, later_first}
use Rattle.px_wal.specs.Form.{AreBatches, IsLogBatch, IsUpTo, batch_body, batch_byte_count, batch_record, cell_count, is_next, is_right, number_in, number_place, right_number, wrong_batch, wrong_by}
use Rattle.px_wal.specs.inner.Reader.{HoldsBatches, HoldsOlder, HoldsRecords}
use Rattle.px_wal.specs.declared.reader.BatchReader.{BatchReader}
use Rattle.px_merge.proofs.Settling.{settle_back, settled_is}
use Rattle.px_wal.proofs.Numbers.{above_more, above_same, bytes_more, cells_more, last_more, later_more, next_number, right_is_last, right_is_next, right_more, some_more}
use Rattle.px_wal.proofs.Parting.{upto_last}

-- a settled list with the cells of one more batch
pub settle_more : (n : ℕ) (batches : List LogBatch) (b : LogBatch) (old new : List CellData) → n < b.number → old ≡ settle (later_first (batches_above n batches)) → IsSettled (b.cells ++ old) new
    → new ≡ settle (later_first (batches_above n (batches ++ b ∷ [])))
settle_more n batches b old new over is settled =
    settled_is (b.cells ++ old) new settled ∙ ap (λ (l : List CellData). settle (b.cells ++ l)) is ∙ settle_back b.cells (later_first (batches_above n batches))
    ∙ ap settle (sym (later_more (batches_above n batches) b)) ∙ ap (λ (l : List LogBatch). settle (later_first l)) (sym (above_more n batches b over))

pub holds_passed : (old new : BatchReader) (batches : List LogBatch) (b : LogBatch) → HoldsBatches old batches → IsLogBatch b → is_next old.flushed old.some old.last b.number ≡ true → b.number ≤ old.flushed
    → new.flushed ≡ old.flushed → new.last ≡ b.number → new.some ≡ true → new.store.cells ≡ old.store.cells → new.cells ≡ old.cells → new.bytes ≡ old.bytes → HoldsBatches new (batches ++ b ∷ [])
holds_passed old new batches b holds is next low flushed last some store cells bytes =
    let number = next_number old.flushed b.number old.last old.some batches holds.last holds.some next in
    let same : batches_above new.flushed (batches ++ b ∷ []) ≡ batches_above old.flushed batches = ap (λ (n : ℕ). batches_above n (batches ++ b ∷ [])) flushed ∙ above_same old.flushed batches b low in
    record {
      right = subst (λ (n : ℕ). AreBatches n (batches ++ b ∷ [])) (sym flushed) (right_more old.flushed batches b holds.right is number);
      last = last ∙ sym (last_more new.flushed batches b);
      some = some ∙ sym (some_more batches b);
      store = store ∙ holds.store ∙ ap (λ (l : List LogBatch). settle (later_first l)) (sym same);
      cells = cells ∙ holds.cells ∙ ap cell_count (sym same);
      bytes = bytes ∙ holds.bytes ∙ ap batch_byte_count (sym same);
    }

pub holds_stored : (old new : BatchReader) (batches : List LogBatch) (b : LogBatch) → HoldsBatches old batches → IsLogBatch b → is_next old.flushed old.some old.last b.number ≡ true → old.flushed < b.number
    → new.flushed ≡ old.flushed → new.last ≡ b.number → new.some ≡ true → IsSettled (b.cells ++ old.store.cells) new.store.cells → new.cells ≡ old.cells + length b.cells → new.bytes ≡ old.bytes + length (all_bytes b.cells)
    → HoldsBatches new (batches ++ b ∷ [])
holds_stored old new batches b holds is next over flushed last some store cells bytes =
    let number = next_number old.flushed b.number old.last old.some batches holds.last holds.some next in
    let more : batches_above new.flushed (batches ++ b ∷ []) ≡ batches_above old.flushed batches ++ b ∷ [] = ap (λ (n : ℕ). batches_above n (batches ++ b ∷ [])) flushed ∙ above_more old.flushed batches b over in
    record {
      right = subst (λ (n : ℕ). AreBatches n (batches ++ b ∷ [])) (sym flushed) (right_more old.flushed batches b holds.right is number);
      last = last ∙ sym (last_more new.flushed batches b);
      some = some ∙ sym (some_more batches b);
      store = settle_more old.flushed batches b old.store.cells new.store.cells over holds.store store ∙ ap (λ (n : ℕ). settle (later_first (batches_above n (batches ++ b ∷ [])))) (sym flushed);
      cells = cells ∙ ap (λ (n : ℕ). n + length b.cells) holds.cells ∙ sym (cells_more (batches_above old.flushed batches) b) ∙ ap cell_count (sym more);
      bytes = bytes ∙ ap (λ (n : ℕ). n + length (all_bytes b.cells)) holds.bytes ∙ sym (bytes_more (batches_above old.flushed batches) b) ∙ ap batch_byte_count (sym more);
    }

-- ---- the records before those of the newest segment

-- where the newest begins, all that was taken stands before it
pub older_now : (old : BatchReader) (records : List LogRecord) (flushed to : ℕ) → HoldsRecords old records → flushed ≡ old.flushed → to ≡ old.last
    → (older : List LogBatch) × (records ≡ map batch_record older) × AllByRecursion IsLogBatch older × IsUpTo flushed older to
older_now old records flushed to held now is =
    let holds = held.2 in (
      held.0,
      held.1,
      holds.right.each,
      subst (λ (n : ℕ). IsUpTo n held.0 to) (sym now) (upto_last old.flushed to held.0 (is ∙ holds.last)),
    )

pub older_kept : (old : BatchReader) (records : List LogRecord) (flushed to : ℕ) → flushed ≡ old.flushed → to ≡ old.older_to → HoldsOlder old records
    → (older : List LogBatch) × (records ≡ map batch_record older) × AllByRecursion IsLogBatch older × IsUpTo flushed older to
older_kept old records flushed to now is told = (
  told.0,
  told.1,
  told.2,
  subst (λ (n : ℕ). IsUpTo n told.0 to) (sym now) (subst (IsUpTo old.flushed told.0) (sym is) told.3),
)

-- ---- the answers of a reader

pub answers_kind : (flushed : ℕ) (records : List LogRecord) (kind : ℕ) (body : List ℕ) → kind ≢ 2 → Some 0 ≡ wrong_batch flushed records (record { kind = kind; body = body })
unfolding wrong_batch
answers_kind flushed records kind body other =
    let no : eqb kind 2 ≡ false = ne_eqb kind 2 other in
    rw no refl

pub answers_body : (reader : BatchReader) (records : List LogRecord) (kind : ℕ) (body : List ℕ) (w : Option ℕ) → HoldsRecords reader records → kind ≡ 2
    → wrong_by (is_next reader.flushed reader.some reader.last (number_in body)) (number_place (reader.last + 1) (number_in body)) body ≡ w → option_map (λ place. 5 + place) w ≡ wrong_batch reader.flushed records (record { kind = kind; body = body })
unfolding wrong_batch
answers_body reader records kind body w held named wrong =
    let holds = held.2 in
    let same : is_right reader.flushed records (number_in body) ≡ is_next reader.flushed reader.some reader.last (number_in body) =
    ap (λ (l : List LogRecord). is_right reader.flushed l (number_in body)) held.1 ∙ right_is_next reader.flushed (number_in body) reader.last reader.some held.0 holds.right.each holds.last holds.some in
    let right : right_number reader.flushed records ≡ reader.last + 1 = ap (right_number reader.flushed) held.1 ∙ right_is_last reader.flushed reader.last held.0 holds.right.each holds.last in
    rw (named, same, right, wrong) refl

pub records_more : (old new : BatchReader) (records : List LogRecord) (kind : ℕ) (body : List ℕ) (b : LogBatch) → HoldsRecords old records → kind ≡ 2 → body ≡ batch_body b
    → ((batches : List LogBatch) → HoldsBatches old batches → HoldsBatches new (batches ++ b ∷ [])) → HoldsRecords new (records ++ record { kind = kind; body = body } ∷ [])
records_more old new records kind body b held named spelled kept = (
  held.0 ++ b ∷ [],
  (let one : LogRecord = batch_record b in
      let same : record { kind = kind; body = body } ≡ one = rw (named, spelled) refl in
      ap (λ (l : List LogRecord). l ++ record { kind = kind; body = body } ∷ []) held.1 ∙ ap (λ (r : LogRecord). map batch_record held.0 ++ r ∷ []) same ∙ sym (map-append batch_record held.0 (b ∷ []))),
  kept held.0 held.2,
)
