-- What a region's log has.
use Rattle.std.proofs.Common.{◌≡◌, ◌⊎◌, ℕ, ◌+◌, ◌<◌, ◌≤◌, List, [], ◌∷◌, ◌++◌, Option, Some, None, refl, sym, ap, subst, ◌∙◌, append_assoc, arith, inl, inr, Bool, true, false, Ok}
use Rattle.std.specs.Prelude.{map, IsSome}
use Rattle.std.specs.List.{AllByRecursion}
use Rattle.std.proofs.lemmas.List.{map-append}
use Rattle.px_outside.specs.Disk.{Image}
use Rattle.px_outside.specs.OnDisk.{LeavesOnly, TouchesOnly}
use Rattle.px_outside.specs.Standing.{StandsIn}
use Rattle.px_outside.proofs.Standing.{stands_left}
use Rattle.px_outside.proofs.Moments.{touches_more, touches_none}
use Rattle.px_outside.specs.declared.disk.Disk.{Ghosts}
use Rattle.px_gatelog.specs.Format.{IsNextRecord, LogRecord, SegmentRead, newest_of, older_of, records_of, segments_of}
use Rattle.px_gatelog.specs.GateLog.{IsLaid, IsNewestFile, IsSameLog, file_at, generation_in, is_newest_file, is_next_file, newest_generation, next_side, steps_left}
use Rattle.px_gatelog.specs.Records.{HasRecords, RecordsStand, has_files}
use Rattle.px_gatelog.specs.Steps.{Commits, IsAppend, IsRollStep, LogReaches}
use Rattle.px_gatelog.proofs.LogRecords.{appended_leaves, appended_segments, closed_records, records_by, records_stand, rolled_leaves, rolled_records, segments_kept, started_segments}
use Rattle.px_gatelog.proofs.Older.{records_cut}
use Rattle.px_gatelog.proofs.Switching.{older_empty}
use Rattle.px_gatelog.specs.First.{segment_size}
use Rattle.px_gatelog.specs.Start.{Started}
use Rattle.px_gatelog.specs.declared.fault.AppendFault.{AppendFault}
use Rattle.px_gatelog.specs.declared.fault.AppendFault.TheVariants as refusal
use Rattle.px_gatelog.specs.declared.roll.Rolled.{Rolled}
use Rattle.px_gatelog.specs.declared.roll.Rolled.TheVariants as step
use Rattle.px_gatelog.specs.declared.segment.Segment.{Segment}
use Rattle.px_gatelog.specs.declared.gate_log.GateLog.{GateLog}
use Rattle.px_memstore.specs.Stored.{Stored as MemData}
use Rattle.px_merge.specs.Settle.{settle}
use Rattle.px_wal.specs.Batches.{LogBatch, batches_above, later_first}
use Rattle.px_wal.specs.Files.{file_of}
use Rattle.px_wal.specs.Form.{AreBatches, IsLogBatch, IsNextNumber, IsUpTo, batch_byte_count, batch_record, cell_count, last_batch_number, wal_form, wrong_batch}
use Rattle.px_wal.specs.inner.Reader.{HoldsOlder, HoldsRecords}
use Rattle.px_wal.specs.Wal.{HasBatches, IsCut, IsReplayed, LogStands, is_wal_open, log_files}
use Rattle.px_wal.specs.declared.reader.BatchReader.{BatchReader}
use Rattle.px_wal.specs.declared.wal.Wal.{Wal}
use Rattle.px_wal.specs.declared.wal.Replayed.{Replayed}
use Rattle.px_wal.proofs.Numbers.{batch_is_right, form_flushed, last_more, right_more}
use Rattle.px_wal.proofs.OneStanding.{batches_once}
use Rattle.px_wal.proofs.Cuts.{all_left}
use Rattle.px_wal.proofs.Parting.{batches_cut}

-- ---- the files of a log

side_of : (log : GateLog) (first second : ℕ) → log.first ≡ first → log.second ≡ second → (newest : Option Segment) (file : ℕ) → IsNewestFile log newest file → has_files first second file
side_of log first second one two None file own = absurd own
side_of log first second one two (Some s) file own = by s.in_second refl
  where
    by : (side : Bool) → s.in_second ≡ side → has_files first second file
    by false is = inl (own ∙ ap (file_at log) is ∙ one)
    by true is = inr (own ∙ ap (file_at log) is ∙ two)

pub newest_of_files : (log : GateLog) (first second : ℕ) → log.first ≡ first → log.second ≡ second → (file : ℕ) → is_newest_file log file → has_files first second file
newest_of_files log first second one two file own = side_of log first second one two log.newest file own

pub next_of_files : (log : GateLog) (first second : ℕ) → log.first ≡ first → log.second ≡ second → (file : ℕ) → is_next_file log file → has_files first second file
next_of_files log first second one two file own = by (next_side log.newest) refl
  where
    by : (side : Bool) → next_side log.newest ≡ side → has_files first second file
    by false is = inl (own ∙ ap (file_at log) is ∙ one)
    by true is = inr (own ∙ ap (file_at log) is ∙ two)

not_some : (newest : Option Segment) → (IsSome newest → ⊥) → newest ≡ None
not_some None closed = refl
not_some (Some s) closed = absurd (closed refl)

-- a log without an open segment
pub not_open : (wal : Wal) → (is_wal_open wal → ⊥) → wal.log.newest ≡ None
not_open wal closed = not_some wal.log.newest closed

generation_none : (newest : Option Segment) → newest ≡ None → generation_in newest ≡ 18446744073709551615 → ⊥
generation_none None is full = omega arith
generation_none (Some s) is full = cc

-- the making of a log's first segment is never full
pub never_full : (log : GateLog) → log.newest ≡ None → (newest_generation log ≡ 18446744073709551615) ⊎ ((steps_left log ≡ 2) × (67108864 < segment_size [])) → ⊥
never_full log closed (inl last) = generation_none log.newest closed last
never_full log closed (inr long) = (let l = long.1 in omega arith)

-- what isn't full has failed
pub written_or : {P : Type 0} (fault : AppendFault) → (fault ≡ refusal.Full → ⊥) → (fault ≡ refusal.WriteFault → P) → P
written_or refusal.Full full failed = absurd (full refl)
written_or refusal.WriteFault full failed = failed refl

-- ---- a step of the making of a segment

-- a segment that is laid out now was laid out by this step
pub laid_next : {P : Type 0} (r : Rolled) (old new : ℕ) → (r ≡ step.More → new + 1 ≡ old) → (r ≡ step.Rolled → 1 < new) → (old ≡ 2 → P) → new ≡ 1 → P
laid_next step.More old new more rolled laid is = laid (let m = more refl in omega arith)
laid_next step.Rolled old new more rolled laid is = absurd (let m = rolled refl in omega arith)

none_of : (a b : List LogBatch) → map batch_record (a ++ b) ≡ [] → a ≡ []
none_of [] b is = refl
none_of (x ∷ a) b is = cc

-- ---- one batch more

next_is_right : (flushed : ℕ) (batches : List LogBatch) (n : ℕ) → n ≡ last_batch_number flushed batches + 1 → IsNextNumber flushed batches n
next_is_right flushed [] n is = omega arith
next_is_right flushed (b ∷ batches) n is = is

module _ {D : Type 0} (d : Ghosts D) (region flushed : ℕ) (old : Wal) (disk : D) (batches : List LogBatch) (has : HasBatches d region flushed old disk batches) where
  pub touches_newest : (disk' : D) → TouchesOnly d disk disk' (is_newest_file old.log) → TouchesOnly d disk disk' (log_files region)
  touches_newest disk' touches =
      touches_more d.calls d.left d.seen disk disk' (is_newest_file old.log) (log_files region) (λ file own. newest_of_files old.log (file_of region 0) (file_of region 1) has.log.first_is has.log.second_is file own) touches

  pub touches_next : (disk' : D) → TouchesOnly d disk disk' (is_next_file old.log) → TouchesOnly d disk disk' (log_files region)
  touches_next disk' touches =
      touches_more d.calls d.left d.seen disk disk' (is_next_file old.log) (log_files region) (λ file own. next_of_files old.log (file_of region 0) (file_of region 1) has.log.first_is has.log.second_is file own) touches

  -- its files stand for the batches, whatever a stop leaves of the files
  pub log_stands : StandsIn d disk (log_files region) (λ image. LogStands region flushed image batches)
  log_stands =
      let stand = records_stand d (wal_form flushed) (file_of region 0) (file_of region 1) disk old.log (map batch_record batches) has.log in
      record { each = λ image left. record { records = stand.each image left; right = has.right } }

  -- calls on other files leave it so
  pub log_kept : (disk' : D) (touched : ℕ → Type 0) → TouchesOnly d disk disk' touched → ((file : ℕ) → log_files region file → touched file → ⊥) → HasBatches d region flushed old disk' batches
  log_kept disk' touched touches apart =
      let l = segments_kept d (wal_form flushed) (file_of region 0) (file_of region 1) disk disk' old.log (map batch_record batches) has.log touched touches apart in
      record {
        log = l.0;
        right = has.right;
        last = has.last;
        cut = subst (λ (s : List SegmentRead). IsCut flushed old.older_to s batches) (sym l.1) has.cut;
      }

  -- no call
  pub log_now : (up_to_now : (x : D) (moment file : ℕ) (bytes : List ℕ) → d.left x moment file bytes → moment ≤ d.calls x) → (Q : Image → Type 0) → LeavesOnly d disk disk (λ moment image. LogStands region flushed image batches ⊎ Q image)
  log_now up_to_now Q =
      let none = touches_none d.calls d.left d.seen up_to_now disk (λ file. ⊥) in
      record { each = λ moment image since left. inl (stands_left d disk disk (log_files region) (λ i. LogStands region flushed i batches) log_stands (λ file. ⊥) none (λ file own touched. touched) moment image since left) }

  module _ (b : LogBatch) (open_ : is_wal_open old) (is : IsLogBatch b) (number : b.number ≡ old.last + 1) (r : LogRecord) (record-is : r ≡ batch_record b) where
    follows : IsNextNumber flushed batches b.number
    follows = next_is_right flushed batches b.number (number ∙ ap (λ (n : ℕ). n + 1) has.last)

    may : IsNextRecord (wal_form flushed) has.log.segments r
    may =
        ap (wrong_batch flushed (records_of has.log.segments)) record-is ∙ ap (λ (l : List LogRecord). wrong_batch flushed l (batch_record b)) has.log.records_are
        ∙ batch_is_right flushed batches b has.right.each is follows

    records_are : map batch_record batches ++ r ∷ [] ≡ map batch_record (batches ++ b ∷ [])
    records_are = ap (λ (x : LogRecord). map batch_record batches ++ x ∷ []) record-is ∙ sym (map-append batch_record batches (b ∷ []))

    right : AreBatches flushed (batches ++ b ∷ [])
    right = right_more flushed batches b has.right is follows

    pub append_done : (new : Wal) (disk' : D) → new.last ≡ b.number → new.older_to ≡ old.older_to → IsSameLog old.log new.log → (IsLaid d old.log disk [] → IsLaid d new.log disk' []) → steps_left new.log ≡ steps_left old.log
        → LogReaches d old.log new.log disk disk' (IsAppend r) → HasBatches d region flushed new disk' (batches ++ b ∷ [])
    append_done new disk' last to same laid steps done =
        let l = appended_segments d (wal_form flushed) (file_of region 0) (file_of region 1) disk disk' old.log new.log (map batch_record batches) r has.log open_ may done same laid steps in
        let n = records_by d (wal_form flushed) (file_of region 0) (file_of region 1) disk' new.log (map batch_record batches ++ r ∷ []) (map batch_record (batches ++ b ∷ [])) records_are l.0 in
        record {
          log = n.0;
          right = right;
          last = last ∙ sym (last_more flushed batches b);
          cut = record {
            older = has.cut.older;
            newer = has.cut.newer ++ b ∷ [];
            all = ap (λ (l : List LogBatch). l ++ b ∷ []) has.cut.all ∙ append_assoc has.cut.older has.cut.newer (b ∷ []);
            before = ap (λ (s : List SegmentRead). records_of (older_of s)) n.1 ∙ ap records_of l.1 ∙ has.cut.before;
            upto_is = subst (IsUpTo flushed has.cut.older) (sym to) has.cut.upto_is;
          };
        }

    pub append_at : (disk' : D) → Commits d old.log disk disk' (IsAppend r) → LeavesOnly d disk disk' (λ moment image. LogStands region flushed image batches ⊎ LogStands region flushed image (batches ++ b ∷ []))
    append_at disk' leaves =
        let l = appended_leaves d (wal_form flushed) (file_of region 0) (file_of region 1) disk disk' old.log old.log (map batch_record batches) r has.log open_ may leaves in
        record {
          each = λ moment image since left. elim (l.each moment image since left) [
            | inl a ↦ inl (record { records = a; right = has.right })
            | inr z ↦ inr (record { records = subst (RecordsStand (wal_form flushed) (file_of region 0) (file_of region 1) image) records_are z; right = right })
          ];
        }

  -- ---- the making of the first segment

  module _ (closed : old.log.newest ≡ None) where
    pub roll_at : (disk' : D) → Commits d old.log disk disk' (IsRollStep d old.log disk) → LeavesOnly d disk disk' (λ moment image. LogStands region flushed image batches)
    roll_at disk' leaves =
        let l = rolled_leaves d (wal_form flushed) (file_of region 0) (file_of region 1) disk disk' old.log old.log (map batch_record batches) has.log closed refl leaves in
        record { each = λ moment image since left. record { records = l.each moment image since left; right = has.right } }

    none_yet : map batch_record batches ≡ []
    none_yet = closed_records d (wal_form flushed) (file_of region 0) (file_of region 1) disk old.log (map batch_record batches) has.log closed

    older_none : has.cut.older ≡ []
    older_none = none_of has.cut.older has.cut.newer (ap (map batch_record) (sym has.cut.all) ∙ none_yet)

    pub roll_done : (new : Wal) (disk' : D) → new.last ≡ old.last → new.older_to ≡ old.older_to → IsSameLog old.log new.log → (steps_left new.log ≡ 1 → IsLaid d new.log disk' []) → LogReaches d old.log new.log disk disk' (IsRollStep d old.log disk) → HasBatches d region flushed new disk' batches
    roll_done new disk' last to same laid done =
        let l = rolled_records d (wal_form flushed) (file_of region 0) (file_of region 1) disk disk' old.log new.log (map batch_record batches) has.log closed refl done same laid in
        record {
          log = l;
          right = has.right;
          last = last ∙ has.last;
          cut = record {
            older = [];
            newer = batches;
            all = refl;
            before = older_empty l.segments (l.records_are ∙ none_yet);
            upto_is = subst (IsUpTo flushed []) (sym to) (subst (λ (b : List LogBatch). IsUpTo flushed b old.older_to) older_none has.cut.upto_is);
          };
        }

-- ---- opening

-- what was told of the records before those of the newest segment
cut_told : (flushed : ℕ) (reader : BatchReader) (batches : List LogBatch) (segments : List SegmentRead) (to : ℕ) → reader.flushed ≡ flushed → AllByRecursion IsLogBatch batches → records_of segments ≡ map batch_record batches
    → HoldsOlder reader (records_of (older_of segments)) → to ≡ reader.older_to → IsCut flushed to segments batches
cut_told flushed reader batches segments to now each records told is =
    let c = batches_cut batches (records_of (older_of segments)) (records_of (newest_of segments)) (sym records ∙ records_cut segments) in
    let a_each : AllByRecursion IsLogBatch c.0 = all_left IsLogBatch c.0 c.1 (subst (AllByRecursion IsLogBatch) c.2 each) in
    let same : told.0 ≡ c.0 = batches_once told.0 c.0 told.2 a_each (sym told.1 ∙ sym c.3) in
    record {
      older = c.0;
      newer = c.1;
      all = c.2;
      before = sym c.3;
      upto_is = subst (λ (n : ℕ). IsUpTo flushed c.0 n) (sym is) (subst (λ (n : ℕ). IsUpTo n c.0 reader.older_to) now (subst (λ (b : List LogBatch). IsUpTo reader.flushed b reader.older_to) same told.3));
    }

replayed_at : {D : Type 0} (d : Ghosts D) (region : ℕ) (old new : D) (before after : BatchReader) (r : Replayed) → after.flushed ≡ before.flushed
    → (started : Started d (wal_form before.flushed) (λ records. HoldsRecords after records) (file_of region 0) (file_of region 1) old new r.wal.log) → HoldsOlder after (records_of (older_of started.segments)) → 1 < steps_left r.wal.log
    → r.wal.last ≡ after.last → r.wal.older_to ≡ after.older_to → r.store ≡ after.store → r.cells ≡ after.cells → r.bytes ≡ after.bytes → IsReplayed d region before.flushed old new r
replayed_at {D} d region old new before after r now started told more last to store cells bytes =
    let flushed = before.flushed in
    let batches = started.taken.0 in
    let holds = started.taken.2 in
    let right : AreBatches flushed batches = subst (λ (n : ℕ). AreBatches n batches) now holds.right in
    let read : segments_of (wal_form flushed) (d.seen old (file_of region 0)) (d.seen old (file_of region 1)) ≡ Ok started.segments =
    ap (λ (f : ℕ). segments_of (wal_form flushed) (d.seen old f) (d.seen old (file_of region 1))) (sym started.first_is) ∙ ap (λ (f : ℕ). segments_of (wal_form flushed) (d.seen old r.wal.log.first) (d.seen old f)) (sym started.second_is) ∙ started.stood in
    let stands : RecordsStand (wal_form flushed) (file_of region 0) (file_of region 1) (d.seen old) (map batch_record batches) = (started.segments, read, started.taken.1) in
    let l : (l : HasRecords d (wal_form flushed) (file_of region 0) (file_of region 1) new r.wal.log (map batch_record batches)) × (l.segments ≡ started.segments) =
    started_segments d (wal_form flushed) (file_of region 0) (file_of region 1) (λ records. HoldsRecords after records) old new r.wal.log (map batch_record batches) started more stands in
    record {
      batches = batches;
      stood = record { records = stands; right = right };
      has = record {
        log = l.0;
        right = right;
        last = last ∙ holds.last ∙ ap (λ (n : ℕ). last_batch_number n batches) now;
        cut = subst (λ (s : List SegmentRead). IsCut flushed r.wal.older_to s batches) (sym l.1) (cut_told flushed after batches started.segments r.wal.older_to now right.each started.taken.1 told to);
      };
      stored = record {
        store = ap (λ (s : MemData). s.cells) store ∙ holds.store ∙ ap (λ (n : ℕ). settle (later_first (batches_above n batches))) now;
        cells = cells ∙ holds.cells ∙ ap (λ (n : ℕ). cell_count (batches_above n batches)) now;
        bytes = bytes ∙ holds.bytes ∙ ap (λ (n : ℕ). batch_byte_count (batches_above n batches)) now;
      };
    }

pub replayed_by : {D : Type 0} (d : Ghosts D) (region flushed : ℕ) (old new : D) (before after : BatchReader) (r : Replayed) → before.flushed ≡ flushed → wal_form after.flushed ≡ wal_form before.flushed
    → Started d (wal_form before.flushed) (λ records. HoldsRecords after records) (file_of region 0) (file_of region 1) old new r.wal.log
    → ((segments : List SegmentRead) → segments_of (wal_form before.flushed) (d.seen old (file_of region 0)) (d.seen old (file_of region 1)) ≡ Ok segments → HoldsOlder after (records_of (older_of segments))) → 1 < steps_left r.wal.log
    → r.wal.last ≡ after.last → r.wal.older_to ≡ after.older_to → r.store ≡ after.store → r.cells ≡ after.cells → r.bytes ≡ after.bytes → IsReplayed d region flushed old new r
replayed_by {D} d region flushed old new before after r is same started told more last to store cells bytes =
    let read : segments_of (wal_form before.flushed) (d.seen old (file_of region 0)) (d.seen old (file_of region 1)) ≡ Ok started.segments =
    ap (λ (f : ℕ). segments_of (wal_form before.flushed) (d.seen old f) (d.seen old (file_of region 1))) (sym started.first_is) ∙ ap (λ (f : ℕ). segments_of (wal_form before.flushed) (d.seen old r.wal.log.first) (d.seen old f)) (sym started.second_is) ∙ started.stood in
    subst (λ (n : ℕ). IsReplayed d region n old new r) is (replayed_at d region old new before after r (form_flushed after.flushed before.flushed same) started (told started.segments read) more last to store cells bytes)
