-- The switch of a region's log to another segment.
use Rattle.std.proofs.Common.{◌≡◌, ◌⊎◌, ℕ, ◌+◌, ◌<◌, ◌≤◌, Bool, true, false, List, [], ◌∷◌, ◌++◌, Option, Some, None, refl, sym, ap, subst, ◌∙◌, append_assoc, arith, inl, inr}
use Rattle.std.specs.Prelude.{map, ◌↔◌, ◌==◌, if◌then◌else◌, option_map}
use Rattle.std.specs.List.{AllByRecursion}
use Rattle.std.proofs.lemmas.List.{append-nil, map-append}
use Rattle.px_outside.specs.OnDisk.{LeavesOnly}
use Rattle.px_outside.specs.declared.disk.Disk.{Ghosts}
use Rattle.px_gatelog.specs.Format.{AllRecordsFit, AreRightRecords, LogRecord, SegmentRead, newest_of, older_of, records_of}
use Rattle.px_gatelog.specs.First.{segment_size}
use Rattle.px_gatelog.specs.GateLog.{IsLaid, IsSameLog, next_shut, steps_by, steps_left}
use Rattle.px_gatelog.specs.declared.gate_log.GateLog.{GateLog}
use Rattle.px_gatelog.specs.Records.{RecordsStand}
use Rattle.px_gatelog.specs.Steps.{Commits, IsRollStep, LogReaches}
use Rattle.px_gatelog.proofs.LogRecords.{records_by}
use Rattle.px_gatelog.proofs.Switching.{newest_are, newest_fit, switched_last, switched_leaves, switched_more}
use Rattle.px_wal.specs.Batches.{AreRisingBatches, IsRest, LogBatch}
use Rattle.px_wal.specs.Files.{file_of}
use Rattle.px_wal.specs.Form.{AreBatches, IsFirstAfter, IsLogBatch, IsUpTo, batch_record, last_batch_number, last_number, number_in, number_place, wal_form, wrong_batch, wrong_by}
use Rattle.px_wal.specs.Wal.{HasBatches, LogStands, MaySwitch}
use Rattle.px_wal.specs.declared.wal.Wal.{Wal}
use Rattle.px_wal.proofs.Cuts.{all_left, all_right}
use Rattle.px_wal.proofs.Numbers.{batch_is_right, right_next}
use Rattle.px_wal.proofs.Parting.{cancel, last_rest, rising_left, rising_right, upto_last, upto_passed}

-- ---- a step

some_step : (laid : Option ℕ) (shut : Bool) → 1 ≤ steps_by laid shut
some_step (Some end) shut = omega arith
some_step None true = omega arith
some_step None false = omega arith

-- a step behind which there are more isn't the last
pub not_last : (old new : GateLog) → steps_left new + 1 ≡ steps_left old → steps_left old ≡ 1 → ⊥
not_last old new more last = (let some = some_step new.laid (next_shut new) in omega (arith, some, more, last))

-- a segment that is laid out behind it was laid out by it
pub laid_more : {P : Type 0} (old new : ℕ) → new + 1 ≡ old → (old ≡ 2 → P) → new ≡ 1 → P
laid_more old new more laid is = laid (omega (arith, more, is))

-- behind the last step none is laid out
pub laid_none : {P : Type 0} (new : ℕ) → 1 < new → new ≡ 1 → P
laid_none new more is = absurd (omega (arith, more, is))

-- a segment without a record passes no size
pub full_alone : (A P : Type 0) (s : ℕ) → (A ↔ (P ⊎ ((s ≡ 2) × (67108864 < segment_size [])))) → A ↔ P
full_alone A P s full = (
  λ a. elim (full.0 a) [ inl p ↦ p | inr w ↦ absurd (let l = w.1 in omega (arith, l)) ],
  λ p. full.1 (inl p),
)

-- ---- records behind others

last_number_behind : (n : ℕ) (before : List LogRecord) (r : LogRecord) (more : List LogRecord) → last_number n (before ++ r ∷ more) ≡ last_number (number_in r.body) more
last_number_behind n [] r more = refl
last_number_behind n (x ∷ before) r more = last_number_behind (number_in x.body) before r more

-- what comes before the last record says nothing of the next
wrong_behind : (flushed : ℕ) (before : List LogRecord) (r : LogRecord) (more : List LogRecord) (x : LogRecord) → wrong_batch flushed (before ++ r ∷ more) x ≡ wrong_batch flushed (r ∷ more) x
unfolding wrong_batch
wrong_behind flushed [] r more x = refl
wrong_behind flushed (y ∷ before) r more x =
    ap (λ (n : ℕ). if x.kind == 2 then option_map (λ place. 5 + place) (wrong_by (number_in x.body == n + 1) (number_place (n + 1) (number_in x.body)) x.body) else Some 0)
    (last_number_behind (number_in y.body) before r more)

right_behind : (flushed : ℕ) (before : List LogRecord) (r : LogRecord) (more records : List LogRecord) → AreRightRecords (wal_form flushed) (before ++ r ∷ more) records → AreRightRecords (wal_form flushed) (r ∷ more) records
right_behind flushed before r more [] right = tt
right_behind flushed before r more (x ∷ records) right = (
  sym (wrong_behind flushed before r more x) ∙ right.0,
  right.1,
  right_behind flushed before r (more ++ x ∷ []) records (subst (λ (l : List LogRecord). AreRightRecords (wal_form flushed) l records) (append_assoc before (r ∷ more) (x ∷ [])) right.2),
)

-- ---- the newest segment alone

-- its first number is at most one above the flushed one
first_newer : (flushed n : ℕ) (older newer : List LogBatch) → AllByRecursion IsLogBatch older → AllByRecursion IsLogBatch newer → IsUpTo flushed older n → n ≤ flushed → AreRightRecords (wal_form flushed) (map batch_record older) (map batch_record newer) → IsFirstAfter flushed newer
first_newer flushed n older [] each is upto le right = tt
first_newer flushed n [] (b ∷ newer) each is upto le right = right_next flushed [] b each is.0 right.0
first_newer flushed n (a ∷ older) (b ∷ newer) each is upto le right = (let next = right_next flushed (a ∷ older) b each is.0 right.0 in omega (arith, next, upto, le))

-- and its records may stand alone
fit_newer : (flushed : ℕ) (older newer : List LogBatch) → AllByRecursion IsLogBatch newer → IsFirstAfter flushed newer → AreRightRecords (wal_form flushed) (map batch_record older) (map batch_record newer) → AllRecordsFit (wal_form flushed) [] (map batch_record newer)
fit_newer flushed older [] each first right = (tt, refl)
fit_newer flushed older (b ∷ newer) each first right = (
  (batch_is_right flushed [] b tt each.0 first, right.1, right_behind flushed (map batch_record older) (batch_record b) [] (map batch_record newer) right.2),
  refl,
)

module _ {D : Type 0} (d : Ghosts D) (region flushed : ℕ) (old : Wal) (disk : D) (batches : List LogBatch) (has : HasBatches d region flushed old disk batches) where
  rising : AreRisingBatches (has.cut.older ++ has.cut.newer)
  rising = subst AreRisingBatches has.cut.all has.right.rising

  each : AllByRecursion IsLogBatch (has.cut.older ++ has.cut.newer)
  each = subst (AllByRecursion IsLogBatch) has.cut.all has.right.each

  older_each : AllByRecursion IsLogBatch has.cut.older
  older_each = all_left IsLogBatch has.cut.older has.cut.newer each

  newer_each : AllByRecursion IsLogBatch has.cut.newer
  newer_each = all_right IsLogBatch has.cut.older has.cut.newer each

  -- the number tells whether the older batches were flushed
  pub number_tells : (most : ℕ) → old.older_to ≤ most → AllByRecursion (λ b. b.number ≤ most) has.cut.older
  number_tells most le = upto_passed flushed old.older_to most has.cut.older (rising_left has.cut.older has.cut.newer rising) has.cut.upto_is le

  -- those of the newest segment are its records
  newer_records : records_of (newest_of has.log.segments) ≡ map batch_record has.cut.newer
  newer_records = cancel (map batch_record has.cut.older) (records_of (newest_of has.log.segments)) (map batch_record has.cut.newer)
      (ap (λ (l : List LogRecord). l ++ records_of (newest_of has.log.segments)) (sym has.cut.before)
      ∙ sym (newest_are d (wal_form flushed) (file_of region 0) (file_of region 1) disk old.log (map batch_record batches) has.log refl)
      ∙ ap (map batch_record) has.cut.all ∙ map-append batch_record has.cut.older has.cut.newer)

  right_there : AreRightRecords (wal_form flushed) (map batch_record has.cut.older) (map batch_record has.cut.newer)
  right_there =
      let fit = newest_fit d (wal_form flushed) (file_of region 0) (file_of region 1) disk old.log (map batch_record batches) has.log refl in
      subst (λ (l : List LogRecord). AreRightRecords (wal_form flushed) l (map batch_record has.cut.newer)) has.cut.before (subst (AreRightRecords (wal_form flushed) (records_of (older_of has.log.segments))) newer_records fit.0)

  -- nothing is gone
  all_there : IsRest flushed batches batches
  all_there = record { gone = []; all = refl; passed = tt }

  module _ (may : MaySwitch flushed old) where
    first : IsFirstAfter flushed has.cut.newer
    first = first_newer flushed old.older_to has.cut.older has.cut.newer older_each newer_each has.cut.upto_is may.0 right_there

    right : AreBatches flushed has.cut.newer
    right = record { each = newer_each; rising = rising_right has.cut.older has.cut.newer rising; first = first }

    fit : AllRecordsFit (wal_form flushed) [] (records_of (newest_of has.log.segments))
    fit = subst (AllRecordsFit (wal_form flushed) []) (sym newer_records) (fit_newer flushed has.cut.older has.cut.newer newer_each first right_there)

    -- the older batches are
    newer_there : IsRest flushed batches has.cut.newer
    newer_there = record { gone = has.cut.older; all = has.cut.all; passed = number_tells flushed may.0 }

    pub switch_at : (disk' : D) → Commits d old.log disk disk' (IsRollStep d old.log disk)
        → LeavesOnly d disk disk' (λ moment image. (rest : List LogBatch) × IsRest flushed batches rest × LogStands region flushed image rest)
    switch_at disk' leaves =
        let l = switched_leaves d (wal_form flushed) (file_of region 0) (file_of region 1) disk old.log (map batch_record batches) has.log refl refl fit disk' leaves in
        record {
          each = λ moment image since left. elim (l.each moment image since left) [
            | inl a ↦ (batches, all_there, record { records = a; right = has.right })
            | inr z ↦ (has.cut.newer, newer_there, record { records = subst (RecordsStand (wal_form flushed) (file_of region 0) (file_of region 1) image) newer_records z; right = right })
          ];
        }

    module _ (new : Wal) (disk' : D) (last : new.last ≡ old.last) (reaches : LogReaches d old.log new.log disk disk' (IsRollStep d old.log disk)) (same : IsSameLog old.log new.log) (laid : steps_left new.log ≡ 1 → IsLaid d new.log disk' []) where
      -- with the last step all batches stand in the older segment
      pub switch_done : steps_left old.log ≡ 1 → new.older_to ≡ old.last → (rest : List LogBatch) × IsRest flushed batches rest × HasBatches d region flushed new disk' rest
      switch_done done to =
          let l = switched_last d (wal_form flushed) (file_of region 0) (file_of region 1) disk old.log (map batch_record batches) has.log refl refl fit disk' new.log reaches same laid done in (
            batches,
            all_there,
            record {
              log = l.0;
              right = has.right;
              last = last ∙ has.last;
              cut = record { older = batches; newer = []; all = sym (append-nil batches); before = l.1; upto_is = upto_last flushed new.older_to batches (to ∙ has.last) };
            },
          )

      pub switch_more : (steps_left old.log ≡ 1 → ⊥) → new.older_to ≡ old.older_to → (rest : List LogBatch) × IsRest flushed batches rest × HasBatches d region flushed new disk' rest
      switch_more more to = elim (switched_more d (wal_form flushed) (file_of region 0) (file_of region 1) disk old.log (map batch_record batches) has.log refl refl fit disk' new.log reaches same laid more) [
        | inl l ↦ (
          batches,
          all_there,
          record {
            log = l.0;
            right = has.right;
            last = last ∙ has.last;
            cut = record {
              older = has.cut.older;
              newer = has.cut.newer;
              all = has.cut.all;
              before = ap records_of l.1 ∙ has.cut.before;
              upto_is = subst (IsUpTo flushed has.cut.older) (sym to) has.cut.upto_is;
            };
          },
        )
        | inr l ↦
            let b = records_by d (wal_form flushed) (file_of region 0) (file_of region 1) disk' new.log (records_of (newest_of has.log.segments)) (map batch_record has.cut.newer) newer_records l.0 in (
              has.cut.newer,
              newer_there,
              record {
                log = b.0;
                right = right;
                last = last ∙ last_rest flushed old.last old.older_to has.cut.older has.cut.newer (has.last ∙ ap (last_batch_number flushed) has.cut.all) has.cut.upto_is may.0 may.1;
                cut = record {
                  older = [];
                  newer = has.cut.newer;
                  all = refl;
                  before = ap (λ (s : List SegmentRead). records_of (older_of s)) b.1 ∙ ap records_of l.1;
                  upto_is = subst (λ (n : ℕ). n ≤ flushed) (sym to) may.0;
                };
              },
            )
      ]
