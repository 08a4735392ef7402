-- The records of a log through its calls.
use Rattle.std.proofs.Common.{◌≡◌, ◌⊎◌, inl, inr, ℕ, ◌+◌, ◌<◌, Bool, true, false, cond, arith, List, [], ◌∷◌, ◌++◌, Option, Some, None, Ok, refl, sym, ap, subst, ◌∙◌, append_assoc}
use Rattle.std.specs.Prelude.{if◌then◌else◌, not, IsSome, IsTrue}
use Rattle.std.proofs.lemmas.Bool.{false≢true}
use Rattle.std.proofs.lemmas.List.{append-nil}
use Rattle.px_outside.specs.Disk.{Image, LeavesOnlyBy, OnlyBy, TouchesOnlyBy}
use Rattle.px_outside.specs.Standing.{StandsIn}
use Rattle.px_outside.specs.declared.disk.Disk.{Ghosts}
use Rattle.px_gatelog.specs.declared.gate_log.GateLog.{GateLog}
use Rattle.px_gatelog.specs.declared.segment.Segment.{Segment}
use Rattle.px_gatelog.specs.Format.{AllRecordsFit, LogForm, LogRecord, SegmentRead, IsNextRecord, can_end, header_of, segment_list, newest_of, older_of, records_of, segments_of, with_record}
use Rattle.px_gatelog.specs.GateLog.{IsLaid, IsLogSettled, IsMade, IsOlder, IsSameLog, IsState, LogGoesOnBy, LogStandsFor, MayStep, OlderCounts, StandsAlone, after_by, after_step, before_of, file_at, has_file, is_log_open, may_by, newest_generation, next_shut, next_side, side_bytes, steps_by, steps_left}
use Rattle.px_gatelog.specs.Start.{Started}
use Rattle.px_gatelog.proofs.Older.{older_appended}
use Rattle.px_gatelog.proofs.Standing.{on_stands, records_of-listed, segments_same, settled_kept, with_record-listed}
use Rattle.px_gatelog.specs.Records.{HasLog, HasRecords, IsNeverWritten, RecordsStand, has_files}
use Rattle.px_gatelog.specs.Steps.{Commits, IsAppend, IsRollStep, LogReaches}

file_side : (log : GateLog) (side : Bool) → has_file log (file_at log side)
file_side log true = inr refl
file_side log false = inl refl

-- calls on other files leave a next segment as it was laid out
pub laid_kept : {D : Type 0} (d : Ghosts D) (log : GateLog) (old new : D) (records : List LogRecord) (touched : ℕ → Type 0) → TouchesOnlyBy d.calls d.left d.seen old new touched → ((file : ℕ) → has_file log file → touched file → ⊥)
    → IsLaid d log old records → IsLaid d log new records
laid_kept d log old new records touched touches apart laid =
    let file = file_at log (next_side log.newest) in
    record { made = subst (λ (l : List ℕ). IsMade log.laid (newest_generation log + 1) records l) (sym (touches.sees file (apart file (file_side log (next_side log.newest))))) laid.made }

fresh_steps : (laid : Option ℕ) → laid ≡ None → (shut : Bool) → steps_by laid shut ≡ 1 → ⊥
fresh_steps (Some end) none shut is = absurd cc
fresh_steps None none true is = omega arith
fresh_steps None none false is = omega arith

header_none : header_of [] ≡ Ok None
unfolding header_of
header_none = refl

-- two files without a byte stand for no record
pub empty_records : (form : LogForm) (first second : ℕ) (image : Image) → image first ≡ [] → image second ≡ [] → RecordsStand form first second image []
empty_records form first second image none nothing =
    ([], ap (λ (l : List ℕ). segments_of form l (image second)) none ∙ (ap (segments_of form []) nothing ∙ on_stands form None [] [] [] (header_none, header_none, refl)), refl)

fresh_state : (form : LogForm) → IsState form None false false None [] [] []
fresh_state form = record { goes_on = (header_none, header_none, refl); first_gate = inl refl; second_gate = inl refl; laid_shut = λ some. absurd (false≢true some) }

-- images whose two files are the same stand for the same records
pub records_same : (form : LogForm) (first second : ℕ) (old new : Image) (records : List LogRecord) → new first ≡ old first → new second ≡ old second → RecordsStand form first second old records → RecordsStand form first second new records
records_same form first second old new records one two stands =
    (stands.0, ap (λ (l : List ℕ). segments_of form l (new second)) one ∙ (ap (segments_of form (old first)) two ∙ stands.1), stands.2)

module _ {D : Type 0} (d : Ghosts D) (form : LogForm) (first second : ℕ) where
  -- its files stand for them, whatever a stop leaves of the files
  pub records_stand : {next : List LogRecord} (disk : D) (log : GateLog) (records : List LogRecord) → HasLog d form first second disk log records next
      → StandsIn d disk (has_files first second) (λ image. RecordsStand form first second image records)
  records_stand disk log records has = record {
    each = λ image left.
        let one : image first ≡ d.seen disk log.first =
        subst (λ (f : ℕ). image f ≡ d.seen disk log.first) has.first_is (has.settled.first_durable (image log.first) (subst (λ (f : ℕ). d.left disk (d.calls disk) f (image f)) (sym has.first_is) (left first (inl refl)))) in
        let two : image second ≡ d.seen disk log.second =
        subst (λ (f : ℕ). image f ≡ d.seen disk log.second) has.second_is (has.settled.second_durable (image log.second) (subst (λ (f : ℕ). d.left disk (d.calls disk) f (image f)) (sym has.second_is) (left second (inr refl)))) in (
          has.segments,
          ap (λ (l : List ℕ). segments_of form l (image second)) one ∙ (ap (segments_of form (d.seen disk log.first)) two ∙ on_stands form log.newest (d.seen disk log.first) (d.seen disk log.second) has.segments has.settled.state.goes_on),
          has.records_are,
        );
  }

  -- calls on other files leave it so, segment by segment
  pub segments_kept : {next : List LogRecord} (old new : D) (log : GateLog) (records : List LogRecord) (has : HasLog d form first second old log records next) (touched : ℕ → Type 0) → TouchesOnlyBy d.calls d.left d.seen old new touched
      → ((file : ℕ) → has_files first second file → touched file → ⊥) → (l : HasLog d form first second new log records next) × (l.segments ≡ has.segments)
  segments_kept {next} old new log records has touched touches apart = (
    record {
      segments = has.segments;
      first_is = has.first_is;
      second_is = has.second_is;
      settled = settled_kept d form log old new has.segments has.settled touched touches (λ file own. apart file (elim own [ inl one ↦ inl (one ∙ has.first_is) | inr two ↦ inr (two ∙ has.second_is) ]));
      records_are = has.records_are;
      laid = λ last. laid_kept d log old new next touched touches (λ file own. apart file (elim own [ inl one ↦ inl (one ∙ has.first_is) | inr two ↦ inr (two ∙ has.second_is) ])) (has.laid last);
    },
    refl,
  )

  pub records_kept : {next : List LogRecord} (old new : D) (log : GateLog) (records : List LogRecord) → HasLog d form first second old log records next → (touched : ℕ → Type 0) → TouchesOnlyBy d.calls d.left d.seen old new touched
      → ((file : ℕ) → has_files first second file → touched file → ⊥) → HasLog d form first second new log records next
  records_kept {next} old new log records has touched touches apart = (segments_kept {next = next} old new log records has touched touches apart).0

  -- the same records by another name
  pub records_by : {next : List LogRecord} (disk : D) (log : GateLog) (a b : List LogRecord) → a ≡ b → (has : HasLog d form first second disk log a next) → (l : HasLog d form first second disk log b next) × (l.segments ≡ has.segments)
  records_by disk log a b is has = (
    record { segments = has.segments; first_is = has.first_is; second_is = has.second_is; settled = has.settled; records_are = has.records_are ∙ is; laid = has.laid },
    refl,
  )

  -- a fresh log has none
  pub fresh_records : {next : List LogRecord} (disk : D) (log : GateLog) → IsNeverWritten log first second → IsTrue d.tells → OnlyBy d.calls d.seen d.left disk first → OnlyBy d.calls d.seen d.left disk second → d.seen disk first ≡ [] → d.seen disk second ≡ []
      → HasLog d form first second disk log [] next
  fresh_records disk log fresh tells one two none nothing = record {
    segments = [];
    first_is = fresh.first_is;
    second_is = fresh.second_is;
    settled = record {
      told = tells;
      first_durable = subst (OnlyBy d.calls d.seen d.left disk) (sym fresh.first_is) one;
      second_durable = subst (OnlyBy d.calls d.seen d.left disk) (sym fresh.second_is) two;
      state =
          subst (λ (o : Option Segment). IsState form o log.first_shut log.second_shut log.laid (d.seen disk log.first) (d.seen disk log.second) []) (sym fresh.none_open)
          (subst (λ (b : Bool). IsState form None b log.second_shut log.laid (d.seen disk log.first) (d.seen disk log.second) []) (sym fresh.first_open)
          (subst (λ (b : Bool). IsState form None false b log.laid (d.seen disk log.first) (d.seen disk log.second) []) (sym fresh.second_open)
          (subst (λ (o : Option ℕ). IsState form None false false o (d.seen disk log.first) (d.seen disk log.second) []) (sym fresh.none_laid)
          (subst (λ (l : List ℕ). IsState form None false false None l (d.seen disk log.second) []) (sym (ap (d.seen disk) fresh.first_is ∙ none))
          (subst (λ (l : List ℕ). IsState form None false false None [] l []) (sym (ap (d.seen disk) fresh.second_is ∙ nothing)) (fresh_state form))))));
    };
    records_are = refl;
    laid = λ last. absurd (fresh_steps log.laid fresh.none_laid (next_shut log) last);
  }

  -- a log that was opened goes on from the records for which its files stood
  module _ (has : List LogRecord → Type 0) (old new : D) (log : GateLog) (records : List LogRecord) (started : Started d form has first second old new log) (more : 1 < steps_left log) (stands : RecordsStand form first second (d.seen old) records) where
    pub started_are : records_of started.segments ≡ records
    started_are = ap records_of (segments_same (segments_of form (d.seen old log.first) (d.seen old log.second)) started.segments stands.0 started.stood
        (ap (λ (f : ℕ). segments_of form (d.seen old f) (d.seen old log.second)) started.first_is ∙ (ap (λ (f : ℕ). segments_of form (d.seen old first) (d.seen old f)) started.second_is ∙ stands.1))) ∙ stands.2

    pub started_segments : {next : List LogRecord} → (l : HasLog d form first second new log records next) × (l.segments ≡ started.segments)
    started_segments = (
      record { segments = started.segments; first_is = started.first_is; second_is = started.second_is; settled = started.settled; records_are = started_are; laid = λ last. absurd (omega (arith, more, last)) },
      refl,
    )

    pub started_records : {next : List LogRecord} → HasLog d form first second new log records next
    started_records {next} = (started_segments {next = next}).0

  -- ---- an append

  with_records : (log : GateLog) (disk : D) (segments : List SegmentRead) (r : LogRecord) → is_log_open log → IsLogSettled d form log disk segments → records_of (with_record segments r) ≡ records_of segments ++ r ∷ []
  with_records log disk segments r opened settled = by log.newest refl
    where
      by : (newest : Option Segment) → log.newest ≡ newest → records_of (with_record segments r) ≡ records_of segments ++ r ∷ []
      by None is = absurd (false≢true (subst (λ (o : Option Segment). IsSome o) is opened))
      by (Some s) is =
          let on = subst (λ (o : Option Segment). LogGoesOnBy form o (d.seen disk log.first) (d.seen disk log.second) segments) is settled.state.goes_on in
          let last : SegmentRead = record { generation = s.generation; records = on.records } in
          ap (λ (l : List SegmentRead). records_of (with_record l r)) on.lists ∙ (ap records_of (with_record-listed on.older last r)
          ∙ (records_of-listed on.older (record { generation = s.generation; records = on.records ++ r ∷ [] }) ∙ (sym (append_assoc (before_of on.older) on.records (r ∷ []))
          ∙ ap (λ (l : List LogRecord). l ++ r ∷ []) (sym (records_of-listed on.older last) ∙ ap records_of (sym on.lists)))))

  -- where a segment may not be empty, a log with an open one has a record
  pub some_records : {next : List LogRecord} (disk : D) (log : GateLog) (records : List LogRecord) → form.empty ≡ false → is_log_open log → HasLog d form first second disk log records next → records ≡ [] → ⊥
  some_records disk log records never opened has none = by log.newest refl
    where
      by : (newest : Option Segment) → log.newest ≡ newest → ⊥
      by None is = false≢true (subst (λ (o : Option Segment). IsSome o) is opened)
      by (Some s) is =
          let on = subst (λ (o : Option Segment). LogGoesOnBy form o (d.seen disk log.first) (d.seen disk log.second) has.segments) is has.settled.state.goes_on in
          let all : before_of on.older ++ on.records ≡ [] = sym (records_of-listed on.older (record { generation = s.generation; records = on.records })) ∙ ap records_of (sym on.lists) ∙ has.records_are ∙ none in
          false≢true (sym (ap (λ (b : Bool). can_end b []) never) ∙ ap (can_end form.empty) (sym all) ∙ on.at.fit.1)

  module _ {next : List LogRecord} (old new : D) (log log' : GateLog) (records : List LogRecord) (r : LogRecord) (has : HasLog d form first second old log records next) (opened : is_log_open log) where
    -- at each moment a stop leaves the records without the new one, or with it
    pub appended_leaves : IsNextRecord form has.segments r → Commits d log old new (IsAppend r)
        → LeavesOnlyBy d.calls d.left old new (λ moment image. RecordsStand form first second image records ⊎ RecordsStand form first second image (records ++ r ∷ []))
    appended_leaves right commits = record {
      each = λ moment image since is. elim ((commits form has.segments (with_record has.segments r) has.settled (right, refl)).each moment image since is) [
        | inl stands ↦ inl (has.segments, by_files image has.segments stands, has.records_are)
        | inr stands ↦
            inr (with_record has.segments r, by_files image (with_record has.segments r) stands, with_records log old has.segments r opened has.settled ∙ ap (λ (l : List LogRecord). l ++ r ∷ []) has.records_are)
      ];
    }
      where
        by_files : (image : Image) (segments : List SegmentRead) → LogStandsFor form log image segments → segments_of form (image first) (image second) ≡ Ok segments
        by_files image segments stands =
            ap (λ (f : ℕ). segments_of form (image f) (image second)) (sym has.first_is) ∙ (ap (λ (f : ℕ). segments_of form (image log.first) (image f)) (sym has.second_is) ∙ stands)

    -- after it the log goes on with the new one
    pub appended_segments : IsNextRecord form has.segments r → LogReaches d log log' old new (IsAppend r) → IsSameLog log log' → (IsLaid d log old next → IsLaid d log' new next) → steps_left log' ≡ steps_left log
        → (l : HasLog d form first second new log' (records ++ r ∷ []) next) × (older_of l.segments ≡ older_of has.segments)
    appended_segments right reaches same laid steps = (
      record {
        segments = with_record has.segments r;
        first_is = same.first ∙ has.first_is;
        second_is = same.second ∙ has.second_is;
        settled = reaches form has.segments (with_record has.segments r) has.settled (right, refl);
        records_are = with_records log old has.segments r opened has.settled ∙ ap (λ (l : List LogRecord). l ++ r ∷ []) has.records_are;
        laid = λ last. laid (has.laid (sym steps ∙ last));
      },
      older_appended has.segments r,
    )

    pub appended_records : IsNextRecord form has.segments r → LogReaches d log log' old new (IsAppend r) → IsSameLog log log' → (IsLaid d log old next → IsLaid d log' new next) → steps_left log' ≡ steps_left log → HasLog d form first second new log' (records ++ r ∷ []) next
    appended_records right reaches same laid steps = (appended_segments right reaches same laid steps).0

  -- ---- a step of the making of a segment, where the newest segment alone counts

  module _ (alone : form.both ≡ false) where
    older_none : (generation : ℕ) (bytes : List ℕ) (older : Option SegmentRead) → IsOlder form generation bytes older → older ≡ None
    older_none generation bytes older (inl w) = w.1
    older_none generation bytes older (inr w) = subst (λ (b : Bool). OlderCounts b form w.0 bytes older) alone w.3

    -- there is no segment, or one that stands alone
    one_now : (newest : Option Segment) (first second : List ℕ) (segments : List SegmentRead) → LogGoesOnBy form newest first second segments → (newest_of segments ≡ segments) × StandsAlone form (newest_of segments)
    one_now None first second segments on = subst (λ (l : List SegmentRead). (newest_of l ≡ l) × StandsAlone form (newest_of l)) (sym on.2) (refl, tt)
    one_now (Some s) first second segments on =
        let none = older_none s.generation (side_bytes (not s.in_second) first second) on.older on.behind in
        let r : SegmentRead = record { generation = s.generation; records = on.records } in
        let one : segments ≡ r ∷ [] = on.lists ∙ ap (λ (o : Option SegmentRead). segment_list o ++ r ∷ []) none in
        let fit : AllRecordsFit form [] on.records = subst (λ (o : Option SegmentRead). AllRecordsFit form (before_of o) on.records) none on.at.fit in
        subst (λ (l : List SegmentRead). (newest_of l ≡ l) × StandsAlone form (newest_of l)) (sym one) (refl, subst (AllRecordsFit form []) (sym (append-nil on.records)) fit)

    -- what counts after a step: the same records, or behind the last step those of the new segment
    after_alone : (laid : Option ℕ) (shut : Bool) (log : GateLog) (segments : List SegmentRead) (next : List LogRecord) → newest_of segments ≡ segments
        → (records_of (after_by laid shut form log segments next) ≡ records_of segments) ⊎ ((steps_by laid shut ≡ 1) × (records_of (after_by laid shut form log segments next) ≡ next))
    after_alone (Some end) shut log segments next one =
        inr (refl, ap (λ (b : Bool). records_of (cond b segments [] ++ record { generation = newest_generation log + 1; records = next } ∷ [])) alone ∙ append-nil next)
    after_alone None true log segments next one = inl refl
    after_alone None false log segments next one = inl (ap records_of one)

    may_alone : (laid : Option ℕ) (shut : Bool) (segments : List SegmentRead) (next : List LogRecord) → StandsAlone form (newest_of segments) → AllRecordsFit form [] next → may_by laid shut form segments next
    may_alone (Some end) shut segments next stands fit = subst (λ (b : Bool). AllRecordsFit form (cond b (records_of segments) []) next) (sym alone) fit
    may_alone None true segments next stands fit = tt
    may_alone None false segments next stands fit = stands

    module _ (old new : D) (log log' : GateLog) (records next : List LogRecord) (has : HasLog d form first second old log records next) (fit : AllRecordsFit form [] next) where
      one_has : (newest_of has.segments ≡ has.segments) × StandsAlone form (newest_of has.segments)
      one_has = one_now log.newest (d.seen old log.first) (d.seen old log.second) has.segments has.settled.state.goes_on

      pub may_next : MayStep form log has.segments next
      may_next = may_alone log.laid (next_shut log) has.segments next one_has.1 fit

      after_is : (records_of (after_step form log has.segments next) ≡ records_of has.segments) ⊎ ((steps_left log ≡ 1) × (records_of (after_step form log has.segments next) ≡ next))
      after_is = after_alone log.laid (next_shut log) log has.segments next one_has.0

      -- at each moment a stop leaves the same records, or those of the new segment alone
      pub next_leaves : Commits d log old new (IsRollStep d log old)
          → LeavesOnlyBy d.calls d.left old new (λ moment image. RecordsStand form first second image records ⊎ RecordsStand form first second image next)
      next_leaves commits = record {
        each = λ moment image since is. elim ((commits form has.segments (after_step form log has.segments next) has.settled (next, may_next, has.laid, refl)).each moment image since is) [
          | inl stands ↦ inl (has.segments, in_files image has.segments stands, has.records_are)
          | inr stands ↦ elim after_is [
            | inl same ↦ inl (after_step form log has.segments next, in_files image (after_step form log has.segments next) stands, same ∙ has.records_are)
            | inr w ↦ inr (after_step form log has.segments next, in_files image (after_step form log has.segments next) stands, w.1)
          ]
        ];
      }
        where
          in_files : (image : Image) (segments : List SegmentRead) → LogStandsFor form log image segments → segments_of form (image first) (image second) ≡ Ok segments
          in_files image segments stands =
              ap (λ (f : ℕ). segments_of form (image f) (image second)) (sym has.first_is) ∙ (ap (λ (f : ℕ). segments_of form (image log.first) (image f)) (sym has.second_is) ∙ stands)

      -- and the log goes on from the same records, or from those of the new segment
      pub next_records : LogReaches d log log' old new (IsRollStep d log old) → IsSameLog log log' → (steps_left log' ≡ 1 → IsLaid d log' new next)
          → HasLog d form first second new log' records next ⊎ HasLog d form first second new log' next next
      next_records reaches same laid = elim after_is [
        | inl kept ↦ inl (by records (kept ∙ has.records_are))
        | inr w ↦ inr (by next w.1)
      ]
        where
          by : (l : List LogRecord) → records_of (after_step form log has.segments next) ≡ l → HasLog d form first second new log' l next
          by l is = record {
            segments = after_step form log has.segments next;
            first_is = same.first ∙ has.first_is;
            second_is = same.second ∙ has.second_is;
            settled = reaches form has.segments (after_step form log has.segments next) has.settled (next, may_next, has.laid, refl);
            records_are = is;
            laid = laid;
          }

  -- what the next segment would have is open where none is laid out
  pub next_open : {next : List LogRecord} (disk : D) (log : GateLog) (records other : List LogRecord) → HasLog d form first second disk log records next → (steps_left log ≡ 1 → ⊥) → HasLog d form first second disk log records other
  next_open disk log records other has unlaid = record {
    segments = has.segments;
    first_is = has.first_is;
    second_is = has.second_is;
    settled = has.settled;
    records_are = has.records_are;
    laid = λ last. absurd (unlaid last);
  }

  -- a log without an open segment has no record
  pub closed_records : {next : List LogRecord} (disk : D) (log : GateLog) (records : List LogRecord) (has : HasLog d form first second disk log records next) → log.newest ≡ None → records ≡ []
  closed_records disk log records has closed =
      sym has.records_are ∙ ap records_of (subst (λ (o : Option Segment). LogGoesOnBy form o (d.seen disk log.first) (d.seen disk log.second) has.segments) closed has.settled.state.goes_on).2

  -- ---- the making of the first segment, without a record

  module _ (old new : D) (log log' : GateLog) (records : List LogRecord) (has : HasRecords d form first second old log records) (closed : log.newest ≡ None) (empty : form.empty ≡ true) where
    none_yet : has.segments ≡ []
    none_yet = (subst (λ (o : Option Segment). LogGoesOnBy form o (d.seen old log.first) (d.seen old log.second) has.segments) closed has.settled.state.goes_on).2

    after_none : (laid : Option ℕ) (shut : Bool) → records_of (after_by laid shut form log [] []) ≡ []
    after_none (Some end) shut = elim form.both as (λ (b : Bool). records_of ((if b then [] else []) ++ record { generation = newest_generation log + 1; records = [] } ∷ []) ≡ []) [ true ↦ refl | false ↦ refl ]
    after_none None true = refl
    after_none None false = refl

    same_records : records_of (after_step form log has.segments []) ≡ records
    same_records = ap (λ (l : List SegmentRead). records_of (after_step form log l [])) none_yet ∙ (after_none log.laid (next_shut log) ∙ (ap records_of (sym none_yet) ∙ has.records_are))

    may_none : (laid : Option ℕ) (shut : Bool) → may_by laid shut form [] []
    may_none (Some end) shut = (tt, ap (λ (b : Bool). can_end b (cond form.both [] [] ++ [])) empty)
    may_none None true = tt
    may_none None false = tt

    pub may_step : MayStep form log has.segments []
    may_step = subst (λ (l : List SegmentRead). MayStep form log l []) (sym none_yet) (may_none log.laid (next_shut log))

    -- at each moment a stop leaves the same records
    pub rolled_leaves : Commits d log old new (IsRollStep d log old)
        → LeavesOnlyBy d.calls d.left old new (λ moment image. RecordsStand form first second image records)
    rolled_leaves commits = record {
      each = λ moment image since is. elim ((commits form has.segments (after_step form log has.segments []) has.settled ([], may_step, has.laid, refl)).each moment image since is) [
        | inl stands ↦ (has.segments, in_files image has.segments stands, has.records_are)
        | inr stands ↦ (after_step form log has.segments [], in_files image (after_step form log has.segments []) stands, same_records)
      ];
    }
      where
        in_files : (image : Image) (segments : List SegmentRead) → LogStandsFor form log image segments → segments_of form (image first) (image second) ≡ Ok segments
        in_files image segments stands =
            ap (λ (f : ℕ). segments_of form (image f) (image second)) (sym has.first_is) ∙ (ap (λ (f : ℕ). segments_of form (image log.first) (image f)) (sym has.second_is) ∙ stands)

    -- and the log goes on from them
    pub rolled_records : LogReaches d log log' old new (IsRollStep d log old) → IsSameLog log log' → (steps_left log' ≡ 1 → IsLaid d log' new []) → HasRecords d form first second new log' records
    rolled_records reaches same laid = record {
      segments = after_step form log has.segments [];
      first_is = same.first ∙ has.first_is;
      second_is = same.second ∙ has.second_is;
      settled = reaches form has.segments (after_step form log has.segments []) has.settled ([], may_step, has.laid, refl);
      records_are = same_records;
      laid = laid;
    }
