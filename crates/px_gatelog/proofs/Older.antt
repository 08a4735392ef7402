-- The older of two open segments.
use Rattle.std.proofs.Common.{◌≡◌, ℕ, ◌≤◌, arith, length, Bool, true, false, List, [], ◌∷◌, ◌++◌, drop, Option, Some, None, Result, Ok, Err, refl, sym, ap, subst, ◌∙◌, append_assoc, inl, inr}
use Rattle.std.specs.Prelude.{not}
use Rattle.std.proofs.lemmas.List.{append-nil, length-take}
use Rattle.px_outside.specs.declared.disk.Disk.{Ghosts}
use Rattle.px_gatelog.specs.declared.gate_log.GateLog.{GateLog}
use Rattle.px_gatelog.specs.declared.segment.Segment.{Segment}
use Rattle.px_gatelog.specs.Format.{AllRecordsFit, LogForm, LogRecord, SegmentRead, can_end, header_of, newest_of, older_of, open_segment_bytes, records_at, records_of, segment_list, with_record}
use Rattle.px_gatelog.specs.GateLog.{GoesOn, IsLogSettled, IsOlder, LogGoesOnBy, OlderCounts, StandsAlone, before_of, file_at, room_in, room_of_log, side_bytes}
use Rattle.px_gatelog.specs.Segment.{IsAt}
use Rattle.px_gatelog.specs.inner.Replay.{IsRead}
use Rattle.px_gatelog.proofs.Spelled.{records_read}
use Rattle.px_gatelog.proofs.Logs.{that_bytes}

-- ---- lists of segments

-- an append leaves the older segment
pub older_appended : (segments : List SegmentRead) (r : LogRecord) → older_of (with_record segments r) ≡ older_of segments
older_appended [] r = refl
older_appended (s ∷ []) r = refl
older_appended (s ∷ t ∷ []) r = refl
older_appended (s ∷ t ∷ u ∷ segments) r = ap (λ (l : List SegmentRead). s ∷ l) (older_appended (t ∷ u ∷ segments) r)

-- the records are those of the older segment, and then those of the newest
pub records_cut : (segments : List SegmentRead) → records_of segments ≡ records_of (older_of segments) ++ records_of (newest_of segments)
records_cut [] = refl
records_cut (s ∷ []) = refl
records_cut (s ∷ t ∷ segments) =
    ap (λ (l : List LogRecord). s.records ++ l) (records_cut (t ∷ segments)) ∙ sym (append_assoc s.records (records_of (older_of (t ∷ segments))) (records_of (newest_of (t ∷ segments))))

-- the newest alone has none before it
pub older_none : (segments : List SegmentRead) → older_of (newest_of segments) ≡ []
older_none [] = refl
older_none (s ∷ []) = refl
older_none (s ∷ t ∷ segments) = older_none (t ∷ segments)

-- before a segment that comes behind others stand those
pub older_behind : (segments : List SegmentRead) (s : SegmentRead) → older_of (segments ++ s ∷ []) ≡ segments
older_behind [] s = refl
older_behind (t ∷ []) s = refl
older_behind (t ∷ u ∷ segments) s = ap (λ (l : List SegmentRead). t ∷ l) (older_behind (u ∷ segments) s)

-- a segment without a record adds none
pub records_behind : (segments : List SegmentRead) (generation : ℕ) → records_of (segments ++ record { generation = generation; records = [] } ∷ []) ≡ records_of segments
records_behind [] generation = refl
records_behind (s ∷ segments) generation = ap (λ (l : List LogRecord). s.records ++ l) (records_behind segments generation)

-- ---- the records of the newest segment

fits_listed : (form : LogForm) (older : Option SegmentRead) (r : SegmentRead) → AllRecordsFit form (before_of older) r.records
    → AllRecordsFit form (records_of (older_of (segment_list older ++ r ∷ []))) (records_of (newest_of (segment_list older ++ r ∷ [])))
fits_listed form None r fit = subst (AllRecordsFit form []) (sym (append-nil r.records)) fit
fits_listed form (Some o) r fit =
    subst (λ (l : List LogRecord). AllRecordsFit form l (r.records ++ [])) (sym (append-nil o.records)) (subst (AllRecordsFit form o.records) (sym (append-nil r.records)) fit)

-- the records of the newest segment fit behind those of the older one
pub newest_fits : (form : LogForm) → form.empty ≡ true → (newest : Option Segment) (first second : List ℕ) (segments : List SegmentRead) → LogGoesOnBy form newest first second segments
    → AllRecordsFit form (records_of (older_of segments)) (records_of (newest_of segments))
newest_fits form empty None first second segments on =
    subst (λ (l : List SegmentRead). AllRecordsFit form (records_of (older_of l)) (records_of (newest_of l))) (sym on.2) (tt, ap (λ (b : Bool). can_end b []) empty)
newest_fits form empty (Some s) first second segments on =
    subst (λ (l : List SegmentRead). AllRecordsFit form (records_of (older_of l)) (records_of (newest_of l))) (sym on.lists)
    (fits_listed form on.older (record { generation = s.generation; records = on.records }) on.at.fit)

-- what fits behind no record may stand alone
pub alone_by : (form : LogForm) (segments : List SegmentRead) → AllRecordsFit form [] (records_of segments) → StandsAlone form segments
alone_by form [] fit = tt
alone_by form (s ∷ segments) fit = fit

-- ---- reading it again

-- a file that is open has the older segment's records
open_counts : (form : LogForm) (generation smaller : ℕ) (bytes : List ℕ) (older : Option SegmentRead) → form.both ≡ true → header_of bytes ≡ Ok (Some smaller) → IsOlder form generation bytes older
    → records_at form [] 16 0 (drop 16 bytes) ≡ Ok (before_of older)
open_counts form generation smaller bytes older both opened (inl w) = absurd (let bad : Ok None ≡ Ok (Some smaller) = sym w.0 ∙ opened in cc)
open_counts form generation smaller bytes older both opened (inr w) =
    let counts : OlderCounts true form w.0 bytes older = subst (λ (b : Bool). OlderCounts b form w.0 bytes older) both w.3 in
    counts.1 ∙ ap (λ (o : Option SegmentRead). Ok (before_of o)) (sym counts.2)

-- a file that is closed has none
closed_counts : (form : LogForm) (generation : ℕ) (bytes : List ℕ) (older : Option SegmentRead) → header_of bytes ≡ Ok None → IsOlder form generation bytes older → before_of older ≡ []
closed_counts form generation bytes older shut (inl w) = ap before_of w.1
closed_counts form generation bytes older shut (inr w) = absurd (let bad : Ok None ≡ Ok (Some w.0) = sym shut ∙ w.1 in cc)

module _ (form : LogForm) (generation : ℕ) (bytes : List ℕ) (older : Option SegmentRead) (is : IsOlder form generation bytes older) where
  pub closed_taken : (has : List LogRecord → Type 0) → header_of bytes ≡ Ok None → has [] → has (before_of older)
  closed_taken has shut none = subst has (sym (closed_counts form generation bytes older shut is)) none

  -- a header that is wrong isn't there
  pub header_right : (place : ℕ) → header_of bytes ≡ Err place → ⊥
  header_right place wrong = by is
    where
      by : IsOlder form generation bytes older → ⊥
      by (inl w) = (let bad : Err place ≡ Ok None = sym wrong ∙ w.0 in cc)
      by (inr w) = (let bad : Err place ≡ Ok (Some w.0) = sym wrong ∙ w.1 in cc)

  module _ (both : form.both ≡ true) (smaller : ℕ) (opened : header_of bytes ≡ Ok (Some smaller)) where
    pub open_taken : (has : List LogRecord → Type 0) (in_second : Bool) (s : Segment) → IsRead form has [] in_second smaller bytes s → has (before_of older)
    open_taken has in_second s read =
        let there : Ok read.records ≡ Ok (before_of older) = sym (records_read form [] smaller s.end read.records bytes read.at) ∙ open_counts form generation smaller bytes older both opened is in
        let same : read.records ≡ before_of older = cc in
        subst has same read.taken

    -- nor is a record
    pub records_right : (place : ℕ) → records_at form [] 16 0 (drop 16 bytes) ≡ Err place → ⊥
    records_right place wrong = (let bad : Err place ≡ Ok (before_of older) = sym wrong ∙ open_counts form generation smaller bytes older both opened is in cc)

-- ---- of a log

-- the header of an open segment stands before its end
end_least : (form : LogForm) (before : List LogRecord) (generation end : ℕ) (records : List LogRecord) (bytes : List ℕ) → IsAt form before generation end records bytes → 16 ≤ end
unfolding open_segment_bytes
end_least form before generation end records bytes at = omega (arith, ap length at.front, length-take end bytes, at.long)

room_by : (form : LogForm) (newest : Option Segment) (first second : List ℕ) (segments : List SegmentRead) → LogGoesOnBy form newest first second segments → room_in newest ≤ 67108848
room_by form None first second segments on = omega arith
room_by form (Some s) first second segments on =
    (let e = end_least form (before_of on.older) s.generation s.end on.records (side_bytes s.in_second first second) on.at in omega arith)

-- an empty segment has the most room
pub room_most : {D : Type 0} (d : Ghosts D) (form : LogForm) (log : GateLog) (disk : D) (segments : List SegmentRead) → IsLogSettled d form log disk segments → room_of_log log ≤ 67108848
room_most d form log disk segments settled = room_by form log.newest (d.seen disk log.first) (d.seen disk log.second) segments settled.state.goes_on

-- without an open segment there is no record
pub none_before : (form : LogForm) (newest : Option Segment) (first second : List ℕ) (segments : List SegmentRead) → newest ≡ None → LogGoesOnBy form newest first second segments → records_of (older_of segments) ≡ []
none_before form None first second segments none on = ap (λ (l : List SegmentRead). records_of (older_of l)) on.2
none_before form (Some s) first second segments none on = absurd cc

before_listed : (older : Option SegmentRead) (r : SegmentRead) → records_of (older_of (segment_list older ++ r ∷ [])) ≡ before_of older
before_listed None r = refl
before_listed (Some o) r = append-nil o.records

-- the records before those of the newest segment are the older's, which is in the other file
pub older_in : {D : Type 0} (d : Ghosts D) (form : LogForm) (log : GateLog) (disk : D) (segments : List SegmentRead) (s : Segment) → log.newest ≡ Some s → IsLogSettled d form log disk segments
    → (older : Option SegmentRead) × (IsOlder form s.generation (d.seen disk (file_at log (not s.in_second))) older × (before_of older ≡ records_of (older_of segments)))
older_in d form log disk segments s is settled =
    let on : GoesOn form s (side_bytes s.in_second (d.seen disk log.first) (d.seen disk log.second)) (side_bytes (not s.in_second) (d.seen disk log.first) (d.seen disk log.second)) segments =
    subst (λ (n : Option Segment). LogGoesOnBy form n (d.seen disk log.first) (d.seen disk log.second) segments) is settled.state.goes_on in
    let r : SegmentRead = record { generation = s.generation; records = on.records } in (
      on.older,
      (
        subst (λ (l : List ℕ). IsOlder form s.generation l on.older) (that_bytes log s.in_second (d.seen disk)) on.behind,
        sym (ap (λ (l : List SegmentRead). records_of (older_of l)) on.lists ∙ before_listed on.older r),
      ),
    )

counts_alone : (form : LogForm) (generation : ℕ) (bytes : List ℕ) (older : Option SegmentRead) → form.both ≡ false → IsOlder form generation bytes older → before_of older ≡ []
counts_alone form generation bytes older alone (inl w) = ap before_of w.1
counts_alone form generation bytes older alone (inr w) = ap before_of (subst (λ (b : Bool). OlderCounts b form w.0 bytes older) alone w.3)

-- where the newest alone counts, none come before it
pub alone_before : {D : Type 0} (d : Ghosts D) (form : LogForm) (log : GateLog) (disk : D) (segments : List SegmentRead) (s : Segment) → log.newest ≡ Some s → form.both ≡ false → IsLogSettled d form log disk segments → records_of (older_of segments) ≡ []
alone_before d form log disk segments s is alone settled =
    let o = older_in d form log disk segments s is settled in
    sym o.1.1 ∙ counts_alone form s.generation (d.seen disk (file_at log (not s.in_second))) o.0 alone o.1.0
