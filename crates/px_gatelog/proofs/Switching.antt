-- The records of a log while its next segment is made without a record, where those of both segments count.
use Rattle.std.proofs.Common.{◌≡◌, ◌⊎◌, inl, inr, ℕ, ◌+◌, Bool, true, false, cond, arith, List, [], ◌∷◌, ◌++◌, Option, Some, None, Ok, refl, sym, ap, ◌∙◌}
use Rattle.px_outside.specs.Disk.{Image, LeavesOnlyBy}
use Rattle.px_outside.specs.declared.disk.Disk.{Ghosts}
use Rattle.px_gatelog.specs.declared.gate_log.GateLog.{GateLog}
use Rattle.px_gatelog.specs.Format.{AllRecordsFit, LogForm, LogRecord, SegmentRead, can_end, newest_of, older_of, records_of, segments_of}
use Rattle.px_gatelog.specs.GateLog.{IsLaid, IsSameLog, LogStandsFor, MayStep, after_by, after_step, before_next, may_by, newest_generation, next_shut, steps_by, steps_left}
use Rattle.px_gatelog.specs.Records.{HasRecords, RecordsStand}
use Rattle.px_gatelog.specs.Steps.{Commits, IsRollStep, LogReaches}
use Rattle.px_gatelog.proofs.Older.{alone_by, newest_fits, older_behind, older_none, records_behind, records_cut}

none_first : (a b : List LogRecord) → a ++ b ≡ [] → a ≡ []
none_first [] b is = refl
none_first (r ∷ a) b is = cc

-- where there is no record, the older segment has none
pub older_empty : (segments : List SegmentRead) → records_of segments ≡ [] → records_of (older_of segments) ≡ []
older_empty segments none = none_first (records_of (older_of segments)) (records_of (newest_of segments)) (sym (records_cut segments) ∙ none)

module _ {D : Type 0} (d : Ghosts D) (form : LogForm) (first second : ℕ) (old : D) (log : GateLog) (records : List LogRecord) (has : HasRecords d form first second old log records) (empty : form.empty ≡ true) where
  -- the records of the newest segment fit behind those of the older one
  pub newest_fit : AllRecordsFit form (records_of (older_of has.segments)) (records_of (newest_of has.segments))
  newest_fit = newest_fits form empty log.newest (d.seen old log.first) (d.seen old log.second) has.segments has.settled.state.goes_on

  -- and are all that stand behind those
  pub newest_are : records ≡ records_of (older_of has.segments) ++ records_of (newest_of has.segments)
  newest_are = sym has.records_are ∙ records_cut has.segments

  module _ (both : form.both ≡ true) (fit : AllRecordsFit form [] (records_of (newest_of has.segments))) where
    may_be : (laid : Option ℕ) (shut : Bool) → may_by laid shut form has.segments []
    may_be (Some end) shut = (tt, ap (λ (b : Bool). can_end b (before_next form has.segments ++ [])) empty)
    may_be None true = tt
    may_be None false = alone_by form (newest_of has.segments) fit

    may : MayStep form log has.segments []
    may = may_be log.laid (next_shut log)

    -- the last step adds a segment, another leaves all, or the newest alone
    after_be : (laid : Option ℕ) (shut : Bool)
        → ((steps_by laid shut ≡ 1) × (after_by laid shut form log has.segments [] ≡ has.segments ++ record { generation = newest_generation log + 1; records = [] } ∷ []))
        ⊎ ((steps_by laid shut ≡ 1 → ⊥) × ((after_by laid shut form log has.segments [] ≡ has.segments) ⊎ (after_by laid shut form log has.segments [] ≡ newest_of has.segments)))
    after_be (Some end) shut = inl (refl, ap (λ (b : Bool). (cond b has.segments []) ++ record { generation = newest_generation log + 1; records = [] } ∷ []) both)
    after_be None true = inr (λ last. omega arith, inl refl)
    after_be None false = inr (λ last. omega arith, inr refl)

    after : ((steps_left log ≡ 1) × (after_step form log has.segments [] ≡ has.segments ++ record { generation = newest_generation log + 1; records = [] } ∷ []))
        ⊎ ((steps_left log ≡ 1 → ⊥) × ((after_step form log has.segments [] ≡ has.segments) ⊎ (after_step form log has.segments [] ≡ newest_of has.segments)))
    after = after_be log.laid (next_shut log)

    after_records : (records_of (after_step form log has.segments []) ≡ records) ⊎ (records_of (after_step form log has.segments []) ≡ records_of (newest_of has.segments))
    after_records = elim after [
      | inl w ↦ inl (ap records_of w.1 ∙ records_behind has.segments (newest_generation log + 1) ∙ has.records_are)
      | inr w ↦ elim w.1 [ inl kept ↦ inl (ap records_of kept ∙ has.records_are) | inr alone ↦ inr (ap records_of alone) ]
    ]

    in_files : (image : Image) (segments : List SegmentRead) → LogStandsFor form log image segments → segments_of form (image first) (image second) ≡ Ok segments
    in_files image segments stands =
        ap (λ (f : ℕ). segments_of form (image f) (image second)) (sym has.first_is) ∙ (ap (λ (f : ℕ). segments_of form (image log.first) (image f)) (sym has.second_is) ∙ stands)

    -- at each moment a stop leaves the same records, or those of the newest segment alone
    pub switched_leaves : (new : D) → Commits d log old new (IsRollStep d log old)
        → LeavesOnlyBy d.calls d.left old new (λ moment image. RecordsStand form first second image records ⊎ RecordsStand form first second image (records_of (newest_of has.segments)))
    switched_leaves new commits = record {
      each = λ moment image since is. elim ((commits form has.segments (after_step form log has.segments []) has.settled ([], may, has.laid, refl)).each moment image since is) [
        | inl stands ↦ inl (has.segments, in_files image has.segments stands, has.records_are)
        | inr stands ↦ elim after_records [
          | inl kept ↦ inl (after_step form log has.segments [], in_files image (after_step form log has.segments []) stands, kept)
          | inr alone ↦ inr (after_step form log has.segments [], in_files image (after_step form log has.segments []) stands, alone)
        ]
      ];
    }

    module _ (new : D) (log' : GateLog) (reaches : LogReaches d log log' old new (IsRollStep d log old)) (same : IsSameLog log log') (laid : steps_left log' ≡ 1 → IsLaid d log' new []) where
      by : (segments : List SegmentRead) (rs : List LogRecord) → after_step form log has.segments [] ≡ segments → records_of segments ≡ rs → (l : HasRecords d form first second new log' rs) × (l.segments ≡ segments)
      by segments rs is are = (
        record {
          segments = segments;
          first_is = same.first ∙ has.first_is;
          second_is = same.second ∙ has.second_is;
          settled = reaches form has.segments segments has.settled ([], may, has.laid, sym is);
          records_are = are;
          laid = laid;
        },
        refl,
      )

      -- with the last step all that was there stands before the newest segment
      pub switched_last : steps_left log ≡ 1 → (l : HasRecords d form first second new log' records) × (records_of (older_of l.segments) ≡ records)
      switched_last last = elim after [
        | inl w ↦
            let b = by (has.segments ++ record { generation = newest_generation log + 1; records = [] } ∷ []) records w.1 (records_behind has.segments (newest_generation log + 1) ∙ has.records_are) in (
              b.0,
              ap (λ (l : List SegmentRead). records_of (older_of l)) b.1 ∙ ap records_of (older_behind has.segments (record { generation = newest_generation log + 1; records = [] })) ∙ has.records_are,
            )
        | inr w ↦ absurd (w.0 last)
      ]

      -- before it nothing changes, or the older segment is gone
      pub switched_more : (steps_left log ≡ 1 → ⊥) → ((l : HasRecords d form first second new log' records) × (older_of l.segments ≡ older_of has.segments))
          ⊎ ((l : HasRecords d form first second new log' (records_of (newest_of has.segments))) × (older_of l.segments ≡ []))
      switched_more more = elim after [
        | inl w ↦ absurd (more w.0)
        | inr w ↦ elim w.1 [
          | inl kept ↦ (let b = by has.segments records kept has.records_are in inl (b.0, ap older_of b.1))
          | inr alone ↦ (let b = by (newest_of has.segments) (records_of (newest_of has.segments)) alone refl in inr (b.0, ap older_of b.1 ∙ older_none has.segments))
        ]
      ]
