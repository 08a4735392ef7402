-- How many bytes a renewed segment has left.
use Rattle.std.proofs.Common.{◌≡◌, ◌≤◌, ◌+◌, ◌++◌, ◌∷◌, [], ℕ, Bool, true, false, List, length, Option, Some, None, Result, Ok, refl, sym, ap, subst, ◌∙◌, arith}
use Rattle.std.specs.Prelude.{◌-◌, IsSome}
use Rattle.std.proofs.lemmas.Bool.{false≢true}
use Rattle.std.proofs.lemmas.List.{append-nil, length-take-le}
use Rattle.px_outside.specs.declared.disk.Disk.{Ghosts}
use Rattle.px_gatelog.specs.Format.{LogRecord, SegmentRead, open_segment_bytes, records_bytes, segment_list}
use Rattle.px_gatelog.specs.GateLog.{IsLogSettled, LogGoesOnBy, after_by, after_step, newest_generation, next_shut, room_in, side_bytes, steps_by}
use Rattle.px_gatelog.specs.Steps.{IsRollStep, LogReaches}
use Rattle.px_gatelog.specs.declared.gate_log.GateLog.{GateLog}
use Rattle.px_gatelog.specs.declared.roll.Rolled.{Rolled}
use Rattle.px_gatelog.specs.declared.segment.Segment.{Segment}
use Rattle.px_gatelog.proofs.LogRecords.{may_next}
use Rattle.px_schema.specs.Spelled.{standing_bytes}
use Rattle.px_catalog.specs.Reading.{catalogue_form, snapshot_record}
use Rattle.px_catalog.specs.Catalogue.{HasCatalogue, catalogue_steps_left, standing_of}
use Rattle.px_catalog.specs.declared.fault.CatalogFault.{CatalogFault}
use Rattle.px_catalog.specs.declared.catalog.Catalog.{Catalog}
use Rattle.px_catalog.proofs.Holding.{fit}

rolled_segments : (laid : Option ℕ) (shut : Bool) → steps_by laid shut ≡ 1 → (log : GateLog) (segments : List SegmentRead) (next : List LogRecord) → after_by laid shut catalogue_form log segments next ≡ record { generation = newest_generation log + 1; records = next } ∷ []
rolled_segments (Some end) shut one log segments next = refl
rolled_segments None true one log segments next = absurd (omega (arith, one))
rolled_segments None false one log segments next = absurd (omega (arith, one))

length_opened : (generation : ℕ) (records : List LogRecord) → length (open_segment_bytes generation records) ≡ 16 + length (records_bytes records)
unfolding open_segment_bytes
length_opened generation records = omega arith

-- the only segment has the records
only_records : (s : Segment) (older : Option SegmentRead) (records : List LogRecord) (x : SegmentRead) → x ∷ [] ≡ segment_list older ++ record { generation = s.generation; records = records } ∷ [] → records ≡ x.records
only_records s None records x is = (let same : x ≡ record { generation = s.generation; records = records } = cc in sym (ap (λ (y : SegmentRead). y.records) same))
only_records s (Some o) records x is = absurd (let n = ap length is in omega (arith, n))

-- a log with one segment
room_alone : {D : Type 0} (d : Ghosts D) (log : GateLog) (disk : D) (x : SegmentRead) → IsLogSettled d catalogue_form log disk (x ∷ []) → IsSome log.newest → room_in log.newest ≡ 67108864 - (16 + length (records_bytes x.records))
room_alone {D} d log disk x settled open_ = by log.newest refl
  where
    by : (newest : Option Segment) → log.newest ≡ newest → room_in newest ≡ 67108864 - (16 + length (records_bytes x.records))
    by None is = absurd (false≢true (subst (λ (o : Option Segment). IsSome o) is open_))
    by (Some s) is =
        let on = subst (λ (o : Option Segment). LogGoesOnBy catalogue_form o (d.seen disk log.first) (d.seen disk log.second) (x ∷ [])) is settled.state.goes_on in
        let bytes = side_bytes s.in_second (d.seen disk log.first) (d.seen disk log.second) in
        let long = on.at.long in
        let end : s.end ≡ 16 + length (records_bytes on.records) = sym (length-take-le s.end bytes (omega (arith, long))) ∙ ap length on.at.front ∙ length_opened s.generation on.records in
        let same = only_records s on.older on.records x on.lists in
        ap (λ (n : ℕ). 67108864 - n) (end ∙ ap (λ (l : List LogRecord). 16 + length (records_bytes l)) same)

spelled_one : (kind : ℕ) (body : List ℕ) → 16 + length (records_bytes (record { kind = kind; body = body } ∷ [])) ≡ 22 + length body
spelled_one kind body = let e : length (body ++ []) ≡ length body = ap length (append-nil body) in omega arith

-- a step that was answered
pub step_is : (x y : Rolled) (r : Result Rolled CatalogFault) → r ≡ Ok x → r ≡ Ok y → x ≡ y
step_is x y r a b = (let c : Ok x ≡ Ok y = sym a ∙ b in cc)

-- behind the last step the segment has the snapshot alone
pub rolled_room : {D : Type 0} (d : Ghosts D) (old : Catalog) (disk : D) (has : HasCatalogue d old disk) (long : length (standing_bytes (standing_of old)) ≤ 67108864) (log' : GateLog) (disk' : D) → catalogue_steps_left old ≡ 1
    → LogReaches d old.log log' disk disk' (IsRollStep d old.log disk) → IsSome log'.newest → room_in log'.newest ≡ 67108864 - (22 + length (standing_bytes (standing_of old)))
rolled_room d old disk has long log' disk' one done open_ =
    let next = snapshot_record (standing_of old) ∷ [] in
    let settled = done catalogue_form has.log.segments (after_step catalogue_form old.log has.log.segments next) has.log.settled
    (next, may_next d catalogue_form 0 1 refl disk disk' old.log log' has.records next has.log (fit d old disk has long), has.log.laid, refl) in
    let alone = subst (IsLogSettled d catalogue_form log' disk') (rolled_segments old.log.laid (next_shut old.log) one old.log has.log.segments next) settled in
    room_alone d log' disk' (record { generation = newest_generation old.log + 1; records = next }) alone open_ ∙ ap (λ (n : ℕ). 67108864 - n) (spelled_one 1 (standing_bytes (standing_of old)))
