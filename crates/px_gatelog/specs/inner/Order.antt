-- What reading the segments of a log answers.
use Rattle.std.specs.Prelude.{◌≡◌, ◌<◌, ◌⊎◌, ℕ, Bool, List, drop, Option, Some, Result, Ok, Err}
use Rattle.px_gatelog.specs.declared.fault.ReplayFault.{ReplayFault}
use Rattle.px_gatelog.specs.declared.fault.ReplayFault.TheVariants.{Damaged, Memory}
use Rattle.px_gatelog.specs.declared.segment.Segment.{Segment}
use Rattle.px_gatelog.specs.Format.{LogForm, LogPlace, LogRecord, SegmentRead, both_read, header_of, older_of, records_at, records_of}
use Rattle.px_gatelog.specs.GateLog.{GoesOn}
use Rattle.px_gatelog.specs.inner.Replay.{IsRead}

-- the newest segment that was read
abbrev pub newest_read : Result Segment ReplayFault → Result (Option Segment) ReplayFault
newest_read (Ok s) = Ok (Some s)
newest_read (Err fault) = Err fault

-- what reading the header of a file answers
abbrev pub IsHeader : ℕ → List ℕ → Result (Option ℕ) ReplayFault → Type 0
IsHeader file bytes (Ok generation) = header_of bytes ≡ Ok generation
IsHeader file bytes (Err (Damaged at place)) = (at ≡ file) × (header_of bytes ≡ Err place)
IsHeader file bytes (Err Memory) = ⊥

-- what reading a segment answers
abbrev pub IsSegment : LogForm → (List LogRecord → Type 0) → List LogRecord → ℕ → Bool → ℕ → List ℕ → Result Segment ReplayFault → Type 0
IsSegment form has before file in_second generation bytes (Ok s) = IsRead form has before in_second generation bytes s
IsSegment form has before file in_second generation bytes (Err (Damaged at place)) = (at ≡ file) × (records_at form before 16 0 (drop 16 bytes) ≡ Err place)
IsSegment form has before file in_second generation bytes (Err Memory) = Unit {0}

-- the newer of two segments, whose records come behind those of the older where both count
pub record IsNewer (form : LogForm) (has behind : List LogRecord → Type 0) (in_second : Bool) (generation : ℕ) (older newer : List ℕ) (s : Segment) : Type 0 where
  pub segments : List SegmentRead
  pub goes_on : GoesOn form s newer older segments
  pub taken : has (records_of segments)
  pub before : behind (records_of (older_of segments))
  pub side : s.in_second ≡ in_second
  pub number : s.generation ≡ generation

-- what reading two segments in order answers
abbrev pub IsOrdered : LogForm → (has behind : List LogRecord → Type 0) → (older_file newer_file : ℕ) (older_side newer_side : Bool) (older_generation newer_generation : ℕ) (older newer : List ℕ) → Result Segment ReplayFault → Type 0
IsOrdered form has behind older_file newer_file older_side newer_side older_generation newer_generation older newer (Ok s) = older_generation < newer_generation → IsNewer form has behind newer_side newer_generation older newer s
IsOrdered form has behind older_file newer_file older_side newer_side older_generation newer_generation older newer (Err (Damaged file place)) =
    (p : LogPlace) × (both_read form (record { in_second = older_side; generation = older_generation; bytes = older }) (record { in_second = newer_side; generation = newer_generation; bytes = newer }) ≡ Err p)
    × (place ≡ p.place) × (((p.in_second ≡ older_side) × (file ≡ older_file)) ⊎ ((p.in_second ≡ newer_side) × (file ≡ newer_file)))
IsOrdered form has behind older_file newer_file older_side newer_side older_generation newer_generation older newer (Err Memory) = Unit {0}
