-- Steps of a log as relations of what its files stand for before and after, and what a stop leaves of them.
use Rattle.std.specs.Prelude.{◌≡◌, ◌⊎◌, List}
use Rattle.px_outside.specs.Disk.{LeavesOnlyBy}
use Rattle.px_outside.specs.declared.disk.Disk.{Ghosts}
use Rattle.px_gatelog.specs.declared.gate_log.GateLog.{GateLog}
use Rattle.px_gatelog.specs.Format.{IsNextRecord, LogForm, LogRecord, SegmentRead, with_record}
use Rattle.px_gatelog.specs.GateLog.{IsLaid, IsLogSettled, LogStandsFor, MayStep, after_step, steps_left}

-- the record comes behind those that count
abbrev pub IsAppend : LogRecord → LogForm → (before after : List SegmentRead) → Type 0
IsAppend r form before after = IsNextRecord form before r × (after ≡ with_record before r)

-- a step of the making of the next segment, which is laid out with its records before the last one
abbrev pub IsRollStep : {D : Type 0} → Ghosts D → GateLog → D → LogForm → (before after : List SegmentRead) → Type 0
IsRollStep d log disk form before after = (records : List LogRecord) × MayStep form log before records × (steps_left log ≡ 1 → IsLaid d log disk records) × (after ≡ after_step form log before records)

-- At each moment from old on a stop leaves the log as it was, or as it is after one step of this kind.
abbrev pub Commits : {D : Type 0} → Ghosts D → GateLog → (old new : D) → (LogForm → (before after : List SegmentRead) → Type 0) → Type 0
Commits d log old new Step =
    (form : LogForm) (before after : List SegmentRead) → IsLogSettled d form log old before → Step form before after → LeavesOnlyBy d.calls d.left old new (λ moment image. LogStandsFor form log image before ⊎ LogStandsFor form log image after)

-- After each step of this kind that was possible the log goes on from there.
abbrev pub LogReaches : {D : Type 0} → Ghosts D → (log log' : GateLog) → (old new : D) → (LogForm → (before after : List SegmentRead) → Type 0) → Type 0
LogReaches d log log' old new Step = (form : LogForm) (before after : List SegmentRead) → IsLogSettled d form log old before → Step form before after → IsLogSettled d form log' new after
