-- A segment file between the calls of an append or of the making of a segment.
use Rattle.std.specs.Prelude.{◌≡◌, ◌<◌, ◌≤◌, ◌+◌, ◌^◌, ◌++◌, ◌∷◌, [], ℕ, List, length, take, drop}
use Rattle.px_outside.specs.declared.disk.Disk.{Ghosts}
use Rattle.px_gatelog.specs.Format.{AllRecordsFit, LogForm, LogRecord, open_segment_bytes, record_bytes}

-- An open segment with a record behind its closed gate, which isn't opened yet.
pub record IsStaged (form : LogForm) (before : List LogRecord) (generation end : ℕ) (records : List LogRecord) (r : LogRecord) (bytes : List ℕ) : Type 0 where
  pub front : take end bytes ≡ open_segment_bytes generation records
  pub frame : take (6 + length r.body) (drop (end + 1) bytes) ≡ record_bytes r ++ 0 ∷ []
  pub fit : AllRecordsFit form before (records ++ r ∷ [])
  pub fit_before : AllRecordsFit form before records
  pub numbered : (0 < generation) × (generation < 2 ^ 64)

-- at each moment from old on a stop leaves the file with bytes that have P
pub record LeavesFile {D : Type 0} (d : Ghosts D) (old new : D) (file : ℕ) (P : List ℕ → Type 0) : Type 0 where
  pub each : (moment : ℕ) (bytes : List ℕ) → d.calls old ≤ moment → d.left new moment file bytes → P bytes
