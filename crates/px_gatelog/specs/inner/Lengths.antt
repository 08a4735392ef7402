-- How long a segment is that is made.
use Rattle.std.specs.Prelude.{◌≡◌, ◌≤◌, ◌<◌, ◌+◌, ℕ, List, length, Option, Some, None}
use Rattle.px_gatelog.specs.Format.{LogRecord, records_bytes, segment_limit}
use Rattle.px_gatelog.specs.First.{segment_size}

-- the place of that gate, none where the segment would pass its size
abbrev pub IsEndOf : List LogRecord → Option ℕ → Type 0
IsEndOf records None = segment_limit < segment_size records
IsEndOf records (Some end) = (segment_size records ≤ segment_limit) × (end ≡ 16 + length (records_bytes records))
