-- How long the files of a catalogue without an open segment may be.
use Rattle.std.specs.Prelude.{ℕ}

-- a folder without an open segment is taken for an empty one where neither file is longer than this
abbrev pub most_of_empty : ℕ
most_of_empty = 4096
