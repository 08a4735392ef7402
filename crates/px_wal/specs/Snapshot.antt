-- What a manifest names, as the body of a record.
--
-- A record is of kind 1. Its body has the number up to which the log was flushed, the horizon and the greatest stamp of
-- the files, each in 8 bytes; the number of compactions modulo 8 and the count of files, each in one; and for each file,
-- the newest first, its local number (4 bytes), its length (8) and the count of its cells (8). Numbers are big-endian.
use Rattle.std.specs.Prelude.{◌≡◌, ◌≤◌, ◌<◌, ◌+◌, ◌^◌, ◌++◌, ◌∷◌, [], ◌==◌, ℕ, true, false, zero, suc, nat_lt, if◌then◌else◌, List, length, take, drop, get_or, Option, Some, None, option_map}
use Rattle.std.specs.List.{AllByRecursion, flat_map}
use Rattle.std.specs.Int.{w32, w64, to_be_bytes, from_be_bytes}
use Rattle.px_gatelog.specs.Format.{LogForm, LogRecord}

-- a file that a manifest names: its local number, how many bytes and how many cells it has
pub record FileData : Type 0 where
  pub local : ℕ
  pub len : ℕ
  pub cells : ℕ

pub record SnapshotData : Type 0 where
  pub flushed : ℕ
  pub horizon : ℕ
  pub stamp : ℕ
  pub compactions : ℕ
  pub files : List FileData

-- a region without a manifest
abbrev pub nothing_named : SnapshotData
nothing_named = record { flushed = 0; horizon = 0; stamp = 0; compactions = 0; files = [] }

-- a file whose local number is one of files with cells, and whose numbers fit their fields
pub record IsEntry (f : FileData) : Type 0 where
  pub own : 4 ≤ f.local
  pub local : f.local < 2 ^ 32
  pub len : f.len < 2 ^ 64
  pub cells : f.cells < 2 ^ 64

-- a snapshot that has a record
pub record IsSnapshot (s : SnapshotData) : Type 0 where
  pub flushed : s.flushed < 2 ^ 64
  pub horizon : s.horizon < 2 ^ 64
  pub stamp : s.stamp < 2 ^ 64
  pub compactions : s.compactions < 8
  pub few : length s.files < 256
  pub files : AllByRecursion IsEntry s.files

-- ---- spelling

-- a number in eight bytes
unfoldable pub word_bytes : ℕ → List ℕ
word_bytes n = to_be_bytes w64 n

-- a number in four bytes
unfoldable pub half_word_bytes : ℕ → List ℕ
half_word_bytes n = to_be_bytes w32 n

abbrev pub file_record_bytes : FileData → List ℕ
file_record_bytes f = (half_word_bytes f.local ++ word_bytes f.len) ++ word_bytes f.cells

abbrev pub files_bytes : List FileData → List ℕ
files_bytes files = flat_map file_record_bytes files

-- what stands before the files
abbrev pub head_bytes : SnapshotData → List ℕ
head_bytes s = ((word_bytes s.flushed ++ word_bytes s.horizon) ++ word_bytes s.stamp) ++ s.compactions ∷ length s.files ∷ []

unfoldable pub snapshot_body : SnapshotData → List ℕ
snapshot_body s = head_bytes s ++ files_bytes s.files

abbrev pub snapshot_record : SnapshotData → LogRecord
snapshot_record s = record { kind = 1; body = snapshot_body s }

-- ---- reading

-- The first wrong place of the file that begins the bytes: a field that isn't whole, or the last byte of a local number
-- below 4.
abbrev pub wrong_file : List ℕ → Option ℕ
wrong_file rest =
    if nat_lt (length rest) 4 then Some 0 else (if nat_lt (from_be_bytes w32 (take 4 rest)) 4 then Some 3 else (if nat_lt (length rest) 12 then Some 4 else (if nat_lt (length rest) 20 then Some 12 else None)))

-- a place so many bytes further on, or else another
abbrev pub place_or : ℕ → Option ℕ → Option ℕ → Option ℕ
place_or at None more = more
place_or at (Some place) more = Some (at + place)

-- the first wrong place of so many files with nothing behind them, where they begin at the place `at`
unfoldable pub wrong_files : (count at : ℕ) → List ℕ → Option ℕ
wrong_files zero at rest = if length rest == 0 then None else Some at
wrong_files (suc count) at rest = place_or at (wrong_file rest) (wrong_files count (at + 20) (drop 20 rest))

-- the first wrong place of what stands before the files: a field that isn't whole, or a number of compactions from 8 on
abbrev pub wrong_head : List ℕ → Option ℕ
wrong_head body =
    if nat_lt (length body) 8 then Some 0 else (if nat_lt (length body) 16 then Some 8 else (if nat_lt (length body) 24 then Some 16 else (if nat_lt (length body) 25 then Some 24 else
    (if nat_lt (get_or body 24 0) 8 then (if nat_lt (length body) 26 then Some 25 else None) else Some 24))))

-- the first wrong place of a body
unfoldable pub wrong_body : List ℕ → Option ℕ
wrong_body body = place_or 0 (wrong_head body) (wrong_files (get_or body 25 0) 26 (drop 26 body))

-- the first wrong place of a record
unfoldable pub wrong_snapshot : List LogRecord → LogRecord → Option ℕ
wrong_snapshot before r = if r.kind == 1 then option_map (λ place. 5 + place) (wrong_body r.body) else Some 0

-- What is asked of a manifest. The newest segment alone counts.
abbrev pub manifest_form : LogForm
manifest_form = record { both = false; empty = true; wrong = wrong_snapshot }

-- the last of the records counts
pub data IsLast (records : List LogRecord) (s : SnapshotData) : Type 0 where
  none : records ≡ [] → s ≡ nothing_named → IsLast records s
  last : (front : List LogRecord) → records ≡ front ++ snapshot_record s ∷ [] → IsLast records s
