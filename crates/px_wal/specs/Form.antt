-- The records of a region's log. A record is of kind 2 and has a batch: its number (8 bytes), the count of its cells (4)
-- and the cells. Numbers are big-endian.
use Rattle.std.specs.Prelude.{◌≡◌, ◌≤◌, ◌<◌, ◌+◌, ◌^◌, ◌++◌, ◌∷◌, [], ◌==◌, ℕ, Bool, true, false, nat_lt, nat_le, if◌then◌else◌, List, length, take, drop, Option, Some, None, option_map, Result, Ok, Err}
use Rattle.std.specs.List.{AllByRecursion}
use Rattle.std.specs.Int.{w32, w64, to_be_bytes, from_be_bytes}
use Rattle.px_cells.specs.CellData.{CellData}
use Rattle.px_cellbytes.specs.declared.fault.CellFault.{CellFault}
use Rattle.px_cellbytes.specs.Reading.{IsWritten, place_of_fault}
use Rattle.px_cellbytes.specs.Spelling.{all_bytes}
use Rattle.px_gatelog.specs.Format.{LogForm, LogRecord}
use Rattle.px_wal.specs.Batches.{AreRisingBatches, LogBatch}
use Rattle.px_wal.specs.inner.OneReading.{reading}

-- ---- spelling

unfoldable pub batch_body : LogBatch → List ℕ
batch_body b = to_be_bytes w64 b.number ++ (to_be_bytes w32 (length b.cells) ++ all_bytes b.cells)

abbrev pub batch_record : LogBatch → LogRecord
batch_record b = record { kind = 2; body = batch_body b }

-- ---- reading

unfoldable pub number_in : List ℕ → ℕ
number_in body = from_be_bytes w64 (take 8 body)

unfoldable pub cell_count_in : List ℕ → ℕ
cell_count_in body = from_be_bytes w32 (take 4 (drop 8 body))

-- the number of the last record, or n where there is none
abbrev pub last_number : ℕ → List LogRecord → ℕ
last_number n [] = n
last_number n (r ∷ records) = last_number (number_in r.body) records

-- the number that comes behind the records, where some come before; else the greatest with which they may begin
abbrev pub right_number : ℕ → List LogRecord → ℕ
right_number flushed [] = flushed + 1
right_number flushed (r ∷ before) = last_number (number_in r.body) before + 1

-- Numbers are consecutive. The first is at most one above those that were flushed.
abbrev pub is_right : ℕ → List LogRecord → ℕ → Bool
is_right flushed [] n = nat_le n (flushed + 1)
is_right flushed (r ∷ before) n = n == last_number (number_in r.body) before + 1

-- the first place from `at` on where bytes are others
abbrev pub differs_at : ℕ → (right found : List ℕ) → ℕ
differs_at at [] found = at
differs_at at (x ∷ right) [] = at
differs_at at (x ∷ right) (y ∷ found) = if x == y then differs_at (at + 1) right found else at

-- the first of a number's bytes that differs from those of the right one; the first of all where that one has too many
unfoldable pub number_place : (right n : ℕ) → ℕ
number_place right n = if nat_lt right (2 ^ 64) then differs_at 0 (to_be_bytes w64 right) (to_be_bytes w64 n) else 0

abbrev pub fault_place : Result (List CellData) CellFault → Option ℕ
fault_place (Ok cells) = None
fault_place (Err fault) = Some (place_of_fault fault)

-- the first wrong place of a body, where its number is right or is wrong at a place
unfoldable pub wrong_by : Bool → ℕ → List ℕ → Option ℕ
wrong_by right place body =
    if nat_lt (length body) 8 then Some 0 else
    (if right then
    (if nat_lt (length body) 12 then Some 8 else option_map (λ p. 12 + p) (fault_place (reading (drop 12 body) (cell_count_in body))))
    else Some place)

-- the first wrong place of a body
abbrev pub wrong_body : ℕ → List LogRecord → List ℕ → Option ℕ
wrong_body flushed before body = wrong_by (is_right flushed before (number_in body)) (number_place (right_number flushed before) (number_in body)) body

-- the first wrong place of a record that comes behind others
unfoldable pub wrong_batch : ℕ → List LogRecord → LogRecord → Option ℕ
wrong_batch flushed before r = if r.kind == 2 then option_map (λ place. 5 + place) (wrong_body flushed before r.body) else Some 0

-- What is asked of a region's log, by the number up to which it was flushed.
abbrev pub wal_form : ℕ → LogForm
wal_form flushed = record { both = true; empty = true; wrong = wrong_batch flushed }

-- ---- batches

-- the number of the last batch, or n where there is none
abbrev pub last_batch_number : ℕ → List LogBatch → ℕ
last_batch_number n [] = n
last_batch_number n (b ∷ batches) = last_batch_number b.number batches

-- the number up to which batches go; where there is none, any that was flushed
abbrev pub IsUpTo : ℕ → List LogBatch → ℕ → Type 0
IsUpTo flushed [] n = n ≤ flushed
IsUpTo flushed (b ∷ batches) n = n ≡ last_batch_number b.number batches

abbrev pub IsFirstAfter : ℕ → List LogBatch → Type 0
IsFirstAfter flushed [] = Unit {0}
IsFirstAfter flushed (b ∷ batches) = b.number ≤ flushed + 1

-- a batch that has a record
pub record IsLogBatch (b : LogBatch) : Type 0 where
  pub written : IsWritten b.cells
  pub counted : length b.cells < 2 ^ 32
  pub number : b.number < 2 ^ 64

-- batches that a log has
pub record AreBatches (flushed : ℕ) (batches : List LogBatch) : Type 0 where
  pub each : AllByRecursion IsLogBatch batches
  pub rising : AreRisingBatches batches
  pub first : IsFirstAfter flushed batches

-- whether a number comes next, where the last one is known or there is none
abbrev pub is_next : (flushed : ℕ) → (some : Bool) → (last : ℕ) → ℕ → Bool
is_next flushed false last n = nat_le n (flushed + 1)
is_next flushed true last n = n == last + 1

abbrev pub is_some : List LogBatch → Bool
is_some [] = false
is_some (b ∷ batches) = true

abbrev pub cell_count : List LogBatch → ℕ
cell_count [] = 0
cell_count (b ∷ batches) = length b.cells + cell_count batches

abbrev pub batch_byte_count : List LogBatch → ℕ
batch_byte_count [] = 0
batch_byte_count (b ∷ batches) = length (all_bytes b.cells) + batch_byte_count batches

-- the number may come behind batches
abbrev pub IsNextNumber : ℕ → List LogBatch → ℕ → Type 0
IsNextNumber flushed [] n = n ≤ flushed + 1
IsNextNumber flushed (b ∷ batches) n = n ≡ last_batch_number b.number batches + 1
