-- The batches that a trail tells of.
use Rattle.std.specs.Prelude.{◌≡◌, ◌≢◌, ◌<◌, ◌≤◌, ◌++◌, ◌∷◌, [], ℕ, zero, suc, Bool, true, false, ◌&&◌, ◌||◌, ◌==◌, if◌then◌else◌, not, filter, map, List, Option, Some, None}
use Rattle.std.specs.Ordering.{is_eq}
use Rattle.px_values.specs.declared.row.Value.{Value}
use Rattle.px_values.specs.declared.change.Change.{Change}
use Rattle.px_values.specs.declared.change.What.{What}
use Rattle.px_values.specs.Order.{row_order}
use Rattle.px_trail.specs.declared.entry.Act.{Act}
use Rattle.px_trail.specs.declared.entry.Act.TheVariants.{Begun, Phase, Wrote, Ended}
use Rattle.px_trail.specs.declared.entry.Entry.{Entry}

-- 1. Rows of a batch

-- the row is in the list. Rows are named by their primary key values
unfoldable pub has : List (List Value) → List Value → Bool
has [] r = false
has (x ∷ xs) r = is_eq (row_order x r) || has xs r

-- no row is named twice
unfoldable pub is_distinct : List (List Value) → Bool
is_distinct [] = true
is_distinct (x ∷ xs) = not (has xs x) && is_distinct xs

-- the rows of changes
abbrev pub rows_of : List Change → List (List Value)
rows_of changes = map (λ c. c.row) changes

-- what a list of changes does to a row
unfoldable pub change_of : List Change → List Value → Option What
change_of [] r = None
change_of (c ∷ cs) r = if is_eq (row_order c.row r) then Some c.what else change_of cs r

-- 2. One batch

-- a batch: who began it, with which changes, which rows were written, which phase is done, and whether it has ended
pub record Batch : Type 0 where
  pub seat : ℕ
  pub changes : List Change
  pub written : List (List Value)
  pub phase : ℕ
  pub ended : Bool

-- a batch that was just begun
abbrev pub begun_batch : ℕ → List Change → Batch
begun_batch seat changes = record { seat = seat; changes = changes; written = []; phase = 0; ended = false }

-- the batch of this table and stamp after one act more
unfoldable pub batch_step : ℕ → ℕ → Option Batch → ℕ → Act → Option Batch
batch_step t s None seat (Begun t' s' cs) = if (t'.0 == t) && (s' == s) then Some (begun_batch seat cs) else None
batch_step t s (Some b) seat (Phase t' s' p) = if (t'.0 == t) && (s' == s) then Some (record b { phase = p }) else Some b
batch_step t s (Some b) seat (Wrote t' s' rows) = if (t'.0 == t) && (s' == s) then Some (record b { written = b.written ++ rows }) else Some b
batch_step t s (Some b) seat (Ended t' s') = if (t'.0 == t) && (s' == s) then Some (record b { ended = true }) else Some b
batch_step t s b seat act = b

-- the same after several entries
unfoldable pub batch_from : ℕ → ℕ → Option Batch → List Entry → Option Batch
batch_from t s b [] = b
batch_from t s b (e ∷ es) = batch_from t s (batch_step t s b e.seat e.act) es

-- the batch of this table and stamp
abbrev pub batch_of : ℕ → ℕ → List Entry → Option Batch
batch_of t s es = batch_from t s None es

-- the rows that are still to be written
abbrev pub unwritten : Batch → List (List Value)
unwritten b = filter (λ r. not (has b.written r)) (rows_of b.changes)

-- 3. What a batch does next

-- it marks its index rows, writes its rows, verifies the marks, ends, or has ended
pub data BatchPhase : Type 0 where
  Marking : BatchPhase
  Writing : BatchPhase
  Verifying : BatchPhase
  Closing : BatchPhase
  Over : BatchPhase

-- what comes after the phase that is done, where these rows are left
abbrev pub phase_after : ℕ → List (List Value) → BatchPhase
phase_after zero left = Marking
phase_after (suc zero) (r ∷ left) = Writing
phase_after (suc zero) [] = Verifying
phase_after (suc (suc n)) left = Closing

-- what the batch does next
abbrev pub phase_of : Batch → BatchPhase
phase_of b = if b.ended then Over else phase_after b.phase (unwritten b)

-- the trail has a batch of this seat, table and stamp, in this phase
pub record IsBatchIn (es : List Entry) (seat t s : ℕ) (p : BatchPhase) : Type 0 where
  pub batch : Batch
  pub is : batch_of t s es ≡ Some batch
  pub mine : batch.seat ≡ seat
  pub phase : phase_of batch ≡ p

-- 4. Facts on batches

-- the row has a change of a batch with a smaller stamp that isn't written yet
pub record IsPending (es : List Entry) (t s : ℕ) (r : List Value) : Type 0 where
  pub stamp : ℕ
  pub smaller : stamp < s
  pub batch : Batch
  pub is : batch_of t stamp es ≡ Some batch
  pub left : has (unwritten batch) r ≡ true

-- every row of every batch with a stamp at most p is written
pub record IsDecided (es : List Entry) (t p : ℕ) : Type 0 where
  pub each : (s : ℕ) (b : Batch) → s ≤ p → batch_of t s es ≡ Some b → unwritten b ≡ []

-- the batch has ended: its writes were acknowledged
pub record IsAcknowledged (es : List Entry) (t s : ℕ) : Type 0 where
  pub batch : Batch
  pub is : batch_of t s es ≡ Some batch
  pub ended : batch.ended ≡ true

-- the stamp of the table whose batch the act acknowledges
unfoldable pub acknowledged_by : ℕ → Act → List ℕ
acknowledged_by t (Ended t' s) = if t'.0 == t then s ∷ [] else []
acknowledged_by t act = []

-- the stamps of the acknowledged batches of a table, in the order in which they ended
unfoldable pub acknowledged : ℕ → List Entry → List ℕ
acknowledged t [] = []
acknowledged t (e ∷ es) = acknowledged_by t e.act ++ acknowledged t es

-- the batch of the stamp has begun, and not all of its rows were written before the entry
abbrev pub IsOngoing : Option Batch → Option Batch → Type 0
IsOngoing before None = ⊥
IsOngoing None (Some b) = Unit {0}
IsOngoing (Some a) (Some b) = unwritten a ≡ [] → ⊥

-- another batch was pending on the row after some entry from the batch's beginning to its last Wrote
pub record IsConcurrent (es : List Entry) (t s : ℕ) (r : List Value) : Type 0 where
  pub before : List Entry
  pub entry : Entry
  pub after : List Entry
  pub splits : es ≡ before ++ entry ∷ after
  pub ongoing : IsOngoing (batch_of t s before) (batch_of t s (before ++ entry ∷ []))
  pub stamp : ℕ
  pub other : stamp ≡ s → ⊥
  pub batch : Batch
  pub is : batch_of t stamp (before ++ entry ∷ []) ≡ Some batch
  pub left : has (unwritten batch) r ≡ true

-- a batch of a legal trail has changes, writes none of its rows before it is marked, and has written all of them
-- before its marks are verified and before it ends
pub record IsSoundBatch (x : Batch) : Type 0 where
  pub some : x.changes ≢ []
  pub unmarked : x.phase ≡ 0 → x.written ≡ []
  pub verified : 2 ≤ x.phase → unwritten x ≡ []
  pub ended : x.ended ≡ true → unwritten x ≡ []

abbrev pub IsSoundOption : Option Batch → Type 0
IsSoundOption None = Unit {0}
IsSoundOption (Some x) = IsSoundBatch x
