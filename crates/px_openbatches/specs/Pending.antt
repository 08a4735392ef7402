-- The open batches with their changes: what a batch that begins has to know of them.
use Rattle.std.specs.Prelude.{◌≡◌, ℕ, ◌<◌, Bool, true, false, cond, not, ◌||◌, ◌++◌, ◌∷◌, [], List, map, filter, Option, Some, None, is_some, nat_eq, ◌⊎◌}
use Rattle.std.specs.List.{list_any, AllByRecursion}
use Rattle.px_values.specs.declared.row.Value.{Value}
use Rattle.px_values.specs.declared.change.Change.{Change}
use Rattle.px_values.specs.declared.change.What.{What}
use Rattle.px_values.specs.States.{RowState, Shape, apply}
use Rattle.px_trail.specs.declared.entry.Entry.{Entry}
use Rattle.px_trail.specs.Batches.{Batch, batch_of, change_of, has, rows_of, unwritten}
use Rattle.px_trail.specs.Trail.{Base}
use Rattle.px_openbatches.specs.Made.{RowCells}

-- A batch that has begun and not ended: its changes, the rows that are written, and the rows on which another batch was
-- pending; how many of its indexes it has marked, and at how many its marks are closed.
pub record HeldBatch : Type 0 where
  pub stamp : ℕ
  pub changes : List Change
  pub written : List (List Value)
  pub met : List (List Value)
  pub done : ℕ
  pub verified : ℕ
  -- it marks the first `count` indexes in their order, and has these cells for them and for the rows
  pub count : ℕ
  pub cells : List RowCells

-- 1. The states that a batch counts on

-- a change that isn't written yet
abbrev pub left_as : Option What → Bool → Option What
left_as None v = None
left_as (Some w) v = cond v None (Some w)

abbrev pub change_left : HeldBatch → List Value → Option What
change_left h r = left_as (change_of h.changes r) (has h.written r)

abbrev pub applied_if : Shape → List Value → RowState → Option What → RowState
applied_if sh r o None = o
applied_if sh r o (Some w) = apply sh r o w

-- the state, then the pending changes of the row, one batch after another
unfoldable pub after_pending : Shape → List Value → RowState → List HeldBatch → RowState
after_pending sh r o [] = o
after_pending sh r o (h ∷ hs) = after_pending sh r (applied_if sh r o (change_left h r)) hs

-- 2. Pending rows, in the trail's words

pub record IsPendingOn (es : List Entry) (t s : ℕ) (r : List Value) : Type 0 where
  pub batch : Batch
  pub is : batch_of t s es ≡ Some batch
  pub what : What
  pub left : left_as (change_of batch.changes r) (has batch.written r) ≡ Some what

-- the entry is one from the batch's Begun to its last Wrote
pub record IsWithin (es : List Entry) (e : Entry) (t s : ℕ) : Type 0 where
  pub batch : Batch
  pub is : batch_of t s (es ++ e ∷ []) ≡ Some batch
  pub which : (batch_of t s es ≡ None) ⊎ ((x : Batch) × ((batch_of t s es ≡ Some x) × (unwritten x ≡ [] → ⊥)))

-- another batch was pending on the row after such an entry
pub record IsMet (es : List Entry) (t s : ℕ) (r : List Value) : Type 0 where
  pub before : List Entry
  pub entry : Entry
  pub after : List Entry
  pub parts : es ≡ before ++ entry ∷ after
  pub within : IsWithin before entry t s
  pub other : ℕ
  pub differs : other ≡ s → ⊥
  pub pending : IsPendingOn (before ++ entry ∷ []) t other r

-- 3. What stays true of the open batches

-- a change of the batch is still to be written
abbrev pub is_left : HeldBatch → Bool
is_left h = list_any (λ c. not (has h.written c.row)) h.changes

abbrev pub is_in : ℕ → List HeldBatch → Bool
is_in s hs = list_any (λ h. nat_eq h.stamp s) hs

abbrev pub AreStampsRisingFrom : ℕ → List HeldBatch → Type 0
AreStampsRisingFrom q [] = Unit {0}
AreStampsRisingFrom q (h ∷ hs) = (q < h.stamp) × AreStampsRisingFrom h.stamp hs

pub record IsHeldBatch (es : List Entry) (t : ℕ) (h : HeldBatch) : Type 0 where
  pub batch : Batch
  pub is : batch_of t h.stamp es ≡ Some batch
  pub changes : batch.changes ≡ h.changes
  pub written : (r : List Value) → has batch.written r ≡ has h.written r
  pub running : batch.ended ≡ false
  -- the rows that it met are exactly its concurrent ones
  pub met_from : (r : List Value) → has h.met r ≡ true → is_some (change_of h.changes r) ≡ true × IsMet es t h.stamp r
  pub met_to : (r : List Value) → is_some (change_of h.changes r) ≡ true → IsMet es t h.stamp r → has h.met r ≡ true
  -- a batch that is pending now was counted
  pub counted : (r : List Value) (u : ℕ) → is_left h ≡ true → (u ≡ h.stamp → ⊥) → IsPendingOn es t u r → IsMet es t h.stamp r

pub record HeldKept (b : Base) (es : List Entry) (t : ℕ) (hs : List HeldBatch) : Type 0 where
  pub rising : AreStampsRisingFrom (b.last t) hs
  pub each : AllByRecursion (IsHeldBatch es t) hs
  pub all : (s : ℕ) (y : Batch) → batch_of t s es ≡ Some y → y.ended ≡ false → is_in s hs ≡ true

-- 4. What the steps do to the open batches

-- rows that both have, where the open batch is still to write some
abbrev pub with_met : List Change → HeldBatch → HeldBatch
with_met cs h = record h { met = cond (is_left h) (h.met ++ filter (λ r. is_some (change_of h.changes r)) (rows_of cs)) h.met }

abbrev pub is_pending_in : List HeldBatch → List Value → Bool
is_pending_in hs r = list_any (λ h. is_some (change_left h r)) hs

abbrev pub fresh_held : ℕ → List Change → ℕ → List RowCells → List HeldBatch → HeldBatch
fresh_held s cs count cells hs = record { stamp = s; changes = cs; written = []; met = filter (is_pending_in hs) (rows_of cs); done = 0; verified = 0; count = count; cells = cells }

abbrev pub held_begun : ℕ → List Change → ℕ → List RowCells → List HeldBatch → List HeldBatch
held_begun s cs count cells hs = map (with_met cs) hs ++ fresh_held s cs count cells hs ∷ []

abbrev pub writes_rows : ℕ → List (List Value) → HeldBatch → HeldBatch
writes_rows s rows h = record h { written = cond (nat_eq h.stamp s) (h.written ++ rows) h.written }

abbrev pub held_wrote : ℕ → List (List Value) → List HeldBatch → List HeldBatch
held_wrote s rows hs = map (writes_rows s rows) hs

abbrev pub held_ended : ℕ → List HeldBatch → List HeldBatch
held_ended s hs = filter (λ h. not (nat_eq h.stamp s)) hs

-- the rows that Phase 3 verifies: those on which no other batch was pending
abbrev pub to_verify : HeldBatch → List (List Value)
to_verify h = filter (λ r. not (has h.met r)) (rows_of h.changes)

-- 5. The rows that a batch met, as a truth value for each of its changes: so that another batch's begin takes no memory

unfoldable pub flagged : List Bool → List (List Value) → List (List Value)
flagged [] rows = []
flagged (v ∷ vs) [] = []
flagged (v ∷ vs) (r ∷ rows) = cond v (r ∷ flagged vs rows) (flagged vs rows)

unfoldable pub meet_flags : List (List Value) → List Bool → List (List Value) → List Bool
meet_flags others [] rows = []
meet_flags others (v ∷ vs) [] = v ∷ vs
meet_flags others (v ∷ vs) (r ∷ rows) = (v || has others r) ∷ meet_flags others vs rows
