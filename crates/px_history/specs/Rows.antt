-- The changes of a row, as a trail tells them.
use Rattle.std.specs.Prelude.{◌≡◌, ℕ, ◌<◌, ◌-◌, Bool, true, false, cond, ◌&&◌, ◌==◌, if◌then◌else◌, List, [], ◌∷◌, Option, Some, None, nat_eq}
use Rattle.std.proofs.Common.{suc}
use Rattle.px_values.specs.declared.row.Value.{Value}
use Rattle.px_values.specs.declared.change.What.{What}
use Rattle.px_values.specs.States.{RowState, Shape, apply}
use Rattle.px_trail.specs.declared.entry.Act.{Act}
use Rattle.px_trail.specs.declared.entry.Act.TheVariants.{Begun, Wrote, Ended}
use Rattle.px_trail.specs.declared.entry.Entry.{Entry}
use Rattle.px_trail.specs.Batches.{Batch, batch_of, change_of, has}
use Rattle.px_trail.specs.Trail.{Base, shape_of}
use Rattle.px_trail.specs.States.{Dated, IsRising, applied, begun, is_row_written, written}
use Rattle.px_world.specs.World.{Fate, Unbegun, Undecided, Written, is_begun, is_undecided, is_written as is_written_fate}
use Rattle.px_history.specs.History.{History, begin_change, write_change, end_change, written_state, expected_state}

-- the state of the row at a point, by the written changes, where the table's rows have this shape
abbrev pub state_by : Shape → Base → List Entry → ℕ → List Value → ℕ → RowState
state_by sh b es t r p = applied sh r p (b.state t r p) (written es t r)

-- the changes of the base
abbrev pub base_history : Base → ℕ → List Value → History RowState
base_history b t r =
    record {
      base = b.state t r 0;
      fate = λ s. cond (b.changed t r s) Written Unbegun;
      is_ended = λ s. b.changed t r s;
      old = λ s. cond (b.changed t r s) (b.state t r (s - 1)) None;
      new = λ s. cond (b.changed t r s) (b.state t r s) None;
    }

-- the change begins, if there is one
abbrev pub begun_as : Shape → List Value → ℕ → Option What → History RowState → History RowState
begun_as sh r s None h = h
begun_as sh r s (Some w) h = begin_change (apply sh r) s w h

-- one act more
unfoldable pub history_step : Shape → ℕ → List Value → History RowState → Act → History RowState
history_step sh t r h (Begun t' s cs) = if t'.0 == t then begun_as sh r s (change_of cs r) h else h
history_step sh t r h (Wrote t' s rows) = if (t'.0 == t) && has rows r then write_change s h else h
history_step sh t r h (Ended t' s) = if (t'.0 == t) && is_begun (h.fate s) then end_change s h else h
history_step sh t r h act = h

-- the same after several
unfoldable pub history_from : Shape → ℕ → List Value → History RowState → List Entry → History RowState
history_from sh t r h [] = h
history_from sh t r h (e ∷ es) = history_from sh t r (history_step sh t r h e.act) es

-- the changes of a row, as the trail tells them
abbrev pub history_of : Base → List Entry → ℕ → List Value → History RowState
history_of b es t r = history_from (shape_of b es t) t r (base_history b t r) es

-- a batch's change of the row
pub record RowBatch : Type 0 where
  pub what : What
  pub written : Bool
  pub ended : Bool

-- the batch's change of the row, if it has one
abbrev pub row_as : Option What → Bool → Bool → Option RowBatch
row_as None written ended = None
row_as (Some w) written ended = Some (record { what = w; written = written; ended = ended })

abbrev pub row_in : Option Batch → List Value → Option RowBatch
row_in None r = None
row_in (Some x) r = row_as (change_of x.changes r) (has x.written r) x.ended

-- what became of it
abbrev pub fate_by : Option RowBatch → Fate
fate_by None = Unbegun
fate_by (Some x) = cond x.written Written Undecided

abbrev pub ended_by : Option RowBatch → Bool
ended_by None = false
ended_by (Some x) = x.ended

-- the change is the first of the list with its stamp
unfoldable pub IsListed : Dated → List Dated → Type 0
IsListed d [] = ⊥
IsListed d (x ∷ ds) = cond (nat_eq x.stamp d.stamp) (x ≡ d) (IsListed d ds)

-- the history is the trail's
pub record Tied (sh : Shape) (b : Base) (es : List Entry) (t : ℕ) (r : List Value) (h : History RowState) : Type 0 where
  pub fates : (s : ℕ) → h.fate s ≡ cond (b.changed t r s) Written (fate_by (row_in (batch_of t s es) r))
  -- a batch's change is none of the base's
  pub fresh : (s : ℕ) (x : RowBatch) → row_in (batch_of t s es) r ≡ Some x → (0 < s) × (b.changed t r s ≡ false)
  -- just rows that the batch changes are written
  pub writes : (s : ℕ) → is_row_written es t r s ≡ is_written_fate (fate_by (row_in (batch_of t s es) r))
  pub ends : (s : ℕ) → h.is_ended s ≡ cond (b.changed t r s) true (ended_by (row_in (batch_of t s es) r))
  -- the states by the written changes are those of the trail
  pub states : (p : ℕ) → written_state h p ≡ state_by sh b es t r p
  -- each change begins where those before it end
  pub chained : (p : ℕ) → is_begun (h.fate (suc p)) ≡ true → h.old (suc p) ≡ expected_state h p
  pub news : (s : ℕ) (x : RowBatch) → row_in (batch_of t s es) r ≡ Some x → h.new s ≡ apply sh r (h.old s) x.what
  pub rising : IsRising (begun t r es)
  pub listed : (s : ℕ) (x : RowBatch) → row_in (batch_of t s es) r ≡ Some x → IsListed (record { stamp = s; what = x.what }) (begun t r es)
  -- a row's changes are written in order
  pub in_order : (s u : ℕ) → h.fate u ≡ Written → s < u → is_undecided (h.fate s) ≡ false

-- the act begins no batch of this stamp
abbrev pub IsLater : ℕ → Act → Type 0
IsLater s (Begun t s' cs) = s' ≡ s → ⊥
IsLater s act = Unit {0}

-- the states before and after a change are the same
pub record SameChange (h h' : History RowState) (s : ℕ) : Type 0 where
  pub old : h'.old s ≡ h.old s
  pub new : h'.new s ≡ h.new s
