-- The states that a trail gives to rows.
use Rattle.std.specs.Prelude.{◌≡◌, ◌⊎◌, ◌<◌, ◌≤◌, ◌++◌, ◌∷◌, [], ℕ, Bool, true, false, ◌==◌, nat_le, if◌then◌else◌, filter, map, List, Option, Some, None, slice_index_or}
use Rattle.std.specs.List.{AllByRecursion}
use Rattle.std.specs.List.Sorted.{IsStrictlySortedBy}
use Rattle.px_values.specs.declared.row.Value.{Value}
use Rattle.px_values.specs.declared.row.Value.TheVariants.{Null}
use Rattle.px_values.specs.declared.change.What.{What}
use Rattle.px_values.specs.Order.{row_order}
use Rattle.px_values.specs.States.{RowState, Shape, apply}
use Rattle.px_trail.specs.declared.entry.Act.{Act}
use Rattle.px_trail.specs.declared.entry.Act.TheVariants.{Begun}
use Rattle.px_trail.specs.declared.entry.Entry.{Entry}
use Rattle.px_trail.specs.Batches.{Batch, batch_of, change_of, has}
use Rattle.px_trail.specs.Trail.{Base, shape_of}

-- 1. The changes of a row

-- a change of a row, with its stamp
pub record Dated : Type 0 where
  pub stamp : ℕ
  pub what : What

abbrev pub dated : ℕ → Option What → List Dated
dated s None = []
dated s (Some w) = record { stamp = s; what = w } ∷ []

-- the change of the row that the act begins
unfoldable pub begun_by : ℕ → List Value → Act → List Dated
begun_by t r (Begun t' s cs) = if t'.0 == t then dated s (change_of cs r) else []
begun_by t r act = []

-- the changes of a row that were begun, in the order of the trail
unfoldable pub begun : ℕ → List Value → List Entry → List Dated
begun t r [] = []
begun t r (e ∷ es) = begun_by t r e.act ++ begun t r es

abbrev pub is_written_in : Option Batch → List Value → Bool
is_written_in None r = false
is_written_in (Some b) r = has b.written r

-- the row of that batch was written
abbrev pub is_row_written : List Entry → ℕ → List Value → ℕ → Bool
is_row_written es t r s = is_written_in (batch_of t s es) r

-- and those of them that were written
abbrev pub written : List Entry → ℕ → List Value → List Dated
written es t r = filter (λ d. is_row_written es t r d.stamp) (begun t r es)

-- the changes stand in the order of their stamps
abbrev pub IsRising : List Dated → Type 0
IsRising [] = Unit {0}
IsRising (d ∷ ds) = AllByRecursion (λ x. d.stamp < x.stamp) ds × IsRising ds

-- 2. The states of a row

-- a state after the changes up to a point, in their order. In a legal trail this is the order of their stamps
unfoldable pub applied : Shape → List Value → ℕ → RowState → List Dated → RowState
applied shape r p v [] = v
applied shape r p v (d ∷ ds) = applied shape r p (if nat_le d.stamp p then apply shape r v d.what else v) ds

-- the state of the row of a key at a point
abbrev pub state_of : Base → List Entry → ℕ → List Value → ℕ → RowState
state_of b es t r p = applied (shape_of b es t) r p (b.state t r p) (written es t r)

abbrev pub greatest_stamp : ℕ
greatest_stamp = 9223372036854775807

-- its state now
abbrev pub state_now : Base → List Entry → ℕ → List Value → RowState
state_now b es t r = state_of b es t r greatest_stamp

-- 3. The rows of a table

-- the primary key values of a row
abbrev pub key_in : Shape → List Value → List Value
key_in shape row = map (λ c. slice_index_or row c Null) shape.key_columns

-- the row is in the list
unfoldable pub IsOneOf : List (List Value) → List Value → Type 0
IsOneOf [] row = ⊥
IsOneOf (r ∷ rows) row = (r ≡ row) ⊎ IsOneOf rows row

-- all rows whose state at the point isn't nothing, in primary key order
pub record AreRowsAt (b : Base) (es : List Entry) (t p : ℕ) (rows : List (List Value)) : Type 0 where
  pub ordered : IsStrictlySortedBy row_order (map (key_in (shape_of b es t)) rows)
  pub each : AllByRecursion (λ row. state_of b es t (key_in (shape_of b es t) row) p ≡ Some row) rows
  pub all : (key row : List Value) → state_of b es t key p ≡ Some row → IsOneOf rows row

abbrev pub AreRowsNow : Base → List Entry → ℕ → List (List Value) → Type 0
AreRowsNow b es t rows = AreRowsAt b es t greatest_stamp rows
