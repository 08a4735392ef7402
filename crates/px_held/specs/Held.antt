-- Changes that are held, each of another row.
use Rattle.std.specs.Prelude.{ℕ, ◌≡◌, ◌≤◌, ◌<◌, true, false, if◌then◌else◌, List, [], ◌∷◌, length, take, Some}
use Rattle.std.specs.List.{slice_get}
use Rattle.std.specs.Ordering.{is_eq}
use Rattle.px_values.specs.declared.change.Change.{Change}
use Rattle.px_values.specs.declared.row.Value.{Value}
use Rattle.px_values.specs.Order.{row_order}
use Rattle.px_values.specs.States.{Shape}
use Rattle.px_trail.specs.Batches.{has, rows_of}
use Rattle.px_held.specs.declared.holding.HoldFault.{HoldFault}
use Rattle.px_held.specs.declared.holding.HoldFault.TheVariants.{Rows, Memory}
use Rattle.px_held.specs.Merged.{merged}

-- the held changes with one more: merged with that of its row, where there is one, and else behind the others
unfoldable pub with_change : Shape → List Change → Change → List Change
with_change shape [] change = change ∷ []
with_change shape (h ∷ held) change =
    if is_eq (row_order h.row change.row) then record { row = h.row; what = merged shape h.what change.what } ∷ held else h ∷ with_change shape held change

-- the held changes with these, which are held one after the other
unfoldable pub with_changes : Shape → List Change → List Change → List Change
with_changes shape held [] = held
with_changes shape held (c ∷ cs) = with_changes shape (with_change shape held c) cs

-- the first change of this row stands there
pub record IsPlace (held : List Change) (row : List Value) (i : ℕ) : Type 0 where
  pub within : i < length held
  pub before : has (rows_of (take i held)) row ≡ false
  pub here : (x : Change) → slice_get held i ≡ Some x → is_eq (row_order x.row row) ≡ true

-- the most rows of a batch
abbrev pub most_rows : ℕ
most_rows = 1000

abbrev pub IsManyRows : HoldFault → List Change → Type 0
IsManyRows Rows held = most_rows ≤ length held
IsManyRows Memory held = Unit {0}

-- why a change of this row isn't held: as many rows as may be are, and none is this one; or there was no memory
abbrev pub IsFull : HoldFault → List Change → List Value → Type 0
IsFull Rows held row = (most_rows ≤ length held) × (has (rows_of held) row ≡ false)
IsFull Memory held row = Unit {0}

-- why none of these changes is held: with them more rows would be held than may be; or there was no memory
abbrev pub AreTooMany : HoldFault → Shape → List Change → List Change → Type 0
AreTooMany Rows shape held cs = most_rows < length (with_changes shape held cs)
AreTooMany Memory shape held cs = Unit {0}
