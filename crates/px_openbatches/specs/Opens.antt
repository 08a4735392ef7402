-- What stays true of a table's open batches, with their cells.
use Rattle.std.specs.Prelude.{◌≡◌, ℕ, ◌<◌, ◌≤◌, true, List, length, get_or, Option, Some, None}
use Rattle.std.specs.List.{AllByRecursion}
use Rattle.px_values.specs.declared.row.Value.{Value}
use Rattle.px_trail.specs.declared.entry.Entry.{Entry}
use Rattle.px_trail.specs.Batches.{has, is_distinct, rows_of}
use Rattle.px_world.specs.Closed.{Closed, IsNoBirth}
use Rattle.px_world.specs.Events.{Event}
use Rattle.px_forms.specs.Indexes.{IndexForm}
use Rattle.px_groupworld.specs.Group.{TableForm, GroupData, IndexPart, no_part, shape_in, world_in}
use Rattle.px_openbatches.specs.Made.{IsMade}
use Rattle.px_openbatches.specs.Pending.{HeldBatch, HeldKept, to_verify}

abbrev pub form_in : TableForm → List IndexPart → ℕ → IndexForm
form_in f xs i = f.index (get_or xs i no_part).id

-- its cells are those that its phases ask for, now and until it ends
pub record IsBatchReady (f : TableForm) (es : List Entry) (xs : List IndexPart) (h : HeldBatch) : Type 0 where
  pub inside : h.count ≤ length xs
  pub distinct : is_distinct (rows_of h.changes) ≡ true
  pub made : IsMade f es (form_in f xs) h.count h.stamp h.changes h.cells
  -- each of its indexes is older
  pub born : (i : ℕ) → i < h.count → (get_or xs i no_part).birth < h.stamp

pub record OpensKept (f : TableForm) (es : List Entry) (xs : List IndexPart) (hs : List HeldBatch) : Type 0 where
  pub held : HeldKept f.base es f.id.0 hs
  pub ready : AllByRecursion (IsBatchReady f es xs) hs

-- at the first n indexes, the marks of each row that isn't concurrent are closed
pub record AreClosed (f : TableForm) (es : List Entry) (v : GroupData) (h : HeldBatch) (n : ℕ) : Type 0 where
  pub each : (i : ℕ) → i < n → (r : List Value) → has (to_verify h) r ≡ true → Closed (shape_in f v i r) (world_in f es v i r) h.stamp

-- the event makes no index, if there is one
abbrev pub IsNoBirthOf : {K A : Type 0} → Option (Event K A) → Type 0
IsNoBirthOf None = Unit {0}
IsNoBirthOf (Some e) = IsNoBirth e
