-- A table with its open batches, and what each step leaves true of both.
use Rattle.std.specs.Prelude.{◌≡◌, ℕ, ◌<◌, ◌≤◌, false, List, [], length, get_or, map}
use Rattle.std.specs.List.{AllByRecursion}
use Rattle.px_values.specs.declared.row.Value.{Value}
use Rattle.px_trail.specs.declared.entry.Entry.{Entry}
use Rattle.px_groupworld.specs.Group.{TableForm, GroupData, GroupKept, OpenBatch, no_part}
use Rattle.px_groupworld.specs.Steps.{Bears, Events, Does, born_data}
use Rattle.px_openbatches.specs.Pending.{HeldBatch, is_left}
use Rattle.px_openbatches.specs.Opens.{AreClosed, IsNoBirthOf, OpensKept}

-- how far an open batch has come
abbrev pub open_of : HeldBatch → OpenBatch
open_of h = record { stamp = h.stamp; done = h.done; count = h.count }

abbrev pub no_held : HeldBatch
no_held = record { stamp = 0; changes = []; written = []; met = []; done = 0; verified = 0; count = 0; cells = [] }

-- The marks of its rows that aren't concurrent are closed at the first indexes, as many as it has verified; and it verifies
-- only once all its rows are written.
pub record AreMarksClosed (f : TableForm) (es : List Entry) (v : GroupData) (h : HeldBatch) : Type 0 where
  pub whole : (h.verified ≡ 0 → ⊥) → is_left h ≡ false
  pub inside : h.verified ≤ h.count
  pub closed : AreClosed f es v h h.verified

-- what stays true of a table and its open batches
pub record TableKept (f : TableForm) (es : List Entry) (v : GroupData) (hs : List HeldBatch) : Type 0 where
  pub group : GroupKept f es v
  pub opens : OpensKept f es v.indexes hs
  pub same : v.opens ≡ map open_of hs
  pub shut : AllByRecursion (AreMarksClosed f es v) hs

-- a step is its events, of every row at every index, and keeps the table and its open batches
pub record TableSteps (f : TableForm) (e : Events) (es : List Entry) (v : GroupData) (es' : List Entry) (v' : GroupData) (hs' : List HeldBatch) : Type 0 where
  pub kept : TableKept f es' v' hs'
  pub does : Does f e es v es' v'

-- a step that makes no index, and leaves the open batches and the numbers and births of the indexes
pub record IsQuietGroupStep (e : Events) (v v' : GroupData) : Type 0 where
  pub births : (i : ℕ) (r : List Value) → IsNoBirthOf (e i r)
  pub opens : v'.opens ≡ v.opens
  pub numbers : (i : ℕ) → i < length v.indexes → (get_or v'.indexes i no_part).id ≡ (get_or v.indexes i no_part).id
  pub born : (i : ℕ) → i < length v.indexes → (get_or v'.indexes i no_part).birth ≡ (get_or v.indexes i no_part).birth

-- an index is born: the table with it is kept, the open batches stay as they are, and nothing comes at the other indexes
pub record TableBears (f : TableForm) (id s : ℕ) (es : List Entry) (v : GroupData) (es' : List Entry) (hs : List HeldBatch) : Type 0 where
  pub kept : TableKept f es' (born_data id s v) hs
  pub bears : Bears f id s es v es'
