-- What is removed, and in which parts.
use Rattle.std.specs.Prelude.{◌≡◌, ◌≢◌, List, [], ◌∷◌, take, drop}
use Rattle.std.specs.List.Sorted.{IsStrictlySortedBy}
use Rattle.std.specs.Ordering.{ordering_then}
use Rattle.std.specs.declared.cmp.Ordering.{Ordering}
use Rattle.std.specs.declared.cmp.Ordering.TheVariants.{Less, Equal, Greater}
use Rattle.px_values.specs.Compare.{compare_of}
use Rattle.px_values.specs.declared.order.Direction.{Direction}
use Rattle.px_values.specs.declared.order.Direction.TheVariants.{Ascending}
use Rattle.px_values.specs.declared.change.Change.{Change}
use Rattle.px_values.specs.declared.change.What.TheVariants.{Gone}
use Rattle.px_values.specs.declared.row.Value.{Value}
use Rattle.px_tables.specs.declared.table.KeyPlace.{KeyPlace}
use Rattle.px_trail.specs.Answers.{IsAmong}
use Rattle.px_trail.specs.Batches.{rows_of}

-- the direction of the first part of a key; what stands behind a key goes up
abbrev pub first_direction : List KeyPlace → Direction
first_direction [] = Ascending
first_direction (p ∷ ps) = p.direction

abbrev pub later_parts : List KeyPlace → List KeyPlace
later_parts [] = []
later_parts (p ∷ ps) = ps

-- the order of two rows by the parts of a key, each in its direction: that of the first values that differ
abbrev pub key_order : List KeyPlace → List Value → List Value → Ordering
key_order key [] [] = Equal
key_order key [] (y ∷ ys) = Less
key_order key (x ∷ xs) [] = Greater
key_order key (x ∷ xs) (y ∷ ys) = ordering_then (compare_of (first_direction key) x y) (key_order (later_parts key) xs ys)

-- the changes remove exactly these rows: in the order of the key, each row once
pub record AreRemovals (key : List KeyPlace) (rows : List (List Value)) (cs : List Change) : Type 0 where
  pub ordered : IsStrictlySortedBy (key_order key) (rows_of cs)
  pub gone : (c : Change) → IsAmong c cs → c.what ≡ Gone
  pub each : (row : List Value) → IsAmong row (rows_of cs) → IsAmong row rows
  pub all : (row : List Value) → IsAmong row rows → IsAmong row (rows_of cs)

-- the parts are the first changes, 1,000 in each but the last, which may have fewer; these are left
abbrev pub IsSplit : List Change → List (List Change) → List Change → Type 0
IsSplit cs [] left = left ≡ cs
IsSplit cs (part ∷ parts) left = (cs ≢ []) × (part ≡ take 1000 cs) × IsSplit (drop 1000 cs) parts left
