-- The maps of the pending rows and of the open points as functions.
use Rattle.std.specs.Prelude.{ℕ, Bool, List, unwrap_or}
use Rattle.std.specs.Ordering.{nat_cmp}
use Rattle.std.specs.BTreeMap.{get}
use Rattle.std.specs.BTreeSet.{contains}
use Rattle.px_turns.specs.declared.parts.PendingRows.{PendingRows}
use Rattle.px_turns.specs.declared.parts.OpenPoints.{OpenPoints}
use Rattle.px_turns.specs.declared.parts.Batches.{Batches}
use Rattle.px_turns.specs.declared.parts.Turns.{Turns}
use Rattle.px_turns.specs.inner.Found.{found}
use Rattle.px_turns.specs.Turns.{Turning}

-- the stamps at the key
abbrev pub stamps_at : PendingRows → List ℕ → List ℕ
stamps_at rows k = found rows.rows k

-- how many points are open at the stamp
abbrev pub count_of : OpenPoints → ℕ → ℕ
count_of points s = unwrap_or (get nat_cmp points.counts s) 0

-- the batches that are undecided, and those that haven't ended
abbrev pub undecided_in : Batches → ℕ → Bool
undecided_in b = contains nat_cmp b.undecided

abbrev pub unclosed_in : Batches → ℕ → Bool
unclosed_in b = contains nat_cmp b.unclosed

-- what a value of the code is
abbrev pub turning_of : Turns → Turning
turning_of t = record { last = t.last; horizon = t.horizon; pending = stamps_at t.pending; undecided = contains nat_cmp t.batches.undecided; unclosed = contains nat_cmp t.batches.unclosed; points = count_of t.points }
