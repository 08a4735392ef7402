-- Room in the trail for what a group owes.
use Rattle.std.proofs.Common.{◌≡◌, ◌<◌, ◌≤◌, ◌+◌, ℕ, zero, suc, Option, Some, List, [], ◌∷◌, length, get_or, ap, arith}
use Rattle.std.specs.Prelude.{remove, slice_get, sum_by}
use Rattle.std.specs.List.{slice_set}
use Rattle.std.proofs.lemmas.List.Sums.{get_or-le-sum_by, sum_by-remove, sum_by-set}
use Rattle.px_trail.specs.Recorded.{Recorded}
use Rattle.px_group.specs.Group.{points_in}
use Rattle.px_group.specs.declared.group.Begun.{Begun}
use Rattle.px_group.specs.declared.group.Group.{Group}
use Rattle.px_group.specs.declared.group.OpenPoint.{OpenPoint}
use Rattle.px_group.specs.declared.group.Phase.{Phase}
use Rattle.px_group.specs.declared.group.Phase.TheVariants.{Marking, Writing, Verifying, Closing}
use Rattle.px_server.specs.Kept.{HasTrailRoom, owed, owed_by, steps_of}

-- the group owes so many entries less as were added
pub room_set : (groups : List Group) (place : ℕ) (g g' : Group) → place < length groups → get_or groups place g ≡ g → (closed : Option ℕ) (trail trail' : Recorded) → HasTrailRoom closed groups trail → owed g' + trail.room ≤ owed g + trail'.room → HasTrailRoom closed (slice_set groups place g') trail'
room_set groups place g g' l is closed trail trail' room less =
    let one = sum_by-set owed groups place g' g l in
    let was : owed (get_or groups place g) ≡ owed g = ap owed is in
    omega (arith, one, was, room, less)

-- where it owes an entry, there is room for one
pub room_some : (groups : List Group) (place : ℕ) (g : Group) → place < length groups → get_or groups place g ≡ g → (closed : Option ℕ) (trail : Recorded) → HasTrailRoom closed groups trail → 0 < owed g → 0 < trail.room
room_some groups place g l is closed trail room some =
    let one = get_or-le-sum_by owed groups place g l in
    let was : owed (get_or groups place g) ≡ owed g = ap owed is in
    omega (arith, one, was, room, some)

-- an open point owes one
pub points_some : (seat s : ℕ) (ps : List OpenPoint) → 0 < points_in seat s ps → 0 < length ps
points_some seat s [] some = some
points_some seat s (p ∷ ps) some = omega arith

-- and an open batch one at least
pub steps_some : (p : Phase) → 0 < steps_of p
steps_some Marking = omega arith
steps_some Writing = omega arith
steps_some Verifying = omega arith
steps_some Closing = omega arith

pub get_at : (ms : List Begun) (m : ℕ) (x : Begun) → slice_get ms m ≡ Some x → (m < length ms) × (get_or ms m x ≡ x)
get_at [] m x is = absurd cc
get_at (y ∷ ms) zero x is = (omega arith, (let own : y ≡ x = (let z : Some y ≡ Some x = is in cc) in own))
get_at (y ∷ ms) (suc m) x is = (let rest = get_at ms m x is in (let n = rest.0 in omega (arith, n), rest.1))

pub batch_owes : (ms : List Begun) (m : ℕ) (x : Begun) → slice_get ms m ≡ Some x → 0 < sum_by owed_by ms
batch_owes ms m x is =
    let at = get_at ms m x is in
    let one = get_or-le-sum_by owed_by ms m x at.0 in
    let own : owed_by (get_or ms m x) ≡ owed_by x = ap owed_by at.1 in
    let some = steps_some x.phase in
    omega (arith, one, own, some)

-- which it owes no more once it is let go
pub batch_goes : (ms : List Begun) (m : ℕ) (x : Begun) → slice_get ms m ≡ Some x → sum_by owed_by (remove ms m) + 1 ≤ sum_by owed_by ms
batch_goes ms m x is =
    let at = get_at ms m x is in
    let one = sum_by-remove owed_by ms m x at.0 in
    let own : owed_by (get_or ms m x) ≡ owed_by x = ap owed_by at.1 in
    let some = steps_some x.phase in
    omega (arith, one, own, some)
