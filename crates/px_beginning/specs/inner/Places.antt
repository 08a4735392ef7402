-- Regions of indexes, place by place.
use Rattle.std.specs.Prelude.{◌≡◌, ℕ, ◌<◌, ◌≤◌, List, length, get_or}
use Rattle.px_group.specs.declared.group.IndexRegion.{IndexRegion}
use Rattle.px_region.specs.Promise.{IsAlike, IsSamePromise}
use Rattle.px_beginning.specs.Leaves.{IsTaken}
use Rattle.px_beginning.specs.Rooms.{no_room}
use Rattle.px_beginning.specs.declared.rooms.Room.{Room}

-- the indexes are the same, and each region differs at most in what was promised and looked at
pub record AreLike (xs ys : List IndexRegion) : Type 0 where
  pub count : length ys ≡ length xs
  pub each : (k : ℕ) (d : IndexRegion) → k < length xs → ((get_or ys k d).index ≡ (get_or xs k d).index) × IsAlike (get_or xs k d).region (get_or ys k d).region

-- those before a place are the same
pub record StayBelow (i : ℕ) (xs ys : List IndexRegion) : Type 0 where
  pub each : (k : ℕ) (d : IndexRegion) → k < i → get_or ys k d ≡ get_or xs k d

-- room is taken in those from the place on
pub record TakenFrom (i : ℕ) (xs ys : List IndexRegion) (rooms : List Room) : Type 0 where
  pub each : (k : ℕ) (d : IndexRegion) → i ≤ k → k < length xs → IsTaken (get_or xs k d).region (get_or ys k d).region (get_or rooms k no_room)

-- the same is promised of each
pub record SamePromised (xs ys : List IndexRegion) : Type 0 where
  pub each : (k : ℕ) (d : IndexRegion) → k < length xs → IsSamePromise (get_or xs k d).region (get_or ys k d).region
