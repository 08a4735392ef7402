-- What the first parts of a begin leave of the group.
use Rattle.std.specs.Prelude.{◌≡◌, ◌+◌, ◌<◌, List, [], ◌∷◌, vec_len, vec_capacity}
use Rattle.px_group.specs.declared.group.Group.{Group}
use Rattle.px_group.specs.declared.group.IndexRegion.{IndexRegion}
use Rattle.px_region.specs.Promise.{IsAlike, IsSamePromise}
use Rattle.px_region.specs.declared.region.Region.{Region}
use Rattle.px_beginning.specs.declared.preparing.Prepared.{Prepared}
use Rattle.px_beginning.specs.declared.rooms.Room.{Room}

-- a region that differs at most in what was promised and looked at
abbrev pub AreAlike : List IndexRegion → List IndexRegion → Type 0
AreAlike [] [] = Unit {0}
AreAlike [] (y ∷ ys) = ⊥
AreAlike (x ∷ xs) [] = ⊥
AreAlike (x ∷ xs) (y ∷ ys) = ((y.index ≡ x.index) × IsAlike x.region y.region) × AreAlike xs ys

-- the group differs at most in what was promised and looked at in its regions
pub record LeavesGroup (g g' : Group) : Type 0 where
  pub table : g'.table ≡ g.table
  pub rows : IsAlike g.rows g'.rows
  pub indexes : AreAlike g.indexes.items g'.indexes.items
  pub batches : g'.batches.items ≡ g.batches.items
  pub points : g'.points.items ≡ g.points.items
  pub last : g'.last ≡ g.last
  pub horizon : g'.horizon ≡ g.horizon

-- the room is taken
abbrev pub IsTaken : Region → Region → Room → Type 0
IsTaken old new room = (new.promised ≡ old.promised + room.cells) × (new.promised_bytes ≡ old.promised_bytes + room.bytes)

abbrev pub AreTaken : List IndexRegion → List IndexRegion → List Room → Type 0
AreTaken [] [] rooms = Unit {0}
AreTaken [] (y ∷ ys) rooms = ⊥
AreTaken (x ∷ xs) [] rooms = ⊥
AreTaken (x ∷ xs) (y ∷ ys) [] = ⊥
AreTaken (x ∷ xs) (y ∷ ys) (r ∷ rooms) = IsTaken x.region y.region r × AreTaken xs ys rooms

-- no room is taken or given back
abbrev pub AreSamePromises : List IndexRegion → List IndexRegion → Type 0
AreSamePromises [] [] = Unit {0}
AreSamePromises [] (y ∷ ys) = ⊥
AreSamePromises (x ∷ xs) [] = ⊥
AreSamePromises (x ∷ xs) (y ∷ ys) = IsSamePromise x.region y.region × AreSamePromises xs ys

-- no room of the group is taken or given back
pub record KeepsRooms (g g' : Group) : Type 0 where
  pub rows : IsSamePromise g.rows g'.rows
  pub indexes : AreSamePromises g.indexes.items g'.indexes.items

-- the room of a batch is taken, and there is a place for it
pub record TakesRooms (g g' : Group) (p : Prepared) : Type 0 where
  pub rows : IsTaken g.rows g'.rows p.rows
  pub indexes : AreTaken g.indexes.items g'.indexes.items p.indexes.items
  pub place : vec_len g'.batches < vec_capacity g'.batches
