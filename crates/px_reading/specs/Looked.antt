-- What looking at a table's regions leaves as it was.
use Rattle.std.specs.Prelude.{◌≡◌, ℕ, List, [], ◌∷◌, Some, slice_get}
use Rattle.px_looks.specs.Counted.{HasCounted}
use Rattle.px_region.specs.Promise.{IsAlike, IsSamePromise}
use Rattle.px_region.specs.declared.region.Region.{Region}
use Rattle.px_group.specs.declared.group.Group.{Group}
use Rattle.px_group.specs.declared.group.IndexRegion.{IndexRegion}

-- the same list in the same files, with the same room
pub record IsLookedAt (old new : Region) : Type 0 where
  pub alike : IsAlike old new
  pub promised : IsSamePromise old new

abbrev pub AreLookedAt : List IndexRegion → List IndexRegion → Type 0
AreLookedAt [] [] = Unit {0}
AreLookedAt [] (y ∷ ys) = ⊥
AreLookedAt (x ∷ xs) [] = ⊥
AreLookedAt (x ∷ xs) (y ∷ ys) = ((y.index ≡ x.index) × IsLookedAt x.region y.region) × AreLookedAt xs ys

-- nothing but how many rows of its regions were looked at has changed
pub record HasLooked (old new : Group) : Type 0 where
  pub table : new.table ≡ old.table
  pub rows : IsLookedAt old.rows new.rows
  pub indexes : AreLookedAt old.indexes.items new.indexes.items
  pub batches : new.batches ≡ old.batches
  pub points : new.points ≡ old.points
  pub last : new.last ≡ old.last
  pub horizon : new.horizon ≡ old.horizon

-- at least so many keys of the index at a place were looked at, or their count stands at its last value
abbrev pub HasCountedAt : List IndexRegion → List IndexRegion → ℕ → ℕ → Type 0
HasCountedAt old new place n = (x y : IndexRegion) → slice_get old place ≡ Some x → slice_get new place ≡ Some y → HasCounted x.region y.region n
