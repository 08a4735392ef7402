-- Which groups and indexes are read at a point.
use Rattle.std.specs.Prelude.{◌≡◌, ◌≢◌, ◌≤◌, ℕ, List, Option, slice_get, Some}
use Rattle.std.specs.List.{AllByRecursion}
use Rattle.px_calls.specs.declared.query.FoundKey.{FoundKey}
use Rattle.px_calls.specs.declared.query.Path.{Path}
use Rattle.px_calls.specs.declared.query.Point.{Point}
use Rattle.px_shown.specs.Told.{IsIndexAt, IsPointOfTable, reach_of}
use Rattle.px_values.specs.declared.name.IndexId.{IndexId}
use Rattle.px_group.specs.declared.group.Group.{Group}
use Rattle.px_group.specs.declared.group.IndexRegion.{IndexRegion}
use Rattle.px_reading.specs.Versions.{AreAllGiven, AreOfVersions}

-- the table stands as it was when the point was opened, and isn't forgotten there
pub record IsReadAt (g : Group) (p : Point) : Type 0 where
  pub of : IsPointOfTable g.table p
  pub above : g.horizon ≤ reach_of p

-- so does the index, which was born at or below what the point sees
pub record IsPartAt (p : Point) (i : IndexId) (x : IndexRegion) : Type 0 where
  pub id : x.index.id ≡ i
  pub at : IsIndexAt p x.index
  pub born : x.index.birth ≤ reach_of p

-- What a look gives of the versions that the point sees in the group's index of this number: each key is of its version, and each key on the path,
-- past `after` and not past `next`, is given where it has one
pub record AreOfIndex (g : Group) (p : Point) (path : Path) (i : IndexId) (after : Option (List ℕ)) (fs : List FoundKey) (next : Option (List ℕ)) : Type 0 where
  pub place : ℕ
  pub index : IndexRegion
  pub at : slice_get g.indexes.items place ≡ Some index
  pub part : IsPartAt p i index
  pub versions : AreOfVersions index (reach_of p) fs
  pub whole : AreAllGiven index (reach_of p) path after fs next

-- the group has no index of this number
abbrev pub GroupLacksIndex : IndexId → Group → Type 0
GroupLacksIndex i g = AllByRecursion (λ x. x.index.id ≢ i) g.indexes.items
