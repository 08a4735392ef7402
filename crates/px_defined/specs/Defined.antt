-- What a definition does to a table.
use Rattle.std.specs.Prelude.{◌≡◌, ◌≢◌, ◌++◌, ◌∷◌, [], ◌==◌, ℕ, Bool, true, false, List, Some, filter, not, slice_get}
use Rattle.std.specs.List.{AllByRecursion, list_any}
use Rattle.std.proofs.Math.ListN.{set}
use Rattle.px_region.specs.Fresh.{IsFreshRegion}
use Rattle.px_tables.specs.declared.index.Index.{Index}
use Rattle.px_tables.specs.declared.index.IndexState.TheVariants.{Active}
use Rattle.px_tables.specs.declared.table.Table.{Table}
use Rattle.px_groupworld.specs.Group.{GroupData}
use Rattle.px_group.specs.Group.{region_of}
use Rattle.px_group.specs.declared.group.Group.{Group}
use Rattle.px_group.specs.declared.group.IndexRegion.{IndexRegion}
use Rattle.px_group.specs.declared.group.Phase.{Phase}
use Rattle.px_group.specs.declared.group.Phase.TheVariants.{Marking, Writing, Verifying, Closing}

-- all but the indexes and the last stamp is as it was
pub record IsSameBeside (g g' : Group) : Type 0 where
  pub table : g'.table ≡ g.table
  pub rows : g'.rows ≡ g.rows
  pub batches : g'.batches ≡ g.batches
  pub points : g'.points ≡ g.points
  pub horizon : g'.horizon ≡ g.horizon

-- the same table
pub record IsSameTable (g g' : Group) : Type 0 where
  pub beside : IsSameBeside g g'
  pub indexes : g'.indexes.items ≡ g.indexes.items
  pub last : g'.last ≡ g.last

-- a table that was just made: its region is fresh
pub record IsNewGroup (t : Table) (g : Group) : Type 0 where
  pub table : g.table ≡ t
  pub fresh : IsFreshRegion g.rows.number g.rows
  pub region : t.regions ≡ region_of g.rows ∷ []
  pub indexes : g.indexes.items ≡ []
  pub batches : g.batches.items ≡ []
  pub points : g.points.items ≡ []
  pub last : g.last ≡ 0
  pub horizon : g.horizon ≡ 0

-- the index stands behind the others, with a fresh region, and its birth is the last stamp
pub record HasIndexMore (g g' : Group) (i : Index) : Type 0 where
  pub beside : IsSameBeside g g'
  pub new : IndexRegion
  pub index : new.index ≡ i
  pub fresh : IsFreshRegion i.region new.region
  pub indexes : g'.indexes.items ≡ g.indexes.items ++ new ∷ []
  pub last : g'.last ≡ i.birth

-- the index, as one that queries may read
abbrev pub active : IndexRegion → IndexRegion
active x = record x { index = record x.index { state = Active } }

-- queries may read the index at the place
pub record HasActive (g g' : Group) (place : ℕ) : Type 0 where
  pub beside : IsSameBeside g g'
  pub index : IndexRegion
  pub is : slice_get g.indexes.items place ≡ Some index
  pub indexes : g'.indexes.items ≡ set g.indexes.items place (active index)
  pub last : g'.last ≡ g.last

-- each index has a number of its own
abbrev pub AreOnceIn : List IndexRegion → Type 0
AreOnceIn [] = Unit {0}
AreOnceIn (x ∷ xs) = AllByRecursion (λ y. x.index.id.0 ≢ y.index.id.0) xs × AreOnceIn xs

abbrev pub HasOnce : Group → Type 0
HasOnce g = AreOnceIn g.indexes.items

-- no other place has an index of its number
pub record IsOnlyAt (g : Group) (place : ℕ) : Type 0 where
  pub each : (i j : ℕ) (x y : IndexRegion) → slice_get g.indexes.items i ≡ Some x → slice_get g.indexes.items j ≡ Some y → j ≡ place → x.index.id.0 ≡ y.index.id.0 → i ≡ j

-- the index of the number isn't there
pub record HasIndexLess (g g' : Group) (n : ℕ) : Type 0 where
  pub beside : IsSameBeside g g'
  pub indexes : g'.indexes.items ≡ filter (λ x. not (x.index.id.0 == n)) g.indexes.items
  pub last : g'.last ≡ g.last

-- the index is let go, where it is there, and stands anew behind the others
pub record HasIndexAnew (g g' : Group) (i : Index) : Type 0 where
  pub without : Group
  pub less : HasIndexLess g without i.id.0
  pub more : HasIndexMore without g' i

-- what the table shows then, where no batch is open
abbrev pub dropped_data : ℕ → GroupData → GroupData
dropped_data n v = record v { indexes = filter (λ i. not (i.id == n)) v.indexes; opens = [] }

-- a batch in this phase is still to write its rows
abbrev pub is_to_write : Phase → Bool
is_to_write Marking = true
is_to_write Writing = true
is_to_write Verifying = false
is_to_write Closing = false

-- an open batch of the table is
abbrev pub has_to_write : Group → Bool
has_to_write g = list_any (λ m. is_to_write m.phase) g.batches.items
