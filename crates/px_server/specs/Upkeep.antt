-- What a step of upkeep does to a table, and what is ordered of upkeep.
use Rattle.std.specs.Prelude.{◌≡◌, ◌⊎◌, ◌≤◌, ◌<◌, ◌++◌, ◌∷◌, [], ℕ, true, List, Option, None, Some, get_or, length, slice_get, take}
use Rattle.std.specs.List.{AllByRecursion, slice_set}
use Rattle.std.proofs.Math.ListN.{set}
use Rattle.px_outside.specs.OnDisk.{LeavesOnly, Passes, TouchesOnly}
use Rattle.px_outside.specs.declared.disk.Disk.{Ghosts}
use Rattle.px_wal.specs.Files.{HasFile}
use Rattle.px_region.specs.Forgetting.{HasForgotten, StandsKept}
use Rattle.px_region.specs.Ordered.{HasFlushed, IsFlushOrdered}
use Rattle.px_region.specs.Promise.{IsSamePromise}
use Rattle.px_region.specs.Region.{RegionData, RegionHolds, RegionStands, read_of}
use Rattle.px_region.specs.declared.region.Region.{Region}
use Rattle.px_trail.specs.Recorded.{Recorded}
use Rattle.px_trail.specs.States.{greatest_stamp}
use Rattle.px_trail.specs.declared.entry.Act.TheVariants.{Raised}
use Rattle.px_turns.specs.Turns.{IsAllowedHorizon}
use Rattle.px_calls.specs.declared.status.Ordered.{Ordered}
use Rattle.px_calls.specs.declared.status.Ordered.TheVariants as jobs
use Rattle.px_group.specs.declared.group.Group.{Group}
use Rattle.px_group.specs.declared.group.IndexRegion.{IndexRegion}
use Rattle.px_raising.specs.Turning.{turning_of_group}
use Rattle.px_forgotten.specs.Forgotten.{ForgetsOn, at_horizon}
use Rattle.px_server.specs.Shown.{Shown}
use Rattle.px_server.specs.declared.upkeep.Chore.{Chore}
use Rattle.px_server.specs.declared.upkeep.Chore.TheVariants as chore
use Rattle.px_server.specs.declared.upkeep.Due.{Due}
use Rattle.px_server.specs.declared.upkeep.Due.TheVariants as due

-- 1. Steps

-- A step of a region's files, to which no cell is handed: a stop leaves the region as it is, or as what the horizon keeps of it, only its own
-- files are touched, and its room stays.
pub record StepsFiles {D : Type 0} (d : Ghosts D) (old new : Region) (disk disk' : D) (horizon : ℕ) : Type 0 where
  pub number : new.number ≡ old.number
  pub leaves : (s : RegionData) → RegionHolds d old disk s → LeavesOnly d disk disk' (λ moment image. RegionStands old.number image s ⊎ StandsKept old.number image horizon s)
  pub touches : (s : RegionData) → RegionHolds d old disk s → TouchesOnly d disk disk' (HasFile old.number)
  pub counts : Passes d disk disk' 4
  pub promised : IsSamePromise old new

-- The region goes on from there as it was
pub record StaysOn {D : Type 0} (d : Ghosts D) (old new : Region) (disk disk' : D) : Type 0 where
  pub read : read_of new ≡ read_of old
  pub horizon : new.horizon ≡ old.horizon
  pub holds : (s : RegionData) → RegionHolds d old disk s → RegionHolds d new disk' s

-- or as exactly what the horizon keeps of it
abbrev pub HasStepped : {D : Type 0} → Ghosts D → (old new : Region) → (disk disk' : D) → (horizon : ℕ) → Type 0
HasStepped d old new disk disk' horizon = StaysOn d old new disk disk' ⊎ ForgetsOn d old new disk disk' horizon

-- A step of the region of the table's rows, at the table's horizon
pub record StepsRows {D : Type 0} (d : Ghosts D) (g g' : Group) (disk disk' : D) : Type 0 where
  pub same : g' ≡ record g { rows = g'.rows }
  pub steps : StepsFiles d g.rows g'.rows disk disk' g.horizon

-- or of the region of one of its indexes
pub record StepsIndex {D : Type 0} (d : Ghosts D) (g g' : Group) (disk disk' : D) : Type 0 where
  pub place : ℕ
  pub index : IndexRegion
  pub is : slice_get g.indexes.items place ≡ Some index
  pub region : Region
  pub same : g' ≡ record g { indexes = g'.indexes }
  pub indexes : g'.indexes.items ≡ set g.indexes.items place (record index { region = region })
  pub steps : StepsFiles d index.region region disk disk' g.horizon

-- Where the disk doesn't fail, the region goes on from there.
pub record SteppedRows {D : Type 0} (d : Ghosts D) (g g' : Group) (disk disk' : D) : Type 0 where
  pub rows : StepsRows d g g' disk disk'
  pub stepped : HasStepped d g.rows g'.rows disk disk' g.horizon

pub record SteppedIndex {D : Type 0} (d : Ghosts D) (g g' : Group) (disk disk' : D) : Type 0 where
  pub index : StepsIndex d g g' disk disk'
  pub stepped : HasStepped d index.index.region index.region disk disk' g.horizon

-- a step of one region of the table
abbrev pub StepsTable : {D : Type 0} → Ghosts D → Group → Group → D → D → Type 0
StepsTable d g g' disk disk' = StepsRows d g g' disk disk' ⊎ StepsIndex d g g' disk disk'

-- one that succeeded
abbrev pub SteppedTable : {D : Type 0} → Ghosts D → Group → Group → D → D → Type 0
SteppedTable d g g' disk disk' = SteppedRows d g g' disk disk' ⊎ SteppedIndex d g g' disk disk'

-- the table has a region at the place that is named
abbrev pub IsDueIn : Group → Due → Type 0
IsDueIn g due.Rows = Unit {0}
IsDueIn g (due.Index place) = place < length g.indexes.items

-- steps of regions of the table, one after another, none of which makes a call
pub data Settles {D : Type 0} (d : Ghosts D) (disk : D) (g : Group) : Group → Type 0 where
  still : Settles d disk g g
  step : (h h' : Group) → Settles d disk g h → SteppedTable d h h' disk disk → Settles d disk g h'

-- so of the tables, one after another
pub data AllSettle {D : Type 0} (d : Ghosts D) (disk : D) (groups : List Group) : List Group → Type 0 where
  all_still : AllSettle d disk groups groups
  next : (hs : List Group) (place : ℕ) (g g' : Group) → AllSettle d disk groups hs → place < length hs → get_or hs place g ≡ g → Settles d disk g g' → AllSettle d disk groups (slice_set hs place g')

-- 2. What regions have to do

-- the region has no such thing to do
abbrev pub IsFree : Chore → Region → Type 0
IsFree chore.Due region = HasFlushed region
IsFree chore.Wanted region = HasForgotten region

abbrev pub IsFreeIndex : Chore → IndexRegion → Type 0
IsFreeIndex what x = IsFree what x.region

pub record IsFreeTable (what : Chore) (g : Group) : Type 0 where
  pub rows : IsFree what g.rows
  pub indexes : AllByRecursion (IsFreeIndex what) g.indexes.items

abbrev pub AreFree : Chore → List Group → Type 0
AreFree what groups = AllByRecursion (IsFreeTable what) groups

-- 3. Orders to flush

abbrev pub IsOrderedIndex : IndexRegion → Type 0
IsOrderedIndex x = IsFlushOrdered x.region

-- all that stands in the logs of the table and its indexes is ordered to be flushed
pub record IsOrderedTable (g : Group) : Type 0 where
  pub rows : IsFlushOrdered g.rows
  pub indexes : AllByRecursion IsOrderedIndex g.indexes.items

-- so of each table
abbrev pub AreOrdered : List Group → Type 0
AreOrdered groups = AllByRecursion IsOrderedTable groups

-- all that was ordered of them is flushed
abbrev pub HaveFlushed : List Group → Type 0
HaveFlushed groups = AreFree chore.Due groups

-- 4. Orders to forget

-- no stamp above the table's horizon is allowed as one
abbrev pub HasRisen : ℕ → Group → Type 0
HasRisen lookback g = (h : ℕ) → IsAllowedHorizon (turning_of_group g) lookback h → h ≤ greatest_stamp → h ≤ g.horizon

-- the region has no cell, or has forgotten at the horizon or at a later one
abbrev pub HasForgottenTo : ℕ → Region → Type 0
HasForgottenTo horizon region = (read_of region ≡ []) ⊎ (horizon ≤ region.horizon)

-- so, or a compaction that forgets is wanted of it
abbrev pub IsToForget : ℕ → Region → Type 0
IsToForget horizon region = (region.wanted ≡ true) ⊎ HasForgottenTo horizon region

abbrev pub IsWantedIndex : IndexRegion → Type 0
IsWantedIndex x = x.region.wanted ≡ true

abbrev pub IsIndexToForget : ℕ → IndexRegion → Type 0
IsIndexToForget horizon x = IsToForget horizon x.region

abbrev pub HasIndexForgottenTo : ℕ → IndexRegion → Type 0
HasIndexForgottenTo horizon x = HasForgottenTo horizon x.region

-- one is wanted of each region of the table
pub record IsWantedTable (g : Group) : Type 0 where
  pub rows : g.rows.wanted ≡ true
  pub indexes : AllByRecursion IsWantedIndex g.indexes.items

-- the table's horizon has risen as far as is allowed, and each of its regions is to forget at it, or has
pub record IsCompacting (lookback : ℕ) (g : Group) : Type 0 where
  pub risen : HasRisen lookback g
  pub rows : IsToForget g.horizon g.rows
  pub indexes : AllByRecursion (IsIndexToForget g.horizon) g.indexes.items

-- it stays so
abbrev pub StaysCompacting : (g g' : Group) → Type 0
StaysCompacting g g' = (lookback : ℕ) → IsCompacting lookback g → IsCompacting lookback g'

-- and each has
pub record IsTableCompacted (lookback : ℕ) (g : Group) : Type 0 where
  pub risen : HasRisen lookback g
  pub rows : HasForgottenTo g.horizon g.rows
  pub indexes : AllByRecursion (HasIndexForgottenTo g.horizon) g.indexes.items

-- all tables were ordered to be compacted: the horizons of those from a place on are still to rise, or those of all have
abbrev pub AreCompacting : ℕ → Option ℕ → List Group → Type 0
AreCompacting lookback (Some place) groups = AllByRecursion IsWantedTable groups × AllByRecursion (HasRisen lookback) (take place groups)
AreCompacting lookback None groups = AllByRecursion (IsCompacting lookback) groups

-- no horizon is still to rise, and no compaction that forgets is wanted
pub record HaveForgotten (raising : Option ℕ) (groups : List Group) : Type 0 where
  pub raised : raising ≡ None
  pub none : AreFree chore.Wanted groups

-- 5. Jobs

-- the job was ordered of each table
abbrev pub IsOrderedBy : Shown → Ordered → Type 0
IsOrderedBy s jobs.FlushAll = AreOrdered s.groups
IsOrderedBy s jobs.CompactAll = AreOrdered s.groups × AreCompacting s.lookback s.raising s.groups

-- all that was ordered by such a job is done
abbrev pub IsDoneBy : Shown → Ordered → Type 0
IsDoneBy s jobs.FlushAll = HaveFlushed s.groups
IsDoneBy s jobs.CompactAll = HaveFlushed s.groups × HaveForgotten s.raising s.groups

-- 6. A horizon that rises

-- the table's horizon is above the old one, as far as is allowed; the entry that tells it was added, and no room was taken
pub record HasRaised (lookback seat calls : ℕ) (g g' : Group) (trail trail' : Recorded) : Type 0 where
  pub horizon : ℕ
  pub above : g.horizon < horizon
  pub allowed : IsAllowedHorizon (turning_of_group g) lookback horizon
  pub within : horizon ≤ greatest_stamp
  pub group : g' ≡ at_horizon horizon g
  pub entries : trail'.entries ≡ trail.entries ++ record { seat = seat; calls = calls; act = Raised g.table.id horizon } ∷ []
  pub room : trail'.room ≡ trail.room

-- or nothing changed
abbrev pub IsUnraised : (g g' : Group) → (trail trail' : Recorded) → Type 0
IsUnraised g g' trail trail' = (g' ≡ g) × (trail' ≡ trail)
