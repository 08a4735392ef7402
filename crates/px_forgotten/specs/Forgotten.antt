-- A region that has forgotten at a horizon, and its table then.
use Rattle.std.specs.Prelude.{◌≡◌, ◌<◌, ◌⊎◌, ℕ, List, Some, length, slice_get}
use Rattle.std.proofs.Math.ListN.{set}
use Rattle.px_outside.specs.OnDisk.{LeavesOnly, Passes, TouchesOnly}
use Rattle.px_outside.specs.declared.disk.Disk.{Ghosts}
use Rattle.px_merge.specs.Kept.{IsKeptList}
use Rattle.px_wal.specs.Files.{HasFile}
use Rattle.px_region.specs.Forgetting.{StandsKept}
use Rattle.px_region.specs.Promise.{IsSamePromise}
use Rattle.px_region.specs.Region.{RegionData, RegionHolds, RegionStands, data_of, read_of}
use Rattle.px_region.specs.declared.region.Region.{Region}
use Rattle.px_built.specs.Built.{IsBuiltBy}
use Rattle.px_trail.specs.declared.entry.Entry.{Entry}
use Rattle.px_groupworld.specs.Group.{GroupData, TableForm}
use Rattle.px_group.specs.declared.group.Group.{Group}
use Rattle.px_group.specs.declared.group.IndexRegion.{IndexRegion}

-- 1. A region

-- what is read of it is what the horizon keeps, and its manifest names the horizon; its number and the room in it stay
pub record IsThinned (old new : Region) (h : ℕ) : Type 0 where
  pub number : new.number ≡ old.number
  pub kept : IsKeptList (read_of old) h (read_of new)
  pub horizon : new.horizon ≡ h
  pub promised : IsSamePromise old new

-- A step of its files after which it has: a stop leaves the region as it was, or with what the horizon keeps, only its own files are touched, and it
-- goes on from there.
pub record ForgetsOn {D : Type 0} (d : Ghosts D) (old new : Region) (disk disk' : D) (h : ℕ) : Type 0 where
  pub forgotten : IsThinned old new h
  pub leaves : (s : RegionData) → RegionHolds d old disk s → LeavesOnly d disk disk' (λ moment image. RegionStands old.number image s ⊎ StandsKept old.number image h s)
  pub touches : (s : RegionData) → RegionHolds d old disk s → TouchesOnly d disk disk' (HasFile old.number)
  pub counts : Passes d disk disk' 4
  pub holds : (s : RegionData) → RegionHolds d old disk s → RegionHolds d new disk' (data_of new)

-- 2. A table

-- the region of its rows has forgotten at the table's horizon
pub record ForgotRows (g g' : Group) : Type 0 where
  pub same : g' ≡ record g { rows = g'.rows }
  pub region : IsThinned g.rows g'.rows g.horizon

-- or that of the index at a place
pub record ForgotIndex (g g' : Group) (place : ℕ) (x : IndexRegion) (new : Region) : Type 0 where
  pub is : slice_get g.indexes.items place ≡ Some x
  pub same : g' ≡ record g { indexes = g'.indexes }
  pub indexes : g'.indexes.items ≡ set g.indexes.items place (record x { region = new })
  pub region : IsThinned x.region new g.horizon

-- its horizon has risen
abbrev pub at_horizon : ℕ → Group → Group
at_horizon h g = record g { horizon = h }

-- what stays true of each of its indexes while it is built
abbrev pub AreBuiltBy : TableForm → List Entry → GroupData → Type 0
AreBuiltBy f es v = (i : ℕ) → i < length v.indexes → IsBuiltBy f es v i
