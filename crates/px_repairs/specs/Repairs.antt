-- A repair of a doubted version: when one is due, its cells, and what it does to its table.
use Rattle.std.specs.Prelude.{◌≡◌, ◌≤◌, ℕ, Bool, true, false, cond, not, ◌&&◌, nat_eq, nat_le, List, length, slice_get, Option, None, Some, Result, Ok, Err}
use Rattle.std.proofs.Math.ListN.{set}
use Rattle.px_outside.specs.OnDisk.{Rose}
use Rattle.px_outside.specs.declared.disk.Disk.{Ghosts}
use Rattle.px_calls.specs.declared.query.Fixing.{Fixing}
use Rattle.px_calls.specs.declared.query.Fixing.TheVariants as fixing
use Rattle.px_cells.specs.CellData.{CellData}
use Rattle.px_region.specs.OnlyRead.{HasOnlyRead}
use Rattle.px_region.specs.Promise.{IsSamePromise}
use Rattle.px_region.specs.declared.fault.LookFault.{LookFault}
use Rattle.px_region.specs.declared.fault.LookFault.TheVariants as look
use Rattle.px_region.specs.declared.region.Region.{Region}
use Rattle.px_values.specs.States.{RowState}
use Rattle.px_trail.specs.Trail.{Base}
use Rattle.px_trail.specs.declared.entry.Entry.{Entry}
use Rattle.px_forms.specs.Indexes.{IndexForm}
use Rattle.px_indexrow.specs.Form.{row_of_index}
use Rattle.px_indexrow.specs.declared.doubt.Repair.{Repair}
use Rattle.px_indexrow.specs.declared.doubt.Repair.TheVariants.{Retire}
use Rattle.px_keptcells.specs.Kept.{laid}
use Rattle.px_cellshapes.specs.Keys.{AreRightKeys}
use Rattle.px_groupworld.specs.Asks.{CanFix}
use Rattle.px_groupworld.specs.Group.{GroupData}
use Rattle.px_looks.specs.declared.version.KeyVersion.{KeyVersion}
use Rattle.px_openbatches.specs.Pending.{HeldBatch}
use Rattle.px_phases.specs.Batch.{IsHanded}
use Rattle.px_group.specs.Group.{IsShownBy, IsTallied, form_of}
use Rattle.px_group.specs.Writing.{HasWritten, WritesTo}
use Rattle.px_group.specs.declared.group.Group.{Group}
use Rattle.px_group.specs.declared.group.IndexRegion.{IndexRegion}
use Rattle.px_reading.specs.Doubts.{IsKeyIn, IsToldBy, is_pending, version_seen}
use Rattle.px_reading.specs.Looked.{HasLooked, IsLookedAt}
use Rattle.px_repairs.specs.declared.judging.Judged.{Judged}
use Rattle.px_repairs.specs.declared.judging.Judged.TheVariants.{Gone, InFlight, Due}
use Rattle.px_repairs.specs.declared.repairing.RepairFault.{RepairFault}
use Rattle.px_repairs.specs.declared.repairing.RepairFault.TheVariants.{Busy, NotReady, ReadFault, Damaged, WriteFault, Memory}

-- 1. When one is due

-- the version that is seen is unverified and of this stamp
abbrev pub is_doubt : ℕ → Option KeyVersion → Bool
is_doubt s None = false
is_doubt s (Some version) = nat_eq version.stamp s && not version.verified

-- it stands unverified at the key of the index
abbrev pub stands_in : Group → IndexRegion → List ℕ → ℕ → Bool
stands_in g x k s = is_doubt s (version_seen g x k s)

-- a version at or below the horizon of which no row is there is retired
abbrev pub repair_of : ℕ → ℕ → RowState → Repair → Repair
repair_of h s None repair = cond (nat_le s h) Retire repair
repair_of h s (Some row) repair = repair

-- The version stands unverified at a key of the index, and no open batch of its stamp is still to write the key's row. The cells have the
-- index's shape, and where the opened folder was sound they are the repair that is due in each world that the key is of (px_world).
pub record IsRepair (g : Group) (place : ℕ) (k : List ℕ) (s : ℕ) (cells : List CellData) : Type 0 where
  pub index : IndexRegion
  pub at : slice_get g.indexes.items place ≡ Some index
  pub key : IsKeyIn g index k
  pub stands : stands_in g index k s ≡ true
  pub decided : is_pending g s (row_of_index g.table index.index k) ≡ false
  pub right : AreRightKeys g.table index.index cells
  pub can : (b : Base) (form : ℕ → IndexForm) (es : List Entry) (v : GroupData) (hs : List HeldBatch) → IsTallied b es g hs → IsShownBy b form es g v hs → IsToldBy b form es g v → CanFix (form_of b form g) es v place k s cells

-- its change is under way: an open batch of its stamp is still to write the row
pub record IsChangeUnderWay (g : Group) (place : ℕ) (k : List ℕ) (s : ℕ) : Type 0 where
  pub index : IndexRegion
  pub at : slice_get g.indexes.items place ≡ Some index
  pub key : IsKeyIn g index k
  pub stands : stands_in g index k s ≡ true
  pub left : is_pending g s (row_of_index g.table index.index k) ≡ true

-- what is to be done with it
abbrev pub IsJudged : Group → ℕ → List ℕ → ℕ → Judged → Type 0
IsJudged g place k s Gone = (x : IndexRegion) → slice_get g.indexes.items place ≡ Some x → stands_in g x k s ≡ false
IsJudged g place k s InFlight = IsChangeUnderWay g place k s
IsJudged g place k s (Due kept) = IsRepair g place k s (laid kept) × (1 ≤ length (laid kept))

-- 2. What it does

-- the region of the index at the place goes on; all else stays
pub record IsRegionStep (g g' : Group) (place : ℕ) (x : IndexRegion) (new : Region) : Type 0 where
  pub index : slice_get g.indexes.items place ≡ Some x
  pub indexes : g'.indexes.items ≡ set g.indexes.items place (record x { region = new })
  pub table : g'.table ≡ g.table
  pub rows : g'.rows ≡ g.rows
  pub batches : g'.batches ≡ g.batches
  pub points : g'.points ≡ g.points
  pub last : g'.last ≡ g.last
  pub horizon : g'.horizon ≡ g.horizon

-- The kept cells are handed to a region as one record, whether or not the disk fails.
pub record HandsTo {D : Type 0} (d : Ghosts D) (old new : Region) (disk disk' : D) (kept : List CellData) : Type 0 where
  pub cells : List CellData
  pub handed : IsHanded cells kept
  pub writes : WritesTo d old new disk disk' cells

-- Where it doesn't fail they are written, and the room that was taken for them is used.
pub record WroteTo {D : Type 0} (d : Ghosts D) (old new : Region) (disk disk' : D) (kept : List CellData) : Type 0 where
  pub hands : HandsTo d old new disk disk' kept
  pub written : HasWritten d old new disk disk' hands.cells
  pub room : IsSamePromise old new

-- they are handed to the region of the index at the place
pub record HandsRepair {D : Type 0} (d : Ghosts D) (g g' : Group) (disk disk' : D) (place : ℕ) (kept : List CellData) : Type 0 where
  pub index : IndexRegion
  pub region : Region
  pub step : IsRegionStep g g' place index region
  pub hands : HandsTo d index.region region disk disk' kept

-- and are written
pub record WroteRepair {D : Type 0} (d : Ghosts D) (g g' : Group) (disk disk' : D) (place : ℕ) (kept : List CellData) : Type 0 where
  pub index : IndexRegion
  pub region : Region
  pub step : IsRegionStep g g' place index region
  pub wrote : WroteTo d index.region region disk disk' kept

-- the fault tells nothing of the disk
abbrev pub TellsNoDisk : RepairFault → Type 0
TellsNoDisk (Busy cells bytes) = Unit {0}
TellsNoDisk NotReady = Unit {0}
TellsNoDisk Memory = Unit {0}
TellsNoDisk ReadFault = ⊥
TellsNoDisk (Damaged file place) = ⊥
TellsNoDisk WriteFault = ⊥

-- what writing to a region leaves, by the answer: a refusal of room leaves it as it was
abbrev pub Written : {D T : Type 0} → Ghosts D → Region → Region → D → D → List CellData → Result T RepairFault → Type 0
Written d old new disk disk' kept (Ok done) = WroteTo d old new disk disk' kept
Written d old new disk disk' kept (Err WriteFault) = HandsTo d old new disk disk' kept
Written d old new disk disk' kept (Err (Busy cells bytes)) = IsLookedAt old new × (disk' ≡ disk)
Written d old new disk disk' kept (Err NotReady) = IsLookedAt old new × (disk' ≡ disk)
Written d old new disk disk' kept (Err Memory) = IsLookedAt old new × (disk' ≡ disk)
Written d old new disk disk' kept (Err ReadFault) = ⊥
Written d old new disk disk' kept (Err (Damaged file damaged)) = ⊥

-- the table was looked at alone
pub record HasStayed {D : Type 0} (g g' : Group) (disk disk' : D) : Type 0 where
  pub looked : HasLooked g g'
  pub untouched : disk' ≡ disk

-- what a repair leaves of its table, by the answer
abbrev pub Repaired : {D T : Type 0} → Ghosts D → Group → Group → D → D → ℕ → List CellData → Result T RepairFault → Type 0
Repaired d g g' disk disk' place kept (Ok done) = WroteRepair d g g' disk disk' place kept
Repaired d g g' disk disk' place kept (Err WriteFault) = HandsRepair d g g' disk disk' place kept
Repaired d g g' disk disk' place kept (Err (Busy cells bytes)) = HasStayed g g' disk disk'
Repaired d g g' disk disk' place kept (Err NotReady) = HasStayed g g' disk disk'
Repaired d g g' disk disk' place kept (Err Memory) = HasStayed g g' disk disk'
Repaired d g g' disk disk' place kept (Err ReadFault) = ⊥
Repaired d g g' disk disk' place kept (Err (Damaged file damaged)) = ⊥

-- 3. Both

-- why it isn't made where the index or the row isn't read
abbrev pub repair_fault_of : LookFault → RepairFault
repair_fault_of look.ReadFault = ReadFault
repair_fault_of (look.Damaged file place) = Damaged file place
repair_fault_of look.Memory = Memory

-- the table was looked at alone, and the disk only read
pub record HasOnlyLooked {D : Type 0} (d : Ghosts D) (g g' : Group) (disk disk' : D) : Type 0 where
  pub looked : HasLooked g g'
  pub reads : HasOnlyRead d disk disk'

-- the table was looked at, and then the repair that is due was written
pub record HasFixed {D : Type 0} (d : Ghosts D) (g g' : Group) (disk disk' : D) (place : ℕ) (k : List ℕ) (s : ℕ) : Type 0 where
  pub looked : Group
  pub read : D
  pub has : HasLooked g looked
  pub reads : HasOnlyRead d disk read
  pub kept : List CellData
  pub due : IsRepair looked place k s kept
  pub wrote : WroteRepair d looked g' read disk' place kept

-- or it was handed over, and the disk failed
pub record HasFailedRepair {D : Type 0} (d : Ghosts D) (g g' : Group) (disk disk' : D) (place : ℕ) (k : List ℕ) (s : ℕ) : Type 0 where
  pub looked : Group
  pub read : D
  pub has : HasLooked g looked
  pub reads : HasOnlyRead d disk read
  pub kept : List CellData
  pub due : IsRepair looked place k s kept
  pub hands : HandsRepair d looked g' read disk' place kept
  pub rose : Rose d read disk'

-- what became of the version, by the answer
abbrev pub Fixes : {D : Type 0} → Ghosts D → Group → Group → D → D → ℕ → List ℕ → ℕ → Result Fixing RepairFault → Type 0
Fixes d g g' disk disk' place k s (Ok fixing.Fixed) = HasFixed d g g' disk disk' place k s
Fixes d g g' disk disk' place k s (Ok fixing.Gone) = HasOnlyLooked d g g' disk disk' × IsJudged g' place k s Gone
Fixes d g g' disk disk' place k s (Ok fixing.InFlight) = HasOnlyLooked d g g' disk disk' × IsJudged g' place k s InFlight
Fixes d g g' disk disk' place k s (Err WriteFault) = HasFailedRepair d g g' disk disk' place k s
Fixes d g g' disk disk' place k s (Err (Busy cells bytes)) = HasOnlyLooked d g g' disk disk'
Fixes d g g' disk disk' place k s (Err NotReady) = HasOnlyLooked d g g' disk disk'
Fixes d g g' disk disk' place k s (Err Memory) = HasOnlyLooked d g g' disk disk'
Fixes d g g' disk disk' place k s (Err ReadFault) = HasOnlyLooked d g g' disk disk'
Fixes d g g' disk disk' place k s (Err (Damaged file damaged)) = HasOnlyLooked d g g' disk disk'
