-- What is answered of a repair, and what becomes of the version.
use Rattle.std.specs.Prelude.{◌≡◌, ◌⊎◌, ◌++◌, ℕ, false, true, List, Some, slice_get, Result, Ok, Err}
use Rattle.std.specs.List.{AllByRecursion, slice_set}
use Rattle.px_cells.specs.CellData.{CellData}
use Rattle.px_cells.specs.Order.{ReadsSame}
use Rattle.px_region.specs.Region.{read_of}
use Rattle.px_region.specs.declared.region.Region.{Region}
use Rattle.px_calls.specs.declared.fault.StepFault.{StepFault}
use Rattle.px_calls.specs.declared.fault.StepFault.TheVariants as steps
use Rattle.px_calls.specs.declared.query.Doubt.{Doubt}
use Rattle.px_calls.specs.declared.query.Fixing.{Fixing}
use Rattle.px_calls.specs.declared.query.Fixing.TheVariants as fixing
use Rattle.px_phases.specs.Batch.{IsHanded}
use Rattle.px_indexrow.specs.Form.{row_of_index}
use Rattle.px_group.specs.declared.group.Group.{Group}
use Rattle.px_group.specs.declared.group.IndexRegion.{IndexRegion}
use Rattle.px_pointreads.specs.Points.{GroupLacksIndex}
use Rattle.px_reading.specs.Doubts.{is_pending}
use Rattle.px_reading.specs.Looked.{HasLooked}
use Rattle.px_repairs.specs.Refused.{RefusesDue}
use Rattle.px_repairs.specs.Repairs.{IsRegionStep, IsRepair, stands_in}
use Rattle.px_repairs.specs.declared.repairing.RepairFault.{RepairFault}
use Rattle.px_repairs.specs.declared.repairing.RepairFault.TheVariants.{Busy, NotReady, ReadFault, Damaged, WriteFault, Memory}
use Rattle.px_server.specs.Refused.{IsRefusedIn}

-- where it is made in the region of this number
abbrev pub Answers : ℕ → Result Fixing RepairFault → Result Fixing StepFault → Type 0
Answers n (Ok fixing) answer = answer ≡ Ok fixing
Answers n (Err (Busy cells bytes)) answer = answer ≡ Err (steps.Busy n cells bytes)
Answers n (Err NotReady) answer = answer ≡ Err (steps.NotReady n)
Answers n (Err WriteFault) answer = answer ≡ Err steps.WriteFault
Answers n (Err Memory) answer = answer ≡ Err steps.Memory
Answers n (Err ReadFault) answer = answer ≡ Err steps.ReadFault
Answers n (Err (Damaged file place)) answer = answer ≡ Err (steps.Damaged file place)

-- no entry tells of it: nothing was written, and no read failed
abbrev pub AddsNoEntry : Result Fixing RepairFault → Type 0
AddsNoEntry (Ok fixing.Fixed) = ⊥
AddsNoEntry (Ok fixing.Gone) = Unit {0}
AddsNoEntry (Ok fixing.InFlight) = Unit {0}
AddsNoEntry (Err (Busy cells bytes)) = Unit {0}
AddsNoEntry (Err NotReady) = Unit {0}
AddsNoEntry (Err WriteFault) = ⊥
AddsNoEntry (Err Memory) = Unit {0}
AddsNoEntry (Err ReadFault) = ⊥
AddsNoEntry (Err (Damaged file place)) = Unit {0}

-- the index of the doubt shows no unverified version of its stamp at its key
pub record StandsNoMore (groups : List Group) (d : Doubt) : Type 0 where
  pub place : ℕ
  pub group : Group
  pub at : slice_get groups place ≡ Some group
  pub part : ℕ
  pub index : IndexRegion
  pub of : slice_get group.indexes.items part ≡ Some index
  pub id : index.index.id ≡ d.index
  pub gone : stands_in group index d.key d.stamp ≡ false

-- it shows one, and an open batch of this stamp is still to write the row that the key is of (`IsChangeUnderWay`)
pub record StandsStill (groups : List Group) (d : Doubt) : Type 0 where
  pub place : ℕ
  pub group : Group
  pub at : slice_get groups place ≡ Some group
  pub part : ℕ
  pub index : IndexRegion
  pub of : slice_get group.indexes.items part ≡ Some index
  pub id : index.index.id ≡ d.index
  pub stands : stands_in group index d.key d.stamp ≡ true
  pub under_way : is_pending group d.stamp (row_of_index group.table index.index d.key) ≡ true

-- The repair that was due (`IsRepair`) is written in the region of the doubt's index, before all that was there. All else stays, but for counts of rows
-- looked at.
pub record IsMended (groups groups' : List Group) (d : Doubt) : Type 0 where
  pub place : ℕ
  pub group : Group
  pub at : slice_get groups place ≡ Some group
  pub looked : Group
  pub has : HasLooked group looked
  pub part : ℕ
  pub index : IndexRegion
  pub id : index.index.id ≡ d.index
  pub kept : List CellData
  pub due : IsRepair looked part d.key d.stamp kept
  pub mended : Group
  pub region : Region
  pub step : IsRegionStep looked mended part index region
  pub cells : List CellData
  pub handed : IsHanded cells kept
  pub reads : ReadsSame (read_of region) (cells ++ read_of index.region)
  pub then : groups' ≡ slice_set groups place mended

-- What became of the doubt's version: it is gone only where no table has the index any more, or the index doesn't show it unverified; and in flight only
-- where the index does and the version's batch is still to write the row, of which the trail tells the rest (`DidFix`).
abbrev pub Mends : List Group → List Group → Doubt → Fixing → Type 0
Mends groups groups' d fixing.Fixed = IsMended groups groups' d
Mends groups groups' d fixing.Gone = AllByRecursion (GroupLacksIndex d.index) groups ⊎ StandsNoMore groups' d
Mends groups groups' d fixing.InFlight = StandsStill groups' d

-- the region of the doubt's index, which has this number, refuses room for the repair that is due
abbrev pub IsRefusedFix : List Group → Doubt → ℕ → RepairFault → Type 0
IsRefusedFix groups d region f = IsRefusedIn groups d.index (λ group part index. (region ≡ index.region.number) × RefusesDue group part index d.key d.stamp f)

-- A region that is busy or isn't ready is told only so.
abbrev pub RefusesFix : List Group → Doubt → StepFault → Type 0
RefusesFix groups d (steps.Busy region cells bytes) = IsRefusedFix groups d region (Busy cells bytes)
RefusesFix groups d (steps.NotReady region) = IsRefusedFix groups d region NotReady
RefusesFix groups d f = Unit {0}
