-- What is true of every server.
use Rattle.std.specs.Prelude.{◌≡◌, ◌≤◌, ◌<◌, ◌+◌, ◌⊎◌, ◌==◌, ℕ, Bool, IsTrue, true, false, List, [], length, map, slice_get, sum_by, Option, None, Some}
use Rattle.std.specs.List.{AllByRecursion, list_any}
use Rattle.px_outside.specs.Disk.{last_count}
use Rattle.px_outside.specs.declared.disk.Disk.{Ghosts}
use Rattle.px_tables.specs.declared.index.Index.{Index}
use Rattle.px_tables.specs.declared.table.Table.{Table}
use Rattle.px_trail.specs.Batches.{Batch, batch_of, unwritten}
use Rattle.px_trail.specs.Legal.{IsLegal}
use Rattle.px_trail.specs.Recorded.{Recorded}
use Rattle.px_trail.specs.Trail.{Base, IsRightBase, catalogue_of, closing_call, open_points}
use Rattle.px_trail.specs.declared.entry.Act.{Act}
use Rattle.px_trail.specs.declared.entry.Act.TheVariants.{Missed, Shut}
use Rattle.px_trail.specs.declared.entry.Entry.{Entry}
use Rattle.px_forms.specs.Indexes.{IndexForm}
use Rattle.px_built.specs.Built.{IsBuiltBy}
use Rattle.px_groupworld.specs.Group.{GroupData, TableForm}
use Rattle.px_openbatches.specs.Pending.{HeldBatch}
use Rattle.px_region.specs.Region.{RegionHolds}
use Rattle.px_schema.specs.declared.standing.Standing.{Standing}
use Rattle.px_catalog.specs.Catalogue.{HasCatalogue, standing_of}
use Rattle.px_catalog.specs.declared.catalog.Catalog.{Catalog}
use Rattle.px_group.specs.Group.{AreTraced, IsRightGroup, IsShownBy, IsTallied, form_of, points_in}
use Rattle.px_group.specs.declared.group.Begun.{Begun}
use Rattle.px_group.specs.declared.group.Group.{Group}
use Rattle.px_group.specs.declared.group.IndexRegion.{IndexRegion}
use Rattle.px_group.specs.declared.group.Phase.{Phase}
use Rattle.px_group.specs.declared.group.Phase.TheVariants.{Marking, Writing, Verifying, Closing}
use Rattle.px_defined.specs.Defined.{HasOnce}
use Rattle.px_reading.specs.Doubts.{IsToldBy}
use Rattle.px_recovery.specs.Folder.{FolderData}
use Rattle.px_recovery.specs.Kept.{IsServer}
use Rattle.px_recovery.specs.Tables.{form_of_index, index_in}
use Rattle.px_standing.specs.Agrees.{Agrees, opened_standing}
use Rattle.px_server.specs.Others.{Beginning, OthersStay}

abbrev pub table_in_group : Group → Table
table_in_group g = g.table

abbrev pub number_in : Group → ℕ
number_in g = g.table.id.0

-- 1. Definitions

-- What stood before is right, and no table's horizon was above its last stamp; the trail is legal, and tells what stands. On the disk the same stands until a write fails, but for an index that was
-- building when the folder was opened.
pub record IsTold (b : Base) (es : List Entry) (closed : Option ℕ) (stored standing : Standing) : Type 0 where
  pub base : IsRightBase b
  pub low : (t : ℕ) → b.horizon t ≤ b.last t
  pub legal : IsLegal b es
  pub closing : closing_call es ≡ closed
  pub agrees : Agrees standing (catalogue_of b es)
  pub same : closed ≡ None → opened_standing stored ≡ opened_standing standing

-- 2. Tables with their regions

abbrev pub HasPoints : List Entry → Group → Type 0
HasPoints es g = (seat s : ℕ) → open_points seat g.table.id.0 s es ≡ points_in seat s g.points.items

pub record HasTallied (b : Base) (es : List Entry) (g : Group) : Type 0 where
  pub held : List HeldBatch
  pub tallied : IsTallied b es g held

-- each batch of the table that is written and hasn't ended is there
abbrev pub HasBegun : List Entry → Group → Type 0
HasBegun es g = (s : ℕ) (y : Batch) → batch_of g.table.id.0 s es ≡ Some y → y.ended ≡ false → unwritten y ≡ [] → list_any (λ m. m.batch.stamp == s) g.batches.items ≡ true

-- One group for each table that stands, in their order. The open points are the trail's at all times. All else of a group is so until a write
-- fails; then those that may end are there, and have what their end needs.
pub record AreGroups (b : Base) (es : List Entry) (closed : Option ℕ) (tables : List Table) (groups : List Group) : Type 0 where
  pub stand : map table_in_group groups ≡ tables
  pub points : AllByRecursion (HasPoints es) groups
  pub right : closed ≡ None → AllByRecursion IsRightGroup groups
  pub tallied : closed ≡ None → AllByRecursion (HasTallied b es) groups
  pub once : closed ≡ None → AllByRecursion HasOnce groups
  pub traced : (call : ℕ) → closed ≡ Some call → AllByRecursion (AreTraced es) groups
  pub begun : (call : ℕ) → closed ≡ Some call → AllByRecursion (HasBegun es) groups

-- 3. Contents

abbrev pub forms_in : List Index → Table → ℕ → IndexForm
forms_in indexes x = λ n. form_of_index x (index_in indexes n)

-- what stays true of each index of the table while it is built
pub record AreBuilt (f : TableForm) (es : List Entry) (v : GroupData) : Type 0 where
  pub each : (i : ℕ) → i < length v.indexes → IsBuiltBy f es v i

-- the group shows what these data of its table have, a repair may rest on them, and rows that were given their base versions have them
pub record HasShown (b : Base) (es : List Entry) (indexes : List Index) (v : ℕ → GroupData) (g : Group) : Type 0 where
  pub held : List HeldBatch
  pub tallied : IsTallied b es g held
  pub shown : IsShownBy b (forms_in indexes g.table) es g (v g.table.id.0) held
  pub told : IsToldBy b (forms_in indexes g.table) es g (v g.table.id.0)
  pub built : AreBuilt (form_of b (forms_in indexes g.table) g) es (v g.table.id.0)

pub record AreShown (b : Base) (es : List Entry) (indexes : List Index) (groups : List Group) : Type 0 where
  pub told : ℕ → GroupData
  pub each : AllByRecursion (HasShown b es indexes told) groups

-- 4. The disk

-- each region of the group goes on from what the folder has in it
pub record IsOnDisk {D : Type 0} (d : Ghosts D) (disk : D) (f : FolderData) (g : Group) : Type 0 where
  pub rows : RegionHolds d g.rows disk (f.regions g.rows.number)
  pub indexes : (i : ℕ) (x : IndexRegion) → slice_get g.indexes.items i ≡ Some x → RegionHolds d x.region disk (f.regions x.region.number)

-- what the server's own parts have where they go on from a folder with these tables: what was opened is sound then
pub record HasServerParts {D : Type 0} (d : Ghosts D) (b : Base) (sound : Type 0) (catalog : Catalog) (groups : List Group) (disk : D) (es : List Entry) (f : FolderData) (v : ℕ → GroupData) : Type 0 where
  pub given : sound
  pub stored : HasCatalogue d catalog disk
  pub standing : f.standing ≡ standing_of catalog
  pub regions : AllByRecursion (IsOnDisk d disk f) groups
  pub shown : AllByRecursion (HasShown b es f.standing.indexes v) groups

-- 5. Room in the trail

-- the entries that a batch still owes
abbrev pub steps_of : Phase → ℕ
steps_of Marking = 4
steps_of Writing = 3
steps_of Verifying = 2
steps_of Closing = 1

abbrev pub owed_by : Begun → ℕ
owed_by m = steps_of m.phase

-- those of a group: one for each open point too
abbrev pub owed : Group → ℕ
owed g = length g.points.items + sum_by owed_by g.batches.items

-- and one for the failed write that closes the server, unless it is closed
abbrev pub spare : Option ℕ → ℕ
spare None = 1
spare (Some call) = 0

abbrev pub HasTrailRoom : Option ℕ → List Group → Recorded → Type 0
HasTrailRoom closed groups trail = spare closed + sum_by owed groups ≤ trail.room

-- 6. Faults

-- the act tells that a device call failed
abbrev pub tells_fault : Act → Bool
tells_fault (Missed call) = true
tells_fault (Shut call) = true
tells_fault act = false

-- an entry does
abbrev pub has_told : List Entry → Bool
has_told es = list_any (λ e. tells_fault e.act) es

-- a device call has failed, or a count of the disk stands at its last value
abbrev pub HasFailed : {D : Type 0} → Ghosts D → D → Type 0
HasFailed d disk = (0 < d.faults disk) ⊎ ((last_count ≤ d.calls disk) ⊎ (last_count ≤ d.faults disk))

-- the entry tells that the device call of this number closed the server, and so many calls were made
abbrev pub IsShutAt : Entry → ℕ → Type 0
IsShutAt e call = e ≡ record { seat = e.seat; calls = call; act = Shut call }

-- 7. All of it

pub record IsKept {D : Type 0} (d : Ghosts D) (b : Base) (sound premise : Type 0) (began : Beginning) (disk : D) (catalog : Catalog) (standing : Standing) (groups : List Group) (trail : Recorded) (late : Option Entry) (closed : Option ℕ) : Type 0 where
  pub told : IsTold b trail.entries closed (standing_of catalog) standing
  pub each : AreGroups b trail.entries closed standing.tables groups
  pub shown : sound → closed ≡ None → AreShown b trail.entries standing.indexes groups
  pub server : IsServer d b premise (HasServerParts d b sound catalog groups) disk trail.entries late closed
  pub room : HasTrailRoom closed groups trail
  pub blamed : has_told trail.entries ≡ true → HasFailed d disk
  pub last_call : (call : ℕ) → closed ≡ Some call → call ≡ d.calls disk
  pub others : premise → IsTrue d.tells → OthersStay d b began disk trail.entries
