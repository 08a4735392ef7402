-- When a folder stands for a trail.
use Rattle.std.specs.Prelude.{◌≡◌, ◌≢◌, ◌≤◌, ℕ, List, Option, Some, None}
use Rattle.std.specs.List.{AllByRecursion}
use Rattle.px_outside.specs.Disk.{Image}
use Rattle.px_outside.specs.Parts.{AreDistinct, HasNone}
use Rattle.px_outside.specs.Recovery as recovery
use Rattle.px_outside.specs.declared.disk.Disk.{Ghosts}
use Rattle.px_tables.specs.declared.index.Index.{Index}
use Rattle.px_tables.specs.declared.index.IndexState.{IndexState}
use Rattle.px_tables.specs.declared.index.IndexState.TheVariants.{Building, Active, Disabled}
use Rattle.px_tables.specs.declared.table.Table.{Table}
use Rattle.px_trail.specs.declared.entry.Entry.{Entry}
use Rattle.px_trail.specs.Lasting.{TellSame, lasting}
use Rattle.px_trail.specs.Legal.{IsLegal}
use Rattle.px_trail.specs.Trail.{Base, Catalogue, catalogue_of, horizon_of, last_of}
use Rattle.px_groupworld.specs.Group.{GroupData, GroupKept}
use Rattle.px_schema.specs.Stands.{IsBelowNext}
use Rattle.px_schema.specs.declared.standing.Standing.{Standing}
use Rattle.px_recovery.specs.Folder.{FolderData, StandsFor}
use Rattle.px_recovery.specs.Tables.{IsRegionAmong, TellsTable, form_of_table, index_in, number_of_index, number_of_region, region_of_index, table_in}

-- 1. The catalogue

-- an index that is building stands as disabled
abbrev pub opened_state : IndexState → IndexState
opened_state Building = Disabled
opened_state Active = Active
opened_state Disabled = Disabled

abbrev pub opened_index : Option Index → Option Index
opened_index None = None
opened_index (Some i) = Some (record i { state = opened_state i.state })

-- the catalogue has these tables and indexes and this next number; an index that it has as building stands as disabled
pub record TellsCatalogue (s : Standing) (c : Catalogue) : Type 0 where
  pub next : s.next ≡ c.next
  pub tables : (t : ℕ) → table_in s.tables t ≡ c.tables t
  pub indexes : (i : ℕ) → opened_index (index_in s.indexes i) ≡ opened_index (c.indexes i)

-- Numbers are drawn once. No region is of two tables, or twice of one, or of a table and of an index, or of two indexes, and no
-- two indexes have one number. They are at least 1, and below the next one.
pub record AreNumbered (s : Standing) : Type 0 where
  pub tables : (t u n : ℕ) (x y : Table) → table_in s.tables t ≡ Some x → table_in s.tables u ≡ Some y → IsRegionAmong n x.regions → IsRegionAmong n y.regions → t ≡ u
  pub each : (t : ℕ) (x : Table) → table_in s.tables t ≡ Some x → AreDistinct number_of_region x.regions
  pub apart : (t n : ℕ) (x : Table) → table_in s.tables t ≡ Some x → IsRegionAmong n x.regions → HasNone region_of_index n s.indexes
  pub indexes : AreDistinct region_of_index s.indexes
  pub ids : AreDistinct number_of_index s.indexes
  pub some : AllByRecursion (λ t. AllByRecursion (λ g. 1 ≤ g.number) t.regions) s.tables
  pub some_index : AllByRecursion (λ i. 1 ≤ i.region) s.indexes
  pub below : IsBelowNext s
  pub least : 1 ≤ s.next

-- 2. The folder

-- base and entries tell of the folder what it has: the table of each number t that stands is v t
pub record Explains (b : Base) (es : List Entry) (f : FolderData) (v : ℕ → GroupData) : Type 0 where
  pub legal : IsLegal b es
  pub catalogue : TellsCatalogue f.standing (catalogue_of b es)
  pub numbered : AreNumbered f.standing
  pub tables : (t : ℕ) (x : Table) → table_in f.standing.tables t ≡ Some x → TellsTable b es f x (v t)

-- The trail goes on by entries of the table t, or by none: what stands is the same, and every other table is kept as it is.
pub record GoesOnBy (b : Base) (es es' : List Entry) (f : FolderData) (v : ℕ → GroupData) (t : ℕ) : Type 0 where
  pub legal : IsLegal b es'
  pub catalogue : catalogue_of b es' ≡ catalogue_of b es
  pub last : (q : ℕ) → last_of b q es ≤ last_of b q es'
  pub others : (q : ℕ) (y : Table) → q ≢ t → table_in f.standing.tables q ≡ Some y → GroupKept (form_of_table b f.standing.indexes y) es' (v q)

-- The trail `told` tells the same tables, indexes and states as the trail, and no higher horizon or last stamp.
pub record TellsAs (b : Base) (told es : List Entry) : Type 0 where
  pub same : TellSame b told es
  pub horizon : (t : ℕ) → horizon_of b t told ≤ horizon_of b t es
  pub last : (t : ℕ) → last_of b t told ≤ last_of b t es

-- The image stands for the trail: its files stand for what a legal trail tells, which tells as the trail does. An entry that
-- doesn't last, or that is told in the place where the server was closed, makes the difference.
pub record StandsAfter (b : Base) (es : List Entry) (image : Image) : Type 0 where
  pub folder : FolderData
  pub stands : StandsFor image folder
  pub told : List Entry
  pub as_told : TellsAs b told es
  pub groups : ℕ → GroupData
  pub explains : Explains b told folder groups

-- 3. Each stop

abbrev pub entry_calls : Entry → ℕ
entry_calls e = e.calls

-- the image stands for what was there at the moment, or for this and one entry more
abbrev pub Recovers : Base → List Entry → Option Entry → ℕ → Image → Type 0
Recovers b = recovery.RecoversBy entry_calls lasting (StandsAfter b)

-- each image that a stop may leave does
abbrev pub Lasts : {D : Type 0} → Ghosts D → Base → List Entry → Option Entry → D → Type 0
Lasts d b = recovery.LastsBy entry_calls lasting (StandsAfter b) d
