-- What a server leaves of the files that belong to no part of the database.
use Rattle.std.specs.Prelude.{◌≡◌, ◌≤◌, ◌⊎◌, ◌++◌, ℕ, List, Some}
use Rattle.px_outside.specs.declared.disk.Disk.{Ghosts}
use Rattle.px_tables.specs.declared.index.Index.{Index}
use Rattle.px_tables.specs.declared.table.Table.{Table}
use Rattle.px_trail.specs.Trail.{Base, Catalogue, catalogue_of}
use Rattle.px_trail.specs.declared.entry.Entry.{Entry}
use Rattle.px_wal.specs.Files.{HasFile}
use Rattle.px_catalog.specs.Catalogue.{catalogue_files}
use Rattle.px_recovery.specs.Tables.{IsRegionAmong}

-- 1. The files of the parts

-- the region is that of a table or of an index that stands
pub record IsRegionOfTable (c : Catalogue) (n : ℕ) : Type 0 where
  pub number : ℕ
  pub table : Table
  pub stands : c.tables number ≡ Some table
  pub own : IsRegionAmong n table.regions

pub record IsRegionOfIndex (c : Catalogue) (n : ℕ) : Type 0 where
  pub number : ℕ
  pub index : Index
  pub stands : c.indexes number ≡ Some index
  pub own : index.region ≡ n

abbrev pub IsRegion : Catalogue → ℕ → Type 0
IsRegion c n = IsRegionOfTable c n ⊎ IsRegionOfIndex c n

-- it was at some time of the trail: at its beginning, or behind one of its entries
pub record WasRegion (b : Base) (es : List Entry) (n : ℕ) : Type 0 where
  pub before : List Entry
  pub after : List Entry
  pub splits : es ≡ before ++ after
  pub was : IsRegion (catalogue_of b before) n

-- the file is one of such a region
pub record IsOfRegion (b : Base) (es : List Entry) (file : ℕ) : Type 0 where
  pub region : ℕ
  pub was : WasRegion b es region
  pub own : HasFile region file

-- the files of the catalogue, and of all regions that tables and indexes had at some time of the trail
abbrev pub part_files : Base → List Entry → ℕ → Type 0
part_files b es file = catalogue_files file ⊎ IsOfRegion b es file

-- 2. All others

-- What a disk was once: the moment, with which bytes a stop might leave each file then, and what reads gave.
pub record Beginning : Type 1 where
  pub moment : ℕ
  pub left : ℕ → List ℕ → Type 0
  pub seen : ℕ → List ℕ

-- what this disk is
abbrev pub beginning_at : {D : Type 0} → Ghosts D → D → Beginning
beginning_at d disk = record { moment = d.calls disk; left = d.left disk (d.calls disk); seen = d.seen disk }

-- or this disk is so: of it no more may be left, and the same is read
pub record BeginsAt {D : Type 0} (d : Ghosts D) (began : Beginning) (disk : D) : Type 0 where
  pub moment : began.moment ≡ d.calls disk
  pub left : (file : ℕ) (bytes : List ℕ) → d.left disk (d.calls disk) file bytes → began.left file bytes
  pub seen : (file : ℕ) → d.seen disk file ≡ began.seen file

-- Of each file of no part reads give what they gave then, and at each moment since then a stop leaves what it might leave then.
pub record OthersStay {D : Type 0} (d : Ghosts D) (b : Base) (began : Beginning) (disk : D) (es : List Entry) : Type 0 where
  pub later : began.moment ≤ d.calls disk
  pub left : (moment file : ℕ) (bytes : List ℕ) → began.moment ≤ moment → ¬ part_files b es file → d.left disk moment file bytes → began.left file bytes
  pub seen : (file : ℕ) → ¬ part_files b es file → d.seen disk file ≡ began.seen file
