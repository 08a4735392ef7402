-- What the files of a folder stand for: the catalogue and the regions, each as a part with files of its own.
use Rattle.std.specs.Prelude.{◌≡◌, ◌≤◌, ◌*◌, ◌++◌, [], ℕ, zero, suc, true, nat_eq, List, map}
use Rattle.std.specs.List.{flat_map, list_any}
use Rattle.px_outside.specs.Disk.{Image}
use Rattle.px_outside.specs.OnDisk.{Only}
use Rattle.px_outside.specs.Parts.{AllStand, AllStandIn, with_part}
use Rattle.px_outside.specs.declared.disk.Disk.{Ghosts}
use Rattle.px_tables.specs.declared.table.Table.{Table}
use Rattle.px_wal.specs.Files.{HasFile}
use Rattle.px_region.specs.Region.{RegionData, RegionStands}
use Rattle.px_schema.specs.declared.standing.Standing.{Standing}
use Rattle.px_catalog.specs.Catalogue.{CatalogueStands, catalogue_files}

-- 1. The parts

-- the tables and indexes that stand, and what each region has, by its number
pub record FolderData : Type 0 where
  pub standing : Standing
  pub regions : ℕ → RegionData

-- a part of a folder: its catalogue, or a region
pub data PartData : Type 0 where
  Definitions : Standing → PartData
  Cells : RegionData → PartData

-- part 0 is the catalogue, and each other number is that of a region
abbrev pub part_of : FolderData → ℕ → PartData
part_of f zero = Definitions f.standing
part_of f (suc n) = Cells (f.regions (suc n))

-- the files of a part
abbrev pub IsFileOfPart : ℕ → ℕ → Type 0
IsFileOfPart zero file = catalogue_files file
IsFileOfPart (suc n) file = HasFile (suc n) file

-- what the image's files of a part stand for
abbrev pub PartStands : ℕ → Image → PartData → Type 0
PartStands zero image (Definitions s) = CatalogueStands image s
PartStands zero image (Cells s) = ⊥
PartStands (suc n) image (Definitions s) = ⊥
PartStands (suc n) image (Cells s) = RegionStands (suc n) image s

-- one region with other contents, and other definitions
abbrev pub with_region : ℕ → RegionData → FolderData → FolderData
with_region n s f = record { standing = f.standing; regions = with_part f.regions n s }

abbrev pub with_standing : Standing → FolderData → FolderData
with_standing s f = record { standing = s; regions = f.regions }

-- 2. Which parts count

-- the regions of a table, and those of all tables and indexes, whatever the indexes' states are
abbrev pub regions_of : Table → List ℕ
regions_of t = map (λ r. r.number) t.regions

abbrev pub region_numbers : Standing → List ℕ
region_numbers s = flat_map regions_of s.tables ++ map (λ i. i.region) s.indexes

abbrev pub IsNumberAmong : ℕ → List ℕ → Type 0
IsNumberAmong n ns = list_any (λ m. nat_eq m n) ns ≡ true

-- the catalogue counts, and the regions that it names
abbrev pub IsKeptPart : Standing → ℕ → Type 0
IsKeptPart s zero = Unit {0}
IsKeptPart s (suc n) = IsNumberAmong (suc n) (region_numbers s)

-- 3. The folder

-- the files of regions from this number on
abbrev pub from : ℕ → ℕ → Type 0
from n file = n * 4294967296 ≤ file

-- none of them has a byte
abbrev pub IsEmptyFrom : ℕ → Image → Type 0
IsEmptyFrom n image = (file : ℕ) → from n file → image file ≡ []

-- a region that is still to be made has nothing
abbrev pub no_data : RegionData
no_data = record { cells = []; horizon = 0 }

abbrev pub AreUnmade : FolderData → Type 0
AreUnmade f = (n : ℕ) → f.standing.next ≤ n → f.regions n ≡ no_data

-- The image's files stand for this, and no file of a region whose number is still to be drawn has a byte.
pub record StandsFor (image : Image) (f : FolderData) : Type 0 where
  pub parts : AllStand PartStands (IsKeptPart f.standing) (part_of f) image
  pub fresh : IsEmptyFrom f.standing.next image
  pub unmade : AreUnmade f

-- Of the regions that are still to be made: a stop leaves no byte in their files.
pub record AreFresh {D : Type 0} (d : Ghosts D) (disk : D) (n : ℕ) : Type 0 where
  pub on_disk : (file : ℕ) → from n file → Only d disk file
  pub empty : IsEmptyFrom n (d.seen disk)

-- the disk stands for this, whatever a stop leaves
pub record StandsOn {D : Type 0} (d : Ghosts D) (disk : D) (f : FolderData) : Type 0 where
  pub parts : AllStandIn d IsFileOfPart PartStands (IsKeptPart f.standing) (part_of f) disk
  pub fresh : AreFresh d disk f.standing.next
  pub unmade : AreUnmade f
