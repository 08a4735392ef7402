-- A folder that was read.
use Rattle.std.specs.Prelude.{◌≡◌, ◌==◌, if◌then◌else◌, ℕ, List, [], ◌∷◌}
use Rattle.px_outside.specs.Disk.{Image}
use Rattle.px_outside.specs.Parts.{AllStand}
use Rattle.px_outside.specs.declared.disk.Disk.{Ghosts}
use Rattle.px_region.specs.Region.{RegionData, RegionHolds, RegionStands, data_of}
use Rattle.px_region.specs.declared.region.Region.{Region}
use Rattle.px_schema.specs.declared.standing.Standing.{Standing}
use Rattle.px_catalog.specs.Catalogue.{standing_of}
use Rattle.px_recovery.specs.Folder.{AreUnmade, FolderData, IsKeptPart, PartStands, no_data, part_of}
use Rattle.px_folder.specs.declared.folder.Folder.{Folder}

abbrev pub number_of_open_region : Region → ℕ
number_of_open_region r = r.number

-- what was read of the region of a number; nothing where none was read
unfoldable pub data_at : List Region → ℕ → RegionData
data_at [] n = no_data
data_at (r ∷ rs) n = if r.number == n then data_of r else data_at rs n

-- what stands, and what was read of the regions
abbrev pub folder_by : Standing → List Region → FolderData
folder_by s regions = record { standing = s; regions = data_at regions }

-- what a folder that was read stands for
abbrev pub folder_of : Folder → FolderData
folder_of w = folder_by (standing_of w.catalog) w.regions.items

-- The image's catalogue stands for the folder's definitions, and the files of each region that it names for the region's cells. Nothing is said of the
-- files of regions that are still to be made: that they have no byte is all that `StandsFor` says beside this.
pub record PartsStandFor (image : Image) (f : FolderData) : Type 0 where
  pub parts : AllStand PartStands (IsKeptPart f.standing) (part_of f) image
  pub unmade : AreUnmade f

-- what was read of a region is what its files stood for, and the region goes on from there
pub record IsReadOn {D : Type 0} (d : Ghosts D) (old new : D) (r : Region) : Type 0 where
  pub stood : RegionStands r.number (d.seen old) (data_of r)
  pub holds : RegionHolds d r new (data_of r)
