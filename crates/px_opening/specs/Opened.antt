-- What was read of a folder, and what holds of it whatever the folder held.
use Rattle.std.specs.Prelude.{◌≡◌, ◌++◌, ℕ, Bool, List, [], ◌∷◌, Some, map, filter, get_or, slice_get, IsPermutation}
use Rattle.std.specs.List.{All, flat_map}
use Rattle.px_outside.specs.Parts.{AreDistinct}
use Rattle.px_tables.specs.declared.index.Index.{Index}
use Rattle.px_tables.specs.declared.table.Table.{Table}
use Rattle.px_rows.specs.Spelled.{row_form}
use Rattle.px_groupworld.specs.Group.{GroupData, no_part}
use Rattle.px_cellshapes.specs.Keys.{AreRightKeys}
use Rattle.px_cellshapes.specs.Rows.{AreRightRows}
use Rattle.px_tablefolder.specs.Folder.{IsFolderBase, IsOpened, TableFiles, folder_high, folder_last}
use Rattle.px_region.specs.Region.{RegionData, data_of, read_of}
use Rattle.px_region.specs.declared.region.Region.{Region}
use Rattle.px_catalog.specs.Catalogue.{standing_of}
use Rattle.px_group.specs.declared.group.Group.{Group}
use Rattle.px_group.specs.declared.group.IndexRegion.{IndexRegion}
use Rattle.px_recovery.specs.Base.{base_of}
use Rattle.px_recovery.specs.Folder.{FolderData, region_numbers}
use Rattle.px_recovery.specs.Tables.{indexes_of, is_active, table_files}
use Rattle.px_folder.specs.Drawn.{AreDrawn}
use Rattle.px_folder.specs.Read.{folder_by, number_of_open_region}
use Rattle.px_opening.specs.Definitions.{AreRight, first_number}
use Rattle.px_opening.specs.declared.opened.Opened.{Opened}

abbrev pub index_of_region : IndexRegion → Index
index_of_region x = x.index

abbrev pub region_in : IndexRegion → Region
region_in x = x.region

abbrev pub table_in_group : Group → Table
table_in_group g = g.table

-- the regions of a group, and all that were read
abbrev pub regions_of_group : Group → List Region
regions_of_group g = g.rows ∷ map region_in g.indexes.items

abbrev pub regions_in : List Group → List Region → List Region
regions_in groups others = flat_map regions_of_group groups ++ others

abbrev pub all_regions : Opened → List Region
all_regions o = regions_in o.groups.items o.others.items

-- what the folder has by what was read
abbrev pub folder_in : Opened → FolderData
folder_in o = folder_by (standing_of o.catalog) (all_regions o)

-- the files of a table, by what each region has
abbrev pub files_by : (ℕ → RegionData) → List Index → Table → TableFiles
files_by f indexes t = table_files (record { standing = record { next = 0; tables = []; indexes = indexes }; regions = f }) t

abbrev pub is_standing : Index → Bool
is_standing i = is_active i.state

-- a region has what f says of its number
abbrev pub IsDataOf : (ℕ → RegionData) → Region → Type 0
IsDataOf f r = data_of r ≡ f r.number

-- an index of the group: the region is its own, and what is read of it has the shape of the index's keys
pub record IsPartRead (t : Table) (x : IndexRegion) : Type 0 where
  pub number : x.index.region ≡ x.region.number
  pub keys : AreRightKeys t x.index (read_of x.region)

pub record IsPartRight (f : ℕ → RegionData) (t : Table) (x : IndexRegion) : Type 0 where
  pub read : IsPartRead t x
  pub told : IsDataOf f x.region

-- The group is its table with the regions of its rows and of its active indexes, in the order of their definition. Its last stamp
-- and its horizon are the greatest of all its regions and births, and no batch and no point is open.
pub record IsGroupOf (f : ℕ → RegionData) (indexes : List Index) (g : Group) : Type 0 where
  pub number : g.rows.number ≡ first_number g.table.regions
  pub told : IsDataOf f g.rows
  pub rows : AreRightRows g.table (read_of g.rows)
  pub indexes_are : map index_of_region g.indexes.items ≡ filter is_standing (indexes_of g.table.id.0 indexes)
  pub parts : All (IsPartRight f g.table) g.indexes.items
  pub last : g.last ≡ folder_last (files_by f indexes g.table)
  pub horizon : g.horizon ≡ folder_high (files_by f indexes g.table)
  pub batches : g.batches.items ≡ []
  pub points : g.points.items ≡ []

-- The table's files open as this, by the folder's base, and each index is forgotten up to the horizon of its region.
pub record IsOpenedAs (f : FolderData) (g : Group) (v : GroupData) : Type 0 where
  pub base : IsFolderBase (base_of f) g.table.id.0 (row_form g.table) (table_files f g.table)
  pub opened : IsOpened (table_files f g.table) v
  pub horizons : (i : ℕ) (x : IndexRegion) → slice_get g.indexes.items i ≡ Some x → (get_or v.indexes i no_part).horizon ≡ (data_of x.region).horizon

-- what holds of each folder that is opened
pub record IsOpenedRight (o : Opened) : Type 0 where
  pub drawn : AreDrawn (standing_of o.catalog)
  pub right : AreRight (standing_of o.catalog)
  pub tables : map table_in_group o.groups.items ≡ (standing_of o.catalog).tables
  pub groups : All (IsGroupOf (folder_in o).regions (standing_of o.catalog).indexes) o.groups.items
  pub numbers : IsPermutation (region_numbers (standing_of o.catalog)) (map number_of_open_region (all_regions o))
  pub once : AreDistinct number_of_open_region (all_regions o)
