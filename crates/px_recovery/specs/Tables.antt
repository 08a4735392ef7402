-- What a folder tells of a table.
use Rattle.std.specs.Prelude.{◌≡◌, ◌<◌, ◌⊎◌, ◌++◌, ◌∷◌, [], ℕ, length, get_or, Bool, true, false, ◌==◌, if◌then◌else◌, max, filter, map, List, Option, Some, None, not}
use Rattle.std.specs.List.{AllByRecursion}
use Rattle.std.specs.Ordering.{is_le}
use Rattle.px_outside.specs.Parts.{AreDistinct}
use Rattle.px_cells.specs.CellData.{CellData}
use Rattle.px_cells.specs.Order.{key_cmp}
use Rattle.px_tables.specs.declared.index.Index.{Index}
use Rattle.px_tables.specs.declared.index.IndexState.{IndexState}
use Rattle.px_tables.specs.declared.index.IndexState.TheVariants.{Building, Active, Disabled}
use Rattle.px_tables.specs.declared.table.Table.{Table}
use Rattle.px_tables.specs.declared.table.TableRegion.{TableRegion}
use Rattle.px_trail.specs.declared.entry.Entry.{Entry}
use Rattle.px_trail.specs.Trail.{Base}
use Rattle.px_forms.specs.Indexes.{IndexForm}
use Rattle.px_rows.specs.Spelled.{row_form}
use Rattle.px_indexrow.specs.Form.{index_form}
use Rattle.px_groupworld.specs.Group.{GroupData, GroupKept, IndexPart, TableForm, no_part, table_form}
use Rattle.px_tablefolder.specs.Folder.{IndexFiles, IsFolderOf, TableFiles}
use Rattle.px_region.specs.Region.{RegionData}
use Rattle.px_recovery.specs.Folder.{FolderData}

-- 1. The table's files

-- the cells of its regions, one region after another, and the greatest horizon of their manifests
unfoldable pub cells_of_regions : (ℕ → RegionData) → List TableRegion → List CellData
cells_of_regions regions [] = []
cells_of_regions regions (g ∷ gs) = (regions g.number).cells ++ cells_of_regions regions gs

unfoldable pub horizon_in : (ℕ → RegionData) → List TableRegion → ℕ
horizon_in regions [] = 0
horizon_in regions (g ∷ gs) = max (regions g.number).horizon (horizon_in regions gs)

abbrev pub is_active : IndexState → Bool
is_active Building = false
is_active Active = true
is_active Disabled = false

-- the indexes of a table, in order of definition
abbrev pub indexes_of : ℕ → List Index → List Index
indexes_of t indexes = filter (λ i. i.table.0 == t) indexes

abbrev pub index_files : (ℕ → RegionData) → Index → IndexFiles
index_files regions i = record { id = i.id.0; cells = (regions i.region).cells; birth = i.birth; horizon = (regions i.region).horizon; is_active = is_active i.state }

abbrev pub table_files : FolderData → Table → TableFiles
table_files f x =
    record {
      cells = cells_of_regions f.regions x.regions;
      horizon = horizon_in f.regions x.regions;
      indexes = map (index_files f.regions) (indexes_of x.id.0 f.standing.indexes);
    }

-- the region of this number is one of these
abbrev pub IsRegionAmong : ℕ → List TableRegion → Type 0
IsRegionAmong n [] = ⊥
IsRegionAmong n (g ∷ gs) = (g.number ≡ n) ⊎ IsRegionAmong n gs

abbrev pub number_of_region : TableRegion → ℕ
number_of_region g = g.number

abbrev pub region_of_index : Index → ℕ
region_of_index i = i.region

abbrev pub number_of_index : Index → ℕ
number_of_index i = i.id.0

-- 2. Its form

-- the table and the index of a number
unfoldable pub table_in : List Table → ℕ → Option Table
table_in [] n = None
table_in (x ∷ xs) n = if x.id.0 == n then Some x else table_in xs n

unfoldable pub index_in : List Index → ℕ → Option Index
index_in [] n = None
index_in (x ∷ xs) n = if x.id.0 == n then Some x else index_in xs n

-- a form without a key
abbrev pub no_form : IndexForm
no_form = record { columns = 0; place = λ c. 0; key_of = λ r s. None; col = λ s c. None; owns = λ r k. false }

abbrev pub form_of_index : Table → Option Index → IndexForm
form_of_index x None = no_form
form_of_index x (Some i) = index_form x i

-- how the table's rows and index rows are spelled, where these indexes stand
abbrev pub form_of_table : Base → List Index → Table → TableForm
form_of_table b indexes x = table_form b x.id (λ i. form_of_index x (index_in indexes i)) (row_form x)

-- 3. Which region has a key

-- the number of the last region whose least key isn't above the key
unfoldable pub region_from : ℕ → List TableRegion → List ℕ → ℕ
region_from n [] k = n
region_from n (g ∷ gs) k = region_from (if is_le (key_cmp g.least_key k) then g.number else n) gs k

abbrev pub region_at : Table → List ℕ → ℕ
region_at x k = region_from 0 x.regions k

-- these cells have keys of that region of the table
abbrev pub AreInRegion : Table → ℕ → List CellData → Type 0
AreInRegion x n cells = AllByRecursion (λ c. region_at x c.key ≡ n) cells

-- 4. The table

abbrev pub number_of_part : IndexPart → ℕ
number_of_part i = i.id

-- the index of this number stands, and is of this table
abbrev pub HasTableIndex : List Index → ℕ → ℕ → Type 0
HasTableIndex indexes t n = (i : Index) × ((index_in indexes n ≡ Some i) × (i.table.0 ≡ t))

-- The folder's files of a table are those of the table v after these entries. Each of its cells is in the region of its key, and the
-- table has no index twice, and none that doesn't stand.
pub record TellsTable (b : Base) (es : List Entry) (f : FolderData) (x : Table) (v : GroupData) : Type 0 where
  pub kept : GroupKept (form_of_table b f.standing.indexes x) es v
  pub files : IsFolderOf (form_of_table b f.standing.indexes x) es v (table_files f x)
  pub placed : AllByRecursion (λ g. AreInRegion x g.number (f.regions g.number).cells) x.regions
  pub once : AreDistinct number_of_part v.indexes
  pub stand : (j : ℕ) → j < length v.indexes → HasTableIndex f.standing.indexes x.id.0 (get_or v.indexes j no_part).id

-- the table without the index of a number, and without an open batch
abbrev pub without_index : ℕ → GroupData → GroupData
without_index n v = record v { indexes = filter (λ i. not (i.id == n)) v.indexes; opens = [] }
