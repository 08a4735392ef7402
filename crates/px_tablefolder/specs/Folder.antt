-- What a folder tells of a table.
use Rattle.std.specs.Prelude.{◌≡◌, ℕ, ◌<◌, ◌≤◌, Bool, true, false, ◌&&◌, ◌||◌, List, [], ◌∷◌, length, get_or, map, max, nat_eq, nat_lt}
use Rattle.std.specs.Cmp.Lexicographic.{pointwise}
use Rattle.px_cells.specs.CellData.{CellData}
use Rattle.px_cells.specs.Contents.{value_at}
use Rattle.px_values.specs.declared.row.Value.{Value}
use Rattle.px_values.specs.States.{RowState}
use Rattle.px_trail.specs.declared.entry.Entry.{Entry}
use Rattle.px_trail.specs.Trail.{Base, last_of, shape_of}
use Rattle.px_forms.specs.Rows.{DataForm}
use Rattle.px_groupworld.specs.Group.{TableForm, GroupData, IndexPart, no_part}

-- 1. The files

-- an index of the catalogue: the cells of its region, its birth, the horizon of its region's manifest, and whether it is recorded as active
pub record IndexFiles : Type 0 where
  pub id : ℕ
  pub cells : List CellData
  pub birth : ℕ
  pub horizon : ℕ
  pub is_active : Bool

-- the cells of the data region, the horizon of its manifest, and the indexes that stand
pub record TableFiles : Type 0 where
  pub cells : List CellData
  pub horizon : ℕ
  pub indexes : List IndexFiles

abbrev pub no_files : IndexFiles
no_files = record { id = 0; cells = []; birth = 0; horizon = 0; is_active = false }

-- 2. The table's numbers

-- the greatest stamp of the cells
unfoldable pub last_cell : List CellData → ℕ
last_cell [] = 0
last_cell (c ∷ cells) = max c.stamp (last_cell cells)

-- the greatest horizon of the indexes' manifests
unfoldable pub greatest_horizon : List IndexFiles → ℕ
greatest_horizon [] = 0
greatest_horizon (x ∷ xs) = max x.horizon (greatest_horizon xs)

-- the greatest of their births, horizons and stamps
unfoldable pub greatest_in_indexes : List IndexFiles → ℕ
greatest_in_indexes [] = 0
greatest_in_indexes (x ∷ xs) = max (max x.birth (max x.horizon (last_cell x.cells))) (greatest_in_indexes xs)

-- the table's horizon is the greatest of the manifests'
abbrev pub folder_high : TableFiles → ℕ
folder_high n = max n.horizon (greatest_horizon n.indexes)

-- its last stamp is the greatest of the cells', the manifests' and the births
abbrev pub folder_last : TableFiles → ℕ
folder_last n = max (max n.horizon (last_cell n.cells)) (greatest_in_indexes n.indexes)

-- 3. The base

-- a cell at the key has the stamp
unfoldable pub key_has_stamp : List ℕ → ℕ → List CellData → Bool
key_has_stamp k s [] = false
key_has_stamp k s (c ∷ cells) = (pointwise nat_eq c.key k && nat_eq c.stamp s) || key_has_stamp k s cells

-- a row changes at the stamps of its cells above the data horizon
abbrev pub folder_changed : DataForm → TableFiles → List Value → ℕ → Bool
folder_changed f n r s = nat_lt n.horizon s && key_has_stamp (f.key_of r) s n.cells

-- its state is what the cells spell, from the data horizon on
abbrev pub folder_state : DataForm → TableFiles → List Value → ℕ → RowState
folder_state f n r p = f.spelled (value_at n.cells) r (max n.horizon p)

-- what the base of a run that opens the folder says of the table
pub record IsFolderBase (b : Base) (t : ℕ) (f : DataForm) (n : TableFiles) : Type 0 where
  pub shape : shape_of b [] t ≡ f.shape
  pub last : b.last t ≡ folder_last n
  pub horizon : b.horizon t ≡ folder_high n
  pub changed : b.changed t ≡ folder_changed f n
  pub state : b.state t ≡ folder_state f n

-- 4. The folder of a running table, and the table that is opened from it

-- the files tell of this index: the same is read of them, and the numbers are the same
pub record IsFilesOf (x : IndexPart) (y : IndexFiles) : Type 0 where
  pub id : x.id ≡ y.id
  pub cells : value_at x.cells ≡ value_at y.cells
  pub birth : x.birth ≡ y.birth
  pub horizon : x.horizon ≡ y.horizon
  pub built : x.is_built ≡ true

-- the folder of a table after these entries
pub record IsFolderOf (f : TableForm) (es : List Entry) (v : GroupData) (n : TableFiles) : Type 0 where
  pub horizon : n.horizon ≡ v.low
  pub cells : value_at n.cells ≡ value_at v.cells
  -- each index that is recorded as active is one of the table's
  pub active : (i : ℕ) → i < length n.indexes → (get_or n.indexes i no_files).is_active ≡ true → (j : ℕ) × ((j < length v.indexes) × IsFilesOf (get_or v.indexes j no_part) (get_or n.indexes i no_files))
  -- no manifest has a horizon above the table's
  pub below : (i : ℕ) → i < length n.indexes → (get_or n.indexes i no_files).horizon ≤ v.high
  -- nor has an index that isn't active a birth or a cell above the last stamp
  pub others : (i : ℕ) → i < length n.indexes → (get_or n.indexes i no_files).is_active ≡ false → ((get_or n.indexes i no_files).birth ≤ last_of f.base f.id.0 es) × (last_cell (get_or n.indexes i no_files).cells ≤ last_of f.base f.id.0 es)

-- the table that is opened from a folder: of each active index its region, and no open batch
pub record IsOpened (n : TableFiles) (u : GroupData) : Type 0 where
  pub high : u.high ≡ folder_high n
  pub low : u.low ≡ n.horizon
  pub opens : u.opens ≡ []
  pub cells : value_at u.cells ≡ value_at n.cells
  pub each : (j : ℕ) → j < length u.indexes → (i : ℕ) × ((i < length n.indexes) × (((get_or n.indexes i no_files).is_active ≡ true) × IsFilesOf (get_or u.indexes j no_part) (get_or n.indexes i no_files)))
  pub all : (i : ℕ) → i < length n.indexes → (get_or n.indexes i no_files).is_active ≡ true → (j : ℕ) × ((j < length u.indexes) × IsFilesOf (get_or u.indexes j no_part) (get_or n.indexes i no_files))

-- the files of an index, and of a table
abbrev pub files_at : IndexPart → IndexFiles
files_at x = record { id = x.id; cells = x.cells; birth = x.birth; horizon = x.horizon; is_active = x.is_built }

abbrev pub files_of_group : GroupData → TableFiles
files_of_group v = record { cells = v.cells; horizon = v.low; indexes = map files_at v.indexes }
