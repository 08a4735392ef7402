-- The cells of an index row, as lists, for every form of an index.
use Rattle.std.specs.Prelude.{ℕ, zero, suc, cond, nat_eq, nat_lt, List, [], ◌∷◌, ◌++◌, Option, Some, None}
use Rattle.std.specs.Cmp.Lexicographic.{pointwise}
use Rattle.px_cells.specs.declared.kind.CellKind.TheVariants.{Put, DeleteFamilyVersion, DeleteColumn, DeleteFamily}
use Rattle.px_cells.specs.CellData.{CellData}
use Rattle.px_values.specs.declared.row.Value.{Value}
use Rattle.px_values.specs.States.{RowState}
use Rattle.px_world.specs.Events.{Verdict, Leave, ToVerify, ToRetire, ToErase}
use Rattle.px_forms.specs.Indexes.{IndexForm}

-- 1. Cells

-- the status of a version: 1 is verified, 2 isn't
abbrev pub status_cell : List ℕ → ℕ → ℕ → CellData
status_cell k s byte = record { key = k; qualifier = 1; stamp = s; kind = Put; value = byte ∷ [] }

-- an included value, and a DeleteColumn for NULL
abbrev pub column_cell : List ℕ → ℕ → ℕ → Option (List ℕ) → CellData
column_cell k s q None = record { key = k; qualifier = q; stamp = s; kind = DeleteColumn; value = [] }
column_cell k s q (Some v) = record { key = k; qualifier = q; stamp = s; kind = Put; value = v }

abbrev pub family_cell : List ℕ → ℕ → CellData
family_cell k s = record { key = k; qualifier = 0; stamp = s; kind = DeleteFamily; value = [] }

abbrev pub erase_cell : List ℕ → ℕ → CellData
erase_cell k s = record { key = k; qualifier = 0; stamp = s; kind = DeleteFamilyVersion; value = [] }

-- 2. Versions

-- a cell for each of the first included columns
unfoldable pub column_cells : IndexForm → List ℕ → ℕ → RowState → ℕ → List CellData
column_cells f k s state zero = []
column_cells f k s state (suc c) = column_cell k s (f.place c) (f.col state c) ∷ column_cells f k s state c

-- a version: its status and a cell for each included column
abbrev pub version_cells : IndexForm → List ℕ → ℕ → ℕ → RowState → List CellData
version_cells f k s byte state = status_cell k s byte ∷ column_cells f k s state f.columns

abbrev pub version_if : IndexForm → ℕ → ℕ → RowState → Option (List ℕ) → List CellData
version_if f s byte state None = []
version_if f s byte state (Some k) = version_cells f k s byte state

-- 3. What a change writes

-- the old key, where the row has left it
abbrev pub left_key : Option (List ℕ) → Option (List ℕ) → Option (List ℕ)
left_key None new = None
left_key (Some k) None = Some k
left_key (Some k) (Some k') = cond (pointwise nat_eq k k') None (Some k)

abbrev pub status_if : ℕ → ℕ → Option (List ℕ) → List CellData
status_if s byte None = []
status_if s byte (Some k) = status_cell k s byte ∷ []

abbrev pub family_if : ℕ → Option (List ℕ) → List CellData
family_if s None = []
family_if s (Some k) = family_cell k s ∷ []

-- the marks of a row: a version at its new key, the status alone at an old key that it leaves
abbrev pub marks_of : IndexForm → List Value → ℕ → RowState → RowState → List CellData
marks_of f r s old new = version_if f s 2 new (f.key_of r new) ++ status_if s 2 (left_key (f.key_of r old) (f.key_of r new))

-- what closes the marks of a row: the new key's version is verified, the old key is retired
abbrev pub closes_of : IndexForm → List Value → ℕ → RowState → RowState → List CellData
closes_of f r s old new = status_if s 1 (f.key_of r new) ++ family_if s (left_key (f.key_of r old) (f.key_of r new))

-- 4. Builds and repairs

-- the base version of a row
abbrev pub base_version : IndexForm → List Value → ℕ → RowState → List CellData
base_version f r s state = version_if f s 1 state (f.key_of r state)

-- what a repair of a version writes; h is the horizon, and the state is the row's there
abbrev pub fix_of : IndexForm → ℕ → RowState → List ℕ → ℕ → Verdict → List CellData
fix_of f h state k t Leave = []
fix_of f h state k t ToVerify = status_cell k t 1 ∷ cond (nat_lt h t) [] (column_cells f k t state f.columns)
fix_of f h state k t ToRetire = family_cell k t ∷ []
fix_of f h state k t ToErase = erase_cell k t ∷ []
