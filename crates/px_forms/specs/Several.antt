-- The cells of several rows, in the region of one index.
use Rattle.std.specs.Prelude.{◌≡◌, true, List, [], ◌∷◌, ◌++◌}
use Rattle.std.specs.List.{AllByRecursion}
use Rattle.px_cells.specs.CellData.{CellData}
use Rattle.px_values.specs.declared.row.Value.{Value}
use Rattle.px_forms.specs.Indexes.{IndexForm}

-- all keys of the cells are the row's
abbrev pub AreOwned : IndexForm → List Value → List CellData → Type 0
AreOwned f r cells = AllByRecursion (λ c. f.owns r c.key ≡ true) cells

-- the cells of each row, one row after another
unfoldable pub cells_for : (List Value → List CellData) → List (List Value) → List CellData
cells_for m [] = []
cells_for m (r ∷ rows) = m r ++ cells_for m rows
