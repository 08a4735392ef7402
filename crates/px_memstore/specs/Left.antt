-- What is left of cells when some of them go.
use Rattle.std.specs.Prelude.{ℕ, Bool, false, List, [], ◌∷◌, ◌||◌, nat_lt}
use Rattle.std.specs.List.{filter}
use Rattle.std.specs.Ordering.{is_eq}
use Rattle.px_cells.specs.CellData.{CellData}
use Rattle.px_cells.specs.Order.{cell_cmp}

-- whether one of some cells has the place of another cell
abbrev pub has_place : List CellData → CellData → Bool
has_place [] c = false
has_place (k ∷ kept) c = is_eq (cell_cmp k c) || has_place kept c

-- whether a cell stays: it is above a horizon, or one of those that are kept has its place
abbrev pub cell_stays : List CellData → ℕ → CellData → Bool
cell_stays kept horizon c = nat_lt horizon c.stamp || has_place kept c

-- what is left of cells: those that stay, in their order
abbrev pub left : List CellData → ℕ → List CellData → List CellData
left kept horizon cells = filter (cell_stays kept horizon) cells
