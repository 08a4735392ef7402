-- Rows that are apart.
use Rattle.std.specs.Prelude.{◌≡◌, List}
use Rattle.px_cells.specs.CellData.{CellData}
use Rattle.px_cells.specs.Among.{Has}

-- no row has cells in both lists
abbrev pub AreApart : (xs ys : List CellData) → Type 0
AreApart xs ys = (m n : CellData) → Has xs m → Has ys n → m.key ≡ n.key → ⊥
