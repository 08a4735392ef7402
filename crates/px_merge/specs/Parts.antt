-- The cells of some rows, of one list and of several.
use Rattle.std.specs.Prelude.{ℕ, List, ◌↔◌}
use Rattle.px_cells.specs.CellData.{CellData}
use Rattle.px_cells.specs.Order.{Reads}

-- what is read of a part is what is read of the whole, of the rows with these keys
abbrev pub ReadsPart : (List ℕ → Type 0) → (cells part : List CellData) → Type 0
ReadsPart keys cells part = (c : CellData) → Reads part c ↔ (Reads cells c × keys c.key)
