-- The rows of kept cells.
use Rattle.std.specs.Prelude.{◌≡◌, ℕ, List, [], ◌∷◌, drop, length, min, sum, take}
use Rattle.std.specs.List.{AllByRecursion}
use Rattle.px_cells.specs.CellData.{CellData}
use Rattle.px_cells.specs.Order.{IsApart}
use Rattle.px_cellbytes.specs.Spelling.{all_bytes}
use Rattle.px_keptcells.specs.Kept.{IsFitting}
use Rattle.px_keptcells.specs.declared.kept.KeptCells.TheInside.{Inside}

-- a list, cut into parts of so many cells
abbrev pub cut : List ℕ → List CellData → List (List CellData)
cut [] cells = []
cut (n ∷ counts) cells = take n cells ∷ cut counts (drop n cells)

abbrev pub parts_of : Inside → List (List CellData)
parts_of k = cut k.counts.items k.cells.items

-- each cell is one of a row, no two have one place, and their bytes are counted
pub record IsKept (k : Inside) : Type 0 where
  pub counted : sum k.counts.items ≡ length k.cells.items
  pub bytes : k.bytes ≡ min (length (all_bytes k.cells.items)) 18446744073709551615
  pub apart : IsApart k.cells.items
  pub fitting : AllByRecursion IsFitting k.cells.items
