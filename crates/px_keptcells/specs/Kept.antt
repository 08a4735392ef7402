-- Cells that are kept row by row.
use Rattle.std.specs.Prelude.{◌≡◌, Bool, cond, List, [], ◌∷◌, ◌++◌}
use Rattle.px_cells.specs.CellData.{CellData}
use Rattle.px_cells.specs.Among.{Has}
use Rattle.px_cells.specs.Order.{GoesWith}
use Rattle.px_cellbytes.specs.Reading.{IsBare, IsInRange}
use Rattle.px_cellbytes.specs.Spelling.{IsShortEnough}

-- the cells of the rows, one row after another
abbrev pub laid : List (List CellData) → List CellData
laid [] = []
laid (cells ∷ parts) = cells ++ laid parts

-- the parts but those whose place is marked
abbrev pub but : List Bool → List (List CellData) → List (List CellData)
but [] parts = parts
but (v ∷ vs) [] = []
but (v ∷ vs) (cells ∷ parts) = cond v (but vs parts) (cells ∷ but vs parts)

-- a cell that a log takes, but for its place among others
pub record IsFitting (c : CellData) : Type 0 where
  pub placed : GoesWith c
  pub bare : IsBare c
  pub short : IsShortEnough c
  pub ranged : IsInRange c

-- no cell of these has the key of one of those
pub record HaveOtherKeys (cells others : List CellData) : Type 0 where
  pub each : (c d : CellData) → Has cells c → Has others d → c.key ≡ d.key → ⊥
