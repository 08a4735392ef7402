-- The sorted list of cells, as a function.
use Rattle.std.specs.Prelude.{List, []}
use Rattle.px_cells.specs.CellData.{CellData}
use Rattle.px_merge.specs.Taking.{merge}

-- the sorted list of what is read of cells, of which the later written stand first
abbrev pub settle : List CellData → List CellData
settle cells = merge cells []
