-- A cell by itself.
use Rattle.px_cells.specs.CellData.{CellData}
use Rattle.px_cellbytes.specs.Reading.{IsBare, IsInRange}
use Rattle.px_cellbytes.specs.Spelling.{IsShortEnough}

-- a marker has no value, and key and value are short enough
pub record IsFit (c : CellData) : Type 0 where
  pub bare : IsBare c
  pub short : IsShortEnough c

-- the same, and its numbers fit their fields
pub record IsWhole (c : CellData) : Type 0 where
  pub fit : IsFit c
  pub ranged : IsInRange c
