-- What contracts see of what a flush writes.
use Rattle.std.specs.Prelude.{ℕ, List}
use Rattle.px_cells.specs.CellData.{CellData}

-- cells, the number of the last of their batches, and how many cells and bytes these have
pub record FrozenData : Type 0 where
  pub cells : List CellData
  pub upto : ℕ
  pub count : ℕ
  pub bytes : ℕ
