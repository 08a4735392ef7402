-- The least stamps of the batches that stand in a log above the flushed number.
use Rattle.std.specs.Prelude.{◌≤◌, ◌<◌, ℕ, List}
use Rattle.std.specs.List.{AllByRecursion}
use Rattle.px_cells.specs.CellData.{CellData}
use Rattle.px_wal.specs.Batches.{LogBatch}
use Rattle.px_region.specs.declared.stamps.LeastStamps.{LeastStamps}

-- no cell has a stamp below this
abbrev pub AreStampsFrom : ℕ → List CellData → Type 0
AreStampsFrom least cells = AllByRecursion (λ c. least ≤ c.stamp) cells

-- no cell of the batch has a stamp below the least one of the batches up to a number, or of those behind it
pub record IsFrom (stamps : LeastStamps) (b : LogBatch) : Type 0 where
  pub before : b.number ≤ stamps.upto → AreStampsFrom stamps.before b.cells
  pub behind : stamps.upto < b.number → AreStampsFrom stamps.behind b.cells

-- so it is of each batch
abbrev pub HaveLeast : LeastStamps → List LogBatch → Type 0
HaveLeast stamps batches = AllByRecursion (λ b. IsFrom stamps b) batches

-- a horizon is below both
abbrev pub Allows : LeastStamps → ℕ → Type 0
Allows stamps horizon = (horizon < stamps.before) × (horizon < stamps.behind)
