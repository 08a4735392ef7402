-- The first rows of a list.
use Rattle.std.specs.Prelude.{◌≡◌, ◌≤◌, ◌⊎◌, ℕ, true, List, length, take}
use Rattle.px_cells.specs.CellData.{CellData}
use Rattle.px_sources.specs.Giving.{begins_row}

-- They are its first cells: all, or those before a row, and then they are of so many rows as are wanted.
pub record AreFrontRows (all : List CellData) (most : ℕ) (cells : List CellData) (rows : ℕ) : Type 0 where
  pub within : length cells ≤ length all
  pub front : cells ≡ take (length cells) all
  pub few : rows ≤ most
  pub ended : (length cells ≡ length all) ⊎ ((begins_row all (length cells) ≡ true) × (most ≤ rows))
