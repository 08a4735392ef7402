-- The first rows of a sorted list.
use Rattle.std.specs.Prelude.{◌≡◌, ◌≢◌, ◌≤◌, ◌<◌, ◌-◌, ◌⊎◌, ℕ, true, List, Option, Some, length, min, take}
use Rattle.px_cells.specs.CellData.{CellData}
use Rattle.px_cells.specs.Rows.{AreRows}
use Rattle.px_region.specs.Giving.{begins_row, key_at, rows_before}
use Rattle.px_looks.specs.Keys.{IsBetweenKeys, next_key}

-- the first n cells are so many rows, at most as many as are wanted: all of them, or as many as are wanted, and then another row begins
pub record AreFirst (all : List CellData) (most rows : ℕ) (first : List CellData) : Type 0 where
  pub count : ℕ
  pub within : count ≤ length all
  pub are : first ≡ take count all
  pub counted : rows ≡ rows_before all count
  pub few : rows ≤ most
  pub ended : (count ≡ length all) ⊎ ((count < length all) × (begins_row all count ≡ true) × (rows ≡ most))

-- the cells from a place on have one key up to another place, and not there
pub record IsRowEnd (cells : List CellData) (at end : ℕ) (key : List ℕ) : Type 0 where
  pub on : at < end
  pub within : end ≤ length cells
  pub one : (j : ℕ) → at ≤ j → j < end → key_at cells j ≡ key
  pub other : end < length cells → key_at cells end ≢ key

-- what is lent where so many rows are wanted
pub record IsTaken (cells : List CellData) (low : List ℕ) (high : Option (List ℕ)) (most rows : ℕ) (got : List CellData) : Type 0 where
  pub counted : rows ≡ min (rows_before got (length got)) 18446744073709551615
  pub few : rows_before got (length got) ≤ most
  pub all : rows < most → AreRows cells low high got
  pub part : 0 < length got → AreRows cells low (Some (next_key (key_at got (length got - 1)))) got
  pub within : 0 < length got → IsBetweenKeys low high (key_at got (length got - 1))
