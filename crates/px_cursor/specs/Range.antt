-- Cells within a range of keys.
use Rattle.std.specs.Prelude.{◌≡◌, ◌&&◌, Bool, true, not, ℕ, List, filter, length, Option, Some, None}
use Rattle.std.specs.Ordering.{is_lt}
use Rattle.px_cells.specs.CellData.{CellData}
use Rattle.px_cells.specs.Order.{key_cmp}
use Rattle.px_file.specs.Ranges.{AreBelow}

-- a key is below the end, where there is one
abbrev pub is_before : List ℕ → Option (List ℕ) → Bool
is_before key None = true
is_before key (Some high) = is_lt (key_cmp key high)

-- a key is at or above one, and below the end
abbrev pub is_within : List ℕ → Option (List ℕ) → List ℕ → Bool
is_within low high key = not (is_lt (key_cmp key low)) && is_before key high

-- the cells whose keys are
abbrev pub cells_within : List ℕ → Option (List ℕ) → List CellData → List CellData
cells_within low high cells = filter (λ c. is_within low high c.key) cells

-- so many blocks begin below the end, and no others; all, where there is none
abbrev pub EndsAt : List (List CellData) → Option (List ℕ) → ℕ → Type 0
EndsAt blocks None n = n ≡ length blocks
EndsAt blocks (Some high) n = AreBelow blocks high n
