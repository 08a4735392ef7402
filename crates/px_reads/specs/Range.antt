-- Ranges of keys.
use Rattle.std.specs.Prelude.{◌≢◌, ◌++◌, ℕ, List, [], ◌∷◌, Option}
use Rattle.std.specs.declared.cmp.Ordering.TheVariants.{Less}
use Rattle.std.specs.List.{AllByRecursion}
use Rattle.px_cells.specs.CellData.{CellData}
use Rattle.px_cells.specs.Order.{key_cmp}
use Rattle.px_cells.specs.Rows.{IsBeforeEnd}

-- a key is at or above one, and below the end, where there is one
abbrev pub IsWithin : (low : List ℕ) → Option (List ℕ) → List ℕ → Type 0
IsWithin low high key = (key_cmp key low ≢ Less) × IsBeforeEnd key high

-- those of all cells are
abbrev pub AllWithin : (low : List ℕ) → Option (List ℕ) → List CellData → Type 0
AllWithin low high cells = AllByRecursion (λ (c : CellData). IsWithin low high c.key) cells

-- the first key behind one
abbrev pub next_key : List ℕ → List ℕ
next_key key = key ++ 0 ∷ []
