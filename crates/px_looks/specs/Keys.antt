-- Ranges of row keys.
use Rattle.std.specs.Prelude.{◌≢◌, ℕ, List, [], ◌∷◌, ◌++◌, Option}
use Rattle.std.specs.declared.cmp.Ordering.TheVariants.{Less}
use Rattle.px_cells.specs.Order.{key_cmp}
use Rattle.px_cells.specs.Rows.{IsBeforeEnd}

-- the least key above a key
abbrev pub next_key : List ℕ → List ℕ
next_key k = k ++ 0 ∷ []

-- the key is one from `low` on and, if it is given, below `high`
abbrev pub IsBetweenKeys : List ℕ → Option (List ℕ) → List ℕ → Type 0
IsBetweenKeys low high k = (key_cmp k low ≢ Less) × IsBeforeEnd k high
