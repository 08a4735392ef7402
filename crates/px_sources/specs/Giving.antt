-- Rows that are given until no further one is wanted.
use Rattle.std.specs.Prelude.{◌≡◌, ◌≤◌, ◌<◌, ◌⊎◌, ◌+◌, ◌++◌, ℕ, zero, suc, Bool, true, false, not, nat_eq, if◌then◌else◌, List, [], length, take, get_or}
use Rattle.std.specs.Cmp.Lexicographic.{pointwise}
use Rattle.px_cells.specs.declared.kind.CellKind.TheVariants.{Put}
use Rattle.px_cells.specs.CellData.{CellData}

-- the key of the cell at a place
abbrev pub key_at : List CellData → ℕ → List ℕ
key_at cells i = (get_or cells i (record { key = []; qualifier = 0; stamp = 0; kind = Put; value = [] })).key

-- a row begins with the cell at a place: it is the first, or the one before it has another key
unfoldable pub begins_row : List CellData → ℕ → Bool
begins_row cells zero = true
begins_row cells (suc i) = not (pointwise nat_eq (key_at cells i) (key_at cells (suc i)))

-- how many rows begin before a place
unfoldable pub rows_before : List CellData → ℕ → ℕ
rows_before cells zero = zero
rows_before cells (suc i) = rows_before cells i + (if begins_row cells i then 1 else 0)

-- Of these cells, the first n are given to one who has taken others before: each row that is given was wanted, and where
-- some cells aren't given, they begin with a row that isn't wanted.
pub record IsGiven (wants : List CellData → Bool) (before cells : List CellData) (n : ℕ) : Type 0 where
  pub within : n ≤ length cells
  pub asked : (i : ℕ) → i < n → begins_row cells i ≡ true → wants (before ++ take i cells) ≡ true
  pub ended : (n ≡ length cells) ⊎ ((n < length cells) × (begins_row cells n ≡ true) × (wants (before ++ take n cells) ≡ false))
