-- The rows of a sorted list of cells.
use Rattle.std.specs.Prelude.{◌+◌, ℕ, zero, suc, Bool, true, not, nat_eq, if◌then◌else◌, List, [], get_or}
use Rattle.std.specs.Cmp.Lexicographic.{pointwise}
use Rattle.px_cells.specs.declared.kind.CellKind.TheVariants.{Put}
use Rattle.px_cells.specs.CellData.{CellData}

-- the key of the cell at a place
abbrev pub key_at : List CellData → ℕ → List ℕ
key_at cells i = (get_or cells i (record { key = []; qualifier = 0; stamp = 0; kind = Put; value = [] })).key

-- a row begins with the cell at a place: it is the first, or the one before it has another key
unfoldable pub begins_row : List CellData → ℕ → Bool
begins_row cells zero = true
begins_row cells (suc i) = not (pointwise nat_eq (key_at cells i) (key_at cells (suc i)))

-- how many rows begin before a place
unfoldable pub rows_before : List CellData → ℕ → ℕ
rows_before cells zero = zero
rows_before cells (suc i) = rows_before cells i + (if begins_row cells i then 1 else 0)
