-- Where ranges end.
use Rattle.std.specs.Prelude.{◌≡◌, ◌++◌, ℕ, Bool, true, false, if◌then◌else◌, List, [], ◌∷◌, Option, Some, None}
use Rattle.std.specs.Ordering.{is_lt}
use Rattle.px_cells.specs.CellData.{CellData}
use Rattle.px_cells.specs.Order.{key_cmp}
use Rattle.px_reads.specs.Range.{next_key}

-- where a range is that of one row, it has its key alone
abbrev pub IsRangeOf : Option (List ℕ) → (low : List ℕ) → Option (List ℕ) → Type 0
IsRangeOf None low high = Unit {0}
IsRangeOf (Some key) low high = (low ≡ key) × (high ≡ Some (next_key key))

-- the lesser of two ends; none is behind all keys
abbrev pub lesser_end : Option (List ℕ) → Option (List ℕ) → Option (List ℕ)
lesser_end a None = a
lesser_end None (Some y) = Some y
lesser_end (Some x) (Some y) = if is_lt (key_cmp x y) then Some x else Some y

-- first rows end behind their last key, or nowhere if they are all
abbrev pub EndsBehind : List CellData → Bool → Option (List ℕ) → Type 0
EndsBehind cells true end = end ≡ None
EndsBehind cells false end = (front : List CellData) × (last : CellData) × (cells ≡ front ++ last ∷ []) × (end ≡ Some (next_key last.key))
