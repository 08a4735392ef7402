-- The cell that was given last, and what stands behind its place.
use Rattle.std.specs.Prelude.{◌≡◌, ◌-◌, ℕ, zero, suc, Bool, true, false, not, nat_eq, List, [], ◌∷◌}
use Rattle.std.specs.Cmp.Lexicographic.{pointwise}
use Rattle.std.specs.declared.cmp.Ordering.{Ordering}
use Rattle.std.specs.declared.cmp.Ordering.TheVariants.{Less, Equal, Greater}
use Rattle.px_cells.specs.CellData.{CellData}
use Rattle.px_cells.specs.Order.{cell_cmp}
use Rattle.px_sources.specs.Giving.{key_at}
use Rattle.px_sources.specs.declared.last.Last.{Last}

-- its place
abbrev pub place_of : Last → CellData
place_of last = record { key = last.key.items; qualifier = last.qualifier; stamp = last.stamp; kind = last.kind; value = [] }

-- a row begins with a cell that comes next
abbrev pub begins_by : Bool → (last key : List ℕ) → Bool
begins_by false last key = true
begins_by true last key = not (pointwise nat_eq last key)

abbrev pub begins_behind : Last → CellData → Bool
begins_behind last c = begins_by last.some last.key.items c.key

-- of these cells so many were given
abbrev pub KnowsRow : Last → List CellData → ℕ → Type 0
KnowsRow last all zero = last.some ≡ false
KnowsRow last all (suc n) = (last.some ≡ true) × (last.key.items ≡ key_at all n)

abbrev pub behind_by : Ordering → CellData → List CellData → List CellData
behind_by Less c cells = c ∷ cells
behind_by Equal c cells = cells
behind_by Greater c cells = c ∷ cells

-- a sorted list that begins at a place or behind it, without the cell at the place
abbrev pub behind : (place : CellData) → List CellData → List CellData
behind place [] = []
behind place (c ∷ cells) = behind_by (cell_cmp place c) c cells
