-- What stands at each place of a list of cells.
--
-- A region is told by the value that is read at each place: flushing, merging and the order of arrival don't change it.
use Rattle.std.specs.Prelude.{ℕ, Bool, cond, ◌&&◌, List, [], ◌∷◌, Option, Some, None, nat_eq}
use Rattle.std.specs.Cmp.Lexicographic.{pointwise}
use Rattle.px_cells.specs.declared.kind.CellKind.{CellKind}
use Rattle.px_cells.specs.Kind.{code_of}
use Rattle.px_cells.specs.CellData.{CellData}

-- the value at a key, a qualifier, a stamp and a kind
abbrev pub Contents : Type 0
Contents = List ℕ → ℕ → ℕ → CellKind → Option (List ℕ)

-- the cell of a place
abbrev pub cell_of : List ℕ → ℕ → ℕ → CellKind → List ℕ → CellData
cell_of k q s d v = record { key = k; qualifier = q; stamp = s; kind = d; value = v }

-- the cell stands at this place
abbrev pub stands_at : List ℕ → ℕ → ℕ → CellKind → CellData → Bool
stands_at k q s d c = pointwise nat_eq c.key k && (nat_eq c.qualifier q && (nat_eq c.stamp s && nat_eq (code_of c.kind) (code_of d)))

-- the value that is read at a place, in a list whose later written cells stand first
unfoldable pub value_at : List CellData → Contents
value_at [] k q s d = None
value_at (c ∷ cells) k q s d = cond (stands_at k q s d c) (Some c.value) (value_at cells k q s d)

-- the first, or else the second
abbrev pub or_else : {B : Type 0} → Option B → Option B → Option B
or_else None b = b
or_else (Some a) b = Some a

-- what was written later is read
abbrev pub over_contents : Contents → Contents → Contents
over_contents g f = λ k q s d. or_else (g k q s d) (f k q s d)
