-- What a point sees of a row and a column, by stamps.
use Rattle.std.specs.Prelude.{◌≡◌, ℕ, Bool, not, ◌&&◌, ◌||◌, List, Option, is_some}
use Rattle.px_cells.specs.declared.kind.CellKind.TheVariants.{Put, Delete, DeleteFamilyVersion, DeleteColumn, DeleteFamily}
use Rattle.px_cells.specs.CellData.{CellData}
use Rattle.px_cells.specs.Order.{Reads, GoesWith}
use Rattle.px_cells.specs.Newest.{newest}
use Rattle.px_cells.specs.Contents.{Contents}

-- nothing at or below the stamp is seen of the column from above
abbrev pub stops_at : Contents → List ℕ → ℕ → ℕ → Bool
stops_at f k q s = is_some (f k 0 s DeleteFamily) || (is_some (f k q s DeleteColumn) && not (is_some (f k 0 s DeleteFamilyVersion)))

-- the column has a put of the stamp that isn't taken away
abbrev pub puts_at : Contents → List ℕ → ℕ → ℕ → Bool
puts_at f k q s = is_some (f k q s Put) && not (is_some (f k 0 s DeleteFamilyVersion))

-- the stamp of the put that is seen
abbrev pub seen_at : Contents → List ℕ → ℕ → ℕ → Option ℕ
seen_at f k q x = newest (stops_at f k q) (puts_at f k q) x

-- the cells have no Delete, and each kind stands at a qualifier of its own
pub record IsPlainRegion (cells : List CellData) : Type 0 where
  pub placed : (c : CellData) → Reads cells c → GoesWith c
  pub no_delete : (c : CellData) → Reads cells c → c.kind ≡ Delete → ⊥
