-- What a point sees of the cells of a key.
use Rattle.std.specs.Prelude.{◌≡◌, ℕ, nat_eq, List, Option, None, Some}
use Rattle.std.specs.List.{find}
use Rattle.px_cells.specs.declared.kind.CellKind.TheVariants.{Put}
use Rattle.px_cells.specs.Among.{Has}
use Rattle.px_cells.specs.CellData.{CellData}
use Rattle.px_looks.specs.Found.{RowContents}
use Rattle.px_looks.specs.Versions.{stamp_seen}

-- these are the puts that a point sees where this stands
pub record AreSeen (h : RowContents) (p : ℕ) (seen : List CellData) : Type 0 where
  pub each : (c : CellData) → Has seen c → (stamp_seen h c.qualifier p ≡ Some c.stamp) × (h c.qualifier c.stamp Put ≡ Some c.value)
  pub whole : (q s : ℕ) → stamp_seen h q p ≡ Some s → (c : CellData) × Has seen c × (c.qualifier ≡ q)

-- the cell of a column
abbrev pub cell_in : List CellData → ℕ → Option CellData
cell_in seen q = find (λ c. nat_eq c.qualifier q) seen

abbrev pub value_if : Option CellData → Option (List ℕ)
value_if None = None
value_if (Some c) = Some c.value

-- the value of a column
abbrev pub value_in : List CellData → ℕ → Option (List ℕ)
value_in seen q = value_if (cell_in seen q)
