-- The stamps of cells.
use Rattle.std.specs.Prelude.{◌≡◌, ℕ, Bool, nat_eq, List, Some}
use Rattle.std.specs.List.{list_any}
use Rattle.px_cells.specs.declared.kind.CellKind.{CellKind}
use Rattle.px_cells.specs.CellData.{CellData}
use Rattle.px_cells.specs.Contents.{Contents}

-- one of the cells has the stamp
abbrev pub has_stamp : ℕ → List CellData → Bool
has_stamp s cells = list_any (λ c. nat_eq c.stamp s) cells

-- a cell of the stamp stands at the key
pub record HasCellOf (g : Contents) (k : List ℕ) (s : ℕ) : Type 0 where
  pub qualifier : ℕ
  pub kind : CellKind
  pub value : List ℕ
  pub is : g k qualifier s kind ≡ Some value
