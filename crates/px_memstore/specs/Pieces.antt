-- A sorted list in pieces of whole rows.
use Rattle.std.specs.Prelude.{◌≡◌, ◌<◌, ◌++◌, ℕ, Bool, true, false, List, [], ◌∷◌, Option, length}
use Rattle.std.specs.declared.cmp.Ordering.TheVariants.{Less}
use Rattle.px_cells.specs.CellData.{CellData}
use Rattle.px_cells.specs.Among.{Has}
use Rattle.px_cells.specs.Order.{IsAscending, key_cmp}
use Rattle.px_cells.specs.Rows.{AreRows}

-- the pieces one behind the other
abbrev pub chained : List (List CellData) → List CellData
chained [] = []
chained (p ∷ ps) = p ++ chained ps

-- each key of the first cells is below each of the others
abbrev pub KeysApart : List CellData → List CellData → Type 0
KeysApart xs ys = (m n : CellData) → Has xs m → Has ys n → key_cmp m.key n.key ≡ Less

-- each piece is sorted, and its keys are below those of all that follow: no row is in two of them
abbrev pub ArePiecesApart : List (List CellData) → Type 0
ArePiecesApart [] = Unit {0}
ArePiecesApart (p ∷ ps) = IsAscending p × KeysApart p (chained ps) × ArePiecesApart ps

-- the first rows of a range, and whether they are all; where they aren't there is one
pub record AreFirstRows (cells : List CellData) (low : List ℕ) (high : Option (List ℕ)) (first : List CellData) (is_all : Bool) : Type 0 where
  pub others : List CellData
  pub rows : AreRows cells low high (first ++ others)
  pub apart : KeysApart first others
  pub all : is_all ≡ true → others ≡ []
  pub some : is_all ≡ false → 0 < length first
