-- Where the cells of a range of keys stand in a file.
use Rattle.std.specs.Prelude.{◌≡◌, ◌<◌, ℕ, ◌+◌, List, [], take, drop, get_or}
use Rattle.std.specs.declared.cmp.Ordering.TheVariants.{Less}
use Rattle.std.specs.List.{AllByRecursion}
use Rattle.px_cells.specs.CellData.{CellData}
use Rattle.px_cells.specs.Order.{key_cmp}
use Rattle.px_cells.specs.Rows.{AllBelow, AllFrom}
use Rattle.px_file.specs.Format.{cells_in, first_key}

-- a block begins below a key
abbrev pub BeginsBelow : List ℕ → List CellData → Type 0
BeginsBelow key block = key_cmp (first_key block) key ≡ Less

-- so many blocks begin below a key, and no others
pub record AreBelow (blocks : List (List CellData)) (key : List ℕ) (n : ℕ) : Type 0 where
  pub below : AllByRecursion (BeginsBelow key) (take n blocks)
  pub from : AllByRecursion (λ b. BeginsBelow key b → ⊥) (drop n blocks)

-- The first block in which a cell at or above a key may stand, as the first keys tell: all cells before the block are below
-- the key, and none behind it is. It begins below the key, or is the first of all.
pub record IsFirstBlock (blocks : List (List CellData)) (key : List ℕ) (i : ℕ) : Type 0 where
  pub before : AllBelow key (cells_in (take i blocks))
  pub behind : AllFrom key (cells_in (drop (i + 1) blocks))
  pub begins : 0 < i → BeginsBelow key (get_or blocks i [])
