-- The greatest numbers that were found.
use Rattle.std.specs.Prelude.{◌≡◌, ℕ, max}
use Rattle.px_tablefolder.specs.Folder.{IndexFiles, last_cell}
use Rattle.px_opening.specs.declared.heights.Heights.{Heights}

-- the greatest number of an index
abbrev pub greatest_in_index : IndexFiles → ℕ
greatest_in_index y = max y.birth (max y.horizon (last_cell y.cells))

-- with the numbers of an index
pub record IsRaised (h : Heights) (y : IndexFiles) (new : Heights) : Type 0 where
  pub last : new.last ≡ max h.last (greatest_in_index y)
  pub horizon : new.horizon ≡ max h.horizon y.horizon
