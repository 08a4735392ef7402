-- What was gathered of files.
use Rattle.std.specs.Prelude.{◌≡◌, ◌-◌, ℕ, List, [], ◌∷◌, map, take, drop, get_or, IsTrue}
use Rattle.px_outside.specs.declared.disk.Disk.{Ghosts}
use Rattle.px_cells.specs.CellData.{CellData}
use Rattle.px_file.specs.Files.{HasBlocks}
use Rattle.px_file.specs.Format.{cells_in}
use Rattle.px_file.specs.declared.region_file.RegionFile.{RegionFile}
use Rattle.px_merge.specs.Merged.{joined}
use Rattle.px_merge.specs.Settle.{settle}
use Rattle.px_loading.specs.declared.gathering.Gathering.{Gathering}

-- the disk tells that each open file has its blocks
abbrev pub HaveBlocks : {D : Type 0} → Ghosts D → D → List RegionFile → List (List (List CellData)) → Type 0
HaveBlocks d disk [] [] = Unit {0}
HaveBlocks d disk [] (b ∷ blocks) = ⊥
HaveBlocks d disk (o ∷ files) [] = ⊥
HaveBlocks d disk (o ∷ files) (b ∷ blocks) = HasBlocks d o disk b × HaveBlocks d disk files blocks

-- nothing was gathered of so many files
pub record IsFresh (count : ℕ) (g : Gathering) : Type 0 where
  pub left : g.left ≡ count
  pub block : g.block ≡ 0
  pub cells : g.cells.items ≡ []
  pub store : g.store.cells ≡ []

-- The older files were gathered whole, and the first blocks of the last one that is left.
pub record HasGathered {D : Type 0} (d : Ghosts D) (g : Gathering) (disk : D) (files : List RegionFile) (blocks : List (List (List CellData))) : Type 0 where
  pub tells : IsTrue d.tells
  pub have : HaveBlocks d disk files blocks
  pub store : g.store.cells ≡ settle (joined (map cells_in (drop g.left blocks)))
  pub cells : g.cells.items ≡ cells_in (take g.block (get_or blocks (g.left - 1) []))
