-- The lists that are read.
use Rattle.std.specs.Prelude.{◌≡◌, List, [], ◌∷◌}
use Rattle.px_outside.specs.declared.disk.Disk.{Ghosts}
use Rattle.px_cells.specs.CellData.{CellData}
use Rattle.px_file.specs.Files.{HasBlocks}
use Rattle.px_file.specs.Format.{cells_in}
use Rattle.px_keyfilter.specs.Keys.{HasAll}
use Rattle.px_merge.specs.Merged.{joined}
use Rattle.px_merge.specs.Settle.{settle}
use Rattle.px_reads.specs.declared.file.ReadFile.{ReadFile}
use Rattle.px_reads.specs.declared.parts.Parts.{Parts}

-- a file has this list on the disk, and the filter has the keys of all its cells
pub record HasList {D : Type 0} (d : Ghosts D) (read : ReadFile) (disk : D) (list : List CellData) : Type 0 where
  pub blocks : List (List CellData)
  pub has : HasBlocks d read.file disk blocks
  pub list_is : list ≡ cells_in blocks
  pub keys : HasAll read.keys list

-- each file has its list
abbrev pub HaveLists : {D : Type 0} → Ghosts D → List ReadFile → D → List (List CellData) → Type 0
HaveLists d [] disk [] = Unit {0}
HaveLists d [] disk (l ∷ lists) = ⊥
HaveLists d (f ∷ files) disk [] = ⊥
HaveLists d (f ∷ files) disk (l ∷ lists) = HasList d f disk l × HaveLists d files disk lists

-- the list of all: what was written later hides the rest
abbrev pub all_cells : Parts → List (List CellData) → List CellData
all_cells parts lists = settle (joined (parts.store.now.cells ∷ parts.older.now.cells ∷ lists))
