-- The files of a region that its manifest names.
use Rattle.std.specs.Prelude.{◌≡◌, ◌⊎◌, ℕ, List, [], ◌∷◌, ◌++◌}
use Rattle.px_outside.specs.Disk.{Image}
use Rattle.px_outside.specs.declared.disk.Disk.{Ghosts}
use Rattle.px_cells.specs.CellData.{CellData}
use Rattle.px_file.specs.Files.{HasBlocks}
use Rattle.px_file.specs.Format.{FileStands, cells_in, greatest_stamp_in}
use Rattle.px_file.specs.Reading.{IsFirstWrongInFile}
use Rattle.px_file.specs.declared.region_file.RegionFile.{RegionFile}
use Rattle.px_wal.specs.Files.{file_of}
use Rattle.px_wal.specs.Snapshot.{FileData}

-- it is one of the files that are named
abbrev pub IsNamedFile : ℕ → List FileData → ℕ → Type 0
IsNamedFile region [] file = ⊥
IsNamedFile region (f ∷ named) file = (file ≡ file_of region f.local) ⊎ IsNamedFile region named file

-- the files of an image that are named have these lists
abbrev pub FilesStand : ℕ → Image → List FileData → List (List CellData) → Type 0
FilesStand region image [] [] = Unit {0}
FilesStand region image [] (l ∷ lists) = ⊥
FilesStand region image (f ∷ named) [] = ⊥
FilesStand region image (f ∷ named) (l ∷ lists) = FileStands (image (file_of region f.local)) l (greatest_stamp_in l) × FilesStand region image named lists

-- the disk tells that an open file is this one, and that it has the cells, all of it on the disk
pub record HasFileCells {D : Type 0} (d : Ghosts D) (region : ℕ) (disk : D) (f : FileData) (file : RegionFile) (list : List CellData) : Type 0 where
  pub is : file.file ≡ file_of region f.local
  pub blocks : List (List CellData)
  pub has : HasBlocks d file disk blocks
  pub cells : list ≡ cells_in blocks

-- the open files are those that are named, and have these lists
abbrev pub HaveFiles : {D : Type 0} → Ghosts D → ℕ → D → List FileData → List RegionFile → List (List CellData) → Type 0
HaveFiles d region disk [] [] [] = Unit {0}
HaveFiles d region disk [] [] (l ∷ lists) = ⊥
HaveFiles d region disk [] (o ∷ files) lists = ⊥
HaveFiles d region disk (f ∷ named) [] lists = ⊥
HaveFiles d region disk (f ∷ named) (o ∷ files) [] = ⊥
HaveFiles d region disk (f ∷ named) (o ∷ files) (l ∷ lists) = HasFileCells d region disk f o l × HaveFiles d region disk named files lists

-- the place is the first that isn't of the format, in the first of the named files that has one
pub record IsFirstBad (region : ℕ) (image : Image) (named : List FileData) (file place : ℕ) : Type 0 where
  pub before : List FileData
  pub lists : List (List CellData)
  pub bad : FileData
  pub rest : List FileData
  pub cut : named ≡ before ++ bad ∷ rest
  pub right : FilesStand region image before lists
  pub file_is : file ≡ file_of region bad.local
  pub wrong : IsFirstWrongInFile (image file) place
