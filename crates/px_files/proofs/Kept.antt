-- What leaves files as they are, and what a stop leaves of them.
use Rattle.std.proofs.Common.{◌≡◌, ◌≢◌, ℕ, List, [], ◌∷◌, ◌++◌, refl, sym, ap, subst, ◌∙◌, inl, inr}
use Rattle.std.specs.Prelude.{IsTrue}
use Rattle.px_outside.specs.Disk.{Image}
use Rattle.px_outside.specs.OnDisk.{Stays, TouchesOnly}
use Rattle.px_outside.specs.Standing.{StandsIn}
use Rattle.px_outside.specs.declared.disk.Disk.{Ghosts}
use Rattle.px_outside.proofs.Moments.{touches_more}
use Rattle.px_cells.specs.CellData.{CellData}
use Rattle.px_file.specs.Files.{HasBlocks}
use Rattle.px_file.specs.Format.{FileStands, cells_in, greatest_stamp_in}
use Rattle.px_file.specs.declared.region_file.RegionFile.{RegionFile}
use Rattle.px_file.proofs.Kept as file
use Rattle.px_wal.specs.Files.{file_of}
use Rattle.px_wal.specs.Snapshot.{FileData}
use Rattle.px_files.specs.Files.{FilesStand, HasFileCells, HaveFiles, IsNamedFile}

module _ {D : Type 0} (d : Ghosts D) (region : ℕ) where
  file_apart : (old new : D) (f : FileData) (o : RegionFile) (l : List CellData) (touched : ℕ → Type 0) → TouchesOnly d old new touched → (touched (file_of region f.local) → ⊥) → HasFileCells d region old f o l → HasFileCells d region new f o l
  file_apart old new f o l touched touches apart has = record {
    is = has.is;
    blocks = has.blocks;
    has = file.kept_apart d old new o has.blocks (touches_more d.calls d.left d.seen old new touched (λ t. t ≢ o.file) (λ t own same. apart (subst touched (same ∙ has.is) own)) touches) has.has;
    cells = has.cells;
  }

  file_quiet : (old new : D) (f : FileData) (o : RegionFile) (l : List CellData) → Stays d old new → d.seen new ≡ d.seen old → HasFileCells d region old f o l → HasFileCells d region new f o l
  file_quiet old new f o l stays same has = record { is = has.is; blocks = has.blocks; has = file.kept_quiet d old new o has.blocks stays same has.has; cells = has.cells }

  pub have_apart : (old new : D) (named : List FileData) (files : List RegionFile) (lists : List (List CellData)) (touched : ℕ → Type 0) → TouchesOnly d old new touched → ((file : ℕ) → IsNamedFile region named file → touched file → ⊥)
      → HaveFiles d region old named files lists → HaveFiles d region new named files lists
  have_apart old new [] [] [] touched touches apart have = tt
  have_apart old new [] [] (l ∷ lists) touched touches apart have = absurd have
  have_apart old new [] (o ∷ files) lists touched touches apart have = absurd have
  have_apart old new (f ∷ named) [] lists touched touches apart have = absurd have
  have_apart old new (f ∷ named) (o ∷ files) [] touched touches apart have = absurd have
  have_apart old new (f ∷ named) (o ∷ files) (l ∷ lists) touched touches apart have =
      (file_apart old new f o l touched touches (apart (file_of region f.local) (inl refl)) have.0, have_apart old new named files lists touched touches (λ t own. apart t (inr own)) have.1)

  pub have_quiet : (old new : D) (named : List FileData) (files : List RegionFile) (lists : List (List CellData)) → Stays d old new → d.seen new ≡ d.seen old → HaveFiles d region old named files lists → HaveFiles d region new named files lists
  have_quiet old new [] [] [] stays same have = tt
  have_quiet old new [] [] (l ∷ lists) stays same have = absurd have
  have_quiet old new [] (o ∷ files) lists stays same have = absurd have
  have_quiet old new (f ∷ named) [] lists stays same have = absurd have
  have_quiet old new (f ∷ named) (o ∷ files) [] stays same have = absurd have
  have_quiet old new (f ∷ named) (o ∷ files) (l ∷ lists) stays same have = (file_quiet old new f o l stays same have.0, have_quiet old new named files lists stays same have.1)

  -- ---- what they stand for

  bytes_stand : (disk : D) (f : FileData) (o : RegionFile) (l : List CellData) (bytes : List ℕ) → IsTrue d.tells → HasFileCells d region disk f o l → bytes ≡ d.seen disk o.file → FileStands bytes l (greatest_stamp_in l)
  bytes_stand disk f o l bytes tells has is = record { blocks = has.blocks; right = has.has.right; spelled = is ∙ has.has.seen tells; cells_are = has.cells; stamp_is = refl }

  stand_by : (disk : D) (image : Image) (named : List FileData) (files : List RegionFile) (lists : List (List CellData)) → IsTrue d.tells → ((file : ℕ) → IsNamedFile region named file → d.left disk (d.calls disk) file (image file))
      → HaveFiles d region disk named files lists → FilesStand region image named lists
  stand_by disk image [] [] [] tells left have = tt
  stand_by disk image [] [] (l ∷ lists) tells left have = absurd have
  stand_by disk image [] (o ∷ files) lists tells left have = absurd have
  stand_by disk image (f ∷ named) [] lists tells left have = absurd have
  stand_by disk image (f ∷ named) (o ∷ files) [] tells left have = absurd have
  stand_by disk image (f ∷ named) (o ∷ files) (l ∷ lists) tells left have = (
    bytes_stand disk f o l (image (file_of region f.local)) tells have.0
        (have.0.has.only (image (file_of region f.local)) (subst (λ (n : ℕ). d.left disk (d.calls disk) n (image (file_of region f.local))) (sym have.0.is) (left (file_of region f.local) (inl refl)))),
    stand_by disk image named files lists tells (λ t own. left t (inr own)) have.1,
  )

  pub have_stand : (disk : D) (named : List FileData) (files : List RegionFile) (lists : List (List CellData)) → IsTrue d.tells → HaveFiles d region disk named files lists → StandsIn d disk (IsNamedFile region named) (λ image. FilesStand region image named lists)
  have_stand disk named files lists tells have = record { each = λ image left. stand_by disk image named files lists tells left have }

  -- what is read of them stands for it too
  pub seen_stand : (disk : D) (named : List FileData) (files : List RegionFile) (lists : List (List CellData)) → IsTrue d.tells → HaveFiles d region disk named files lists → FilesStand region (d.seen disk) named lists
  seen_stand disk [] [] [] tells have = tt
  seen_stand disk [] [] (l ∷ lists) tells have = absurd have
  seen_stand disk [] (o ∷ files) lists tells have = absurd have
  seen_stand disk (f ∷ named) [] lists tells have = absurd have
  seen_stand disk (f ∷ named) (o ∷ files) [] tells have = absurd have
  seen_stand disk (f ∷ named) (o ∷ files) (l ∷ lists) tells have =
      (bytes_stand disk f o l (d.seen disk (file_of region f.local)) tells have.0 (ap (d.seen disk) (sym have.0.is)), seen_stand disk named files lists tells have.1)

  -- ---- one file more

  pub have_more : (disk : D) (named : List FileData) (files : List RegionFile) (lists : List (List CellData)) (f : FileData) (o : RegionFile) (l : List CellData) → HaveFiles d region disk named files lists → HasFileCells d region disk f o l
      → HaveFiles d region disk (named ++ f ∷ []) (files ++ o ∷ []) (lists ++ l ∷ [])
  have_more disk [] [] [] f o l have has = (has, tt)
  have_more disk [] [] (y ∷ lists) f o l have has = absurd have
  have_more disk [] (x ∷ files) lists f o l have has = absurd have
  have_more disk (g ∷ named) [] lists f o l have has = absurd have
  have_more disk (g ∷ named) (x ∷ files) [] f o l have has = absurd have
  have_more disk (g ∷ named) (x ∷ files) (y ∷ lists) f o l have has = (have.0, have_more disk named files lists f o l have.1 has)
