-- What leaves a file as it is, and what a stop leaves of it.
use Rattle.std.proofs.Common.{◌≡◌, ◌≢◌, List, refl, ap, ◌∙◌}
use Rattle.std.specs.Prelude.{IsTrue}
use Rattle.px_outside.specs.Disk.{Image}
use Rattle.px_outside.specs.OnDisk.{IsLeft, Stays, TouchesOnly}
use Rattle.px_outside.specs.declared.disk.Disk.{Ghosts}
use Rattle.px_outside.proofs.Moments.{only_kept, only_stays}
use Rattle.px_cells.specs.CellData.{CellData}
use Rattle.px_file.specs.Files.{HasBlocks}
use Rattle.px_file.specs.Format.{FileStands, cells_in, greatest_stamp_in}
use Rattle.px_file.specs.declared.region_file.RegionFile.{RegionFile}

module _ {D : Type 0} (d : Ghosts D) where
  pub kept_apart : (old new : D) (file : RegionFile) (blocks : List (List CellData)) → TouchesOnly d old new (λ touched. touched ≢ file.file) → HasBlocks d file old blocks → HasBlocks d file new blocks
  kept_apart old new file blocks touches has = record {
    right = has.right;
    index = has.index;
    seen = λ tells. touches.sees file.file (λ other. other refl) ∙ has.seen tells;
    only = only_kept d.calls d.left d.seen old new (λ touched. touched ≢ file.file) file.file touches (λ other. other refl) has.only;
  }

  pub kept_quiet : (old new : D) (file : RegionFile) (blocks : List (List CellData)) → Stays d old new → d.seen new ≡ d.seen old → HasBlocks d file old blocks → HasBlocks d file new blocks
  kept_quiet old new file blocks stays same has = record {
    right = has.right;
    index = has.index;
    seen = λ tells. ap (λ (f : Image). f file.file) same ∙ has.seen tells;
    only = only_stays d.calls d.left d.seen old new file.file stays same has.only;
  }

  pub left_stands : (disk : D) (image : Image) (file : RegionFile) (blocks : List (List CellData)) → IsTrue d.tells → IsLeft d disk (d.calls disk) image → HasBlocks d file disk blocks
      → FileStands (image file.file) (cells_in blocks) (greatest_stamp_in (cells_in blocks))
  left_stands disk image file blocks tells left has = record {
    blocks = blocks;
    right = has.right;
    spelled = has.only (image file.file) (left file.file) ∙ has.seen tells;
    cells_are = refl;
    stamp_is = refl;
  }
