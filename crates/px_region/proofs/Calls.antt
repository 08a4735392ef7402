-- How many calls of the disk it takes to open a region.
use Rattle.std.proofs.Common.{◌≡◌, ◌≤◌, ◌+◌, ℕ, List, [], ◌∷◌, length, ap, subst, ◌∙◌, arith}
use Rattle.std.specs.List.{AllByRecursion}
use Rattle.std.proofs.lemmas.List.{length-append}
use Rattle.px_outside.specs.Disk.{Image}
use Rattle.px_outside.specs.OnDisk.{Passes}
use Rattle.px_outside.specs.declared.disk.Disk.{Ghosts}
use Rattle.px_cells.specs.CellData.{CellData}
use Rattle.px_block.specs.Block.{IsBlock}
use Rattle.px_file.specs.Format.{cells_in}
use Rattle.px_file.specs.declared.region_file.RegionFile.{RegionFile}
use Rattle.px_file.proofs.Blocks.{length-index_of}
use Rattle.px_wal.specs.Manifest.{SnapshotStands}
use Rattle.px_wal.specs.Snapshot.{FileData, SnapshotData}
use Rattle.px_wal.proofs.OneStanding.{manifest_once}
use Rattle.px_files.specs.Calls.{opening_calls}
use Rattle.px_files.specs.Files.{FilesStand, HaveFiles}
use Rattle.px_files.proofs.Once.{files_once}
use Rattle.px_loading.specs.Calls.{loading_calls}
use Rattle.px_region.specs.Calls.{IsOpenedBy, files_calls}

-- no block is without a cell
blocks_few : (blocks : List (List CellData)) → AllByRecursion IsBlock blocks → length blocks ≤ length (cells_in blocks)
blocks_few [] all = omega arith
blocks_few (b ∷ blocks) all =
    let closed = all.0.closed in
    omega (arith, length-append b (cells_in blocks), ap length closed.ends, length-append closed.front (closed.last ∷ []), blocks_few blocks all.1)

-- open files are opened and loaded by so many calls
pub files_most : {D : Type 0} (d : Ghosts D) (region : ℕ) (disk : D) (named : List FileData) (files : List RegionFile) (lists : List (List CellData)) → HaveFiles d region disk named files lists → opening_calls files + loading_calls files ≤ files_calls lists
files_most d region disk [] [] [] have = omega arith
files_most d region disk [] [] (l ∷ lists) have = absurd have
files_most d region disk [] (o ∷ files) lists have = absurd have
files_most d region disk (f ∷ named) [] lists have = absurd have
files_most d region disk (f ∷ named) (o ∷ files) [] have = absurd have
files_most d region disk (f ∷ named) (o ∷ files) (l ∷ lists) have =
    let has = have.0.has in
    omega (arith, ap length have.0.cells, blocks_few have.0.blocks has.right.each, ap length has.index.entries, length-index_of 8 have.0.blocks, files_most d region disk named files lists have.1)

-- what opens the region that an image's files stand for
pub opened_calls : (number : ℕ) (image : Image) (named : SnapshotData) (lists : List (List CellData)) (calls : ℕ) → SnapshotStands number image named → FilesStand number image named.files lists → IsOpenedBy number image calls → calls ≡ 12 + files_calls lists
opened_calls number image named lists calls manifest files by =
    let same : by.named ≡ named = manifest_once number image by.named named by.manifest manifest in
    let one : by.lists ≡ lists = files_once number image named.files by.lists lists (subst (λ (n : SnapshotData). FilesStand number image n.files by.lists) same by.files) files in
    by.is ∙ ap (λ (l : List (List CellData)). 12 + files_calls l) one

pub passes_most : {D : Type 0} (d : Ghosts D) (old new : D) (few most : ℕ) → Passes d old new few → few ≤ most → Passes d old new most
passes_most d old new few most passes le = record { later = passes.later; at_most = (let a = passes.at_most in omega arith); faults_later = passes.faults_later; begun = passes.begun }

pub passes_then : {D : Type 0} (d : Ghosts D) (old mid new : D) (a b : ℕ) → Passes d old mid a → Passes d mid new b → Passes d old new (a + b)
passes_then d old mid new a b first second = record {
  later = (let x = first.later in let y = second.later in omega arith);
  at_most = (let x = first.at_most in let y = second.at_most in omega arith);
  faults_later = (let x = first.faults_later in let y = second.faults_later in omega arith);
  begun = second.begun ∙ first.begun;
}
