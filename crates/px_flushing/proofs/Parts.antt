-- Manifest, log and files of a region.
use Rattle.std.proofs.Common.{◌≡◌, ◌⊎◌, ℕ, ◌≤◌, List, [], ◌∷◌, refl, sym, ap, subst, ◌∙◌, arith, inl, inr}
use Rattle.px_outside.specs.Disk.{Image}
use Rattle.px_outside.specs.OnDisk.{LeavesOnly, TouchesOnly}
use Rattle.px_outside.specs.Standing.{StandsIn}
use Rattle.px_outside.specs.declared.disk.Disk.{Ghosts}
use Rattle.px_outside.proofs.Moments.{touches_none}
use Rattle.px_outside.proofs.Standing.{stands_left}
use Rattle.px_cells.specs.CellData.{CellData}
use Rattle.px_file.specs.declared.region_file.RegionFile.{RegionFile}
use Rattle.std.specs.List.{AllByRecursion}
use Rattle.px_wal.specs.Batches.{LogBatch, cells_over}
use Rattle.px_wal.specs.Files.{HasFile, file_of}
use Rattle.px_wal.specs.Manifest.{manifest_files, named_snapshot}
use Rattle.px_wal.specs.Snapshot.{FileData, IsEntry, SnapshotData}
use Rattle.px_wal.specs.Wal.{LogStands, log_files}
use Rattle.px_wal.specs.declared.manifest.Manifest.{Manifest}
use Rattle.px_wal.specs.declared.wal.Wal.{Wal}
use Rattle.px_wal.proofs.Appended.{log_kept, log_stands}
use Rattle.px_wal.proofs.Named.{manifest_kept, manifest_stands}
use Rattle.px_wal.proofs.OneStanding.{log_once, manifest_once}
use Rattle.px_files.specs.Files.{FilesStand, IsNamedFile}
use Rattle.px_files.specs.Locals.{IsFreeLocal, IsNamed}
use Rattle.px_files.proofs.Kept.{have_apart, have_stand}
use Rattle.px_files.proofs.Once.{files_once}
use Rattle.px_naming.specs.Naming.{HasParts, ReadsByEither}
use Rattle.px_flushing.specs.Flushing.{IsRegionRead}

-- ---- the files

-- a file of the region's log, of its manifest, or one that is named
abbrev pub IsPart : ℕ → SnapshotData → ℕ → Type 0
IsPart region named file = log_files region file ⊎ (manifest_files region file ⊎ IsNamedFile region named.files file)

one_of_named : (region local : ℕ) (named : List FileData) → IsNamedFile region named (file_of region local) → IsNamed named local
one_of_named region local [] own = own
one_of_named region local (f ∷ named) (inl is) = inl (omega arith)
one_of_named region local (f ∷ named) (inr own) = inr (one_of_named region local named own)

-- a file of a free number is none of them
pub free_apart : (region local file : ℕ) (named : SnapshotData) → IsFreeLocal named.files local → IsPart region named file → file ≡ file_of region local → ⊥
free_apart region local file named free (inl (inl a)) is = (let o = free.own in omega arith)
free_apart region local file named free (inl (inr a)) is = (let o = free.own in omega arith)
free_apart region local file named free (inr (inl (inl a))) is = (let o = free.own in omega arith)
free_apart region local file named free (inr (inl (inr a))) is = (let o = free.own in omega arith)
free_apart region local file named free (inr (inr own)) is = free.free (one_of_named region local named.files (subst (IsNamedFile region named.files) is own))

one_of_own : (region file : ℕ) (named : List FileData) → AllByRecursion IsEntry named → IsNamedFile region named file → HasFile region file
one_of_own region file [] all own = absurd own
one_of_own region file (f ∷ named) all (inl is) = record { local = f.local; is = is; short = (let l = all.0.local in omega arith) }
one_of_own region file (f ∷ named) all (inr own) = one_of_own region file named all.1 own

-- each is a file of the region
pub part_own : (region file : ℕ) (named : SnapshotData) → AllByRecursion IsEntry named.files → IsPart region named file → HasFile region file
part_own region file named all (inl (inl is)) = record { local = 0; is = is; short = omega arith }
part_own region file named all (inl (inr is)) = record { local = 1; is = is; short = omega arith }
part_own region file named all (inr (inl (inl is))) = record { local = 2; is = is; short = omega arith }
part_own region file named all (inr (inl (inr is))) = record { local = 3; is = is; short = omega arith }
part_own region file named all (inr (inr own)) = one_of_own region file named.files all own

-- ---- what is in them

module _ {D : Type 0} (d : Ghosts D) (region : ℕ) (manifest : Manifest) (wal : Wal) (disk : D) (batches : List LogBatch) (files : List RegionFile) (lists : List (List CellData)) (parts : HasParts d region manifest wal disk batches files lists) where
  -- calls on other files leave it so
  pub parts_kept : (disk' : D) (touched : ℕ → Type 0) → TouchesOnly d disk disk' touched → ((file : ℕ) → IsPart region (named_snapshot manifest) file → touched file → ⊥) → HasParts d region manifest wal disk' batches files lists
  parts_kept disk' touched touches apart = record {
    tells = parts.tells;
    named = manifest_kept d region manifest disk parts.named disk' touched touches (λ file own. apart file (inr (inl own)));
    log = log_kept d region (named_snapshot manifest).flushed wal disk batches parts.log disk' touched touches (λ file own. apart file (inl own));
    have = have_apart d region disk disk' (named_snapshot manifest).files files lists touched touches (λ file own. apart file (inr (inr own))) parts.have;
  }

  -- they are read as the region's list, whatever a stop leaves of them
  pub parts_stand : StandsIn d disk (IsPart region (named_snapshot manifest)) (λ image. IsRegionRead region image (named_snapshot manifest).horizon (cells_over (named_snapshot manifest).flushed batches lists))
  parts_stand =
      let one = manifest_stands d region manifest disk parts.named in
      let two = log_stands d region (named_snapshot manifest).flushed wal disk batches parts.log in
      let three = have_stand d region disk (named_snapshot manifest).files files lists parts.tells parts.have in
      record {
        each = λ image left. record {
          named = named_snapshot manifest;
          reads = record {
            batches = batches;
            lists = lists;
            manifest = one.each image (λ file own. left file (inr (inl own)));
            log = two.each image (λ file own. left file (inl own));
            files = three.each image (λ file own. left file (inr (inr own)));
            is = refl;
          };
          horizon_is = refl;
        };
      }

  pub parts_leave : (disk' : D) (touched : ℕ → Type 0) → TouchesOnly d disk disk' touched → ((file : ℕ) → IsPart region (named_snapshot manifest) file → touched file → ⊥)
      → LeavesOnly d disk disk' (λ moment image. IsRegionRead region image (named_snapshot manifest).horizon (cells_over (named_snapshot manifest).flushed batches lists))
  parts_leave disk' touched touches apart = record {
    each = λ moment image since left.
        stands_left d disk disk' (IsPart region (named_snapshot manifest)) (λ i. IsRegionRead region i (named_snapshot manifest).horizon (cells_over (named_snapshot manifest).flushed batches lists)) parts_stand touched touches apart moment image since left;
  }

  -- no call
  pub parts_now : (up_to_now : (x : D) (moment file : ℕ) (bytes : List ℕ) → d.left x moment file bytes → moment ≤ d.calls x)
      → LeavesOnly d disk disk (λ moment image. IsRegionRead region image (named_snapshot manifest).horizon (cells_over (named_snapshot manifest).flushed batches lists))
  parts_now up_to_now = parts_leave disk (λ file. ⊥) (touches_none d.calls d.left d.seen up_to_now disk (λ file. ⊥)) (λ file own touched. touched)

-- by one of two snapshots of one horizon
pub read_by : (region horizon : ℕ) (image : Image) (old new : SnapshotData) (cells : List CellData) → old.horizon ≡ horizon → new.horizon ≡ horizon → ReadsByEither region image old new cells → IsRegionRead region image horizon cells
read_by region horizon image old new cells a b (inl reads) = record { named = old; reads = reads; horizon_is = a }
read_by region horizon image old new cells a b (inr reads) = record { named = new; reads = reads; horizon_is = b }

-- what naming a file leaves
pub named_leaves : {D : Type 0} (d : Ghosts D) (region : ℕ) (manifest : Manifest) (old new : D) (after : SnapshotData) (cells : List CellData) → after.horizon ≡ (named_snapshot manifest).horizon
    → LeavesOnly d old new (λ moment image. ReadsByEither region image (named_snapshot manifest) after cells) → LeavesOnly d old new (λ moment image. IsRegionRead region image (named_snapshot manifest).horizon cells)
named_leaves d region manifest old new after cells same leaves = record {
  each = λ moment image since left. read_by region (named_snapshot manifest).horizon image (named_snapshot manifest) after cells refl same (leaves.each moment image since left);
}

-- ---- one reading

pub read_once : (region : ℕ) (image : Image) (h k : ℕ) (a b : List CellData) → IsRegionRead region image h a → IsRegionRead region image k b → (h ≡ k) × (a ≡ b)
read_once region image h k a b one two =
    let named : one.named ≡ two.named = manifest_once region image one.named two.named one.reads.manifest two.reads.manifest in
    let batches = log_once region two.named.flushed image one.reads.batches two.reads.batches (subst (λ (n : SnapshotData). LogStands region n.flushed image one.reads.batches) named one.reads.log) two.reads.log in
    let lists = files_once region image two.named.files one.reads.lists two.reads.lists (subst (λ (n : SnapshotData). FilesStand region image n.files one.reads.lists) named one.reads.files) two.reads.files in (
      sym one.horizon_is ∙ ap (λ (n : SnapshotData). n.horizon) named ∙ two.horizon_is,
      one.reads.is ∙ ap (λ (n : SnapshotData). cells_over n.flushed one.reads.batches one.reads.lists) named ∙ ap (λ (l : List LogBatch). cells_over two.named.flushed l one.reads.lists) batches
          ∙ ap (λ (l : List (List CellData)). cells_over two.named.flushed two.reads.batches l) lists ∙ sym two.reads.is,
    )
