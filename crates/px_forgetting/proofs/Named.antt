-- A file is named with its horizon.
use Rattle.std.proofs.Common.{◌≡◌, ◌⊎◌, ◌≤◌, ℕ, zero, suc, List, [], ◌∷◌, Bool, true, false, filter, length, drop, refl, sym, ap, subst, arith, inl, inr}
use Rattle.std.specs.Prelude.{if◌then◌else◌, nat_lt}
use Rattle.std.specs.List.{AllByRecursion}
use Rattle.px_outside.specs.Disk.{Image, IsLeftBy}
use Rattle.px_outside.specs.OnDisk.{LeavesOnly, TouchesOnly}
use Rattle.px_outside.specs.declared.disk.Disk.{Ghosts}
use Rattle.px_outside.proofs.Standing.{stands_left}
use Rattle.px_cells.specs.CellData.{CellData}
use Rattle.px_cells.specs.Order.{GoesWith}
use Rattle.px_file.specs.declared.region_file.RegionFile.{RegionFile}
use Rattle.px_merge.specs.Kept.{IsKeptList}
use Rattle.px_wal.specs.Batches.{AreQualified, LogBatch, cells_over}
use Rattle.px_wal.specs.Form.{IsLogBatch}
use Rattle.px_wal.specs.Manifest.{HasSnapshot, SnapshotStands, manifest_files, named_snapshot}
use Rattle.px_wal.specs.Snapshot.{FileData, IsEntry, SnapshotData}
use Rattle.px_wal.specs.Wal.{HasBatches, LogStands, log_files}
use Rattle.px_wal.specs.declared.manifest.Manifest.{Manifest}
use Rattle.px_wal.specs.declared.wal.Wal.{Wal}
use Rattle.px_wal.proofs.Appended.{log_kept, log_stands}
use Rattle.px_wal.proofs.Cuts.{kept_whole}
use Rattle.px_files.specs.Files.{FilesStand, HaveFiles, IsNamedFile}
use Rattle.px_files.proofs.Kept.{have_apart, have_stand}
use Rattle.px_naming.specs.Naming.{HasParts, RegionReads}
use Rattle.px_forgetting.specs.Forgetting.{IsForgotten}

-- ---- files apart

logs_apart : (region file : ℕ) → log_files region file → manifest_files region file → ⊥
logs_apart region file (inl a) (inl b) = omega arith
logs_apart region file (inl a) (inr b) = omega arith
logs_apart region file (inr a) (inl b) = omega arith
logs_apart region file (inr a) (inr b) = omega arith

files_apart : (region file : ℕ) (named : List FileData) → AllByRecursion IsEntry named → IsNamedFile region named file → manifest_files region file → ⊥
files_apart region file [] all own touched = own
files_apart region file (f ∷ named) all (inl is) (inl b) = (let o = all.0.own in omega arith)
files_apart region file (f ∷ named) all (inl is) (inr b) = (let o = all.0.own in omega arith)
files_apart region file (f ∷ named) all (inr own) touched = files_apart region file named all.1 own touched

-- ---- the cells of batches

all_by : {A : Type 0} (P : A → Type 0) (x : A) (ys : List A) (c : Bool) → P x → AllByRecursion P ys → AllByRecursion P (if c then x ∷ ys else ys)
all_by P x ys true p h = (p, h)
all_by P x ys false p h = h

all_filter : {A : Type 0} (P : A → Type 0) (test : A → Bool) (xs : List A) → AllByRecursion P xs → AllByRecursion P (filter test xs)
all_filter P test [] h = tt
all_filter P test (x ∷ xs) h = all_by P x (filter test xs) (test x) h.0 (all_filter P test xs h.1)

placed_all : (batches : List LogBatch) → AllByRecursion IsLogBatch batches → AreQualified batches
placed_all [] all = tt
placed_all (b ∷ batches) all = (all.0.written.listed.placed, placed_all batches all.1)

-- ---- what is named

module _ {D : Type 0} (d : Ghosts D) (region : ℕ) (manifest : Manifest) (wal : Wal) (disk : D) (batches : List LogBatch) (files : List RegionFile) (lists : List (List CellData)) (file : RegionFile) (list : List CellData) (new : SnapshotData)
    (parts : HasParts d region manifest wal disk batches files lists) (forgotten : IsForgotten d region disk (named_snapshot manifest) new batches lists file list) where
  -- the horizon keeps it of the whole list
  pub forgotten_whole : IsKeptList (cells_over (named_snapshot manifest).flushed batches lists) new.horizon (cells_over new.flushed batches (list ∷ []))
  forgotten_whole =
      subst (λ (n : ℕ). IsKeptList (cells_over (named_snapshot manifest).flushed batches lists) new.horizon (cells_over n batches (list ∷ []))) (sym forgotten.same)
      (kept_whole (named_snapshot manifest).flushed new.horizon batches lists list forgotten.over (all_filter (λ (b : LogBatch). AllByRecursion GoesWith b.cells) (λ (b : LogBatch). nat_lt (named_snapshot manifest).flushed b.number) batches (placed_all batches parts.log.right.each)) forgotten.kept)

  same_log : HasBatches d region new.flushed wal disk batches
  same_log = subst (λ (n : ℕ). HasBatches d region n wal disk batches) (sym forgotten.same) parts.log

  same_files : HaveFiles d region disk new.files (file ∷ []) (list ∷ [])
  same_files = subst (λ (n : List FileData). HaveFiles d region disk n (file ∷ []) (list ∷ [])) (sym forgotten.alone) (forgotten.has, tt)

  module _ (disk' : D) (entries : AllByRecursion IsEntry new.files) (touches : TouchesOnly d disk disk' (manifest_files region)) where
    apart_new : (f : ℕ) → IsNamedFile region new.files f → manifest_files region f → ⊥
    apart_new f own touched = files_apart region f new.files entries own touched

    apart_old : (f : ℕ) → IsNamedFile region (named_snapshot manifest).files f → manifest_files region f → ⊥
    apart_old f own touched = files_apart region f (named_snapshot manifest).files parts.named.right.files own touched

    log_at : (n : ℕ) → HasBatches d region n wal disk batches → (moment : ℕ) (image : Image) → d.calls disk ≤ moment → IsLeftBy d.left disk' moment image → LogStands region n image batches
    log_at n has moment image since left =
        stands_left d disk disk' (log_files region) (λ i. LogStands region n i batches) (log_stands d region n wal disk batches has) (manifest_files region) touches (λ f own touched. logs_apart region f own touched) moment image since left

    pub forgotten_leaves : LeavesOnly d disk disk' (λ moment image. SnapshotStands region image (named_snapshot manifest) ⊎ SnapshotStands region image new)
        → LeavesOnly d disk disk' (λ moment image. RegionReads region image (named_snapshot manifest) (cells_over (named_snapshot manifest).flushed batches lists) ⊎ RegionReads region image new (cells_over new.flushed batches (list ∷ [])))
    forgotten_leaves leaves = record {
      each = λ moment image since left. elim (leaves.each moment image since left) [
        | inl stands ↦ inl (record {
          batches = batches;
          lists = lists;
          manifest = stands;
          log = log_at (named_snapshot manifest).flushed parts.log moment image since left;
          files = stands_left d disk disk' (IsNamedFile region (named_snapshot manifest).files) (λ i. FilesStand region i (named_snapshot manifest).files lists) (have_stand d region disk (named_snapshot manifest).files files lists parts.tells parts.have) (manifest_files region) touches apart_old moment image since left;
          is = refl;
        })
        | inr stands ↦ inr (record {
          batches = batches;
          lists = list ∷ [];
          manifest = stands;
          log = log_at new.flushed same_log moment image since left;
          files = stands_left d disk disk' (IsNamedFile region new.files) (λ i. FilesStand region i new.files (list ∷ [])) (have_stand d region disk new.files (file ∷ []) (list ∷ []) parts.tells same_files) (manifest_files region) touches apart_new moment image since left;
          is = refl;
        })
      ];
    }

    pub forgotten_done : (after : Manifest) → HasSnapshot d region after disk' → named_snapshot after ≡ new → HasParts d region after wal disk' batches (file ∷ []) (list ∷ [])
    forgotten_done after has is = record {
      tells = parts.tells;
      named = has;
      log = subst (λ (s : SnapshotData). HasBatches d region s.flushed wal disk' batches) (sym is) (log_kept d region new.flushed wal disk batches same_log disk' (manifest_files region) touches (λ f own touched. logs_apart region f own touched));
      have = subst (λ (s : SnapshotData). HaveFiles d region disk' s.files (file ∷ []) (list ∷ [])) (sym is) (have_apart d region disk disk' new.files (file ∷ []) (list ∷ []) (manifest_files region) touches apart_new same_files);
    }

-- one file stands in place of all
pub none_left : (entry : FileData) (files : List FileData) (n : ℕ) → length files ≤ n → entry ∷ drop n files ≡ entry ∷ []
none_left entry files n le = ap (λ (l : List FileData). entry ∷ l) (past files n le)
  where
    past : (files : List FileData) (n : ℕ) → length files ≤ n → drop n files ≡ []
    past [] zero le = refl
    past [] (suc n) le = refl
    past (f ∷ files) zero le = absurd (omega arith)
    past (f ∷ files) (suc n) le = past files n (omega arith)
