-- A file is named.
use Rattle.std.proofs.Common.{◌≡◌, ◌⊎◌, ℕ, zero, suc, ◌≤◌, List, [], ◌∷◌, ◌++◌, ◌-◌, length, map, take, drop, refl, sym, ap, subst, ◌∙◌, arith, inl, inr}
use Rattle.std.proofs.lemmas.Grind.{flat_map-append}
use Rattle.std.proofs.lemmas.List.{take-append-drop, take_rest}
use Rattle.std.specs.Prelude.{Result, Ok, Err, OnOk}
use Rattle.std.specs.List.{AllByRecursion}
use Rattle.px_outside.specs.Disk.{Image, IsLeftBy}
use Rattle.px_outside.specs.OnDisk.{LeavesOnly, TouchesOnly}
use Rattle.px_outside.specs.declared.disk.Disk.{Ghosts}
use Rattle.px_outside.proofs.Standing.{stands_left}
use Rattle.px_cells.specs.CellData.{CellData}
use Rattle.px_file.specs.declared.region_file.RegionFile.{RegionFile}
use Rattle.px_merge.specs.Merged.{joined}
use Rattle.px_merge.specs.Settle.{settle}
use Rattle.px_merge.proofs.Settling.{settle_part}
use Rattle.px_wal.specs.Batches.{LogBatch, batches_above, cells_over, later_first}
use Rattle.px_wal.specs.Manifest.{HasSnapshot, SnapshotStands, manifest_files, named_snapshot}
use Rattle.px_wal.specs.Snapshot.{FileData, IsEntry, SnapshotData}
use Rattle.px_wal.specs.SnapshotOf.{file_data}
use Rattle.px_wal.specs.declared.snapshot.FileEntry.{FileEntry}
use Rattle.px_wal.specs.Wal.{HasBatches, LogStands, log_files}
use Rattle.px_wal.specs.declared.manifest.Manifest.{Manifest}
use Rattle.px_wal.specs.declared.wal.Wal.{Wal}
use Rattle.px_wal.proofs.Appended.{log_kept, log_stands}
use Rattle.px_wal.proofs.Cuts.{flushed_same}
use Rattle.px_files.specs.Files.{FilesStand, HaveFiles, IsNamedFile}
use Rattle.px_files.proofs.Kept.{have_apart, have_stand}
use Rattle.px_naming.specs.Naming.{HasParts, IsCompactedFile, IsFlushed, ReadsByEither}
use Rattle.px_naming.proofs.Raised.{log_raised}

-- ---- files apart

logs_apart : (region file : ℕ) → log_files region file → manifest_files region file → ⊥
logs_apart region file (inl a) (inl b) = omega arith
logs_apart region file (inl a) (inr b) = omega arith
logs_apart region file (inr a) (inl b) = omega arith
logs_apart region file (inr a) (inr b) = omega arith

-- files of cells are no files of a manifest
files_apart : (region file : ℕ) (named : List FileData) → AllByRecursion IsEntry named → IsNamedFile region named file → manifest_files region file → ⊥
files_apart region file [] all own touched = own
files_apart region file (f ∷ named) all (inl is) (inl b) = (let o = all.0.own in omega arith)
files_apart region file (f ∷ named) all (inl is) (inr b) = (let o = all.0.own in omega arith)
files_apart region file (f ∷ named) all (inr own) touched = files_apart region file named all.1 own touched

-- ---- other files are named

-- Where the log has the same batches under the new flushed number, the files that are to be named have these lists, and the same is read with them.
module _ {D : Type 0} (d : Ghosts D) (region : ℕ) (manifest : Manifest) (wal : Wal) (disk disk' : D) (batches : List LogBatch) (files more : List RegionFile) (lists others : List (List CellData)) (new : SnapshotData)
    (parts : HasParts d region manifest wal disk batches files lists) (log : HasBatches d region new.flushed wal disk batches) (have : HaveFiles d region disk new.files more others)
    (same : cells_over new.flushed batches others ≡ cells_over (named_snapshot manifest).flushed batches lists) (entries : AllByRecursion IsEntry new.files) (touches : TouchesOnly d disk disk' (manifest_files region)) where
  apart_new : (f : ℕ) → IsNamedFile region new.files f → manifest_files region f → ⊥
  apart_new f own touched = files_apart region f new.files entries own touched

  apart_old : (f : ℕ) → IsNamedFile region (named_snapshot manifest).files f → manifest_files region f → ⊥
  apart_old f own touched = files_apart region f (named_snapshot manifest).files parts.named.right.files own touched

  log_at : (n : ℕ) → HasBatches d region n wal disk batches → (moment : ℕ) (image : Image) → d.calls disk ≤ moment → IsLeftBy d.left disk' moment image → LogStands region n image batches
  log_at n has moment image since left =
      stands_left d disk disk' (log_files region) (λ i. LogStands region n i batches) (log_stands d region n wal disk batches has) (manifest_files region) touches (λ f own touched. logs_apart region f own touched) moment image since left

  pub leaves_by : LeavesOnly d disk disk' (λ moment image. SnapshotStands region image (named_snapshot manifest) ⊎ SnapshotStands region image new)
      → LeavesOnly d disk disk' (λ moment image. ReadsByEither region image (named_snapshot manifest) new (cells_over (named_snapshot manifest).flushed batches lists))
  leaves_by leaves = record {
    each = λ moment image since left. elim (leaves.each moment image since left) [
      | inl stands ↦ inl (record {
        batches = batches;
        lists = lists;
        manifest = stands;
        log = log_at (named_snapshot manifest).flushed parts.log moment image since left;
        files = stands_left d disk disk' (IsNamedFile region (named_snapshot manifest).files) (λ i. FilesStand region i (named_snapshot manifest).files lists) (have_stand d region disk (named_snapshot manifest).files files lists parts.tells parts.have) (manifest_files region) touches apart_old moment image since left;
        is = refl;
      })
      | inr stands ↦ inr (record {
        batches = batches;
        lists = others;
        manifest = stands;
        log = log_at new.flushed log moment image since left;
        files = stands_left d disk disk' (IsNamedFile region new.files) (λ i. FilesStand region i new.files others) (have_stand d region disk new.files more others parts.tells have) (manifest_files region) touches apart_new moment image since left;
        is = sym same;
      })
    ];
  }

  pub done_by : (after : Manifest) → HasSnapshot d region after disk' → named_snapshot after ≡ new → HasParts d region after wal disk' batches more others
  done_by after has is = record {
    tells = parts.tells;
    named = has;
    log = subst (λ (s : SnapshotData). HasBatches d region s.flushed wal disk' batches) (sym is) (log_kept d region new.flushed wal disk batches log disk' (manifest_files region) touches (λ f own touched. logs_apart region f own touched));
    have = subst (λ (s : SnapshotData). HaveFiles d region disk' s.files more others) (sym is) (have_apart d region disk disk' new.files more others (manifest_files region) touches apart_new have);
  }

-- ---- a flush

module _ {D : Type 0} (d : Ghosts D) (region : ℕ) (manifest : Manifest) (wal : Wal) (disk disk' : D) (batches : List LogBatch) (files : List RegionFile) (lists : List (List CellData)) (file : RegionFile) (list : List CellData) (new : SnapshotData)
    (parts : HasParts d region manifest wal disk batches files lists) (flushed : IsFlushed d region disk (named_snapshot manifest) new batches file list) where
  -- with the file it is read the same
  pub reads_same : cells_over new.flushed batches (list ∷ lists) ≡ cells_over (named_snapshot manifest).flushed batches lists
  reads_same = flushed_same (named_snapshot manifest).flushed new.flushed batches lists list flushed.later parts.log.right.rising flushed.cells

  raised : HasBatches d region new.flushed wal disk batches
  raised = log_raised d region (named_snapshot manifest).flushed new.flushed wal disk batches flushed.more flushed.some flushed.later flushed.batches_are parts.log

  more : HaveFiles d region disk new.files (file ∷ files) (list ∷ lists)
  more = subst (λ (n : List FileData). HaveFiles d region disk n (file ∷ files) (list ∷ lists)) (sym flushed.before) (flushed.has, parts.have)

  module _ (entries : AllByRecursion IsEntry new.files) (touches : TouchesOnly d disk disk' (manifest_files region)) where
    pub named_leaves : LeavesOnly d disk disk' (λ moment image. SnapshotStands region image (named_snapshot manifest) ⊎ SnapshotStands region image new)
        → LeavesOnly d disk disk' (λ moment image. ReadsByEither region image (named_snapshot manifest) new (cells_over (named_snapshot manifest).flushed batches lists))
    named_leaves = leaves_by d region manifest wal disk disk' batches files (file ∷ files) lists (list ∷ lists) new parts raised more reads_same entries touches

    pub named_done : (after : Manifest) → HasSnapshot d region after disk' → named_snapshot after ≡ new → HasParts d region after wal disk' batches (file ∷ files) (list ∷ lists)
    named_done = done_by d region manifest wal disk disk' batches files (file ∷ files) lists (list ∷ lists) new parts raised more reads_same entries touches

-- ---- a compaction

pub map_drop : (n : ℕ) (files : List FileEntry) → map file_data (drop n files) ≡ drop n (map file_data files)
map_drop zero files = refl
map_drop (suc n) [] = refl
map_drop (suc n) (f ∷ files) = map_drop n files

-- a file, and behind it those from a place on
pub kept_files : (file : FileEntry) (count : ℕ) (files slice none one all : List FileEntry) → none ≡ [] → one ≡ none ++ file ∷ [] → slice ≡ files → all ≡ one ++ take (length slice - count) (drop count slice) → all ≡ file ∷ drop count files
kept_files file count files slice none one all a b c d =
    d ∙ ap (λ (l : List FileEntry). l ++ take (length slice - count) (drop count slice)) (b ∙ ap (λ (l : List FileEntry). l ++ file ∷ []) a) ∙ ap (λ (l : List FileEntry). file ∷ take (length l - count) (drop count l)) c ∙ ap (λ (l : List FileEntry). file ∷ l) (take_rest files count)

have_drop : {D : Type 0} (d : Ghosts D) (region : ℕ) (disk : D) (n : ℕ) (named : List FileData) (files : List RegionFile) (lists : List (List CellData)) → HaveFiles d region disk named files lists → HaveFiles d region disk (drop n named) (drop n files) (drop n lists)
have_drop d region disk zero named files lists have = have
have_drop d region disk (suc n) [] [] [] have = tt
have_drop d region disk (suc n) [] [] (l ∷ lists) have = absurd have
have_drop d region disk (suc n) [] (o ∷ files) lists have = absurd have
have_drop d region disk (suc n) (f ∷ named) [] lists have = absurd have
have_drop d region disk (suc n) (f ∷ named) (o ∷ files) [] have = absurd have
have_drop d region disk (suc n) (f ∷ named) (o ∷ files) (l ∷ lists) have = have_drop d region disk n named files lists have.1

-- the newest of some lists may stand as one that is read alike
pub compacted_front : (n count : ℕ) (batches : List LogBatch) (lists : List (List CellData)) (list : List CellData) → list ≡ settle (joined (take count lists)) → cells_over n batches (list ∷ drop count lists) ≡ cells_over n batches lists
compacted_front n count batches lists list is =
    let front = later_first (batches_above n batches) in
    ap (λ (l : List CellData). settle (front ++ (l ++ joined (drop count lists)))) is ∙ settle_part front (joined (take count lists)) (joined (drop count lists))
    ∙ ap (λ (l : List CellData). settle (front ++ l)) (sym (flat_map-append (λ l. l) (take count lists) (drop count lists))) ∙ ap (λ (l : List (List CellData)). settle (front ++ joined l)) (take-append-drop count lists)

module _ {D : Type 0} (d : Ghosts D) (region : ℕ) (disk : D) (old new : SnapshotData) (batches : List LogBatch) (lists : List (List CellData)) (count : ℕ) (file : RegionFile) (list : List CellData) (compacted : IsCompactedFile d region disk old new lists count file list) where
  -- with the file in place of the newest ones it is read the same
  pub merged_same : cells_over new.flushed batches (list ∷ drop count lists) ≡ cells_over old.flushed batches lists
  merged_same = ap (λ (n : ℕ). cells_over n batches (list ∷ drop count lists)) compacted.same ∙ compacted_front old.flushed count batches lists list compacted.cells

  merged_have : (files : List RegionFile) → HaveFiles d region disk old.files files lists → HaveFiles d region disk new.files (file ∷ drop count files) (list ∷ drop count lists)
  merged_have files have = subst (λ (n : List FileData). HaveFiles d region disk n (file ∷ drop count files) (list ∷ drop count lists)) (sym compacted.in_place) (compacted.has, have_drop d region disk count old.files files lists have)

module _ {D : Type 0} (d : Ghosts D) (region : ℕ) (manifest : Manifest) (wal : Wal) (disk disk' : D) (batches : List LogBatch) (files : List RegionFile) (lists : List (List CellData)) (count : ℕ) (file : RegionFile) (list : List CellData) (new : SnapshotData)
    (parts : HasParts d region manifest wal disk batches files lists) (compacted : IsCompactedFile d region disk (named_snapshot manifest) new lists count file list) (entries : AllByRecursion IsEntry new.files) (touches : TouchesOnly d disk disk' (manifest_files region)) where
  merged_log : HasBatches d region new.flushed wal disk batches
  merged_log = subst (λ (n : ℕ). HasBatches d region n wal disk batches) (sym compacted.same) parts.log

  pub merged_leaves : LeavesOnly d disk disk' (λ moment image. SnapshotStands region image (named_snapshot manifest) ⊎ SnapshotStands region image new)
      → LeavesOnly d disk disk' (λ moment image. ReadsByEither region image (named_snapshot manifest) new (cells_over (named_snapshot manifest).flushed batches lists))
  merged_leaves =
      leaves_by d region manifest wal disk disk' batches files (file ∷ drop count files) lists (list ∷ drop count lists) new parts merged_log (merged_have d region disk (named_snapshot manifest) new batches lists count file list compacted files parts.have)
      (merged_same d region disk (named_snapshot manifest) new batches lists count file list compacted) entries touches

  pub merged_done : (after : Manifest) → HasSnapshot d region after disk' → named_snapshot after ≡ new → HasParts d region after wal disk' batches (file ∷ drop count files) (list ∷ drop count lists)
  merged_done =
      done_by d region manifest wal disk disk' batches files (file ∷ drop count files) lists (list ∷ drop count lists) new parts merged_log (merged_have d region disk (named_snapshot manifest) new batches lists count file list compacted files parts.have)
      (merged_same d region disk (named_snapshot manifest) new batches lists count file list compacted) entries touches

pub on_both : {T E A B C : Type 0} (r : Result T E) → (A → B → C) → OnOk r A → OnOk r B → OnOk r C
on_both (Ok x) f a b = f a b
on_both (Err e) f a b = a
