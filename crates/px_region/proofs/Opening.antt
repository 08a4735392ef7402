-- Opening a region.
use Rattle.std.proofs.Common.{◌≡◌, ◌≤◌, ◌+◌, ℕ, List, ◌++◌, refl, sym, ap, subst, ◌∙◌, arith}
use Rattle.std.specs.Prelude.{IfOk, IsTrue, Result, Ok, Err}
use Rattle.px_outside.specs.Disk.{Image}
use Rattle.px_outside.specs.OnDisk.{Passes, Stays, TouchesOnly}
use Rattle.px_outside.specs.declared.disk.Disk.{Ghosts}
use Rattle.px_outside.proofs.Moments.{stays_touches, touches_more}
use Rattle.px_cells.specs.CellData.{CellData}
use Rattle.px_gatelog.specs.Damage.{IsFirstWrong}
use Rattle.px_merge.specs.Merged.{joined}
use Rattle.px_merge.specs.Settle.{settle}
use Rattle.px_merge.proofs.Settling.{settle_front}
use Rattle.px_wal.specs.Batches.{LogBatch, batches_above, cells_over, later_first}
use Rattle.px_wal.specs.Files.{HasFile, file_of}
use Rattle.px_wal.specs.Form.{batch_byte_count, cell_count, wal_form}
use Rattle.px_wal.specs.Snapshot.{SnapshotData}
use Rattle.px_wal.specs.Manifest.{HasSnapshot, IsStarted, SnapshotStands, named_snapshot}
use Rattle.px_wal.specs.Wal.{IsReplayed, LogStands}
use Rattle.px_wal.specs.declared.manifest.Manifest.{Manifest}
use Rattle.px_wal.specs.declared.wal.Replayed.{Replayed}
use Rattle.px_wal.specs.declared.wal.Wal.{Wal}
use Rattle.px_wal.proofs.Named.{manifest_kept}
use Rattle.px_files.specs.Calls.{opening_calls}
use Rattle.px_files.specs.Files.{FilesStand, HaveFiles, IsFirstBad}
use Rattle.px_loading.specs.Calls.{loading_calls}
use Rattle.px_region.specs.Calls.{IsOpenedBy, files_calls}
use Rattle.px_region.proofs.Calls.{files_most, opened_calls, passes_most}
use Rattle.px_files.proofs.Kept.{seen_stand}
use Rattle.px_flushing.specs.Flushing.{HasFlushing}
use Rattle.px_flushing.specs.declared.flushing.Flushing.{Flushing}
use Rattle.px_flushing.proofs.Going.{flushing_kept}
use Rattle.px_region.specs.Region.{RegionData, RegionHolds, RegionStands}
use Rattle.px_region.specs.Opened.{IsAssembled, IsFirstDamagedInRegion}
use Rattle.px_region.specs.Stamps.{HaveLeast}
use Rattle.px_region.specs.declared.stamps.LeastStamps.{LeastStamps}
use Rattle.px_region.specs.Opened.IsFirstDamagedInRegion.{in_file, in_log}
use Rattle.px_region.specs.declared.region.Region.{Region}
use Rattle.px_region.proofs.Holding.{by_fields}

pub log_damaged : (number : ℕ) (image now : Image) (named : SnapshotData) (flushed file place : ℕ) → now ≡ image → flushed ≡ named.flushed → SnapshotStands number image named
    → IsFirstWrong (wal_form flushed) (file_of number 0) (file_of number 1) (now (file_of number 0)) (now (file_of number 1)) file place → IsFirstDamagedInRegion number image file place
log_damaged number image now named flushed file place same is stands wrong =
    in_log named stands
    (subst (λ (i : Image). IsFirstWrong (wal_form named.flushed) (file_of number 0) (file_of number 1) (i (file_of number 0)) (i (file_of number 1)) file place) same
    (subst (λ (n : ℕ). IsFirstWrong (wal_form n) (file_of number 0) (file_of number 1) (now (file_of number 0)) (now (file_of number 1)) file place) is wrong))

-- its files are opened, and then their cells are loaded
module _ {D : Type 0} (d : Ghosts D) (number : ℕ) (old mid new : D) (manifest : Manifest) (wal : Wal) (flushing : Flushing) (batches : List LogBatch) (lists : List (List CellData)) (tells : IsTrue d.tells) (has : HasFlushing d manifest wal flushing mid batches lists)
    (mine : flushing.number ≡ number) where
  pub have : HaveFiles d number mid (named_snapshot manifest).files flushing.files.items lists
  have = subst (λ (n : ℕ). HaveFiles d n mid (named_snapshot manifest).files flushing.files.items lists) mine has.parts.have

  quiet_touches : (touched : ℕ → Type 0) → Stays d mid new → d.seen new ≡ d.seen mid → TouchesOnly d mid new touched
  quiet_touches touched stays same = touches_more d.calls d.left d.seen mid new (λ file. ⊥) touched (λ file never. absurd never) (stays_touches d.calls d.left d.seen mid new stays same)

  loaded_cells : (store loaded : List CellData) → store ≡ settle (later_first (batches_above (named_snapshot manifest).flushed batches)) → loaded ≡ settle (store ++ joined lists) → loaded ≡ cells_over (named_snapshot manifest).flushed batches lists
  loaded_cells store loaded is all = all ∙ ap (λ (l : List CellData). settle (l ++ joined lists)) is ∙ settle_front (later_first (batches_above (named_snapshot manifest).flushed batches)) (joined lists)

  pub assembled_by : (store : List CellData) (cells bytes : ℕ) (stamps : LeastStamps) (loaded : List CellData) (horizon : ℕ) (region : Region) → d.seen mid ≡ d.seen old → Stays d mid new → d.seen new ≡ d.seen mid → store ≡ settle (later_first (batches_above (named_snapshot manifest).flushed batches))
      → cells ≡ cell_count (batches_above (named_snapshot manifest).flushed batches) → bytes ≡ batch_byte_count (batches_above (named_snapshot manifest).flushed batches) → HaveLeast stamps (batches_above (named_snapshot manifest).flushed batches) → loaded ≡ settle (store ++ joined lists) → horizon ≡ (named_snapshot manifest).horizon → number ≡ region.number → manifest ≡ region.manifest
      → wal ≡ region.wal → flushing ≡ region.flushing → horizon ≡ region.horizon → loaded ≡ region.store.cells → cells ≡ region.cells → bytes ≡ region.bytes → stamps ≡ region.stamps → IsAssembled d number (d.seen old) (named_snapshot manifest) batches region new
  assembled_by store cells bytes stamps loaded horizon region seen stays same is counted weighed least all named number_is manifest_is wal_is flushing_is horizon_is store_is cells_is bytes_is stamps_are = record {
    lists = lists;
    files = subst (λ (i : Image). FilesStand number i (named_snapshot manifest).files lists) seen (seen_stand d number mid (named_snapshot manifest).files flushing.files.items lists tells have);
    holds =
        by_fields d number manifest wal flushing horizon loaded cells bytes stamps new (record { cells = cells_over (named_snapshot manifest).flushed batches lists; horizon = (named_snapshot manifest).horizon }) region
        (record {
          batches = batches;
          lists = lists;
          has = flushing_kept d manifest wal flushing mid batches lists has new (quiet_touches (λ touched. HasFile flushing.number touched → ⊥) stays same);
          own = mine;
          store_is = loaded_cells store loaded is all;
          named = named;
          cells_are = sym (loaded_cells store loaded is all);
          horizon_is = sym named;
          counted = counted;
          weighed = weighed;
          least = least;
        })
        number_is manifest_is wal_is flushing_is horizon_is store_is cells_is bytes_is stamps_are;
    few = subst (λ (f : Flushing). opening_calls f.files.items + loading_calls f.files.items ≤ files_calls lists) flushing_is (files_most d number mid (named_snapshot manifest).files flushing.files.items lists have);
  }

module _ {D : Type 0} (d : Ghosts D) (number : ℕ) (zero_ one two three : D) (manifest : Manifest) (flushed : ℕ) (r : Replayed) (started : IsStarted d number zero_ one manifest) (seen1 : d.seen one ≡ d.seen zero_) (flushed_is : flushed ≡ (named_snapshot manifest).flushed)
    (read : IsReplayed d number flushed one two r) (stays : Stays d one two) (seen2 : d.seen two ≡ d.seen one) where
  pub replayed : IsReplayed d number (named_snapshot manifest).flushed one two r
  replayed = subst (λ (n : ℕ). IsReplayed d number n one two r) flushed_is read

  pub named_then : HasSnapshot d number manifest two
  named_then = manifest_kept d number manifest one started.has two (λ file. ⊥) (stays_touches d.calls d.left d.seen one two stays seen2) (λ file own touched. touched)

  stood : LogStands number (named_snapshot manifest).flushed (d.seen zero_) replayed.batches
  stood = subst (λ (i : Image). LogStands number (named_snapshot manifest).flushed i replayed.batches) seen1 replayed.stood

  pub file_damaged : (file place : ℕ) → IsFirstBad number (d.seen two) (named_snapshot manifest).files file place → IsFirstDamagedInRegion number (d.seen zero_) file place
  file_damaged file place bad = in_file (named_snapshot manifest) replayed.batches started.stood stood (subst (λ (i : Image). IsFirstBad number i (named_snapshot manifest).files file place) (seen2 ∙ seen1) bad)

  pub calls_by : (calls : ℕ) (new : D) → IsOpenedBy number (d.seen zero_) calls → (region : Region) → IsAssembled d number (d.seen two) (named_snapshot manifest) replayed.batches region three → Passes d zero_ new (12 + (opening_calls region.flushing.files.items + loading_calls region.flushing.files.items))
      → Passes d zero_ new calls
  calls_by calls new by region all passes =
      let is = opened_calls number (d.seen zero_) (named_snapshot manifest) all.lists calls started.stood (subst (λ (i : Image). FilesStand number i (named_snapshot manifest).files all.lists) (seen2 ∙ seen1) all.files) by in
      passes_most d zero_ new (12 + (opening_calls region.flushing.files.items + loading_calls region.flushing.files.items)) calls passes (let few = all.few in omega (arith, is))

  pub opened_by : (region : Region) → IsAssembled d number (d.seen two) (named_snapshot manifest) replayed.batches region three → (s : RegionData) × RegionStands number (d.seen zero_) s × RegionHolds d region three s
  opened_by region all =
      let s : RegionData = record { cells = cells_over (named_snapshot manifest).flushed replayed.batches all.lists; horizon = (named_snapshot manifest).horizon } in (
        s,
        record {
          named = named_snapshot manifest;
          reads = record {
            batches = replayed.batches;
            lists = all.lists;
            manifest = started.stood;
            log = stood;
            files = subst (λ (i : Image). FilesStand number i (named_snapshot manifest).files all.lists) (seen2 ∙ seen1) all.files;
            is = refl;
          };
          horizon_is = refl;
        },
        all.holds,
      )

pub if_ok : {T E : Type 0} (r : Result T E) (P Q : T → Type 0) → ((x : T) → P x → Q x) → IfOk r P → IfOk r Q
if_ok (Ok x) P Q f p = f x p
if_ok (Err e) P Q f p = tt

pub if_both : {T E : Type 0} (r : Result T E) (P Q R : T → Type 0) → ((x : T) → P x → Q x → R x) → IfOk r P → IfOk r Q → IfOk r R
if_both (Ok x) P Q R f p q = f x p q
if_both (Err e) P Q R f p q = tt
