-- Room that is taken, and cells that are written with it.
use Rattle.std.proofs.Common.{◌≡◌, ℕ, zero, suc, ◌<◌, ◌≤◌, ◌⊎◌, Result, Ok, Err, Some, List, [], ◌∷◌, ◌++◌, length, refl, ap, sym, ◌∙◌, subst, arith}
use Rattle.std.specs.Prelude.{get_or, min, slice_get}
use Rattle.px_outside.specs.OnDisk.{LeavesOnly, Passes, Rose, TouchesOnly}
use Rattle.px_outside.specs.declared.disk.Disk.{Ghosts}
use Rattle.px_cells.specs.CellData.{CellData}
use Rattle.px_keptcells.specs.Kept.{laid}
use Rattle.px_merge.specs.Settle.{settle}
use Rattle.px_wal.specs.Files.{HasFile}
use Rattle.px_region.specs.OnlyRead.{HasOnlyRead}
use Rattle.px_region.specs.Promise.{IsAlike}
use Rattle.px_region.specs.Region.{RegionData, RegionHolds, RegionStands, data_of, read_of, with_batch}
use Rattle.px_region.specs.declared.region.Region.{Region}
use Rattle.px_region.proofs.Holding.{holds_alike}
use Rattle.px_batching.proofs.Handed.{reads_settled}
use Rattle.px_group.specs.Writing.{HasWritten, WritesTo}
use Rattle.px_group.specs.declared.group.Group.{Group}
use Rattle.px_group.specs.declared.group.IndexRegion.{IndexRegion}
use Rattle.px_reading.specs.Looked.{HasLooked, IsLookedAt}
use Rattle.px_reading.proofs.Looked.{looked_then}
use Rattle.px_repairs.specs.Repairs.{Fixes, HasFixed, HasOnlyLooked, HasStayed, IsJudged, IsRegionStep, IsRepair, Repaired, TellsNoDisk, Written}
use Rattle.px_repairs.specs.declared.judging.Judged.{Judged}
use Rattle.px_repairs.specs.declared.judging.Judged.TheVariants.{Due}
use Rattle.px_repairs.specs.declared.repairing.RepairFault.{RepairFault}
use Rattle.px_repairs.specs.declared.repairing.RepairFault.TheVariants.{Busy, NotReady, ReadFault, Damaged, WriteFault, Memory}

-- ---- room

-- a count that stands below the limits is the whole count
pub min_whole : (n m : ℕ) → m ≡ min n 18446744073709551615 → m ≤ 16777216 → m ≡ n
min_whole n m e l = omega arith

-- ---- cells

module _ {D : Type 0} (d : Ghosts D) (old taken new : Region) (disk disk' : D) (cells : List CellData) (alike : IsAlike old taken) where
  pub writes_taken : new.number ≡ taken.number → (data_of new).horizon ≡ (data_of taken).horizon → ((s : RegionData) → RegionHolds d taken disk s → LeavesOnly d disk disk' (λ moment image. RegionStands taken.number image s ⊎ RegionStands taken.number image (with_batch s cells)))
      → ((s : RegionData) → RegionHolds d taken disk s → TouchesOnly d disk disk' (HasFile taken.number)) → Passes d disk disk' 4 → WritesTo d old new disk disk' cells
  writes_taken number horizon leaves touches counts = record {
    number = number ∙ alike.number;
    horizon = horizon ∙ alike.horizon;
    leaves = λ s holds. subst (λ (n : ℕ). LeavesOnly d disk disk' (λ moment image. RegionStands n image s ⊎ RegionStands n image (with_batch s cells))) alike.number (leaves s (holds_alike d old disk s holds taken alike));
    touches = λ s holds. subst (λ (n : ℕ). TouchesOnly d disk disk' (HasFile n)) alike.number (touches s (holds_alike d old disk s holds taken alike));
    counts = counts;
  }

  pub written_taken : ((s : RegionData) → RegionHolds d taken disk s → RegionHolds d new disk' (with_batch s cells)) → read_of new ≡ settle (cells ++ read_of taken) → HasWritten d old new disk disk' cells
  written_taken holds reads = record {
    holds = λ s has. holds s (holds_alike d old disk s has taken alike);
    reads = reads_settled cells (read_of old) (read_of new) (reads ∙ ap (λ (l : List CellData). settle (cells ++ l)) alike.store);
  }

-- ---- the table

pub got_some : {A : Type 0} (xs : List A) (i : ℕ) (d x : A) → i < length xs → x ≡ get_or xs i d → slice_get xs i ≡ Some x
got_some [] i d x l e = absurd (omega arith)
got_some (y ∷ xs) zero d x l e = ap Some (sym e)
got_some (y ∷ xs) (suc i) d x l e = got_some xs i d x (omega arith) e

module _ {D T : Type 0} (d : Ghosts D) (g g' : Group) (disk disk' : D) (place : ℕ) (kept : List CellData) (x : IndexRegion) (new : Region) (step : IsRegionStep g g' place x new) (stays : IsLookedAt x.region new → HasLooked g g') where
  pub repaired_by : (result : Result T RepairFault) → Written d x.region new disk disk' kept result → Repaired d g g' disk disk' place kept result
  repaired_by (Ok done) w = record { index = x; region = new; step = step; wrote = w }
  repaired_by (Err WriteFault) w = record { index = x; region = new; step = step; hands = w }
  repaired_by (Err (Busy cells bytes)) w = record { looked = stays w.0; untouched = w.1 }
  repaired_by (Err NotReady) w = record { looked = stays w.0; untouched = w.1 }
  repaired_by (Err Memory) w = record { looked = stays w.0; untouched = w.1 }
  repaired_by (Err ReadFault) w = w
  repaired_by (Err (Damaged file at)) w = w

-- where no room is taken, or no memory, the region stays as it was
pub not_taken : {D T : Type 0} (d : Ghosts D) (old new : Region) (disk : D) (kept : List CellData) (result : Result T RepairFault) (fault : RepairFault) → result ≡ Err fault → TellsNoDisk fault → IsLookedAt old new → Written {T = T} d old new disk disk kept (Err fault)
not_taken d old new disk kept result (Busy cells bytes) is none l = (l, refl)
not_taken d old new disk kept result NotReady is none l = (l, refl)
not_taken d old new disk kept result Memory is none l = (l, refl)
not_taken d old new disk kept result ReadFault is none l = none
not_taken d old new disk kept result (Damaged file at) is none l = none
not_taken d old new disk kept result WriteFault is none l = absurd none

-- writing tells of no read
pub no_read : {D T : Type 0} (d : Ghosts D) (g g' : Group) (disk disk' : D) (place : ℕ) (kept : List CellData) (result : Result T RepairFault) → Repaired d g g' disk disk' place kept result → result ≡ Err ReadFault → ⊥
no_read {D} {T} d g g' disk disk' place kept result r e = subst (λ (z : Result T RepairFault). Repaired d g g' disk disk' place kept z) e r

pub no_damage : {D T : Type 0} (d : Ghosts D) (g g' : Group) (disk disk' : D) (place : ℕ) (kept : List CellData) (file at : ℕ) (result : Result T RepairFault) → Repaired d g g' disk disk' place kept result → result ≡ Err (Damaged file at) → ⊥
no_damage {D} {T} d g g' disk disk' place kept file at result r e = subst (λ (z : Result T RepairFault). Repaired d g g' disk disk' place kept z) e r

-- a repair of a table that was looked at before
module _ {D : Type 0} (d : Ghosts D) (g looked g' : Group) (disk middle disk' : D) (reads : HasOnlyRead d disk middle) (place : ℕ) (k : List ℕ) (s : ℕ) (kept : List CellData) (has : HasLooked g looked) (due : IsRepair looked place k s kept) where
  pub fixed_by : {T : Type 0} (result : Result T RepairFault) (x : T) → result ≡ Ok x → Repaired d looked g' middle disk' place kept result → HasFixed d g g' disk disk' place k s
  fixed_by {T} result x e r = record { looked = looked; read = middle; has = has; reads = reads; kept = kept; due = due; wrote = subst (λ (z : Result T RepairFault). Repaired d looked g' middle disk' place kept z) e r }

  stayed : HasStayed looked g' middle disk' → HasOnlyLooked d g g' disk disk'
  stayed w = record { looked = looked_then g looked g' has w.looked; reads = subst (HasOnlyRead d disk) (sym w.untouched) reads }

  failed_of : (T : Type 0) (fault : RepairFault) → (fault ≡ WriteFault → Rose d middle disk') → Repaired {T = T} d looked g' middle disk' place kept (Err fault) → Fixes d g g' disk disk' place k s (Err fault)
  failed_of T WriteFault rose w = record { looked = looked; read = middle; has = has; reads = reads; kept = kept; due = due; hands = w; rose = rose refl }
  failed_of T (Busy cells bytes) rose w = stayed w
  failed_of T NotReady rose w = stayed w
  failed_of T Memory rose w = stayed w
  failed_of T ReadFault rose w = absurd w
  failed_of T (Damaged file at) rose w = absurd w

  pub failed_by : {T : Type 0} (result : Result T RepairFault) (fault : RepairFault) → result ≡ Err fault → (fault ≡ WriteFault → Rose d middle disk') → Repaired d looked g' middle disk' place kept result → Fixes d g g' disk disk' place k s (Err fault)
  failed_by {T} result fault e rose r = failed_of T fault rose (subst (λ (z : Result T RepairFault). Repaired d looked g' middle disk' place kept z) e r)

pub judged_due : (g : Group) (place : ℕ) (k : List ℕ) (s : ℕ) (j : Judged) (kept : List (List CellData)) → j ≡ Due kept → IsJudged g place k s j → IsRepair g place k s (laid kept)
judged_due g place k s j kept e is = (subst (IsJudged g place k s) e is).0
