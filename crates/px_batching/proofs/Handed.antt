-- Cells that are handed to a region, if there are any.
use Rattle.std.proofs.Common.{◌≡◌, ℕ, Result, Ok, Err, OnOk, List, [], ◌∷◌, ◌++◌, length, ◌≤◌, ◌==◌, true, refl, ap, sym, ◌∙◌, subst, inl, arith}
use Rattle.px_outside.specs.declared.disk.Disk.{Ghosts}
use Rattle.px_outside.proofs.Moments.{touches_none}
use Rattle.px_cells.specs.CellData.{CellData}
use Rattle.px_cells.specs.Order.{ReadsSame}
use Rattle.px_merge.specs.Merged.{joined}
use Rattle.px_merge.specs.Settle.{settle}
use Rattle.px_merge.proofs.Settling.{settle_back, settle_is}
use Rattle.px_wal.specs.Batches.{batches_above, later_first}
use Rattle.px_wal.specs.Files.{HasFile}
use Rattle.px_wal.specs.Manifest.{named_snapshot}
use Rattle.px_region.specs.Region.{RegionData, RegionHolds, read_of, with_batch}
use Rattle.px_region.specs.declared.region.Region.{Region}
use Rattle.px_region.proofs.Holding.{stands_now, store_is_all}
use Rattle.px_group.specs.Writing.{HasWritten, WritesTo}
use Rattle.std.proofs.lemmas.Bool.Decides.{nat_tests}

pub no_cells : (cells : List CellData) → (length cells == 0) ≡ true → cells ≡ []
no_cells [] e = refl
no_cells (c ∷ cells) e = absurd (grind (arith, nat_tests))

module _ {D : Type 0} (d : Ghosts D) (region : Region) (disk : D) (up_to_now : (x : D) (moment file : ℕ) (bytes : List ℕ) → d.left x moment file bytes → moment ≤ d.calls x) where
  pub writes_none : (cells : List CellData) → WritesTo d region region disk disk cells
  writes_none cells = record {
    number = refl;
    horizon = refl;
    leaves = λ s holds. record { each = λ moment image later left. inl ((stands_now d region disk s holds up_to_now).each moment image later left) };
    touches = λ s holds. touches_none d.calls d.left d.seen up_to_now disk (HasFile region.number);
    counts = record { later = omega arith; at_most = omega arith; faults_later = omega arith; begun = refl };
  }

module _ {D : Type 0} (d : Ghosts D) (region : Region) (disk : D) where
  -- a batch without a cell changes nothing
  pub same_data : (s : RegionData) → RegionHolds d region disk s → with_batch s [] ≡ s
  same_data s holds = λ i. record { cells = q i; horizon = s.horizon }
    where
      older : List CellData
      older = later_first (batches_above (named_snapshot region.manifest).flushed holds.batches) ++ joined holds.lists

      is : s.cells ≡ settle older
      is = sym (store_is_all d region disk s holds) ∙ holds.store

      q : settle s.cells ≡ s.cells
      q = ap settle is ∙ (settle_back [] older ∙ sym is)

  pub written_none : (cells : List CellData) → cells ≡ [] → HasWritten d region region disk disk cells
  written_none cells e = subst (λ (l : List CellData). HasWritten d region region disk disk l) (sym e) record {
    holds = λ s holds. subst (λ (w : RegionData). RegionHolds d region disk w) (sym (same_data s holds)) holds;
    reads = λ c. (λ r. r, λ r. r);
  }

pub reads_settled : (batch old new : List CellData) → new ≡ settle (batch ++ old) → ReadsSame new (batch ++ old)
reads_settled batch old new e = subst (λ (l : List CellData). ReadsSame l (batch ++ old)) (sym e) (settle_is (batch ++ old)).same

pub has_written : {D T E : Type 0} (d : Ghosts D) (old new : Region) (disk disk' : D) (cells : List CellData) (result : Result T E)
    → ((s : RegionData) → RegionHolds d old disk s → OnOk result (RegionHolds d new disk' (with_batch s cells)))
    → OnOk result (read_of new ≡ settle (cells ++ read_of old))
    → OnOk result (HasWritten d old new disk disk' cells)
has_written d old new disk disk' cells (Ok x) holds read = record { holds = holds; reads = reads_settled cells (read_of old) (read_of new) read }
has_written d old new disk disk' cells (Err e) holds read = tt
