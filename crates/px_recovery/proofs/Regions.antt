-- Calls on the files of one region.
use Rattle.std.proofs.Common.{◌≡◌, ◌≢◌, ◌<◌, ◌≤◌, ◌⊎◌, inl, inr, ℕ, zero, suc, refl, sym, ap, subst, ◌∙◌, arith}
use Rattle.std.proofs.lemmas.Bool.{cases_eq}
use Rattle.px_outside.specs.Disk.{Image, IsLeftBy, LeavesOnlyBy, TouchesOnlyBy}
use Rattle.px_outside.specs.Parts.{AllStand, with_part}
use Rattle.px_outside.specs.Standing.{StandsIn}
use Rattle.px_outside.specs.declared.disk.Disk.{Ghosts}
use Rattle.px_outside.proofs.Moments.{only_kept}
use Rattle.px_outside.proofs.Parts.{all_kept, one_kept, one_moves, one_stays, with_part-here, with_part-other}
use Rattle.px_wal.specs.Files.{HasFile}
use Rattle.px_region.specs.Region.{RegionData, RegionStands}
use Rattle.px_region.proofs.Holding.{files_apart}
use Rattle.px_recovery.specs.Folder.{AreFresh, AreUnmade, Cells, FolderData, IsEmptyFrom, IsFileOfPart, IsKeptPart, PartData, PartStands, StandsFor, StandsOn, from, part_of, with_region}

-- ---- parts have no file in common

pub parts_apart : (q r file : ℕ) → q ≢ r → IsFileOfPart q file → IsFileOfPart r file → ⊥
parts_apart zero zero file other a b = other refl
parts_apart zero (suc r) file other (inl a) b = let i = b.is in omega arith
parts_apart zero (suc r) file other (inr a) b = let i = b.is in omega arith
parts_apart (suc q) zero file other a (inl b) = let i = a.is in omega arith
parts_apart (suc q) zero file other a (inr b) = let i = a.is in omega arith
parts_apart (suc q) (suc r) file other a b = files_apart (suc q) (suc r) file other a b

-- no region below has a file of those that are still to be made
pub fresh_apart : (next n file : ℕ) → n < next → from next file → HasFile n file → ⊥
fresh_apart next n file lt is a = let i = a.is in let s = a.short in omega arith

-- ---- a region as a part

module _ (f : FolderData) (n : ℕ) (s : RegionData) where
  part_is : (q : ℕ) → with_part (part_of f) (suc n) (Cells s) q ≡ part_of (with_region (suc n) s f) q
  part_is zero = with_part-other (part_of f) (suc n) (Cells s) zero (omega arith)
  part_is (suc m) = elim (cases_eq (suc m) (suc n)) [
    | inl e ↦ subst (λ (k : ℕ). with_part (part_of f) (suc n) (Cells s) k ≡ Cells s) (sym e) (with_part-here (part_of f) (suc n) (Cells s)) ∙ ap Cells (sym (subst (λ (k : ℕ). with_part f.regions (suc n) s k ≡ s) (sym e) (with_part-here f.regions (suc n) s)))
    | inr e ↦ with_part-other (part_of f) (suc n) (Cells s) (suc m) e ∙ ap Cells (sym (with_part-other f.regions (suc n) s (suc m) e))
  ]

  pub all_moved : (image : Image) → AllStand PartStands (IsKeptPart f.standing) (with_part (part_of f) (suc n) (Cells s)) image → AllStand PartStands (IsKeptPart f.standing) (part_of (with_region (suc n) s f)) image
  all_moved image all q keeps = subst (λ (c : PartData). PartStands q image c) (part_is q) (all q keeps)

  pub unmade_moved : suc n < f.standing.next → AreUnmade f → AreUnmade (with_region (suc n) s f)
  unmade_moved below unmade q from_next = with_part-other f.regions (suc n) s q (λ is. omega (arith, is, below, from_next)) ∙ unmade q from_next

-- ---- calls on its files

module _ {D : Type 0} (d : Ghosts D) (f : FolderData) (old new : D) (on : StandsOn d old f) (n : ℕ) (below : suc n < f.standing.next) (touches : TouchesOnlyBy d.calls d.left d.seen old new (HasFile (suc n))) where
  pub fresh_stands : (moment : ℕ) (image : Image) → d.calls old ≤ moment → IsLeftBy d.left new moment image → IsEmptyFrom f.standing.next image
  fresh_stands moment image since is file own =
      on.fresh.on_disk file own (image file) (touches.others moment file (image file) since (fresh_apart f.standing.next (suc n) file below own) (is file)) ∙ on.fresh.empty file own

  pub fresh_kept : AreFresh d new f.standing.next
  fresh_kept = record {
    on_disk = λ file own. only_kept d.calls d.left d.seen old new (HasFile (suc n)) file touches (fresh_apart f.standing.next (suc n) file below own) (on.fresh.on_disk file own);
    empty = λ file own. touches.sees file (fresh_apart f.standing.next (suc n) file below own) ∙ on.fresh.empty file own;
  }

  -- that leave what it stands for
  pub region_stays : LeavesOnlyBy d.calls d.left old new (λ moment image. RegionStands (suc n) image (f.regions (suc n))) → LeavesOnlyBy d.calls d.left old new (λ moment image. StandsFor image f)
  region_stays leaves =
      let stand = one_stays d IsFileOfPart PartStands parts_apart (IsKeptPart f.standing) (part_of f) old new on.parts (suc n) (HasFile (suc n)) touches (λ file own. own) leaves in
      record { each = λ moment image since is. record { parts = stand.each moment image since is; fresh = fresh_stands moment image since is; unmade = on.unmade } }

  pub region_kept : StandsIn d new (HasFile (suc n)) (λ image. RegionStands (suc n) image (f.regions (suc n))) → StandsOn d new f
  region_kept here = record { parts = all_kept d IsFileOfPart PartStands parts_apart (IsKeptPart f.standing) (part_of f) old new on.parts (suc n) (HasFile (suc n)) touches (λ file own. own) here; fresh = fresh_kept; unmade = on.unmade }

  -- or leave it with other contents
  module _ (s : RegionData) where
    pub region_moves : LeavesOnlyBy d.calls d.left old new (λ moment image. RegionStands (suc n) image (f.regions (suc n)) ⊎ RegionStands (suc n) image s)
        → LeavesOnlyBy d.calls d.left old new (λ moment image. StandsFor image f ⊎ StandsFor image (with_region (suc n) s f))
    region_moves leaves =
        let stand = one_moves d IsFileOfPart PartStands parts_apart (IsKeptPart f.standing) (part_of f) old new on.parts (suc n) (HasFile (suc n)) touches (λ file own. own) (Cells s) leaves in
        record {
          each = λ moment image since is. elim (stand.each moment image since is) [
            | inl a ↦ inl (record { parts = a; fresh = fresh_stands moment image since is; unmade = on.unmade })
            | inr z ↦ inr (record { parts = all_moved f n s image z; fresh = fresh_stands moment image since is; unmade = unmade_moved f n s below on.unmade })
          ];
        }

    pub region_moved : StandsIn d new (HasFile (suc n)) (λ image. RegionStands (suc n) image s) → StandsOn d new (with_region (suc n) s f)
    region_moved here =
        let kept = one_kept d IsFileOfPart PartStands parts_apart (IsKeptPart f.standing) (part_of f) old new on.parts (suc n) (HasFile (suc n)) touches (λ file own. own) (Cells s) here in
        record {
          parts = λ q keeps. record { each = λ image left. subst (λ (c : PartData). PartStands q image c) (part_is f n s q) ((kept q keeps).each image left) };
          fresh = fresh_kept;
          unmade = unmade_moved f n s below on.unmade;
        }

-- ---- the same of a number that is at least 1

module _ {D : Type 0} (d : Ghosts D) (old new : D) (f : FolderData) (on : StandsOn d old f) where
  pub moves_at : (n : ℕ) → 1 ≤ n → n < f.standing.next → (s : RegionData) → TouchesOnlyBy d.calls d.left d.seen old new (HasFile n) → LeavesOnlyBy d.calls d.left old new (λ moment image. RegionStands n image (f.regions n) ⊎ RegionStands n image s)
      → LeavesOnlyBy d.calls d.left old new (λ moment image. StandsFor image f ⊎ StandsFor image (with_region n s f))
  moves_at zero some below s touches leaves = absurd (omega arith)
  moves_at (suc n) some below s touches leaves = region_moves d f old new on n below touches s leaves

  pub moved_at : (n : ℕ) → 1 ≤ n → n < f.standing.next → (s : RegionData) → TouchesOnlyBy d.calls d.left d.seen old new (HasFile n) → StandsIn d new (HasFile n) (λ image. RegionStands n image s) → StandsOn d new (with_region n s f)
  moved_at zero some below s touches here = absurd (omega arith)
  moved_at (suc n) some below s touches here = region_moved d f old new on n below touches s here

  pub stays_at : (n : ℕ) → 1 ≤ n → n < f.standing.next → TouchesOnlyBy d.calls d.left d.seen old new (HasFile n) → LeavesOnlyBy d.calls d.left old new (λ moment image. RegionStands n image (f.regions n)) → LeavesOnlyBy d.calls d.left old new (λ moment image. StandsFor image f)
  stays_at zero some below touches leaves = absurd (omega arith)
  stays_at (suc n) some below touches leaves = region_stays d f old new on n below touches leaves

  pub kept_at : (n : ℕ) → 1 ≤ n → n < f.standing.next → TouchesOnlyBy d.calls d.left d.seen old new (HasFile n) → StandsIn d new (HasFile n) (λ image. RegionStands n image (f.regions n)) → StandsOn d new f
  kept_at zero some below touches here = absurd (omega arith)
  kept_at (suc n) some below touches here = region_kept d f old new on n below touches here
