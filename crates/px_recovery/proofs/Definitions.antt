-- Calls on the files of the catalogue.
use Rattle.std.proofs.Common.{◌≡◌, ◌<◌, ◌≤◌, ◌⊎◌, inl, inr, ℕ, zero, suc, [], refl, sym, subst, ◌∙◌, arith}
use Rattle.px_outside.specs.Disk.{Image, IsLeftBy, LeavesOnlyBy, TouchesOnlyBy}
use Rattle.px_outside.specs.Parts.{AllStand, AllStandIn}
use Rattle.px_outside.specs.Standing.{StandsIn}
use Rattle.px_outside.specs.declared.disk.Disk.{Ghosts}
use Rattle.px_outside.proofs.Moments.{only_kept}
use Rattle.px_outside.proofs.Parts.{all_kept, one_stays, others_kept, others_stand}
use Rattle.px_gatelog.proofs.LogRecords.{empty_records}
use Rattle.px_merge.proofs.Settling.{settle_sorted}
use Rattle.px_wal.specs.Files.{file_of}
use Rattle.px_wal.specs.Form.{wal_form}
use Rattle.px_wal.specs.Snapshot.{manifest_form, nothing_named}
use Rattle.px_wal.specs.Snapshot.IsLast.{none as none_recorded}
use Rattle.px_region.specs.Region.{RegionData, RegionStands}
use Rattle.px_schema.specs.declared.standing.Standing.{Standing}
use Rattle.px_catalog.specs.Catalogue.{CatalogueStands, catalogue_files}
use Rattle.px_recovery.specs.Folder.{AreFresh, FolderData, IsEmptyFrom, IsFileOfPart, IsKeptPart, PartStands, StandsFor, StandsOn, from, no_data, part_of, with_standing}
use Rattle.px_recovery.proofs.Regions.{parts_apart}

-- ---- a region without a byte

pub empty_stands : (n : ℕ) (image : Image) → ((local : ℕ) → local < 4 → image (file_of n local) ≡ []) → RegionStands n image no_data
empty_stands n image none = record {
  named = nothing_named;
  reads = record {
    batches = [];
    lists = [];
    manifest = record {
      records = [];
      stands = empty_records manifest_form (file_of n 2) (file_of n 3) image (none 2 (omega arith)) (none 3 (omega arith));
      last = none_recorded refl refl;
      right = record { flushed = omega arith; horizon = omega arith; stamp = omega arith; compactions = omega arith; few = omega arith; files = tt };
    };
    log = record { records = empty_records (wal_form 0) (file_of n 0) (file_of n 1) image (none 0 (omega arith)) (none 1 (omega arith)); right = record { each = tt; rising = tt; first = tt } };
    files = tt;
    is = sym (settle_sorted [] tt);
  };
  horizon_is = refl;
}

-- ---- calls on the catalogue's files

module _ {D : Type 0} (d : Ghosts D) (old new : D) (f : FolderData) (on : StandsOn d old f) (some : 1 ≤ f.standing.next) (touches : TouchesOnlyBy d.calls d.left d.seen old new catalogue_files) where
  not_fresh : (file : ℕ) → from f.standing.next file → catalogue_files file → ⊥
  not_fresh file own (inl is) = omega (arith, some, own, is)
  not_fresh file own (inr is) = omega (arith, some, own, is)

  fresh_now : (moment : ℕ) (image : Image) → d.calls old ≤ moment → IsLeftBy d.left new moment image → IsEmptyFrom f.standing.next image
  fresh_now moment image since is file own = on.fresh.on_disk file own (image file) (touches.others moment file (image file) since (not_fresh file own) (is file)) ∙ on.fresh.empty file own

  fresh_after : AreFresh d new f.standing.next
  fresh_after = record {
    on_disk = λ file own. only_kept d.calls d.left d.seen old new catalogue_files file touches (not_fresh file own) (on.fresh.on_disk file own);
    empty = λ file own. touches.sees file (not_fresh file own) ∙ on.fresh.empty file own;
  }

  region_then : (moment : ℕ) (image : Image) → d.calls old ≤ moment → IsLeftBy d.left new moment image → (m : ℕ) → IsKeptPart f.standing (suc m) → RegionStands (suc m) image (f.regions (suc m))
  region_then moment image since is m keeps = others_stand d IsFileOfPart PartStands parts_apart (IsKeptPart f.standing) (part_of f) old new on.parts zero catalogue_files touches (λ file own. own) moment image since is (suc m) keeps (omega arith)

  -- that leave what stands, as those of a fresh catalogue
  pub catalogue_stays : LeavesOnlyBy d.calls d.left old new (λ moment image. CatalogueStands image f.standing) → LeavesOnlyBy d.calls d.left old new (λ moment image. StandsFor image f)
  catalogue_stays leaves = record {
    each = λ moment image since is. record {
      parts = (one_stays d IsFileOfPart PartStands parts_apart (IsKeptPart f.standing) (part_of f) old new on.parts zero catalogue_files touches (λ file own. own) leaves).each moment image since is;
      fresh = fresh_now moment image since is;
      unmade = on.unmade;
    };
  }

  pub catalogue_kept : StandsIn d new catalogue_files (λ image. CatalogueStands image f.standing) → StandsOn d new f
  catalogue_kept here = record { parts = all_kept d IsFileOfPart PartStands parts_apart (IsKeptPart f.standing) (part_of f) old new on.parts zero catalogue_files touches (λ file own. own) here; fresh = fresh_after; unmade = on.unmade }

  -- or leave others standing: what they name was named, or is drawn now
  module _ (s : Standing) (up : f.standing.next ≤ s.next) (drawn : (m : ℕ) → IsKeptPart s (suc m) → IsKeptPart f.standing (suc m) ⊎ (f.standing.next ≤ suc m)) where
    nothing_yet : (m : ℕ) → f.standing.next ≤ suc m → (image : Image) → RegionStands (suc m) image no_data → RegionStands (suc m) image (f.regions (suc m))
    nothing_yet m new_one image stands = subst (λ (r : RegionData). RegionStands (suc m) image r) (sym (on.unmade (suc m) new_one)) stands

    pub catalogue_moves : LeavesOnlyBy d.calls d.left old new (λ moment image. CatalogueStands image f.standing ⊎ CatalogueStands image s)
        → LeavesOnlyBy d.calls d.left old new (λ moment image. StandsFor image f ⊎ StandsFor image (with_standing s f))
    catalogue_moves leaves = record {
      each = λ moment image since is.
          let empty = fresh_now moment image since is in
          elim (leaves.each moment image since is) [
            | inl a ↦ inl (record { parts = as_before moment image since is a; fresh = empty; unmade = on.unmade })
            | inr z ↦ inr (record {
              parts = as_after moment image since is empty z;
              fresh = λ file own. empty file (omega (arith, own, up));
              unmade = λ n own. on.unmade n (omega (arith, own, up));
            })
          ];
    }
      where
        as_before : (moment : ℕ) (image : Image) → d.calls old ≤ moment → IsLeftBy d.left new moment image → CatalogueStands image f.standing → AllStand PartStands (IsKeptPart f.standing) (part_of f) image
        as_before moment image since is a zero keeps = a
        as_before moment image since is a (suc m) keeps = region_then moment image since is m keeps

        as_after : (moment : ℕ) (image : Image) → d.calls old ≤ moment → IsLeftBy d.left new moment image → IsEmptyFrom f.standing.next image → CatalogueStands image s → AllStand PartStands (IsKeptPart s) (part_of (with_standing s f)) image
        as_after moment image since is empty z zero keeps = z
        as_after moment image since is empty z (suc m) keeps = elim (drawn m keeps) [
          | inl k ↦ region_then moment image since is m k
          | inr new_one ↦ nothing_yet m new_one image (empty_stands (suc m) image (λ local few. empty (file_of (suc m) local) (omega (arith, new_one, few))))
        ]

    pub catalogue_moved : StandsIn d new catalogue_files (λ image. CatalogueStands image s) → StandsOn d new (with_standing s f)
    catalogue_moved here = record {
      parts = each_part;
      fresh = record { on_disk = λ file own. fresh_after.on_disk file (omega (arith, own, up)); empty = λ file own. fresh_after.empty file (omega (arith, own, up)) };
      unmade = λ n own. on.unmade n (omega (arith, own, up));
    }
      where
        each_part : AllStandIn d IsFileOfPart PartStands (IsKeptPart s) (part_of (with_standing s f)) new
        each_part zero keeps = here
        each_part (suc m) keeps = elim (drawn m keeps) [
          | inl k ↦ others_kept d IsFileOfPart PartStands parts_apart (IsKeptPart f.standing) (part_of f) old new on.parts zero catalogue_files touches (λ file own. own) (suc m) k (omega arith)
          | inr new_one ↦ record {
            each = λ image left. nothing_yet m new_one image (empty_stands (suc m) image (λ local few.
                let file = file_of (suc m) local in
                let own : from f.standing.next (file_of (suc m) local) = omega (arith, new_one, few) in
                fresh_after.on_disk file own (image file) (left file (record { local = local; is = refl; short = omega (arith, few) })) ∙ fresh_after.empty file own));
          }
        ]
