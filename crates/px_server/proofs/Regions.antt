-- A region of a group goes on with other contents.
--
-- The region is that of the group's rows (`ToRows`) or that of the index at a place (`ToIndex`).
use Rattle.std.proofs.Common.{◌≡◌, ◌<◌, ◌≤◌, inl, inr, ℕ, zero, suc, Some, List, slice_get, sym, ap, subst, ◌∙◌, arith}
use Rattle.std.proofs.Math.ListN.{set}
use Rattle.px_outside.specs.Disk.{Image, IsLeftBy}
use Rattle.px_outside.specs.OnDisk.{TouchesOnly}
use Rattle.px_outside.specs.declared.disk.Disk.{Ghosts}
use Rattle.px_outside.proofs.Parts.{stand_with}
use Rattle.px_wal.specs.Files.{HasFile}
use Rattle.px_region.specs.Region.{RegionData, RegionHolds, RegionStands}
use Rattle.px_region.specs.declared.region.Region.{Region}
use Rattle.px_trail.specs.Trail.{Base, catalogue_of}
use Rattle.px_trail.specs.declared.entry.Entry.{Entry}
use Rattle.px_group.specs.Group.{AreStanding, IsRightGroup}
use Rattle.px_group.specs.declared.group.Group.{Group}
use Rattle.px_group.specs.declared.group.IndexRegion.{IndexRegion}
use Rattle.px_batching.proofs.Places.{set_cases}
use Rattle.px_defined.specs.Defined.{HasOnce}
use Rattle.px_recovery.specs.Folder.{Cells, FolderData, IsFileOfPart, IsKeptPart, PartStands, StandsFor, StandsOn, part_of, with_region}
use Rattle.px_recovery.specs.Stands.{AreNumbered, TellsCatalogue}
use Rattle.px_recovery.proofs.Regions.{all_moved, fresh_stands, parts_apart, unmade_moved}
use Rattle.px_server.specs.Kept.{IsOnDisk}
use Rattle.px_server.proofs.Framed.{region_framed, region_here}
use Rattle.px_server.proofs.Numbers.{index_lack, rows_lack}

-- ---- 1. What becomes of the group

-- the region of the rows is another one; the table, the points, and all other regions stay
pub record ToRows (g g' : Group) (new : Region) : Type 0 where
  pub table : g'.table ≡ g.table
  pub points : g'.points ≡ g.points
  pub rows : g'.rows ≡ new
  pub indexes : g'.indexes.items ≡ g.indexes.items

-- or that of the index at the place
pub record ToIndex (g g' : Group) (i : ℕ) (x : IndexRegion) (new : Region) : Type 0 where
  pub table : g'.table ≡ g.table
  pub points : g'.points ≡ g.points
  pub index : slice_get g.indexes.items i ≡ Some x
  pub rows : g'.rows ≡ g.rows
  pub indexes : g'.indexes.items ≡ set g.indexes.items i (record x { region = new })

-- ---- 2. The disk

module _ {D : Type 0} (d : Ghosts D) (disk disk' : D) (b : Base) (es : List Entry) (f : FolderData) (tells : TellsCatalogue f.standing (catalogue_of b es)) (numbered : AreNumbered f.standing) (g g' : Group) (right : IsRightGroup g) (standing : AreStanding b es g) (s : RegionData) (on : IsOnDisk d disk f g) where
  pub rows_on : (new : Region) → ToRows g g' new → new.number ≡ g.rows.number → TouchesOnly d disk disk' (HasFile g.rows.number) → RegionHolds d new disk' s → IsOnDisk d disk' (with_region g.rows.number s f) g'
  rows_on new to number touches holds = record {
    rows = subst (λ (r : Region). RegionHolds d r disk' ((with_region g.rows.number s f).regions r.number)) (sym to.rows) (region_here d disk' f g.rows.number s new number holds);
    indexes = λ i x at. (let
        there : slice_get g.indexes.items i ≡ Some x = ap (λ (xs : List IndexRegion). slice_get xs i) (sym to.indexes) ∙ at
        in region_framed d disk disk' g.rows.number touches f s x.region (rows_lack b es f.standing tells numbered g right standing i x there) (on.indexes i x there));
  }

  pub index_on : HasOnce g → (i : ℕ) (x : IndexRegion) (new : Region) → ToIndex g g' i x new → new.number ≡ x.region.number → TouchesOnly d disk disk' (HasFile x.region.number) → RegionHolds d new disk' s → IsOnDisk d disk' (with_region x.region.number s f) g'
  index_on once i x new to number touches holds = record {
    rows = subst (λ (r : Region). RegionHolds d r disk' ((with_region x.region.number s f).regions r.number)) (sym to.rows) (region_framed d disk disk' x.region.number touches f s g.rows (λ same. rows_lack b es f.standing tells numbered g right standing i x to.index (sym same)) on.rows);
    indexes = λ j z at. elim (set_cases g.indexes.items i j (record x { region = new }) z (ap (λ (xs : List IndexRegion). slice_get xs j) (sym to.indexes) ∙ at)) [
      | inl q ↦ subst (λ (w : IndexRegion). RegionHolds d w.region disk' ((with_region x.region.number s f).regions w.region.number)) (sym q.1) (region_here d disk' f x.region.number s new number holds)
      | inr q ↦ region_framed d disk disk' x.region.number touches f s z.region (index_lack b es f.standing tells numbered g right standing once i x to.index j z q.1 q.0) (on.indexes j z q.1)
    ];
  }

-- ---- 3. An image

-- A region has these contents in an image that calls on its files leave: so the image has the folder with them.
module _ {D : Type 0} (d : Ghosts D) (old new : D) (f : FolderData) (on : StandsOn d old f) where
  pub image_at : (n : ℕ) → 1 ≤ n → n < f.standing.next → (s : RegionData) → TouchesOnly d old new (HasFile n) → (moment : ℕ) (image : Image) → d.calls old ≤ moment → IsLeftBy d.left new moment image → RegionStands n image s → StandsFor image (with_region n s f)
  image_at zero some below s touches moment image since left here = absurd (omega arith)
  image_at (suc n) some below s touches moment image since left here = record {
    parts = all_moved f n s image (stand_with d IsFileOfPart PartStands parts_apart (IsKeptPart f.standing) (part_of f) old new on.parts (suc n) (HasFile (suc n)) touches (λ file own. own) (Cells s) moment image since left here);
    fresh = fresh_stands d f old new on n below touches moment image since left;
    unmade = unmade_moved f n s below on.unmade;
  }
