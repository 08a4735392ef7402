-- A group of which nothing differs but what was promised and looked at in its regions.
use Rattle.std.proofs.Common.{◌≡◌, ◌≢◌, ◌+◌, ℕ, Option, Some, None, List, [], ◌∷◌, length, refl, sym, ap, subst, ◌∙◌, arith}
use Rattle.std.specs.Prelude.{sum_by}
use Rattle.std.specs.List.{AllByRecursion}
use Rattle.px_outside.specs.declared.disk.Disk.{Ghosts}
use Rattle.px_tables.specs.declared.index.Index.{Index}
use Rattle.px_tables.specs.declared.table.Table.{Table}
use Rattle.px_trail.specs.Trail.{Base, open_points}
use Rattle.px_trail.specs.declared.entry.Entry.{Entry}
use Rattle.px_forms.specs.Indexes.{IndexForm}
use Rattle.px_groupworld.specs.Group.{GroupData, table_form}
use Rattle.px_rows.specs.Spelled.{row_form}
use Rattle.px_region.specs.Promise.{IsAlike}
use Rattle.px_region.specs.Region.{RegionHolds}
use Rattle.px_region.specs.declared.region.Region.{Region}
use Rattle.px_region.proofs.Holding.{holds_alike}
use Rattle.px_defined.specs.Defined.{AreOnceIn, HasOnce}
use Rattle.px_group.specs.Group.{IsRightGroup, points_in}
use Rattle.px_group.specs.declared.group.Group.{Group}
use Rattle.px_group.specs.declared.group.IndexRegion.{IndexRegion}
use Rattle.px_group.specs.declared.group.OpenPoint.{OpenPoint}
use Rattle.px_reading.specs.Doubts.{IsToldBy}
use Rattle.px_tablereads.specs.Told.{AreTold}
use Rattle.px_recovery.specs.Folder.{FolderData}
use Rattle.px_beginning.specs.Leaves.{AreAlike, LeavesGroup}
use Rattle.px_beginning.proofs.Leaves.{before, shown_after, tallied_after}
use Rattle.px_server.specs.Kept.{HasPoints, HasTallied, IsOnDisk, owed, owed_by}
use Rattle.px_server.proofs.Acted.{IsActed}
use Rattle.px_server.proofs.Built.{built_table}

-- ---- indexes

alike_apart : (n : ℕ) (xs ys : List IndexRegion) → AreAlike xs ys → AllByRecursion (λ y. n ≢ y.index.id.0) xs → AllByRecursion (λ y. n ≢ y.index.id.0) ys
alike_apart n [] [] l all = tt
alike_apart n [] (y ∷ ys) l all = absurd l
alike_apart n (x ∷ xs) [] l all = absurd l
alike_apart n (x ∷ xs) (y ∷ ys) l all = ((λ same. all.0 (same ∙ ap (λ (i : Index). i.id.0) l.0.0)), alike_apart n xs ys l.1 all.1)

alike_once : (xs ys : List IndexRegion) → AreAlike xs ys → AreOnceIn xs → AreOnceIn ys
alike_once [] [] l all = tt
alike_once [] (y ∷ ys) l all = absurd l
alike_once (x ∷ xs) [] l all = absurd l
alike_once (x ∷ xs) (y ∷ ys) l all = (subst (λ (n : ℕ). AllByRecursion (λ z. n ≢ z.index.id.0) ys) (ap (λ (i : Index). i.id.0) (sym l.0.0)) (alike_apart x.index.id.0 xs ys l.1 all.0), alike_once xs ys l.1 all.1)

alike_holds : {D : Type 0} (d : Ghosts D) (disk : D) (f : FolderData) (old new : Region) → IsAlike old new → RegionHolds d old disk (f.regions old.number) → RegionHolds d new disk (f.regions new.number)
alike_holds d disk f old new l k = subst (λ (n : ℕ). RegionHolds d new disk (f.regions n)) (sym l.number) (holds_alike d old disk (f.regions old.number) k new l)

-- ---- the group

pub open_shut : (closed : Option ℕ) → closed ≡ None → (call : ℕ) → closed ≡ Some call → ⊥
open_shut closed running call shut = (let z : None ≡ Some call = sym running ∙ shut in cc)

module _ (g g' : Group) (l : LeavesGroup g g') where
  pub left_points : (es : List Entry) → HasPoints es g → HasPoints es g'
  left_points es k seat s = ap (λ (t : Table). open_points seat t.id.0 s es) l.table ∙ (k seat s ∙ ap (λ (ps : List OpenPoint). points_in seat s ps) (sym l.points))

  pub left_once : HasOnce g → HasOnce g'
  left_once k = alike_once g.indexes.items g'.indexes.items l.indexes k

  pub left_told : (b : Base) (index : ℕ → IndexForm) (es : List Entry) (v : GroupData) → IsToldBy b index es g v → IsToldBy b index es g' v
  left_told b index es v k = record {
    told = subst (λ (t : Table). AreTold (table_form b t.id index (row_form t)) es v) (sym l.table) k.told;
    own = λ i y at.
        (let x = before g.indexes.items g'.indexes.items l.indexes i y at in
        k.own i x.part x.is ∙ sym x.region.horizon);
  }

  pub left_disk : {D : Type 0} (d : Ghosts D) (disk : D) (f : FolderData) → IsOnDisk d disk f g → IsOnDisk d disk f g'
  left_disk d disk f k = record {
    rows = alike_holds d disk f g.rows g'.rows l.rows k.rows;
    indexes = λ i y at. (let x = before g.indexes.items g'.indexes.items l.indexes i y at in alike_holds d disk f x.part.region y.region x.region (k.indexes i x.part x.is));
  }

  pub left_owed : owed g' ≡ owed g
  left_owed = (λ i. length (l.points i) + sum_by owed_by (l.batches i))

  -- the group in a server that isn't closed
  pub left_acted : {D : Type 0} (d : Ghosts D) (disk : D) (b : Base) (es : List Entry) (closed : Option ℕ) → closed ≡ None → HasPoints es g → IsRightGroup g' → HasTallied b es g → HasOnce g → IsActed d disk b es es closed g g'
  left_acted d disk b es closed running points right t once = record {
    table = l.table;
    points = left_points es points;
    right = λ run. right;
    tallied = λ run. record { held = t.held; tallied = tallied_after g g' l b es t.held t.tallied };
    once = λ run. left_once once;
    traced = λ call shut. absurd (open_shut closed running call shut);
    begun = λ call shut. absurd (open_shut closed running call shut);
    shown = λ run index v hs tallied shown told built. record {
      after = v;
      held = hs;
      tallied = tallied_after g g' l b es hs tallied;
      shown = shown_after g g' l b es hs index v shown;
      told = left_told b index es v told;
      built = built_table b index es v g.table g'.table (sym l.table) built;
      high = omega arith;
      low = refl;
      cells = refl;
      indexes = refl;
    };
    on_disk = λ run f k. left_disk d disk f k;
  }
