-- A group that was looked at: what is true of a server stays so, with no entry.
use Rattle.std.proofs.Common.{◌≡◌, ◌<◌, ◌+◌, ℕ, Option, List, [], ◌∷◌, length, get_or, map, refl, sym, ap, subst, ◌∙◌, arith}
use Rattle.std.specs.Prelude.{◌≢◌, sum_by}
use Rattle.std.specs.List.{AllByRecursion, slice_set}
use Rattle.std.proofs.lemmas.List.Sums.{sum_by-cons, sum_by-set}
use Rattle.px_outside.specs.Parts.{AreDistinct}
use Rattle.px_outside.specs.declared.disk.Disk.{Ghosts}
use Rattle.px_tables.specs.declared.index.Index.{Index}
use Rattle.px_tables.specs.declared.table.Table.{Table}
use Rattle.px_trail.specs.declared.entry.Entry.{Entry}
use Rattle.px_trail.specs.Recorded.{Recorded}
use Rattle.px_trail.specs.Trail.{Base, catalogue_of}
use Rattle.px_groupworld.specs.Group.{GroupData}
use Rattle.px_region.specs.Region.{RegionHolds}
use Rattle.px_region.specs.declared.region.Region.{Region}
use Rattle.px_region.proofs.Holding.{holds_alike}
use Rattle.px_schema.specs.declared.standing.Standing.{Standing}
use Rattle.px_catalog.specs.declared.catalog.Catalog.{Catalog}
use Rattle.px_group.specs.Group.{AreTraced, IsRightGroup}
use Rattle.px_group.specs.declared.group.Group.{Group}
use Rattle.px_group.specs.declared.group.IndexRegion.{IndexRegion}
use Rattle.px_defined.specs.Defined.{AreOnceIn, HasOnce}
use Rattle.px_reading.specs.Looked.{AreLookedAt, HasLooked, IsLookedAt}
use Rattle.px_reading.proofs.Asked.{looked_told}
use Rattle.px_reading.proofs.Looked.{looked_back, still_right, still_shown, still_tallied}
use Rattle.px_recovery.specs.Folder.{FolderData}
use Rattle.px_server.specs.Kept.{HasBegun, HasPoints, HasServerParts, HasShown, HasTallied, HasTrailRoom, IsKept, IsOnDisk, forms_in, number_in, owed, table_in_group}
use Rattle.px_server.specs.Others.{Beginning}
use Rattle.px_server.specs.Shown.{logged_at, logged_in}
use Rattle.px_server.proofs.Lists.{all_at, all_set, map_set}
use Rattle.px_server.proofs.Noted.{with_parts}
use Rattle.px_server.proofs.Pointed.{distinct_groups}

-- ---- indexes

once_apart : (n : ℕ) (xs ys : List IndexRegion) → AreLookedAt xs ys → AllByRecursion (λ y. n ≢ y.index.id.0) xs → AllByRecursion (λ y. n ≢ y.index.id.0) ys
once_apart n [] [] l all = tt
once_apart n [] (y ∷ ys) l all = absurd l
once_apart n (x ∷ xs) [] l all = absurd l
once_apart n (x ∷ xs) (y ∷ ys) l all = ((λ same. all.0 (same ∙ ap (λ (i : Index). i.id.0) l.0.0)), once_apart n xs ys l.1 all.1)

once_on : (xs ys : List IndexRegion) → AreLookedAt xs ys → AreOnceIn xs → AreOnceIn ys
once_on [] [] l all = tt
once_on [] (y ∷ ys) l all = absurd l
once_on (x ∷ xs) [] l all = absurd l
once_on (x ∷ xs) (y ∷ ys) l all = (subst (λ (n : ℕ). AllByRecursion (λ z. n ≢ z.index.id.0) ys) (ap (λ (i : Index). i.id.0) (sym l.0.0)) (once_apart x.index.id.0 xs ys l.1 all.0), once_on xs ys l.1 all.1)

holds_on : {D : Type 0} (d : Ghosts D) (disk : D) (f : FolderData) (old new : Region) → IsLookedAt old new → RegionHolds d old disk (f.regions old.number) → RegionHolds d new disk (f.regions new.number)
holds_on d disk f old new l k = subst (λ (n : ℕ). RegionHolds d new disk (f.regions n)) (sym l.alike.number) (holds_alike d old disk (f.regions old.number) k new l.alike)

-- ---- the cells in the logs

logged_on : (xs ys : List IndexRegion) → AreLookedAt xs ys → sum_by logged_at ys ≡ sum_by logged_at xs
logged_on [] [] l = refl
logged_on [] (y ∷ ys) l = absurd l
logged_on (x ∷ xs) [] l = absurd l
logged_on (x ∷ xs) (y ∷ ys) l =
    let e : logged_at y ≡ logged_at x = l.0.1.alike.cells in
    let r = logged_on xs ys l.1 in
    let old = sum_by-cons logged_at x xs in
    let new = sum_by-cons logged_at y ys in
    omega arith

logged_same : (g g' : Group) → HasLooked g g' → logged_in g' ≡ logged_in g
logged_same g g' l =
    let table : g'.table.id.0 ≡ g.table.id.0 = ap (λ (t : Table). t.id.0) l.table in
    let cells : g'.rows.cells + sum_by logged_at g'.indexes.items ≡ g.rows.cells + sum_by logged_at g.indexes.items = (let e = l.rows.alike.cells in let r = logged_on g.indexes.items g'.indexes.items l.indexes in omega arith) in
    (λ i. record { table = table i; cells = cells i })

pub logged_kept : (gs : List Group) (place : ℕ) (g g' : Group) → place < length gs → get_or gs place g ≡ g → HasLooked g g' → map logged_in (slice_set gs place g') ≡ map logged_in gs
logged_kept gs place g g' l is looked = map_set logged_in gs place g g' l is (logged_same g g' looked)

-- ---- a group

module _ (g g' : Group) (looked : HasLooked g g') where
  -- the group with the regions that were looked at
  abbrev seen : Group
  seen = record g { rows = g'.rows; indexes = g'.indexes }

  same : g' ≡ seen
  same = (λ i. record { table = looked.table i; rows = g'.rows; indexes = g'.indexes; batches = looked.batches i; points = looked.points i; last = looked.last i; horizon = looked.horizon i })

  has : HasLooked g seen
  has = record { table = refl; rows = looked.rows; indexes = looked.indexes; batches = refl; points = refl; last = refl; horizon = refl }

  pub looked_points : (es : List Entry) → HasPoints es g → HasPoints es g'
  looked_points es k = subst (HasPoints es) (sym same) (λ seat s. k seat s)

  pub looked_right : IsRightGroup g → IsRightGroup g'
  looked_right k = still_right g g' looked k

  pub looked_tallied : (b : Base) (es : List Entry) → HasTallied b es g → HasTallied b es g'
  looked_tallied b es k = record { held = k.held; tallied = still_tallied g g' looked b es k.held k.tallied }

  pub looked_once : HasOnce g → HasOnce g'
  looked_once k = once_on g.indexes.items g'.indexes.items looked.indexes k

  pub looked_traced : (es : List Entry) → AreTraced es g → AreTraced es g'
  looked_traced es k = (let traced : AreTraced es seen = record { each = k.each; once = k.once } in subst (AreTraced es) (sym same) traced)

  pub looked_begun : (es : List Entry) → HasBegun es g → HasBegun es g'
  looked_begun es k = subst (HasBegun es) (sym same) (λ s y at running written. k s y at running written)

  pub looked_shown : (b : Base) (es : List Entry) (indexes : List Index) (v : ℕ → GroupData) → HasShown b es indexes v g → HasShown b es indexes v g'
  looked_shown b es indexes v k = (let
      shown : HasShown b es indexes v seen = record {
        held = k.held;
        tallied = still_tallied g seen has b es k.held k.tallied;
        shown = still_shown g seen has b (forms_in indexes g.table) es (v g.table.id.0) k.held k.shown;
        told = looked_told g seen has b (forms_in indexes g.table) es (v g.table.id.0) k.told;
        built = k.built;
      }
      in subst (HasShown b es indexes v) (sym same) shown)

  pub looked_disk : {D : Type 0} (d : Ghosts D) (disk : D) (f : FolderData) → IsOnDisk d disk f g → IsOnDisk d disk f g'
  looked_disk d disk f k = (let
      on : IsOnDisk d disk f seen = record {
        rows = holds_on d disk f g.rows g'.rows looked.rows k.rows;
        indexes = λ i y at. (let x = looked_back g.indexes.items g'.indexes.items looked.indexes i y at in holds_on d disk f x.0.region y.region x.1.1.region (k.indexes i x.0 x.1.0));
      }
      in subst (IsOnDisk d disk f) (sym same) on)

  pub looked_owed : owed g' ≡ owed g
  looked_owed = (λ i. owed (same i))

-- ---- the server

module _ {D : Type 0} (d : Ghosts D) (b : Base) (sound premise : Type 0) (began : Beginning) (disk : D) (catalog : Catalog) (standing : Standing) (groups : List Group) (trail : Recorded) (late : Option Entry) (closed : Option ℕ)
    (k : IsKept d b sound premise began disk catalog standing groups trail late closed) (place : ℕ) (g g' : Group) (l : place < length groups) (is : get_or groups place g ≡ g) (looked : HasLooked g g') where
  abbrev es : List Entry
  es = trail.entries

  abbrev then : List Group
  then = slice_set groups place g'

  once : AreDistinct number_in groups
  once = distinct_groups groups standing (catalogue_of b es) k.told.agrees k.each.stand

  on_all : (P : Group → Type 0) → (P g → P g') → AllByRecursion P groups → AllByRecursion P then
  on_all P on all = all_set number_in P P groups place g g' l is once (λ h other p. p) (on (all_at P groups place g l is all)) all

  parts_then : (f : FolderData) (v : ℕ → GroupData) → HasServerParts d b sound catalog groups disk es f v → HasServerParts d b sound catalog then disk es f v
  parts_then f v p = record {
    given = p.given;
    stored = p.stored;
    standing = p.standing;
    regions = on_all (IsOnDisk d disk f) (looked_disk g g' looked d disk f) p.regions;
    shown = on_all (HasShown b es f.standing.indexes v) (looked_shown g g' looked b es f.standing.indexes v) p.shown;
  }

  room_then : HasTrailRoom closed then trail
  room_then = (let
      one = sum_by-set owed groups place g' g l
      in let
      was : owed (get_or groups place g) ≡ owed g = ap owed is
      in let
      now = looked_owed g g' looked
      in let
      before = k.room
      in omega (arith, one, was, now, before))

  pub looked_kept : IsKept d b sound premise began disk catalog standing then trail late closed
  looked_kept = record {
    told = k.told;
    each = record {
      stand = map_set table_in_group groups place g g' l is looked.table ∙ k.each.stand;
      points = on_all (HasPoints es) (looked_points g g' looked es) k.each.points;
      right = λ running. on_all IsRightGroup (looked_right g g' looked) (k.each.right running);
      tallied = λ running. on_all (HasTallied b es) (looked_tallied g g' looked b es) (k.each.tallied running);
      once = λ running. on_all HasOnce (looked_once g g' looked) (k.each.once running);
      traced = λ call shut. on_all (AreTraced es) (looked_traced g g' looked es) (k.each.traced call shut);
      begun = λ call shut. on_all (HasBegun es) (looked_begun g g' looked es) (k.each.begun call shut);
    };
    shown = λ given running. (let
        s = k.shown given running
        in record { told = s.told; each = on_all (HasShown b es standing.indexes s.told) (looked_shown g g' looked b es standing.indexes s.told) s.each });
    server = with_parts d b premise (HasServerParts d b sound catalog groups) (HasServerParts d b sound catalog then) disk es late closed k.server (λ running given tells. (let
        goes = k.server.goes_on running given tells
        in record { folder = goes.folder; groups = goes.groups; stands = goes.stands; explains = goes.explains; has = parts_then goes.folder goes.groups goes.has }));
    room = room_then;
    blamed = k.blamed;
    last_call = k.last_call;
    others = k.others;
  }
