-- A server over what was opened.
use Rattle.std.proofs.Common.{◌≡◌, ◌≢◌, ◌+◌, inl, ℕ, Option, Some, None, List, [], ◌∷◌, ◌++◌, length, map, refl, sym, ap, subst, ◌∙◌, arith}
use Rattle.std.specs.Prelude.{IsTrue, slice_get, sum_by, ◌==◌}
use Rattle.std.specs.List.{AllByRecursion, flat_map}
use Rattle.std.proofs.lemmas.Bool.{false≢true}
use Rattle.std.proofs.lemmas.List.Elements.{recursion_from_All}
use Rattle.std.proofs.lemmas.List.Sums.{sum_by-cons}
use Rattle.px_outside.specs.Parts.{AreDistinct, HasNone}
use Rattle.px_outside.specs.declared.disk.Disk.{Ghosts}
use Rattle.px_tables.specs.declared.index.Index.{Index}
use Rattle.px_tables.specs.declared.index.IndexState.{IndexState}
use Rattle.px_tables.specs.declared.index.IndexState.TheVariants.{Building, Active, Disabled}
use Rattle.px_tables.specs.declared.table.Table.{Table}
use Rattle.px_trail.specs.Recorded.{Recorded}
use Rattle.px_trail.specs.Trail.{Base, closing_from}
use Rattle.px_trail.specs.declared.entry.Entry.{Entry}
use Rattle.px_trail.proofs.Growth.{legal-none}
use Rattle.px_forms.specs.Indexes.{IndexForm}
use Rattle.px_rows.specs.Spelled.{row_form}
use Rattle.px_indexrow.specs.Form.{owns}
use Rattle.px_groupworld.specs.Group.{GroupData, table_form}
use Rattle.px_tablereads.proofs.Openings.{told_opened}
use Rattle.px_region.specs.Region.{RegionData, RegionHolds}
use Rattle.px_region.specs.declared.region.Region.{Region}
use Rattle.px_schema.specs.declared.standing.Standing.{Standing}
use Rattle.px_catalog.specs.Catalogue.{standing_of}
use Rattle.px_group.specs.Group.{IsRightGroup, IsShownBy, IsTallied, form_of}
use Rattle.px_group.specs.declared.group.Begun.{Begun}
use Rattle.px_group.specs.declared.group.Group.{Group}
use Rattle.px_group.specs.declared.group.IndexRegion.{IndexRegion}
use Rattle.px_group.specs.declared.group.OpenPoint.{OpenPoint}
use Rattle.px_defined.specs.Defined.{AreOnceIn, HasOnce}
use Rattle.px_reading.specs.Doubts.{IsToldBy}
use Rattle.px_recovery.specs.Base.{IsSoundFolder, base_of}
use Rattle.px_recovery.specs.Folder.{FolderData}
use Rattle.px_recovery.specs.Kept.{IsServer}
use Rattle.px_recovery.specs.Stands.{opened_index, opened_state}
use Rattle.px_recovery.specs.Tables.{form_of_index, index_in, indexes_of, number_of_index, table_files}
use Rattle.px_recovery.proofs.Numbered.{distinct_filter}
use Rattle.px_recovery.proofs.Round.{sound_stands}
use Rattle.px_standing.specs.Agrees.{as_opened, opened_standing}
use Rattle.px_opening.specs.Opened.{IsGroupOf, IsOpenedAs, IsOpenedRight, IsPartRight, all_regions, folder_in, index_of_region, is_standing, region_in, regions_of_group}
use Rattle.px_opening.specs.declared.opened.Opened.{Opened}
use Rattle.px_opening.proofs.Groups.{all_opened, all_right, all_shown, all_tallied, opened_agrees, right_base, shown_explains, shown_of}
use Rattle.px_opening.proofs.Lists.{all_both, all_mapped, all_slice, index_opened, rising_once}
use Rattle.px_server.specs.Kept.{AreBuilt, AreGroups, HasPoints, HasServerParts, HasShown, HasTallied, IsKept, IsOnDisk, IsTold, forms_in, owed, owed_by}
use Rattle.px_server.specs.Others.{Beginning, OthersStay}
use Rattle.px_server.specs.Started.{HoldsOwn, IsOpenedOn}
use Rattle.px_server.proofs.Built.{are_opened}
use Rattle.px_server.proofs.Lists.{all_weaker, distinct_map}
use Rattle.px_server.proofs.Low.{low_base}

-- ---- the indexes of a group

turned : (n : ℕ) (xs : List IndexRegion) → HasNone (λ (x : IndexRegion). x.index.id.0) n xs → AllByRecursion (λ (y : IndexRegion). n ≢ y.index.id.0) xs
turned n xs none = all_weaker (λ (y : IndexRegion). y.index.id.0 ≢ n) (λ (y : IndexRegion). n ≢ y.index.id.0) (λ y other same. other (sym same)) xs none

once_in : (xs : List IndexRegion) → AreDistinct (λ (x : IndexRegion). x.index.id.0) xs → AreOnceIn xs
once_in [] once = tt
once_in (x ∷ xs) once = (turned x.index.id.0 xs once.0, once_in xs once.1)

-- each of them has a number of its own
group_once : (f : ℕ → RegionData) (indexes : List Index) (g : Group) → AreDistinct number_of_index indexes → IsGroupOf f indexes g → HasOnce g
group_once f indexes g once own = (let
    each = distinct_filter number_of_index is_standing (indexes_of g.table.id.0 indexes) (distinct_filter number_of_index (λ (i : Index). i.table.0 == g.table.id.0) indexes once)
    in once_in g.indexes.items (distinct_map index_of_region number_of_index g.indexes.items (subst (λ (is : List Index). AreDistinct number_of_index is) (sym own.indexes_are) each)))

-- ---- their forms, where what was building is disabled

form_opened : (x : Table) (o : Option Index) → form_of_index x (opened_index o) ≡ form_of_index x o
unfolding owns
form_opened x None = refl
form_opened x (Some i) = refl

forms_opened : (indexes : List Index) (x : Table) → forms_in (map as_opened indexes) x ≡ forms_in indexes x
forms_opened indexes x = λ j n. (ap (form_of_index x) (index_opened indexes n) ∙ form_opened x (index_in indexes n)) j

shown_opened : (b : Base) (es : List Entry) (indexes : List Index) (v : ℕ → GroupData) (g : Group) → HasShown b es indexes v g → HasShown b es (map as_opened indexes) v g
shown_opened b es indexes v g s = record {
  held = s.held;
  tallied = s.tallied;
  shown = subst (λ (forms : ℕ → IndexForm). IsShownBy b forms es g (v g.table.id.0) s.held) (sym (forms_opened indexes g.table)) s.shown;
  told = subst (λ (forms : ℕ → IndexForm). IsToldBy b forms es g (v g.table.id.0)) (sym (forms_opened indexes g.table)) s.told;
  built = subst (λ (forms : ℕ → IndexForm). AreBuilt (form_of b forms g) es (v g.table.id.0)) (sym (forms_opened indexes g.table)) s.built;
}

state_twice : (s : IndexState) → opened_state (opened_state s) ≡ opened_state s
state_twice Building = refl
state_twice Active = refl
state_twice Disabled = refl

-- what stands as opened is opened as it is
opened_again : (indexes : List Index) → map as_opened (map as_opened indexes) ≡ map as_opened indexes
opened_again [] = refl
opened_again (i ∷ is) = λ j. record i { state = state_twice i.state j } ∷ opened_again is j

-- ---- what a group shows, and what it has on the disk

shown_group : (f : FolderData) (v : ℕ → GroupData) (g : Group) → IsTallied (base_of f) [] g [] → IsShownBy (base_of f) (λ n. form_of_index g.table (index_in f.standing.indexes n)) [] g (v g.table.id.0) [] → IsOpenedAs f g (v g.table.id.0)
    → HasShown (base_of f) [] f.standing.indexes v g
shown_group f v g tallied shown own = record {
  held = [];
  tallied = tallied;
  shown = shown;
  told = record {
    told = told_opened (table_form (base_of f) g.table.id (forms_in f.standing.indexes g.table) (row_form g.table)) (base_of f) (table_files f g.table) (v g.table.id.0) own.base own.opened;
    own = λ i x is. own.horizons i x is;
  };
  built = are_opened (form_of (base_of f) (forms_in f.standing.indexes g.table) g) (v g.table.id.0);
}

front : (P : Region → Type 0) (a b : List Region) → AllByRecursion P (a ++ b) → AllByRecursion P a
front P [] b all = tt
front P (r ∷ a) b all = (all.0, front P a b all.1)

back : (P : Region → Type 0) (a b : List Region) → AllByRecursion P (a ++ b) → AllByRecursion P b
back P [] b all = all
back P (r ∷ a) b all = back P a b all.1

each_of : (P : Region → Type 0) (gs : List Group) → AllByRecursion P (flat_map regions_of_group gs) → AllByRecursion (λ (g : Group). AllByRecursion P (regions_of_group g)) gs
each_of P [] all = tt
each_of P (g ∷ gs) all = (front P (regions_of_group g) (flat_map regions_of_group gs) all, each_of P gs (back P (regions_of_group g) (flat_map regions_of_group gs) all))

at_region : (P : Region → Type 0) (xs : List IndexRegion) (i : ℕ) (x : IndexRegion) → AllByRecursion P (map region_in xs) → slice_get xs i ≡ Some x → P x.region
at_region P xs i x all is = all_slice (λ (y : IndexRegion). P y.region) xs i x (all_mapped P region_in xs all) is

on_disk : {D : Type 0} (d : Ghosts D) (disk : D) (f : FolderData) (g : Group) → IsGroupOf f.regions f.standing.indexes g → AllByRecursion (HoldsOwn d disk) (regions_of_group g) → IsOnDisk d disk f g
on_disk d disk f g own all = record {
  rows = subst (λ (s : RegionData). RegionHolds d g.rows disk s) own.told all.0;
  indexes = λ i x is.
      subst (λ (s : RegionData). RegionHolds d x.region disk s) (all_slice (IsPartRight f.regions g.table) g.indexes.items i x (recursion_from_All (IsPartRight f.regions g.table) g.indexes.items own.parts) is).told
      (at_region (HoldsOwn d disk) g.indexes.items i x all.1 is);
}

-- ---- what it owes

owes_nothing : (f : FolderData) (gs : List Group) → AllByRecursion (IsGroupOf f.regions f.standing.indexes) gs → sum_by owed gs ≡ 0
owes_nothing f [] all = refl
owes_nothing f (g ∷ gs) all = (let
    points : length g.points.items ≡ 0 = ap (λ (l : List OpenPoint). length l) all.0.points
    in let
    batches : sum_by owed_by g.batches.items ≡ 0 = ap (λ (l : List Begun). sum_by owed_by l) all.0.batches
    in let
    own : owed g ≡ 0 = omega (arith, points, batches)
    in let
    rest = owes_nothing f gs all.1
    in sum_by-cons owed g gs ∙ (λ j. own j + rest j))

-- ---- all of it

module _ (o : Opened) (r : IsOpenedRight o) where
  abbrev f : FolderData
  f = folder_in o

  abbrev b : Base
  b = base_of f

  abbrev stored : Standing
  stored = standing_of o.catalog

  abbrev groups : List Group
  groups = o.groups.items

  own : AllByRecursion (IsGroupOf f.regions f.standing.indexes) groups
  own = recursion_from_All (IsGroupOf f.regions f.standing.indexes) groups r.groups

  tallied : AllByRecursion (λ g. IsTallied b [] g []) groups
  tallied = recursion_from_All (λ g. IsTallied b [] g []) groups (all_tallied o r)

  told_first : IsTold b [] None stored (opened_standing stored)
  unfolding closing_from
  told_first = record {
    base = right_base o r;
    low = low_base f;
    legal = legal-none b;
    closing = refl;
    agrees = opened_agrees o r;
    same = λ running j. record stored { indexes = sym (opened_again stored.indexes) j };
  }

  groups_first : AreGroups b [] None stored.tables groups
  groups_first = record {
    stand = r.tables;
    points = all_weaker (λ g. IsTallied b [] g []) (HasPoints []) (λ g t. t.points) groups tallied;
    right = λ running. recursion_from_All IsRightGroup groups (all_right o r);
    tallied = λ running. all_weaker (λ g. IsTallied b [] g []) (HasTallied b []) (λ g t. record { held = []; tallied = t }) groups tallied;
    once = λ running. all_weaker (IsGroupOf f.regions f.standing.indexes) HasOnce (λ g k. group_once f.regions stored.indexes g (rising_once number_of_index stored.indexes r.right.indexes_rise) k) groups own;
    traced = λ call is. absurd cc;
    begun = λ call is. absurd cc;
  }

  shown_first : IsSoundFolder f → AllByRecursion (HasShown b [] stored.indexes (shown_of f)) groups
  shown_first sound = (let
      Shows : Group → Type 0 = λ g. IsShownBy b (λ n. form_of_index g.table (index_in f.standing.indexes n)) [] g (shown_of f g.table.id.0) []
      in let
      Opens : Group → Type 0 = λ g. IsOpenedAs f g (shown_of f g.table.id.0)
      in all_both (λ g. IsTallied b [] g [] × Shows g) Opens (HasShown b [] stored.indexes (shown_of f)) (λ g p own. shown_group f (shown_of f) g p.0 p.1 own) groups
      (all_both (λ g. IsTallied b [] g []) Shows (λ g. IsTallied b [] g [] × Shows g) (λ g t s. (t, s)) groups tallied (recursion_from_All Shows groups (all_shown o r sound)))
      (recursion_from_All Opens groups (all_opened o r)))

  module _ {D : Type 0} (d : Ghosts D) (tells_left : (x : D) (moment file : ℕ) (bytes : List ℕ) → d.left x moment file bytes → IsTrue d.tells) (disk : D) where
    parts_first : (sound : Type 0) → sound → IsOpenedOn d disk o → HasServerParts d b sound o.catalog groups disk [] f (shown_of f)
    parts_first sound given on = record {
      given = given;
      stored = on.catalogue;
      standing = refl;
      regions = all_both (IsGroupOf f.regions f.standing.indexes) (λ g. AllByRecursion (HoldsOwn d disk) (regions_of_group g)) (IsOnDisk d disk f) (λ g k all. on_disk d disk f g k all) groups own
          (each_of (HoldsOwn d disk) groups (front (HoldsOwn d disk) (flat_map regions_of_group groups) o.others.items (recursion_from_All (HoldsOwn d disk) (all_regions o) on.regions)));
      shown = shown_first on.sound;
    }

    server_first : (sound premise : Type 0) → (premise → IsTrue d.tells → IsOpenedOn d disk o) → (premise → IsTrue d.tells → sound) → IsServer d b premise (HasServerParts d b sound o.catalog groups) disk [] None None
    unfolding closing_from
    server_first sound premise on told = record {
      early = tt;
      lasts = λ given moment image left. (let k = on given (tells_left disk moment 0 (image 0) (left 0)) in inl (sound_stands f image (k.left moment image left) k.sound));
      legal = λ given tells. legal-none b;
      goes_on = λ running given tells. (let k = on given tells in record { folder = f; groups = shown_of f; stands = k.stands; explains = shown_explains f k.sound; has = parts_first sound (told given tells) k });
      unlate = λ running. refl;
      closing = refl;
      late_is = λ u is. absurd cc;
    }

    kept_over : (sound premise : Type 0) (began : Beginning) → (sound → IsSoundFolder f) → (premise → IsTrue d.tells → IsOpenedOn d disk o) → (premise → IsTrue d.tells → sound) → OthersStay d b began disk [] → (room bytes : ℕ) → room ≡ 1 → IsKept d b sound premise began disk o.catalog (opened_standing stored) groups (record { entries = []; room = room; bytes_room = bytes }) None None
    kept_over sound premise began sounds on told others room bytes one = record {
      told = told_first;
      each = groups_first;
      shown = λ given running. record { told = shown_of f; each = all_weaker (HasShown b [] stored.indexes (shown_of f)) (HasShown b [] (map as_opened stored.indexes) (shown_of f)) (λ g s. shown_opened b [] stored.indexes (shown_of f) g s) groups (shown_first (sounds given)) };
      server = server_first sound premise on told;
      room = (let none = owes_nothing f groups own in omega (arith, none, one));
      blamed = λ told. absurd (false≢true told);
      last_call = λ call is. absurd cc;
      others = λ given tells. others;
    }

    -- a server with nothing done
    pub kept_first : (b' : Base) → b' ≡ b → (sound premise : Type 0) (began : Beginning) → (sound → IsSoundFolder f) → (premise → IsTrue d.tells → IsOpenedOn d disk o) → (premise → IsTrue d.tells → sound) → OthersStay d b began disk [] → (standing : Standing) → standing ≡ opened_standing stored → (trail : Recorded) → trail.entries ≡ [] → trail.room ≡ 1
        → IsKept d b' sound premise began disk o.catalog standing groups trail None None
    kept_first b' base sound premise began sounds on told others standing stands trail none one =
        subst (λ (x : Base). IsKept d x sound premise began disk o.catalog standing groups trail None None) (sym base)
        (subst (λ (x : Standing). IsKept d b sound premise began disk o.catalog x groups trail None None) (sym stands)
        (subst (λ (es : List Entry). IsKept d b sound premise began disk o.catalog (opened_standing stored) groups (record { entries = es; room = trail.room; bytes_room = trail.bytes_room }) None None) (sym none)
        (kept_over sound premise began sounds on told others trail.room trail.bytes_room one)))
