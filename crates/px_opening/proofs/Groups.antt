-- What holds of a folder that was opened.
use Rattle.std.proofs.Common.{◌≡◌, ◌≢◌, ◌<◌, ℕ, zero, suc, Bool, true, false, Some, None, List, [], ◌∷◌, length, map, get_or, refl, sym, ap, subst, ◌∙◌, arith}
use Rattle.std.proofs.lemmas.Bool.{eq-eqb}
use Rattle.std.specs.Prelude.{◌==◌, filter, slice_get, sum_by, if◌then◌else◌}
use Rattle.std.specs.List.{All, AllByRecursion}
use Rattle.std.proofs.lemmas.List.{append-nil, length-map}
use Rattle.std.proofs.lemmas.List.Elements.{All-from_recursion, recursion_from_All}
use Rattle.px_outside.specs.Parts.{AreDistinct, HasNone}
use Rattle.px_tables.specs.declared.index.Index.{Index}
use Rattle.px_tables.specs.declared.index.IndexState.{IndexState}
use Rattle.px_tables.specs.declared.index.IndexState.TheVariants.{Building, Active, Disabled}
use Rattle.px_tables.specs.declared.table.Table.{Table}
use Rattle.px_tables.specs.declared.table.TableRegion.{TableRegion}
use Rattle.px_trail.specs.Batches.{batch_from}
use Rattle.px_trail.specs.Trail.{Base, IsRightBase, catalogue_from, catalogue_of, horizon_from, last_from, points_from}
use Rattle.px_groupworld.specs.Group.{GroupData, GroupKept, IndexPart, TableForm, no_part}
use Rattle.px_groupworld.proofs.Fresh.{sound_group}
use Rattle.px_openbatches.specs.Pending.{HeldKept}
use Rattle.px_phases.specs.Batch.{AreHeldAs}
use Rattle.px_tablefolder.specs.Folder.{IndexFiles, TableFiles, folder_high, folder_last, folder_state}
use Rattle.px_tablefolder.proofs.TableStops.{folder_sound}
use Rattle.px_region.specs.Region.{RegionData, data_of, read_of}
use Rattle.px_group.specs.Group.{AreInPhase, AreStanding, IsRightBatch, IsRightGroup, IsRightPart, IsShownBy, IsTallied, batch_in, is_built, points_in}
use Rattle.px_group.specs.Room.{HasRooms, IsLight, bytes_at, bytes_of_rows, cells_at, cells_of_rows}
use Rattle.px_group.specs.declared.group.Begun.{Begun}
use Rattle.px_group.specs.declared.group.Group.{Group}
use Rattle.px_group.specs.declared.group.IndexRegion.{IndexRegion}
use Rattle.px_group.specs.declared.group.OpenPoint.{OpenPoint}
use Rattle.px_recovery.specs.Base.{IsSoundFolder, IsSoundPart, base_of, told_of_table}
use Rattle.px_recovery.specs.Folder.{FolderData}
use Rattle.px_recovery.specs.Stands.{Explains, opened_index}
use Rattle.px_recovery.specs.Tables.{cells_of_regions, form_of_index, form_of_table, index_files, indexes_of, is_active, number_of_index, table_files, table_in}
use Rattle.px_recovery.specs.Tables as recovery
use Rattle.px_recovery.proofs.Numbered.{all_found, distinct_filter, found_number}
use Rattle.px_recovery.proofs.Opened.{is_opened, opened_data, opened_part, parts_once}
use Rattle.px_recovery.proofs.Round.{is_base, sound_explains}
use Rattle.px_rows.specs.Spelled.{row_form}
use Rattle.px_indexrow.specs.Form.{IsRightIndex}
use Rattle.px_folder.specs.Drawn.{IsDrawnIndex, IsDrawnTable, IsRegionDrawn}
use Rattle.px_opening.specs.Definitions.{AreRight, IsOneRegion, IsRightDefinition, IsRightOf, first_number}
use Rattle.px_opening.specs.Opened.{IsGroupOf, IsOpenedAs, IsOpenedRight, IsPartRight, folder_in, index_of_region, is_standing, table_in_group}
use Rattle.px_opening.specs.declared.opened.Opened.{Opened}
use Rattle.px_schema.specs.Stands.{index_draws, table_draws}
use Rattle.px_standing.specs.Agrees.{Agrees, IsInOrder, as_opened, number_of_table, opened_standing}
use Rattle.px_opening.proofs.Bases.{rows_base}
use Rattle.px_opening.proofs.Lists.{IsFound, IsIn, active_opened, all_both, all_in, all_mapped, all_slice, each_index, each_table, found_in, in_filter, in_mapped, index_number, index_opened, opened_from, opened_some, rising_map, rising_once, some_is, all_weaker, drawn_numbers}

-- ---- the tables of a sound folder, as their files show them

abbrev no_data : GroupData
no_data = record { high = 0; low = 0; cells = []; indexes = []; opens = [] }

abbrev pub shown_of : FolderData → ℕ → GroupData
shown_of f t = told_of_table (λ x. opened_data (table_files f x)) no_data (table_in f.standing.tables t)

none_files : (regions : ℕ → RegionData) (n : ℕ) (l : List Index) → HasNone number_of_index n l → HasNone (λ (y : IndexFiles). y.id) n (map (index_files regions) l)
none_files regions n [] none = tt
none_files regions n (i ∷ l) none = (none.0, none_files regions n l none.1)

once_files : (regions : ℕ → RegionData) (l : List Index) → AreDistinct number_of_index l → AreDistinct (λ (y : IndexFiles). y.id) (map (index_files regions) l)
once_files regions [] once = tt
once_files regions (i ∷ l) once = (none_files regions i.id.0 l once.0, once_files regions l once.1)

module _ (f : FolderData) (sound : IsSoundFolder f) where
  own_found : (t : ℕ) (x : Table) → table_in f.standing.tables t ≡ Some x → table_in f.standing.tables x.id.0 ≡ Some x
  own_found t x found = subst (λ (k : ℕ). table_in f.standing.tables k ≡ Some x) (sym (found_number f.standing.tables t x found)) found

  pub shown_part : (t : ℕ) (x : Table) → table_in f.standing.tables t ≡ Some x → IsSoundPart f x (opened_data (table_files f x))
  shown_part t x found =
      let told = (sound_explains f sound).tables t x found in
      record {
        opened = is_opened (table_files f x);
        sound = folder_sound (form_of_table (base_of f) f.standing.indexes x) [] (sound.opens t) told.kept (table_files f x) told.files (base_of f) (is_base f x (own_found t x found)) (opened_data (table_files f x)) (is_opened (table_files f x));
        placed = (sound.tables t x found).placed;
        once = parts_once (table_files f x).indexes (once_files f.regions (indexes_of x.id.0 f.standing.indexes) (distinct_filter number_of_index (λ (i : Index). i.table.0 == x.id.0) f.standing.indexes sound.numbered.ids));
      }

  shown_sound : IsSoundFolder f
  shown_sound = record {
    numbered = sound.numbered;
    opens = shown_of f;
    tables = λ t x found. subst (λ (u : GroupData). IsSoundPart f x u) (sym (ap (told_of_table (λ y. opened_data (table_files f y)) no_data) found)) (shown_part t x found);
  }

  pub shown_explains : Explains (base_of f) [] f (shown_of f)
  unfolding shown_sound
  shown_explains = sound_explains f shown_sound

-- ---- one group, by the folder's standing and regions

one_region : (gs : List TableRegion) → IsOneRegion gs → gs ≡ record { number = first_number gs; least_key = [] } ∷ []
one_region [] one = absurd one
one_region (g ∷ []) one = λ i. record g { least_key = one i } ∷ []
one_region (g ∷ h ∷ gs) one = absurd one

-- what is known of an index of the group
record IsKnownPart (f : ℕ → RegionData) (indexes : List Index) (t : Table) (x : IndexRegion) : Type 0 where
  found : IsFound indexes t.id.0 x.index
  right : IsRightIndex t x.index
  part : IsPartRight f t x

module _ (f : FolderData) (g : Group) (own : IsGroupOf f.regions f.standing.indexes g) (right : AreRight f.standing) (found : table_in f.standing.tables g.table.id.0 ≡ Some g.table) (defined : IsRightDefinition g.table) where
  abbrev indexes : List Index
  indexes = f.standing.indexes

  abbrev t : ℕ
  t = g.table.id.0

  abbrev b : Base
  b = base_of f

  regions_are : g.table.regions ≡ record { number = g.rows.number; least_key = [] } ∷ []
  regions_are = one_region g.table.regions defined.region ∙ (λ i. record { number = sym own.number i; least_key = [] } ∷ [])

  -- an index of the table is right for it
  right_of : (i : Index) → IsIn i indexes → i.table.0 ≡ t → IsRightIndex g.table i
  right_of i is mine =
      let r = all_in (IsRightOf f.standing.tables) indexes i (recursion_from_All (IsRightOf f.standing.tables) indexes right.indexes) is in
      let same : r.table ≡ g.table = some_is r.table g.table (sym r.stands ∙ (ap (λ (n : ℕ). table_in f.standing.tables n) mine ∙ found)) in
      subst (λ (x : Table). IsRightIndex x i) same r.right

  found_parts : AllByRecursion (λ (x : IndexRegion). IsFound indexes t x.index) g.indexes.items
  found_parts = all_mapped (IsFound indexes t) index_of_region g.indexes.items (subst (λ (l : List Index). AllByRecursion (IsFound indexes t) l) (sym own.indexes_are) (each_index indexes t (rising_once number_of_index indexes right.indexes_rise)))

  known : AllByRecursion (IsKnownPart f.regions indexes g.table) g.indexes.items
  known = all_both (λ x. IsFound indexes t x.index) (IsPartRight f.regions g.table) (IsKnownPart f.regions indexes g.table)
      (λ x a p. record { found = a; right = right_of x.index (found_in indexes x.index.id.0 x.index a.is) a.own; part = p }) g.indexes.items found_parts (recursion_from_All (IsPartRight f.regions g.table) g.indexes.items own.parts)

  -- ---- right

  maintained_by : (s : IndexState) → is_active s ≡ true → s ≢ Disabled
  maintained_by Building a = absurd cc
  maintained_by Active a = λ e. cc
  maintained_by Disabled a = absurd cc

  right_part : (x : IndexRegion) → IsKnownPart f.regions indexes g.table x → IsRightPart g.table x
  right_part x k = record {
    index = k.right;
    table = λ i. record { 0 = k.found.own i };
    number = k.part.read.number;
    maintained = maintained_by x.index.state k.found.active;
    keys = k.part.read.keys;
  }

  all_parts : (P Q : IndexRegion → Type 0) → ((x : IndexRegion) → P x → Q x) → (xs : List IndexRegion) → AllByRecursion P xs → AllByRecursion Q xs
  all_parts P Q to [] all = tt
  all_parts P Q to (x ∷ xs) all = (to x all.0, all_parts P Q to xs all.1)

  none_sum : (n : Begun → ℕ) → sum_by n g.batches.items ≡ 0
  none_sum n = ap (λ (l : List Begun). sum_by n l) own.batches

  rooms : HasRooms g
  rooms = record {
    rows = ((let e = none_sum cells_of_rows in omega arith), (let e = none_sum bytes_of_rows in omega arith));
    indexes = λ i x is. ((let e = none_sum (cells_at i) in omega arith), (let e = none_sum (bytes_at i) in omega arith));
    light = subst (λ (l : List Begun). AllByRecursion IsLight l) (sym own.batches) tt;
  }

  pub right_group : IsRightGroup g
  right_group = record {
    table = defined.table;
    region = regions_are;
    rows = own.rows;
    parts = all_parts (IsKnownPart f.regions indexes g.table) (IsRightPart g.table) right_part g.indexes.items known;
    batches = subst (λ (l : List Begun). AllByRecursion (IsRightBatch g) l) (sym own.batches) tt;
    rooms = rooms;
  }

  -- ---- tallied

  standing_index : (i : ℕ) (x : IndexRegion) → slice_get g.indexes.items i ≡ Some x → opened_index (recovery.index_in indexes x.index.id.0) ≡ Some x.index
  standing_index i x is = let k = all_slice (λ (y : IndexRegion). IsFound indexes t y.index) g.indexes.items i x found_parts is in ap opened_index k.is ∙ active_opened x.index k.active

  all_standing : (y : Index) → opened_index (recovery.index_in indexes y.id.0) ≡ Some y → y.table.0 ≡ t → y.state ≢ Disabled → (i : ℕ) × ((x : IndexRegion) × ((slice_get g.indexes.items i ≡ Some x) × (x.index ≡ y)))
  all_standing y is mine runs =
      let z = opened_some (recovery.index_in indexes y.id.0) y is runs in
      let l = indexes_of t indexes in
      let there : IsIn y l = in_filter (λ (i : Index). i.table.0 == t) y indexes (found_in indexes y.id.0 y z.0) (eq-eqb y.table.0 t mine) in
      in_mapped index_of_region y g.indexes.items (subst (λ (m : List Index). IsIn y m) (sym own.indexes_are) (in_filter is_standing y l there z.1))

  standing_now : AreStanding b [] g
  unfolding catalogue_from
  standing_now = record { table = found; index = standing_index; all = all_standing }

  held_none : HeldKept b [] t []
  unfolding batch_from
  held_none = record { rising = tt; each = tt; all = λ s y is run. absurd cc }

  pub tallied_group : IsTallied b [] g []
  unfolding last_from horizon_from points_from
  tallied_group = record {
    standing = standing_now;
    last = ap (told_of_table (λ x. folder_last (table_files f x)) 0) found ∙ sym own.last;
    horizon = ap (told_of_table (λ x. folder_high (table_files f x)) 0) found ∙ sym own.horizon;
    held = held_none;
    batches = subst (λ (l : List Begun). AreHeldAs (map batch_in l) []) (sym own.batches) tt;
    phases = subst (λ (l : List Begun). AreInPhase [] t l []) (sym own.batches) tt;
    points = λ seat s. ap (λ (l : List OpenPoint). points_in seat s l) (sym own.points);
  }

  -- ---- shown

  abbrev files : TableFiles
  files = table_files f g.table

  abbrev shown : GroupData
  shown = opened_data files

  rows_are : shown.cells ≡ read_of g.rows
  unfolding cells_of_regions
  rows_are = ap (λ (l : List TableRegion). cells_of_regions f.regions l) regions_are ∙ (append-nil (f.regions g.rows.number).cells ∙ ap (λ (s : RegionData). s.cells) (sym own.told))

  filter_files : (is : List Index) → filter (λ (y : IndexFiles). y.is_active) (map (index_files f.regions) is) ≡ map (index_files f.regions) (filter is_standing is)
  filter_files [] = refl
  filter_files (i ∷ is) = by (is_standing i) (filter_files is)
    where
      by : (c : Bool) → filter (λ (y : IndexFiles). y.is_active) (map (index_files f.regions) is) ≡ map (index_files f.regions) (filter is_standing is)
          → (if c then index_files f.regions i ∷ filter (λ (y : IndexFiles). y.is_active) (map (index_files f.regions) is) else filter (λ (y : IndexFiles). y.is_active) (map (index_files f.regions) is))
          ≡ map (index_files f.regions) (if c then i ∷ filter is_standing is else filter is_standing is)
      by true e = ap (λ (l : List IndexFiles). index_files f.regions i ∷ l) e
      by false e = e

  -- the part of an index of the group
  abbrev part_of : IndexRegion → IndexPart
  part_of x = record { id = x.index.id.0; cells = read_of x.region; birth = x.index.birth; horizon = (data_of x.region).horizon; is_built = is_active x.index.state }

  part_is : (x : IndexRegion) → IsPartRight f.regions g.table x → opened_part (index_files f.regions x.index) ≡ part_of x
  part_is x p =
      let e : f.regions x.index.region ≡ data_of x.region = ap f.regions p.read.number ∙ sym p.told in
      λ i. record { id = x.index.id.0; cells = (e i).cells; birth = x.index.birth; horizon = (e i).horizon; is_built = is_active x.index.state }

  parts_by : (xs : List IndexRegion) → AllByRecursion (IsPartRight f.regions g.table) xs → map opened_part (map (index_files f.regions) (map index_of_region xs)) ≡ map part_of xs
  parts_by [] all = refl
  parts_by (x ∷ xs) all = λ i. part_is x all.0 i ∷ parts_by xs all.1 i

  parts_are : shown.indexes ≡ map part_of g.indexes.items
  parts_are =
      ap (map opened_part) (filter_files (indexes_of t indexes) ∙ ap (map (index_files f.regions)) (sym own.indexes_are))
      ∙ parts_by g.indexes.items (recursion_from_All (IsPartRight f.regions g.table) g.indexes.items own.parts)

  at_part : (xs : List IndexRegion) (i : ℕ) (x : IndexRegion) → slice_get xs i ≡ Some x → get_or (map part_of xs) i no_part ≡ part_of x
  at_part [] i x is = absurd cc
  at_part (y ∷ ys) zero x is = ap part_of (some_is y x is)
  at_part (y ∷ ys) (suc i) x is = at_part ys i x is

  built_is : (s : IndexState) → is_active s ≡ is_built s
  built_is Building = refl
  built_is Active = refl
  built_is Disabled = refl

  abbrev form : TableForm
  form = form_of_table b indexes g.table

  pub opened_group : IsOpenedAs f g shown
  opened_group = record {
    base = is_base f g.table found;
    opened = is_opened files;
    horizons = λ i x is. ap (λ (p : IndexPart). p.horizon) (ap (λ (l : List IndexPart). get_or l i no_part) parts_are ∙ at_part g.indexes.items i x is);
  }

  module _ (sound : IsSoundFolder f) where
    kept : GroupKept form [] shown
    kept = sound_group form shown (shown_part f sound t g.table found).sound

    pub shown_group : IsShownBy b (λ n. form_of_index g.table (recovery.index_in indexes n)) [] g shown []
    shown_group = record {
      kept = record { group = kept; opens = record { held = held_none; ready = tt }; same = refl; shut = tt };
      rows = rows_are;
      count = ap (λ (l : List IndexPart). length l) parts_are ∙ length-map g.indexes.items part_of;
      parts = λ i x is.
          let e : get_or shown.indexes i no_part ≡ part_of x = ap (λ (l : List IndexPart). get_or l i no_part) parts_are ∙ at_part g.indexes.items i x is in
          record { id = ap (λ (p : IndexPart). p.id) e; cells = ap (λ (p : IndexPart). p.cells) e; birth = ap (λ (p : IndexPart). p.birth) e; built = ap (λ (p : IndexPart). p.is_built) e ∙ built_is x.index.state };
      forms = λ i x is. ap (form_of_index g.table) (all_slice (λ (y : IndexRegion). IsFound indexes t y.index) g.indexes.items i x found_parts is).is;
    }

-- ---- all groups

record IsKnownGroup (f : FolderData) (g : Group) : Type 0 where
  own : IsGroupOf f.regions f.standing.indexes g
  found : table_in f.standing.tables g.table.id.0 ≡ Some g.table
  defined : IsRightDefinition g.table

module _ (o : Opened) (r : IsOpenedRight o) where
  abbrev f : FolderData
  f = folder_in o

  abbrev groups : List Group
  groups = o.groups.items

  of_tables : (P : Table → Type 0) → AllByRecursion P f.standing.tables → AllByRecursion (λ (g : Group). P g.table) groups
  of_tables P all = all_mapped P table_in_group groups (subst (λ (l : List Table). AllByRecursion P l) (sym r.tables) all)

  known_groups : AllByRecursion (IsKnownGroup f) groups
  known_groups = all_both (λ g. IsGroupOf f.regions f.standing.indexes g × IsRightDefinition g.table) (λ g. table_in f.standing.tables g.table.id.0 ≡ Some g.table) (IsKnownGroup f) (λ g p found. record { own = p.0; found = found; defined = p.1 }) groups
      (all_both (IsGroupOf f.regions f.standing.indexes) (λ g. IsRightDefinition g.table) (λ g. IsGroupOf f.regions f.standing.indexes g × IsRightDefinition g.table) (λ g a c. (a, c)) groups (recursion_from_All (IsGroupOf f.regions f.standing.indexes) groups r.groups)
      (of_tables IsRightDefinition (recursion_from_All IsRightDefinition f.standing.tables r.right.tables)))
      (of_tables (λ x. table_in f.standing.tables x.id.0 ≡ Some x) (each_table f.standing.tables (rising_once number_of_table f.standing.tables r.right.tables_rise)))

  each_group : (Q : Group → Type 0) → ((g : Group) → IsKnownGroup f g → Q g) → All Q groups
  each_group Q to = All-from_recursion Q groups (all_both (IsKnownGroup f) (IsKnownGroup f) Q (λ g k same. to g k) groups known_groups known_groups)

  pub all_right : All IsRightGroup groups
  all_right = each_group IsRightGroup (λ g k. right_group f g k.own r.right k.found k.defined)

  pub all_tallied : All (λ g. IsTallied (base_of f) [] g []) groups
  all_tallied = each_group (λ g. IsTallied (base_of f) [] g []) (λ g k. tallied_group f g k.own r.right k.found k.defined)

  pub all_shown : IsSoundFolder f → All (λ g. IsShownBy (base_of f) (λ n. form_of_index g.table (recovery.index_in f.standing.indexes n)) [] g (shown_of f g.table.id.0) []) groups
  all_shown sound = each_group (λ g. IsShownBy (base_of f) (λ n. form_of_index g.table (recovery.index_in f.standing.indexes n)) [] g (shown_of f g.table.id.0) [])
      (λ g k. subst (λ (v : GroupData). IsShownBy (base_of f) (λ n. form_of_index g.table (recovery.index_in f.standing.indexes n)) [] g v []) (sym (ap (told_of_table (λ x. opened_data (table_files f x)) no_data) k.found))
      (shown_group f g k.own r.right k.found k.defined sound))

  pub all_opened : All (λ g. IsOpenedAs f g (shown_of f g.table.id.0)) groups
  all_opened = each_group (λ g. IsOpenedAs f g (shown_of f g.table.id.0))
      (λ g k. subst (λ (v : GroupData). IsOpenedAs f g v) (sym (ap (told_of_table (λ x. opened_data (table_files f x)) no_data) k.found)) (opened_group f g k.own r.right k.found k.defined))

  -- the base

  drawn_table : (t : ℕ) (x : Table) → table_in f.standing.tables t ≡ Some x → (x.id.0 ≡ t) × (t < f.standing.next)
  drawn_table t x is =
      let n = found_number f.standing.tables t x is in
      let l = (all_found (IsDrawnTable f.standing.next) f.standing.tables t x (recursion_from_All (IsDrawnTable f.standing.next) f.standing.tables r.drawn.tables) is).id in
      (n, omega arith)

  index_owner : (n : ℕ) (x : Index) → opened_index (recovery.index_in f.standing.indexes n) ≡ Some x → (x.id.0 ≡ n) × ((n < f.standing.next) × ((y : Table) × (table_in f.standing.tables x.table.0 ≡ Some y)))
  index_owner n x is =
      let z = opened_from (recovery.index_in f.standing.indexes n) x is in
      let i = z.0 in
      let there = found_in f.standing.indexes n i z.1.0 in
      let number : i.id.0 ≡ n = index_number f.standing.indexes n i z.1.0 in
      let drawn = (all_in (IsDrawnIndex f.standing.next) f.standing.indexes i (recursion_from_All (IsDrawnIndex f.standing.next) f.standing.indexes r.drawn.indexes) there).id in
      let right = all_in (IsRightOf f.standing.tables) f.standing.indexes i (recursion_from_All (IsRightOf f.standing.tables) f.standing.indexes r.right.indexes) there in
      (sym z.1.1.0 ∙ number, ((omega arith), (right.table, ap (λ (k : ℕ). table_in f.standing.tables k) (sym z.1.1.1) ∙ right.stands)))

  none_told : {A : Type 0} (tells : Table → A) (none : A) (t : ℕ) → table_in f.standing.tables t ≡ None → told_of_table tells none (table_in f.standing.tables t) ≡ none
  none_told tells none t is = ap (told_of_table tells none) is

  pub right_base : IsRightBase (base_of f)
  right_base = record {
    catalogue = record {
      tables = drawn_table;
      indexes = λ n x is. (let w = index_owner n x is in (w.0, w.1.0));
      owners = λ n x is. (index_owner n x is).1.1;
    };
    rows = rows_base f;
    last = λ t is. none_told (λ x. folder_last (table_files f x)) 0 t is;
    horizon = λ t is. (none_told (λ x. folder_high (table_files f x)) 0 t is, none_told (λ x. (table_files f x).horizon) 0 t is);
    state = λ t row p is. none_told (λ x. folder_state (row_form x) (table_files f x) row p) None t is;
  }

  -- what stands

  below_tables : (n : ℕ) (ts : List Table) → AllByRecursion (IsDrawnTable n) ts → AllByRecursion (λ (t : Table). AllByRecursion (λ (k : ℕ). k < n) (table_draws t)) ts
  below_tables n [] all = tt
  below_tables n (t ∷ ts) all = (
    drawn_numbers (λ (k : ℕ). k < n) (λ (x : TableRegion). x.number) t.regions t.id.0 (all_weaker (λ (x : TableRegion). IsRegionDrawn n x.number) (λ (x : TableRegion). x.number < n) (λ x d. d.below) t.regions (recursion_from_All (λ (x : TableRegion). IsRegionDrawn n x.number) t.regions all.0.regions)) all.0.id,
    below_tables n ts all.1,
  )

  below_indexes : (n : ℕ) (is : List Index) → AllByRecursion (IsDrawnIndex n) is → AllByRecursion (λ (i : Index). AllByRecursion (λ (k : ℕ). k < n) (index_draws i)) (map as_opened is)
  below_indexes n [] all = tt
  below_indexes n (i ∷ is) all = ((all.0.region.below, (all.0.id, tt)), below_indexes n is all.1)

  pub opened_order : IsInOrder (opened_standing f.standing)
  opened_order = record {
    tables = r.right.tables_rise;
    indexes = rising_map as_opened number_of_index f.standing.indexes r.right.indexes_rise;
    below = record {
      tables = below_tables f.standing.next f.standing.tables (recursion_from_All (IsDrawnTable f.standing.next) f.standing.tables r.drawn.tables);
      indexes = below_indexes f.standing.next f.standing.indexes (recursion_from_All (IsDrawnIndex f.standing.next) f.standing.indexes r.drawn.indexes);
    };
  }

  pub opened_agrees : Agrees (opened_standing f.standing) (catalogue_of (base_of f) [])
  unfolding catalogue_from
  opened_agrees = record {
    order = opened_order;
    next = refl;
    tables = λ t. refl;
    indexes = λ n. index_opened f.standing.indexes n;
  }
