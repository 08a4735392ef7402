-- What a run leaves is what the next one begins with.
use Rattle.std.proofs.Common.{◌≡◌, ◌<◌, ◌≤◌, ℕ, Option, Some, None, List, [], ◌∷◌, length, get_or, map, refl, sym, ap, subst, ◌∙◌, arith}
use Rattle.std.specs.Prelude.{false, ◌==◌}
use Rattle.std.proofs.lemmas.List.{length-map}
use Rattle.px_outside.specs.Disk.{Image}
use Rattle.px_outside.specs.Parts.{AreDistinct, HasNone}
use Rattle.px_values.specs.declared.row.Value.{Value}
use Rattle.px_tables.specs.declared.index.Index.{Index}
use Rattle.px_tables.specs.declared.index.IndexState.{IndexState}
use Rattle.px_tables.specs.declared.index.IndexState.TheVariants.{Building, Active, Disabled}
use Rattle.px_tables.specs.declared.table.Table.{Table}
use Rattle.px_trail.specs.declared.entry.Entry.{Entry}
use Rattle.px_trail.specs.States.{state_of}
use Rattle.px_trail.specs.Trail.{Base, Catalogue, base_shape, catalogue_from, catalogue_of, horizon_of, last_from, last_of, shape_from}
use Rattle.px_trail.proofs.Growth.{legal-none}
use Rattle.px_rows.specs.Spelled.{row_form}
use Rattle.px_groupworld.specs.Group.{GroupData, TableForm, no_part}
use Rattle.px_groupworld.specs.Sound.{IsSoundTable}
use Rattle.px_groupworld.proofs.Fresh.{sound_group}
use Rattle.px_tablefolder.specs.Folder.{IndexFiles, IsFolderBase, IsOpened, folder_changed, folder_high, folder_last, folder_state, no_files}
use Rattle.px_tablefolder.specs.Stop.{TableRecovers}
use Rattle.px_tablefolder.proofs.Stamped.{horizon_within, numbers_within}
use Rattle.px_tablefolder.proofs.TableStops.{folder_recovers, folder_sound}
use Rattle.px_region.specs.Region.{RegionData}
use Rattle.px_recovery.specs.Base.{IsSound, IsSoundFolder, IsSoundPart, base_of, told_of_table}
use Rattle.px_recovery.specs.Folder.{FolderData, StandsFor}
use Rattle.px_recovery.specs.Stands.{AreNumbered, Explains, StandsAfter, TellsCatalogue, opened_index, opened_state}
use Rattle.px_recovery.specs.Tables.{HasTableIndex, TellsTable, form_of_table, index_files, index_in, indexes_of, number_of_index, table_files, table_in}
use Rattle.px_recovery.proofs.Notes.{tells_itself}
use Rattle.px_recovery.proofs.Numbered.{distinct_filter, found_number, index_placed}
use Rattle.px_recovery.proofs.Tables.{at_map}
use Rattle.px_recovery.proofs.Opened.{is_opened, opened_data, parts_once}

-- ---- the base of a folder

-- the base tells of each table what its files do
pub is_base : (f : FolderData) (x : Table) → table_in f.standing.tables x.id.0 ≡ Some x → IsFolderBase (base_of f) x.id.0 (row_form x) (table_files f x)
unfolding shape_from
is_base f x found = record {
  shape = ap base_shape found;
  last = ap (told_of_table (λ y. folder_last (table_files f y)) 0) found;
  horizon = ap (told_of_table (λ y. folder_high (table_files f y)) 0) found;
  changed = λ i r s. told_of_table (λ y. folder_changed (row_form y) (table_files f y) r s) false (found i);
  state = λ i r p. told_of_table (λ y. folder_state (row_form y) (table_files f y) r p) None (found i);
}

own_found : (f : FolderData) (t : ℕ) (x : Table) → table_in f.standing.tables t ≡ Some x → table_in f.standing.tables x.id.0 ≡ Some x
own_found f t x found = subst (λ (k : ℕ). table_in f.standing.tables k ≡ Some x) (sym (found_number f.standing.tables t x found)) found

-- ---- an image that stands for a trail is sound

once_files : (regions : ℕ → RegionData) (is : List Index) → AreDistinct number_of_index is → AreDistinct (λ (y : IndexFiles). y.id) (map (index_files regions) is)
once_files regions [] once = tt
once_files regions (i ∷ is) once = (none_files is once.0, once_files regions is once.1)
  where
    none_files : (l : List Index) → HasNone number_of_index i.id.0 l → HasNone (λ (y : IndexFiles). y.id) i.id.0 (map (index_files regions) l)
    none_files [] none = tt
    none_files (y ∷ l) none = (none.0, none_files l none.1)

-- the table of each number that is opened
abbrev opened_of : FolderData → ℕ → GroupData
opened_of f t = told_of_table (λ x. opened_data (table_files f x)) (record { high = 0; low = 0; cells = []; indexes = []; opens = [] }) (table_in f.standing.tables t)

module _ (b : Base) (es : List Entry) (f : FolderData) (v : ℕ → GroupData) (told : Explains b es f v) (t : ℕ) (x : Table) (found : table_in f.standing.tables t ≡ Some x) where
  abbrev form : TableForm
  form = form_of_table b f.standing.indexes x

  tells : TellsTable b es f x (v t)
  tells = told.tables t x found

  sound_here : (u : GroupData) → IsOpened (table_files f x) u → IsSoundTable (form_of_table (base_of f) f.standing.indexes x) u
  sound_here u opened = folder_sound form es (v t) tells.kept (table_files f x) tells.files (base_of f) (is_base f x (own_found f t x found)) u opened

  sound_part : IsSoundPart f x (opened_data (table_files f x))
  sound_part = record {
    opened = is_opened (table_files f x);
    sound = sound_here (opened_data (table_files f x)) (is_opened (table_files f x));
    placed = tells.placed;
    once = parts_once (table_files f x).indexes (once_files f.regions (indexes_of x.id.0 f.standing.indexes) (distinct_filter number_of_index (λ (i : Index). i.table.0 == x.id.0) f.standing.indexes told.numbered.ids));
  }

pub explains_sound : (b : Base) (es : List Entry) (f : FolderData) (v : ℕ → GroupData) → Explains b es f v → IsSoundFolder f
explains_sound b es f v told = record {
  numbered = told.numbered;
  opens = opened_of f;
  tables = λ t x found. subst (λ (u : GroupData). IsSoundPart f x u) (sym (ap (told_of_table (λ y. opened_data (table_files f y)) (record { high = 0; low = 0; cells = []; indexes = []; opens = [] })) found)) (sound_part b es f v told t x found);
}

pub stands_sound : (b : Base) (es : List Entry) (image : Image) → StandsAfter b es image → IsSound image
stands_sound b es image s = record { folder = s.folder; stands = s.stands; sound = explains_sound b s.told s.folder s.groups s.explains }

-- ---- a sound image stands for its own base

state_twice : (s : IndexState) → opened_state s ≡ opened_state (opened_state s)
state_twice Building = refl
state_twice Active = refl
state_twice Disabled = refl

opened_twice : (o : Option Index) → opened_index o ≡ opened_index (opened_index o)
opened_twice None = refl
opened_twice (Some i) = ap (λ (s : IndexState). Some (record i { state = s })) (state_twice i.state)

no_index : Index
no_index = record { id = record { 0 = 0 }; table = record { 0 = 0 }; name = []; state = Disabled; birth = 0; region = 0; parts = []; included = [] }

-- an index that is opened stands
opened_stands : (f : FolderData) (x : Table) → AreNumbered f.standing → (u : GroupData) (j i : ℕ) → i < length (indexes_of x.id.0 f.standing.indexes) → (get_or u.indexes j no_part).id ≡ (get_or (table_files f x).indexes i no_files).id → HasTableIndex f.standing.indexes x.id.0 (get_or u.indexes j no_part).id
opened_stands f x numbered u j i l same =
    let stood = indexes_of x.id.0 f.standing.indexes in
    let e : (get_or u.indexes j no_part).id ≡ (get_or stood i no_index).id.0 = same ∙ ap (λ (y : IndexFiles). y.id) (at_map (index_files f.regions) stood i no_files no_index l) in
    let p = index_placed f.standing.indexes x.id.0 i no_index numbered.ids l in
    subst (λ (n : ℕ). HasTableIndex f.standing.indexes x.id.0 n) (sym e) (get_or stood i no_index, (p.0, p.1))

pub sound_explains : (f : FolderData) → (s : IsSoundFolder f) → Explains (base_of f) [] f s.opens
unfolding catalogue_from last_from
sound_explains f s = record {
  legal = legal-none (base_of f);
  catalogue = record { next = refl; tables = λ t. refl; indexes = λ i. opened_twice (index_in f.standing.indexes i) };
  numbered = s.numbered;
  tables = λ t x found.
      let p = s.tables t x found in
      let o = p.opened in
      let fb = is_base f x (own_found f t x found) in
      let n = table_files f x in
      record {
        kept = sound_group (form_of_table (base_of f) f.standing.indexes x) (s.opens t) p.sound;
        files = record {
          horizon = sym o.low;
          cells = sym o.cells;
          active = o.all;
          below = λ i l. (let a = horizon_within n.indexes i l in let d = o.high in omega arith);
          others = λ i l a. (let d = numbers_within n.indexes i l in let e = d.0 in let w = d.1.1 in let q = fb.last in (omega arith, omega arith));
        };
        placed = p.placed;
        once = p.once;
        stand = λ j l.
            let m = o.each j l in
            let is = f.standing.indexes in
            opened_stands f x s.numbered (s.opens t) j m.0 (let e = length-map (indexes_of x.id.0 is) (index_files f.regions) in let k = m.1.0 in omega arith) m.1.1.1.id;
      };
}

pub sound_stands : (f : FolderData) (image : Image) → StandsFor image f → IsSoundFolder f → StandsAfter (base_of f) [] image
sound_stands f image stands sound = record { folder = f; stands = stands; told = []; as_told = tells_itself (base_of f) []; groups = sound.opens; explains = sound_explains f sound }

-- ---- what an image that stands for a trail tells

module _ (b : Base) (es : List Entry) (image : Image) (s : StandsAfter b es image) where
  pub stood_catalogue : TellsCatalogue s.folder.standing (catalogue_of b es)
  stood_catalogue = subst (λ (c : Catalogue). TellsCatalogue s.folder.standing c) (sym s.as_told.same.catalogue) s.explains.catalogue

  module _ (x : Table) (found : table_in s.folder.standing.tables x.id.0 ≡ Some x) where
    stood : TableRecovers (form_of_table b s.folder.standing.indexes x) (base_of s.folder) s.told (s.groups x.id.0).high (table_files s.folder x)
    stood =
        let k = s.explains.tables x.id.0 x found in
        folder_recovers (form_of_table b s.folder.standing.indexes x) s.told (s.groups x.id.0) k.kept (table_files s.folder x) k.files (base_of s.folder) (is_base s.folder x found)

    pub stood_states : (r : List Value) (p : ℕ) → (table_files s.folder x).horizon ≤ p → state_of (base_of s.folder) [] x.id.0 r p ≡ state_of b es x.id.0 r p
    stood_states r p l = stood.states r p l ∙ sym (s.as_told.same.states x.id.0 r p)

    pub stood_high : folder_high (table_files s.folder x) ≤ horizon_of b x.id.0 es
    stood_high = let k = (s.explains.tables x.id.0 x found).kept.high in let a = stood.high_falls in let c = s.as_told.horizon x.id.0 in omega arith

    pub stood_last : folder_last (table_files s.folder x) ≤ last_of b x.id.0 es
    stood_last = let a = stood.last_falls in let c = s.as_told.last x.id.0 in omega arith
