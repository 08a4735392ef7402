-- The region of an index has forgotten at the table's horizon.
use Rattle.std.proofs.Common.{◌≡◌, ◌≢◌, ◌<◌, ◌⊎◌, inl, inr, ℕ, Bool, true, false, cond, Some, None, List, length, get_or, slice_get, set, refl, sym, ap, subst, ◌∙◌, arith, get_or-set_other, get_or-set_same}
use Rattle.std.specs.Prelude.{sum_by, nat_eq}
use Rattle.std.specs.List.{AllByRecursion}
use Rattle.std.proofs.Math.ListN.{length-set}
use Rattle.std.proofs.lemmas.Bool.{cases_eq}
use Rattle.px_outside.specs.Parts.{with_part}
use Rattle.px_cells.specs.CellData.{CellData}
use Rattle.px_cellshapes.specs.Keys.{AreRightKeys}
use Rattle.px_values.specs.declared.change.What.{What}
use Rattle.px_world.specs.Events.{Forget}
use Rattle.px_forms.specs.Indexes.{IndexForm}
use Rattle.px_indexed.specs.Kept.{IsCompacted}
use Rattle.px_indexrow.specs.Form.{index_form}
use Rattle.px_merge.specs.Kept.{IsKeptList}
use Rattle.px_tables.specs.declared.index.Index.{Index}
use Rattle.px_trail.specs.Trail.{Base}
use Rattle.px_trail.specs.declared.entry.Entry.{Entry}
use Rattle.px_groupworld.specs.Group.{GroupData, IndexPart, TableForm, no_part}
use Rattle.px_groupworld.specs.Steps.{Events, at_index, own_forgot_data}
use Rattle.px_groupworld.proofs.Upkeep.{group_own_forgot}
use Rattle.px_openbatches.specs.Opens.{IsNoBirthOf}
use Rattle.px_openbatches.specs.Pending.{HeldBatch}
use Rattle.px_tablesteps.specs.Kept.{TableSteps}
use Rattle.px_tablesteps.proofs.Steps.{table_regions}
use Rattle.px_tablereads.proofs.Tells.{told_same}
use Rattle.px_built.specs.Built.{IsOfRun}
use Rattle.px_built.proofs.Tables.{built_stays}
use Rattle.px_region.specs.Region.{read_of}
use Rattle.px_region.specs.declared.region.Region.{Region}
use Rattle.px_group.specs.Group.{AreTraced, IsPartOf, IsRightBatch, IsRightGroup, IsRightPart, IsShownBy, IsTallied, form_of}
use Rattle.px_group.specs.Room.{HasPromised, bytes_at, cells_at}
use Rattle.px_group.specs.declared.group.Group.{Group}
use Rattle.px_group.specs.declared.group.IndexRegion.{IndexRegion}
use Rattle.px_batching.proofs.Pairs.{to_tied}
use Rattle.px_batching.proofs.Places.{all_at, all_more, all_set, same_at, set_cases, set_here, set_other, within}
use Rattle.px_batching.proofs.Right.{SameIndexes, right_moves}
use Rattle.px_batching.proofs.Tallied.{AreStill, tallied_on, tells_same}
use Rattle.px_reading.specs.Doubts.{IsToldBy}
use Rattle.px_recovery.specs.Folder.{FolderData, with_region}
use Rattle.px_recovery.specs.Stands.{Explains}
use Rattle.px_recovery.specs.Tables.{form_of_index, index_in, indexes_of, table_in}
use Rattle.px_recovery.proofs.Explains.{by_none, index_forgot}
use Rattle.px_forgotten.specs.Forgotten.{AreBuiltBy, ForgotIndex}
use Rattle.px_forgotten.proofs.Kept.{high_is, keys_compacted, keys_kept, promised_on}

-- ---- the group

module _ (g g' : Group) (place : ℕ) (x : IndexRegion) (new : Region) (s : ForgotIndex g g' place x new) where
  abbrev then_index : Group
  then_index = record g { indexes = g'.indexes }

  abbrev y : IndexRegion
  y = record x { region = new }

  -- the index of each place, before the step
  pub cases : (j : ℕ) (z : IndexRegion) → slice_get g'.indexes.items j ≡ Some z → ((j ≡ place) × (z ≡ y)) ⊎ ((j ≢ place) × (slice_get g.indexes.items j ≡ Some z))
  cases j z at = set_cases g.indexes.items place j y z (ap (λ (l : List IndexRegion). slice_get l j) (sym s.indexes) ∙ at)

  pub same_index : SameIndexes g then_index
  same_index = record {
    table = refl;
    count = ap (λ (l : List IndexRegion). length l) s.indexes ∙ length-set g.indexes.items place y;
    each = λ j z at. elim (cases j z at) [
      | inl e ↦ (x, (ap (λ n. slice_get g.indexes.items n) e.0 ∙ s.is, ap (λ (w : IndexRegion). w.index) (sym e.1)))
      | inr e ↦ (z, (e.1, refl))
    ];
  }

  still : AreStill g then_index
  still = record {
    same = same_index;
    each = λ j w at. elim (cases_eq j place) [
      | inl e ↦
          (let q : w ≡ x = same_at g.indexes.items place w x (ap (λ n. slice_get g.indexes.items n) (sym e) ∙ at) s.is in
          (y, ((λ t. slice_get (s.indexes t) (e t)) ∙ set_here g.indexes.items place x y s.is, ap (λ (k : IndexRegion). k.index) (sym q))))
      | inr e ↦ (w, (ap (λ (l : List IndexRegion). slice_get l j) s.indexes ∙ (set_other g.indexes.items place j y e ∙ at), refl))
    ];
  }

  part : IsRightPart g.table x → IsRightPart g.table y
  part r = record {
    index = r.index;
    table = r.table;
    number = r.number ∙ sym s.region.number;
    maintained = r.maintained;
    keys = keys_kept g.table x.index (read_of x.region) r.keys g.horizon (read_of new) s.region.kept;
  }

  pub index_right : IsRightGroup g → IsRightGroup g'
  index_right r = subst IsRightGroup (sym s.same) (record {
    table = r.table;
    region = r.region;
    rows = r.rows;
    parts = subst (λ (l : List IndexRegion). AllByRecursion (IsRightPart g.table) l) (sym s.indexes) (all_set (IsRightPart g.table) g.indexes.items place y (part (all_at (IsRightPart g.table) g.indexes.items place x s.is r.parts)) r.parts);
    batches = all_more (IsRightBatch g) (IsRightBatch then_index) (right_moves g then_index same_index) g.batches.items r.batches;
    rooms = record {
      rows = r.rooms.rows;
      indexes = λ j z at. elim (cases j z at) [
        | inl e ↦
            subst (λ (w : IndexRegion). HasPromised w.region (sum_by (cells_at j) g.batches.items) (sum_by (bytes_at j) g.batches.items)) (sym e.1)
            (promised_on x.region new _ _ s.region.promised (r.rooms.indexes j x (ap (λ n. slice_get g.indexes.items n) e.0 ∙ s.is)))
        | inr e ↦ r.rooms.indexes j z e.1
      ];
      light = r.rooms.light;
    };
  })

  pub index_tallied : (b : Base) (es : List Entry) (hs : List HeldBatch) → IsTallied b es g hs → IsTallied b es g' hs
  index_tallied b es hs k =
      subst (λ (h : Group). IsTallied b es h hs) (sym s.same)
      (tallied_on b es es g then_index hs hs still refl refl refl (tells_same b es g.table.id.0) k k.held (to_tied es g.table.id.0 g.batches.items hs k.batches k.phases))

  pub index_traced : (es : List Entry) → AreTraced es g → AreTraced es g'
  index_traced es t = subst (AreTraced es) (sym s.same) (record { each = t.each; once = t.once })

-- ---- its data, where the horizon keeps these of the cells

-- a field that the changed part has as before is as before in each place
stays_at : {B : Type 0} (p : IndexPart → B) (xs : List IndexPart) (m : ℕ) (y : IndexPart) → p y ≡ p (get_or xs m no_part) → (i : ℕ) → i < length xs → p (get_or (set xs m y) i no_part) ≡ p (get_or xs i no_part)
stays_at p xs m y same i l = elim (cases_eq i m) [
  | inl e ↦
      (let there : m < length xs = omega (arith, e, l) in
      ap (λ (n : ℕ). p (get_or (set xs m y) n no_part)) e ∙ (ap p (get_or-set_same xs m y no_part there) ∙ (same ∙ ap (λ (n : ℕ). p (get_or xs n no_part)) (sym e))))
  | inr o ↦ ap p (get_or-set_other xs m i y no_part o)
]

forgets_run : (c : Bool) → IsOfRun {K = List ℕ} {A = What} (cond c (Some (Forget true)) None)
forgets_run true = tt
forgets_run false = tt

forgets_none : (c : Bool) → IsNoBirthOf {K = List ℕ} {A = What} (cond c (Some (Forget true)) None)
forgets_none true = tt
forgets_none false = tt

module _ (b : Base) (index : ℕ → IndexForm) (es : List Entry) (g : Group) (hs : List HeldBatch) (right : IsRightGroup g) (k : IsTallied b es g hs) (v : GroupData) (shown : IsShownBy b index es g v hs) (place : ℕ) (x : IndexRegion) (is : slice_get g.indexes.items place ≡ Some x) (kept : List CellData)
    (keeps : IsKeptList (read_of x.region) g.horizon kept) where
  abbrev f : TableForm
  f = form_of b index g

  abbrev own : IndexPart
  own = get_or v.indexes place no_part

  abbrev event : Events
  event i r = at_index place i (Some (Forget true))

  pub inside : place < length v.indexes
  inside = (let l = within g.indexes.items place x is in let c = shown.count in omega (arith, l, c))

  compacted : IsCompacted own.cells kept v.high
  compacted =
      let shape : AreRightKeys g.table x.index (read_of x.region) = (all_at (IsRightPart g.table) g.indexes.items place x is right.parts).keys in
      subst (λ (h : ℕ). IsCompacted own.cells kept h) (sym (high_is b index es g hs k v shown))
      (subst (λ (cells : List CellData). IsCompacted cells kept g.horizon) (sym (shown.parts place x is).cells) (keys_compacted g.table x.index (read_of x.region) shape g.horizon kept keeps))

  pub index_steps : TableSteps f event es v es (own_forgot_data place kept v) hs
  index_steps = table_regions f es v hs shown.kept event (own_forgot_data place kept v) (group_own_forgot f es v shown.kept.group place inside kept compacted) (λ i r. forgets_none (nat_eq place i)) refl
      (stays_at {B = ℕ} (λ (p : IndexPart). p.id) v.indexes place (record own { cells = kept; horizon = v.high }) refl) (stays_at {B = ℕ} (λ (p : IndexPart). p.birth) v.indexes place (record own { cells = kept; horizon = v.high }) refl)

  pub index_built : AreBuiltBy f es v → AreBuiltBy f es (own_forgot_data place kept v)
  index_built built i l =
      let m : i < length v.indexes = (let n = length-set v.indexes place (record own { cells = kept; horizon = v.high }) in omega (arith, l, n)) in
      built_stays f es v shown.kept.group event es (own_forgot_data place kept v) index_steps.does i m (λ r. forgets_run (nat_eq place i))
      (stays_at {B = ℕ} (λ (p : IndexPart). p.id) v.indexes place (record own { cells = kept; horizon = v.high }) refl i m) (λ r h. inl h) (built i m)

-- ---- what it shows

module _ (b : Base) (index : ℕ → IndexForm) (es : List Entry) (g : Group) (hs : List HeldBatch) (right : IsRightGroup g) (k : IsTallied b es g hs) (v : GroupData) (shown : IsShownBy b index es g v hs) (g' : Group) (place : ℕ) (x : IndexRegion) (new : Region) (s : ForgotIndex g g' place x new) where
  abbrev then : GroupData
  then = own_forgot_data place (read_of new) v

  abbrev before : IndexPart
  before = get_or v.indexes place no_part

  abbrev after : IndexPart
  after = record before { cells = read_of new; horizon = v.high }

  there : place < length v.indexes
  there = inside b index es g hs right k v shown place x s.is (read_of new) s.region.kept

  steps : TableSteps (form_of b index g) (λ i r. at_index place i (Some (Forget true))) es v es then hs
  steps = index_steps b index es g hs right k v shown place x s.is (read_of new) s.region.kept

  part_here : (j : ℕ) → j ≡ place → get_or then.indexes j no_part ≡ after
  part_here j same = ap (λ (n : ℕ). get_or then.indexes n no_part) same ∙ get_or-set_same v.indexes place after no_part there

  part_else : (j : ℕ) → j ≢ place → get_or then.indexes j no_part ≡ get_or v.indexes j no_part
  part_else j other = get_or-set_other v.indexes place j after no_part other

  is_part : (j : ℕ) (z : IndexRegion) → slice_get g'.indexes.items j ≡ Some z → IsPartOf (get_or then.indexes j no_part) z
  is_part j z at = elim (cases g g' place x new s j z at) [
    | inl e ↦ (let
        p = shown.parts place x s.is
        in let
        here : IsPartOf after (record x { region = new }) = record { id = p.id; cells = refl; birth = p.birth; built = p.built }
        in subst (λ (w : IndexRegion). IsPartOf (get_or then.indexes j no_part) w) (sym e.1) (subst (λ (q : IndexPart). IsPartOf q (record x { region = new })) (sym (part_here j e.0)) here))
    | inr e ↦ subst (λ (q : IndexPart). IsPartOf q z) (sym (part_else j e.0)) (shown.parts j z e.1)
  ]

  form_here : (j : ℕ) (z : IndexRegion) → slice_get g'.indexes.items j ≡ Some z → index z.index.id.0 ≡ index_form g.table z.index
  form_here j z at = (let w = (same_index g g' place x new s).each j z at in subst (λ (q : Index). index q.id.0 ≡ index_form g.table q) w.1.1 (shown.forms j w.0 w.1.0))

  pub index_shown : IsShownBy b index es g' then hs
  index_shown = subst (λ (h : Group). IsShownBy b index es h then hs) (sym s.same)
      (record { kept = steps.kept; rows = shown.rows; count = length-set v.indexes place after ∙ (shown.count ∙ sym (same_index g g' place x new s).count); parts = is_part; forms = form_here })

  own_horizon : IsToldBy b index es g v → (j : ℕ) (z : IndexRegion) → slice_get g'.indexes.items j ≡ Some z → (get_or then.indexes j no_part).horizon ≡ z.region.horizon
  own_horizon told j z at = elim (cases g g' place x new s j z at) [
    | inl e ↦ ap (λ (q : IndexPart). q.horizon) (part_here j e.0) ∙ (high_is b index es g hs k v shown ∙ (sym s.region.horizon ∙ ap (λ (w : IndexRegion). w.region.horizon) (sym e.1)))
    | inr e ↦ ap (λ (q : IndexPart). q.horizon) (part_else j e.0) ∙ told.own j z e.1
  ]

  pub index_told : IsToldBy b index es g v → IsToldBy b index es g' then
  index_told told = subst (λ (h : Group). IsToldBy b index es h then) (sym s.same)
      (record { told = told_same (form_of b index g) es v shown.kept.group es then steps.kept.group told.told refl refl (λ r u. refl); own = own_horizon told })

-- ---- the folder

pub index_folder : (b : Base) (es : List Entry) (f : FolderData) (v : ℕ → GroupData) → Explains b es f v → (g : Group) (hs : List HeldBatch) → IsRightGroup g → IsTallied b es g hs → IsShownBy b (λ n. form_of_index g.table (index_in f.standing.indexes n)) es g (v g.table.id.0) hs
    → (place : ℕ) (x : IndexRegion) → slice_get g.indexes.items place ≡ Some x → (kept : List CellData) → IsKeptList (read_of x.region) g.horizon kept → (at : ℕ) (i : Index) → at < length (indexes_of g.table.id.0 f.standing.indexes) → get_or (indexes_of g.table.id.0 f.standing.indexes) at i ≡ i
    → i.region ≡ x.region.number → i.id.0 ≡ x.index.id.0 → Explains b es (with_region x.region.number (record { cells = kept; horizon = g.horizon }) f) (with_part v g.table.id.0 (own_forgot_data place kept (v g.table.id.0)))
index_folder b es f v told g hs right k shown place x is kept keeps at i there found-at region id =
    let t = g.table.id.0 in
    let index = λ (n : ℕ). form_of_index g.table (index_in f.standing.indexes n) in
    let high : (v t).high ≡ g.horizon = high_is b index es g hs k (v t) shown in
    let found : table_in f.standing.tables t ≡ Some g.table = told.catalogue.tables t ∙ k.standing.table in
    let steps = index_steps b index es g hs right k (v t) shown place x is kept keeps in
    let lt = inside b index es g hs right k (v t) shown place x is kept keeps in
    index_forgot b es es f v told t (by_none b es f v told t) g.table found (own_forgot_data place kept (v t)) steps.kept.group (omega arith) x.region.number at i there found-at region place lt ((shown.parts place x is).id ∙ sym id)
    g.horizon kept kept (λ c. (λ r. r, λ r. r)) refl refl (ap (λ (m : ℕ). set (v t).indexes place (record (get_or (v t).indexes place no_part) { cells = kept; horizon = m })) high)
