-- Indexes that are built, while steps and entries come: what stays true of them.
use Rattle.std.proofs.Common.{◌≡◌, ◌≢◌, ◌⊎◌, ◌<◌, ◌==◌, ◌||◌, if◌then◌else◌, ℕ, Bool, true, false, cond, inl, inr, Option, Some, None, List, [], ◌∷◌, ◌++◌, length, get_or, set, slice_get, refl, sym, ap, subst, ◌∙◌, arith, get_or-set_other, get_or-set_same}
use Rattle.std.specs.Prelude.{filter, not}
use Rattle.std.proofs.lemmas.Bool.{cases_eq, cases_lt, false≢true, ne_eqb}
use Rattle.std.proofs.lemmas.Option.{get_or_from_slice_get}
use Rattle.std.proofs.Math.ListN.{length-append}
use Rattle.px_values.specs.declared.change.What.{What}
use Rattle.px_values.specs.declared.name.IndexId.{IndexId}
use Rattle.px_values.specs.declared.name.TableId.{TableId}
use Rattle.px_values.specs.declared.row.Value.{Value}
use Rattle.px_tables.specs.declared.index.Index.{Index}
use Rattle.px_tables.specs.declared.index.NewIndex.{NewIndex}
use Rattle.px_tables.specs.declared.index.IndexState.TheVariants.{Active, Building, Disabled}
use Rattle.px_tables.specs.declared.table.Table.{Table}
use Rattle.px_trail.specs.Batches.{has}
use Rattle.px_trail.specs.Legal.{MayCome}
use Rattle.px_trail.specs.Trail.{Base, index_of}
use Rattle.px_trail.specs.declared.entry.Act.{Act}
use Rattle.px_trail.specs.declared.entry.Act.TheVariants.{Made, IndexMade, IndexState, Dropped, Begun, Phase, Wrote, Ended, Opened, Released, Raised, Fixed, Based, Missed, Shut}
use Rattle.px_trail.specs.declared.entry.Entry.{Entry}
use Rattle.px_calls.specs.Requires.{base_step, is_based}
use Rattle.px_world.specs.Events.{Event}
use Rattle.px_forms.specs.Indexes.{IndexForm, shape_at}
use Rattle.px_rows.specs.Spelled.{row_form}
use Rattle.px_indexed.specs.Idle.{IsElsewhere}
use Rattle.px_indexed.specs.Worlds.{begin_event, change_event, row_event, world_at}
use Rattle.px_indexed.proofs.Idle.{act_idle}
use Rattle.px_groupworld.specs.Group.{GroupData, GroupKept, IndexPart, TableForm, indexed_at, no_part, table_form}
use Rattle.px_groupworld.specs.Steps.{Bears, Does, Events, born_data}
use Rattle.px_groupworld.proofs.Entries.{group_idle}
use Rattle.px_openbatches.specs.Pending.{HeldBatch}
use Rattle.px_group.specs.Group.{IsRightGroup, IsRightPart, IsShownBy, IsTallied, form_of}
use Rattle.px_group.specs.declared.group.Group.{Group}
use Rattle.px_group.specs.declared.group.IndexRegion.{IndexRegion}
use Rattle.px_defined.specs.Defined.{dropped_data}
use Rattle.px_defined.proofs.Lists.{all_at, from_filter, get_end, within}
use Rattle.px_built.specs.Built.{HasBase, IsOfRun}
use Rattle.px_built.proofs.Tables.{based_entry, built_bears, built_born, built_moved, built_opened, built_stays}
use Rattle.px_server.specs.Kept.{AreBuilt, number_in}
use Rattle.px_server.proofs.Forms.{form_at, get_some}

-- ---- acts

-- the act gives no row of the index of this number its base version
abbrev pub IsUnbased : ℕ → Act → Type 0
IsUnbased n (Based i rows) = i.0 ≢ n
IsUnbased n act = Unit {0}

-- the index that it gives base versions, if it does, is of the table of this number
abbrev pub IsOfOwn : Base → List Entry → ℕ → Act → Type 0
IsOfOwn b es t (Based i rows) = (x : Index) → index_of b es i.0 ≡ Some x → x.table.0 ≡ t
IsOfOwn b es t act = Unit {0}

if_false : (c v : Bool) → (if c then false else v) ≡ true → v ≡ true
if_false true v h = absurd (false≢true h)
if_false false v h = h

if_other : (c a v : Bool) → c ≡ false → (if c then a else v) ≡ true → v ≡ true
if_other true a v other h = absurd (false≢true (sym other))
if_other false a v other h = h

unbased_step : (n : ℕ) (r : List Value) (v : Bool) (act : Act) → IsUnbased n act → base_step n r v act ≡ true → v ≡ true
unbased_step n r v (Made t what) u h = h
unbased_step n r v (IndexMade t i s what) u h = if_false (i.0 == n) v h
unbased_step n r v (IndexState t i Building s) u h = if_false (i.0 == n) v h
unbased_step n r v (IndexState t i Active s) u h = h
unbased_step n r v (IndexState t i Disabled s) u h = h
unbased_step n r v (Dropped t i) u h = h
unbased_step n r v (Begun t s cs) u h = h
unbased_step n r v (Phase t s p) u h = h
unbased_step n r v (Wrote t s rows) u h = h
unbased_step n r v (Ended t s) u h = h
unbased_step n r v (Opened t s scn) u h = h
unbased_step n r v (Released t s) u h = h
unbased_step n r v (Raised t s) u h = h
unbased_step n r v (Fixed i key) u h = h
unbased_step n r v (Based i rows) u h = if_other (i.0 == n) (has rows r || v) v (ne_eqb i.0 n u) h
unbased_step n r v (Missed call) u h = h
unbased_step n r v (Shut call) u h = h

-- it names no row of that index anew
pub unbased : (es : List Entry) (e : Entry) (n : ℕ) → IsUnbased n e.act → (r : List Value) → is_based (es ++ e ∷ []) n r ≡ true → is_based es n r ≡ true
unbased es e n u r h = unbased_step n r (is_based es n r) e.act u (sym (based_entry es e n r) ∙ h)

-- ---- events of a run

pub run_at : (x : Event (List ℕ) What) → IsOfRun (Some x) → (c own : Bool) → IsOfRun {K = List ℕ} {A = What} (cond c (row_event x own) None)
run_at x k true true = k
run_at x k true false = tt
run_at x k false own = tt

pub run_row : (x : Event (List ℕ) What) → IsOfRun (Some x) → (own : Bool) → IsOfRun (row_event x own)
run_row x k true = k
run_row x k false = tt

pub run_change : (x : Event (List ℕ) What) → IsOfRun (Some x) → (c : Option What) → IsOfRun (change_event x c)
run_change x k None = tt
run_change x k (Some w) = k

pub run_change_at : (x : Event (List ℕ) What) → IsOfRun (Some x) → (here : Bool) (c : Option What) → IsOfRun {K = List ℕ} {A = What} (cond here (change_event x c) None)
run_change_at x k true None = tt
run_change_at x k true (Some w) = k
run_change_at x k false c = tt

pub run_begin : (s : ℕ) (c : Option What) → IsOfRun {K = List ℕ} (begin_event s c)
run_begin s None = tt
run_begin s (Some w) = tt

-- ---- a step of the table

-- one index has other cells, or another state
pub same_ids : (xs : List IndexPart) (m : ℕ) (p : IndexPart) → p.id ≡ (get_or xs m no_part).id → (i : ℕ) → i < length xs → (get_or (set xs m p) i no_part).id ≡ (get_or xs i no_part).id
same_ids xs m p same i l = elim (cases_eq i m) [
  | inl e ↦
      (let there : m < length xs = omega (arith, e, l) in
      ap (λ (n : ℕ). (get_or (set xs m p) n no_part).id) e ∙ (ap (λ (q : IndexPart). q.id) (get_or-set_same xs m p no_part there) ∙ (same ∙ ap (λ (n : ℕ). (get_or xs n no_part).id) (sym e))))
  | inr o ↦ ap (λ (q : IndexPart). q.id) (get_or-set_other xs m i p no_part o)
]

-- it leaves the indexes in their places, and no row is named anew
pub built_goes : (f : TableForm) (es : List Entry) (v : GroupData) → GroupKept f es v → (ev : Events) (es' : List Entry) (w : GroupData) → Does f ev es v es' w → ((i : ℕ) (r : List Value) → IsOfRun (ev i r)) → ((i : ℕ) → i < length v.indexes → (get_or w.indexes i no_part).id ≡ (get_or v.indexes i no_part).id)
    → ((i : ℕ) → i < length v.indexes → (r : List Value) → is_based es' (get_or v.indexes i no_part).id r ≡ true → is_based es (get_or v.indexes i no_part).id r ≡ true) → AreBuilt f es v → AreBuilt f es' w
built_goes f es v k ev es' w does run ids old built = record {
  each = λ i l.
      (let m : i < length v.indexes = (let c = does.count in omega (arith, c, l)) in
      built_stays f es v k ev es' w does i m (run i) (ids i m) (λ r h. inl (old i m r h)) (built.each i m));
}

-- without an entry
pub built_step : (f : TableForm) (es : List Entry) (v : GroupData) → GroupKept f es v → (ev : Events) (w : GroupData) → Does f ev es v es w → ((i : ℕ) (r : List Value) → IsOfRun (ev i r)) → ((i : ℕ) → i < length v.indexes → (get_or w.indexes i no_part).id ≡ (get_or v.indexes i no_part).id) → AreBuilt f es v → AreBuilt f es w
built_step f es v k ev w does run ids built = built_goes f es v k ev es w does run ids (λ i l r h. h) built

-- with an entry that gives no base version
pub built_told : (f : TableForm) (es : List Entry) (v : GroupData) → GroupKept f es v → (ev : Events) (e : Entry) (w : GroupData) → Does f ev es v (es ++ e ∷ []) w → ((i : ℕ) (r : List Value) → IsOfRun (ev i r)) → ((i : ℕ) → i < length v.indexes → (get_or w.indexes i no_part).id ≡ (get_or v.indexes i no_part).id)
    → ((n : ℕ) → IsUnbased n e.act) → AreBuilt f es v → AreBuilt f (es ++ e ∷ []) w
built_told f es v k ev e w does run ids none built = built_goes f es v k ev (es ++ e ∷ []) w does run ids (λ i l. unbased es e (get_or v.indexes i no_part).id (none (get_or v.indexes i no_part).id)) built

-- ---- an entry alone

pub built_elsewhere : (f : TableForm) (es : List Entry) (v : GroupData) → GroupKept f es v → (e : Entry) → MayCome f.base es e → IsElsewhere f.id e.act → ((i : ℕ) → i < length v.indexes → IsUnbased (get_or v.indexes i no_part).id e.act) → AreBuilt f es v → AreBuilt f (es ++ e ∷ []) v
built_elsewhere f es v k e may elsewhere none built =
    built_goes f es v k (λ i r. None) (es ++ e ∷ []) v (group_idle f es v k e may (act_idle f.id e elsewhere)).does (λ i r. tt) (λ i l. refl) (λ i l. unbased es e (get_or v.indexes i no_part).id (none i l)) built

-- the index of a part of the data is one of the group's, and so of its table
module _ (b : Base) (es : List Entry) (h : Group) (right : IsRightGroup h) (hs : List HeldBatch) (tallied : IsTallied b es h hs) (index : ℕ → IndexForm) (v : GroupData) (held : List HeldBatch) (shown : IsShownBy b index es h v held) where
  own_index : (i : ℕ) → i < length v.indexes → (x : Index) × ((index_of b es (get_or v.indexes i no_part).id ≡ Some x) × (x.table ≡ h.table.id))
  own_index i l = (let
      x = get_some h.indexes.items i (let n = shown.count in omega (arith, n, l))
      in (x.0.index, (ap (λ (n : ℕ). index_of b es n) (shown.parts i x.0 x.1).id ∙ tallied.standing.index i x.0 x.1, (all_at (IsRightPart h.table) h.indexes.items i x.0 x.1 right.parts).table)))

  unbased_other : (t : ℕ) → number_in h ≢ t → (act : Act) → IsOfOwn b es t act → (i : ℕ) → i < length v.indexes → IsUnbased (get_or v.indexes i no_part).id act
  unbased_other t other (Based j rows) own i l = λ same. (let
      x = own_index i l
      in other (sym (ap (λ (n : TableId). n.0) x.1.1) ∙ own x.0 (ap (λ (n : ℕ). index_of b es n) same ∙ x.1.0)))
  unbased_other t other (Made u what) own i l = tt
  unbased_other t other (IndexMade u j s what) own i l = tt
  unbased_other t other (IndexState u j state s) own i l = tt
  unbased_other t other (Dropped u j) own i l = tt
  unbased_other t other (Begun u s cs) own i l = tt
  unbased_other t other (Phase u s p) own i l = tt
  unbased_other t other (Wrote u s rows) own i l = tt
  unbased_other t other (Ended u s) own i l = tt
  unbased_other t other (Opened u s scn) own i l = tt
  unbased_other t other (Released u s) own i l = tt
  unbased_other t other (Raised u s) own i l = tt
  unbased_other t other (Fixed j key) own i l = tt
  unbased_other t other (Missed call) own i l = tt
  unbased_other t other (Shut call) own i l = tt

  -- an entry of another table
  pub built_other : (e : Entry) → MayCome b es e → IsElsewhere h.table.id e.act → (t : ℕ) → number_in h ≢ t → IsOfOwn b es t e.act → AreBuilt (form_of b index h) es v → AreBuilt (form_of b index h) (es ++ e ∷ []) v
  built_other e may elsewhere t other own built = built_elsewhere (form_of b index h) es v shown.kept.group e may elsewhere (unbased_other t other e.act own) built

-- ---- an index is born, or dropped

born_unbased : (act : Act) (t : TableId) (id : IndexId) (s : ℕ) (what : NewIndex) → (act ≡ IndexMade t id s what) ⊎ (act ≡ IndexState t id Building s) → (n : ℕ) → IsUnbased n act
born_unbased act t id s what (inl is) n = subst (IsUnbased n) (sym is) tt
born_unbased act t id s what (inr is) n = subst (IsUnbased n) (sym is) tt

pub are_born : (f : TableForm) (es : List Entry) (v : GroupData) (e : Entry) (t : TableId) (id : IndexId) (s : ℕ) (what : NewIndex) → (e.act ≡ IndexMade t id s what) ⊎ (e.act ≡ IndexState t id Building s) → Bears f id.0 s es v (es ++ e ∷ []) → AreBuilt f es v → AreBuilt f (es ++ e ∷ []) (born_data id.0 s v)
are_born f es v e t id s what born bears built = record {
  each = λ i l. elim (cases_lt i (length v.indexes)) [
    | inl old ↦ built_bears f es v id.0 s (es ++ e ∷ []) bears i old (unbased es e (get_or v.indexes i no_part).id (born_unbased e.act t id s what born (get_or v.indexes i no_part).id)) (built.each i old)
    | inr new ↦
        (let n = length-append v.indexes (part ∷ []) in
        let last : i ≡ length v.indexes = omega (arith, l, new, n) in
        built_born f es (born_data id.0 s v) i e t id s what (ap (λ (m : ℕ). (get_or (v.indexes ++ part ∷ []) m no_part).id) last ∙ ap (λ (p : IndexPart). p.id) (get_end v.indexes part no_part)) born)
  ];
}
  where
    part : IndexPart
    part = record { id = id.0; cells = []; birth = s; horizon = 0; is_built = false }

-- the others are as they were, in other places
pub are_less : (f : TableForm) (es : List Entry) (v : GroupData) (n : ℕ) → AreBuilt f es v → AreBuilt f es (dropped_data n v)
are_less f es v n built = record {
  each = λ i l.
      (let x = get_some (filter keep v.indexes) i l in
      let from = from_filter keep v.indexes i x.0 x.1 in
      built_moved f es v (dropped_data n v) from.0 i refl (get_or_from_slice_get (filter keep v.indexes) i x.0 no_part x.1 ∙ sym (get_or_from_slice_get v.indexes from.0 x.0 no_part from.1.0)) (built.each from.0 (within v.indexes from.0 x.0 from.1.0)));
}
  where
    keep : IndexPart → Bool
    keep p = not (p.id == n)

-- ---- what was opened, and other forms

-- a table without an index
pub none_built : (f : TableForm) (es : List Entry) (v : GroupData) → v.indexes ≡ [] → AreBuilt f es v
none_built f es v none = record { each = λ i l. absurd (let n : length v.indexes ≡ 0 = ap (λ (xs : List IndexPart). length xs) none in omega (arith, l, n)) }

pub are_opened : (f : TableForm) (v : GroupData) → AreBuilt f [] v
are_opened f v = record { each = λ i l. built_opened f v i }

-- the forms of the table's indexes are the same
pub built_forms : (f : TableForm) (index : ℕ → IndexForm) (es : List Entry) (v : GroupData) → ((j : ℕ) → j < length v.indexes → index (get_or v.indexes j no_part).id ≡ f.index (get_or v.indexes j no_part).id) → AreBuilt f es v → AreBuilt (record f { index = index }) es v
built_forms f index es v same built = record {
  each = λ i l. record {
    each = λ r h.
        subst (λ (form : IndexForm). HasBase (shape_at f.rows.shape form r) (world_at f.rows.shape f.base es f.id.0 v.high (record (indexed_at f v i) { form = form }) r)) (sym (same i l)) ((built.each i l).each r h);
  };
}

pub built_as : (b : Base) (es : List Entry) (g : Group) (index index' : ℕ → IndexForm) → ((i : ℕ) (x : IndexRegion) → slice_get g.indexes.items i ≡ Some x → index' x.index.id.0 ≡ index x.index.id.0) → (v : GroupData) (hs : List HeldBatch) → IsShownBy b index es g v hs
    → AreBuilt (form_of b index g) es v → AreBuilt (form_of b index' g) es v
built_as b es g index index' same v hs shown built = built_forms (form_of b index g) index' es v (form_at b es g index index' same v hs shown) built

-- the table is the same
pub built_table : (b : Base) (index : ℕ → IndexForm) (es : List Entry) (v : GroupData) (x y : Table) → x ≡ y → AreBuilt (table_form b x.id index (row_form x)) es v → AreBuilt (table_form b y.id index (row_form y)) es v
built_table b index es v x y same built = subst (λ (t : Table). AreBuilt (table_form b t.id index (row_form t)) es v) same built
