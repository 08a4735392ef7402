-- What stands at a key of an index goes on in doubt where its region is looked at or flushed, and where another key is repaired.
use Rattle.std.proofs.Common.{◌≡◌, ◌≢◌, ◌<◌, ◌≤◌, ℕ, zero, suc, Bool, true, false, cond, ◌&&◌, ◌||◌, Option, None, Some, List, [], ◌∷◌, ◌++◌, length, get_or, slice_get, set, refl, sym, ap, ◌∙◌, inl, inr, arith}
use Rattle.std.specs.Prelude.{nat_eq, not, is_some}
use Rattle.std.specs.List.{list_any, slice_set}
use Rattle.std.specs.Cmp.Lexicographic.{pointwise}
use Rattle.std.proofs.lemmas.Bool.{cases_Bool}
use Rattle.std.proofs.lemmas.Bool.Decides.{nat_tests}
use Rattle.px_cells.specs.CellData.{CellData}
use Rattle.px_cells.specs.Contents.{Contents, cell_of, or_else, value_at}
use Rattle.px_cells.specs.Order.{ReadsSame}
use Rattle.px_cells.specs.declared.kind.CellKind.{CellKind}
use Rattle.px_cells.specs.declared.kind.CellKind.TheVariants.{Put, DeleteFamilyVersion, DeleteColumn, DeleteFamily}
use Rattle.px_cells.proofs.Contents.{same_values, values_put}
use Rattle.px_cells.proofs.Keys.{keys_same}
use Rattle.px_cells.proofs.Newest.{IsNewest, newest-at, newest-equal, newest-is}
use Rattle.px_forms.specs.Indexes.{IndexForm, cells_if, status_in, verified_byte}
use Rattle.px_groupworld.specs.Asks.{CanFix}
use Rattle.px_groupworld.specs.Group.{GroupData, no_part, shape_in, world_in}
use Rattle.px_indexrow.specs.Form.{index_form, row_of_index}
use Rattle.px_looks.specs.Found.{RowContents, at_key}
use Rattle.px_looks.specs.Versions.{is_verified, stamp_seen, version_at, version_of_stamp}
use Rattle.px_openbatches.specs.Pending.{HeldBatch}
use Rattle.px_region.specs.Region.{read_of}
use Rattle.px_shown.proofs.Owners.{owner_owns}
use Rattle.px_trail.specs.Trail.{Base}
use Rattle.px_trail.specs.declared.entry.Entry.{Entry}
use Rattle.px_values.specs.declared.change.What.{What}
use Rattle.px_values.specs.States.{RowState}
use Rattle.px_values.specs.declared.row.Value.{Value}
use Rattle.px_world.specs.Events.{Leave, ToErase, ToRetire, ToVerify, Verdict, due as due_of}
use Rattle.px_world.specs.IndexCells.{IndexCells, fix_cells}
use Rattle.px_world.specs.Shape.{WorldShape}
use Rattle.px_world.specs.World.{Absent, Unverified, Verified, World, horizon, st}
use Rattle.px_group.specs.Group.{IsShownBy, IsTallied, form_of}
use Rattle.px_group.specs.declared.group.Group.{Group}
use Rattle.px_group.specs.declared.group.IndexRegion.{IndexRegion}
use Rattle.px_reading.specs.Doubts.{IsToldBy}
use Rattle.px_repairs.specs.Repairs.{IsRepair, is_doubt}

-- ---- lists

pub and_left : (a b : Bool) → (a && b) ≡ true → a ≡ true
and_left true b h = refl
and_left false b h = h

pub and_right : (a b : Bool) → (a && b) ≡ true → b ≡ true
and_right true b h = h
and_right false b h = absurd cc

pub both : (a b : Bool) → a ≡ true → b ≡ true → (a && b) ≡ true
both a b h k = ap (λ (v : Bool). v && b) h ∙ k

number_is : (a b : ℕ) → nat_eq a b ≡ true → a ≡ b
number_is a b e = grind (arith, nat_tests)

or_later : (a b : Bool) → b ≡ true → (a || b) ≡ true
or_later true b h = refl
or_later false b h = h

pub some_same : {A : Type 0} (x y : A) → Some x ≡ Some y → x ≡ y
some_same x y e = cc

pub any_at : {A : Type 0} (f : A → Bool) (xs : List A) → list_any f xs ≡ true → (i : ℕ) × ((x : A) × ((slice_get xs i ≡ Some x) × (f x ≡ true)))
any_at f [] h = absurd cc
any_at f (x ∷ xs) h = elim (cases_Bool (f x)) [
  | inl e ↦ (0, (x, (refl, e)))
  | inr e ↦ (let r = any_at f xs (sym (ap (λ (v : Bool). v || list_any f xs) e) ∙ h) in (suc r.0, r.1))
]

pub at_any : {A : Type 0} (f : A → Bool) (xs : List A) (i : ℕ) (x : A) → slice_get xs i ≡ Some x → f x ≡ true → list_any f xs ≡ true
at_any f [] i x e is = absurd (let z : None ≡ Some x = e in cc)
at_any f (y ∷ xs) zero x e is = ap (λ (v : Bool). v || list_any f xs) (ap f (some_same y x e) ∙ is)
at_any f (y ∷ xs) (suc i) x e is = or_later (f y) (list_any f xs) (at_any f xs i x e is)

pub any_set : {A : Type 0} (f : A → Bool) (xs : List A) (i : ℕ) (x y : A) → i < length xs → get_or xs i x ≡ x → f y ≡ f x → list_any f (slice_set xs i y) ≡ list_any f xs
any_set f [] i x y l is same = absurd (omega (arith, l))
any_set f (z ∷ xs) zero x y l is same = ap (λ (v : Bool). v || list_any f xs) (same ∙ ap f (sym is))
any_set f (z ∷ xs) (suc i) x y l is same = ap (λ (v : Bool). f z || v) (any_set f xs i x y (omega (arith, l)) is same)

pub any_put : {A : Type 0} (f : A → Bool) (xs : List A) (i : ℕ) (x y : A) → slice_get xs i ≡ Some x → f y ≡ f x → list_any f (set xs i y) ≡ list_any f xs
any_put f [] i x y e same = absurd (let z : None ≡ Some x = e in cc)
any_put f (z ∷ xs) zero x y e same = ap (λ (v : Bool). v || list_any f xs) (same ∙ ap f (sym (some_same z x e)))
any_put f (z ∷ xs) (suc i) x y e same = ap (λ (v : Bool). f z || v) (any_put f xs i x y e same)

-- ---- what a doubt rests on

-- the same stands in the status column at a key, with the same markers
pub record HasSameStatus (h h' : RowContents) : Type 0 where
  pub put : (s : ℕ) → h' 1 s Put ≡ h 1 s Put
  pub column : (s : ℕ) → h' 1 s DeleteColumn ≡ h 1 s DeleteColumn
  pub family : (s : ℕ) → h' 0 s DeleteFamily ≡ h 0 s DeleteFamily
  pub version : (s : ℕ) → h' 0 s DeleteFamilyVersion ≡ h 0 s DeleteFamilyVersion

doubt_of : (u p : ℕ) (columns : List ℕ) (h h' : RowContents) → ((s : ℕ) → h' 1 s Put ≡ h 1 s Put) → (o : Option ℕ) → is_doubt u (version_of_stamp h' columns p o) ≡ is_doubt u (version_of_stamp h columns p o)
doubt_of u p columns h h' e None = refl
doubt_of u p columns h h' e (Some s) = ap (λ (x : Option (List ℕ)). nat_eq s u && not (is_verified x)) (e s)

abbrev stops : RowContents → ℕ → Bool
stops h s = is_some (h 0 s DeleteFamily) || (is_some (h 1 s DeleteColumn) && not (is_some (h 0 s DeleteFamilyVersion)))

abbrev puts : RowContents → ℕ → Bool
puts h s = is_some (h 1 s Put) && not (is_some (h 0 s DeleteFamilyVersion))

pub same_doubt : (u p : ℕ) (columns : List ℕ) (h h' : RowContents) → HasSameStatus h h' → is_doubt u (version_at h' columns p) ≡ is_doubt u (version_at h columns p)
same_doubt u p columns h h' same = (let
    stamp : stamp_seen h' 1 p ≡ stamp_seen h 1 p =
    newest-equal (stops h) (puts h) (stops h') (puts h') p (λ s le i. is_some (same.family s i) || (is_some (same.column s i) && not (is_some (same.version s i)))) (λ s le i. is_some (same.put s i) && not (is_some (same.version s i)))
    in ap (λ (o : Option ℕ). is_doubt u (version_of_stamp h' columns p o)) stamp ∙ doubt_of u p columns h h' same.put (stamp_seen h 1 p))

-- A version that a point sees is the one that is seen from its stamp on up to there
pub seen_below : (h : RowContents) (columns : List ℕ) (u p q : ℕ) → u ≤ q → q ≤ p → is_doubt u (version_at h columns p) ≡ true → is_doubt u (version_at h columns q) ≡ true
seen_below h columns u p q low le is = by (stamp_seen h 1 p) refl is
  where
    by : (o : Option ℕ) → stamp_seen h 1 p ≡ o → is_doubt u (version_of_stamp h columns p o) ≡ true → is_doubt u (version_at h columns q) ≡ true
    by None e never = absurd cc
    by (Some t) e doubt = (let
        stamp : t ≡ u = number_is t u (and_left (nat_eq t u) (not (is_verified (h 1 t Put))) doubt)
        in let
        n : IsNewest (stops h) (puts h) p t = newest-is (stops h) (puts h) p t e
        in let
        here : stamp_seen h 1 q ≡ Some t = newest-at (stops h) (puts h) q t (record { within = omega (arith, low, stamp); hits = n.hits; none = λ s l m. n.none s l (omega (arith, le, m)); clear = λ s l m. n.clear s l (omega (arith, le, m)) })
        in ap (λ (o : Option ℕ). is_doubt u (version_of_stamp h columns q o)) here ∙ doubt)

pub doubt_within : (h : RowContents) (columns : List ℕ) (u p : ℕ) → is_doubt u (version_at h columns p) ≡ true → u ≤ p
doubt_within h columns u p is = by (stamp_seen h 1 p) refl is
  where
    by : (o : Option ℕ) → stamp_seen h 1 p ≡ o → is_doubt u (version_of_stamp h columns p o) ≡ true → u ≤ p
    by None e never = absurd cc
    by (Some t) e doubt = (let
        stamp : t ≡ u = number_is t u (and_left (nat_eq t u) (not (is_verified (h 1 t Put))) doubt)
        in let
        n : IsNewest (stops h) (puts h) p t = newest-is (stops h) (puts h) p t e
        in let
        le = n.within
        in omega (arith, stamp, le))

-- ---- a repair of another key

no_status : {K S X A : Type 0} (n : WorldShape K S X A) (h : ℕ) (state : S) (k k' : K) (t u : ℕ) (w : Verdict) → n.same_key k k' ≡ false → (fix_cells n h state k t w).status k' u ≡ Absent
no_status n h state k k' t u Leave other = refl
no_status n h state k k' t u ToVerify other = ap (λ (v : Bool). cond (v && nat_eq t u) Verified Absent) other
no_status n h state k k' t u ToRetire other = refl
no_status n h state k k' t u ToErase other = refl

no_family : {K S X A : Type 0} (n : WorldShape K S X A) (h : ℕ) (state : S) (k k' : K) (t u : ℕ) (w : Verdict) → n.same_key k k' ≡ false → (fix_cells n h state k t w).fam k' u ≡ false
no_family n h state k k' t u Leave other = refl
no_family n h state k k' t u ToVerify other = refl
no_family n h state k k' t u ToRetire other = ap (λ (v : Bool). v && nat_eq t u) other
no_family n h state k k' t u ToErase other = refl

no_version : {K S X A : Type 0} (n : WorldShape K S X A) (h : ℕ) (state : S) (k k' : K) (t u : ℕ) (w : Verdict) → n.same_key k k' ≡ false → (fix_cells n h state k t w).ver k' u ≡ false
no_version n h state k k' t u Leave other = refl
no_version n h state k k' t u ToVerify other = refl
no_version n h state k k' t u ToRetire other = refl
no_version n h state k k' t u ToErase other = ap (λ (v : Bool). v && nat_eq t u) other

if_status : (c : Bool) (x : IndexCells (List ℕ) (List ℕ)) (k : List ℕ) (u : ℕ) → x.status k u ≡ Absent → (cells_if c x).status k u ≡ Absent
if_status true x k u h = h
if_status false x k u h = refl

if_family : (c : Bool) (x : IndexCells (List ℕ) (List ℕ)) (k : List ℕ) (u : ℕ) → x.fam k u ≡ false → (cells_if c x).fam k u ≡ false
if_family true x k u h = h
if_family false x k u h = refl

if_version : (c : Bool) (x : IndexCells (List ℕ) (List ℕ)) (k : List ℕ) (u : ℕ) → x.ver k u ≡ false → (cells_if c x).ver k u ≡ false
if_version true x k u h = h
if_version false x k u h = refl

there_status : (c : Bool) → cond c Verified Unverified ≡ Absent → ⊥
there_status true e = absurd cc
there_status false e = absurd cc

nothing_there : (o : Option (List ℕ)) → status_in o ≡ Absent → o ≡ None
nothing_there None e = refl
nothing_there (Some x) e = absurd (there_status (pointwise nat_eq x (verified_byte ∷ [])) e)

not_some : {X : Type 0} (o : Option X) → is_some o ≡ false → o ≡ None
not_some None e = refl
not_some (Some x) e = absurd (let z : true ≡ false = e in cc)

or_none : {X : Type 0} (o b : Option X) → o ≡ None → or_else o b ≡ b
or_none o b e = ap (λ (z : Option _). or_else z b) e

other_key : (k other : List ℕ) → other ≢ k → pointwise nat_eq k other ≡ false
other_key k other apart = elim (cases_Bool (pointwise nat_eq k other)) [
  | inl e ↦ absurd (apart (sym (keys_same k other k other refl refl (ap not e))))
  | inr e ↦ e
]

module _ (g : Group) (place : ℕ) (k : List ℕ) (s : ℕ) (cells : List CellData) (due : IsRepair g place k s cells) (b : Base) (index : ℕ → IndexForm) (es : List Entry) (v : GroupData) (hs : List HeldBatch)
    (tallied : IsTallied b es g hs) (shown : IsShownBy b index es g v hs) (told : IsToldBy b index es g v) (x : IndexRegion) (at : slice_get g.indexes.items place ≡ Some x) (other : List ℕ) (apart : other ≢ k) where
  can : CanFix (form_of b index g) es v place k s cells
  can = due.can b index es v hs tallied shown told

  abbrev form : IndexForm
  form = index (get_or v.indexes place no_part).id

  form_is : index (get_or v.indexes place no_part).id ≡ index_form g.table x.index
  form_is = ap index (shown.parts place x at).id ∙ shown.forms place x at

  -- the row of the other key
  abbrev row : List Value
  row = row_of_index g.table x.index other

  abbrev shape : WorldShape (List ℕ) RowState (List ℕ) What
  shape = shape_in (form_of b index g) v place row

  abbrev world : World (List ℕ) RowState (List ℕ)
  world = world_in (form_of b index g) es v place row

  abbrev verdict : Verdict
  verdict = due_of shape world k s

  own : form.owns row other ≡ true
  own = ap (λ (q : IndexForm). q.owns row other) form_is ∙ owner_owns g.table x.index other

  keys_apart : pointwise nat_eq k other ≡ false
  keys_apart = other_key k other apart

  owned : (c : Bool) → (form.owns row other && c) ≡ c
  owned c = ap (λ (y : Bool). y && c) own

  bare_put : (u : ℕ) → value_at cells other 1 u Put ≡ None
  bare_put u = nothing_there (value_at cells other 1 u Put)
      (sym (ap (λ (y : Bool). cond y (status_in (value_at cells other 1 u Put)) Absent) own)
      ∙ (ap (λ (z : IndexCells (List ℕ) (List ℕ)). z.status other u) (can.reads row) ∙ if_status (form.owns row k) (fix_cells shape (horizon world) (st world (horizon world)) k s verdict) other u (no_status shape (horizon world) (st world (horizon world)) k other s u verdict keys_apart)))

  bare_family : (u : ℕ) → value_at cells other 0 u DeleteFamily ≡ None
  bare_family u = not_some (value_at cells other 0 u DeleteFamily)
      (sym (owned (is_some (value_at cells other 0 u DeleteFamily))) ∙ (ap (λ (z : IndexCells (List ℕ) (List ℕ)). z.fam other u) (can.reads row) ∙ if_family (form.owns row k) (fix_cells shape (horizon world) (st world (horizon world)) k s verdict) other u (no_family shape (horizon world) (st world (horizon world)) k other s u verdict keys_apart)))

  bare_version : (u : ℕ) → value_at cells other 0 u DeleteFamilyVersion ≡ None
  bare_version u = not_some (value_at cells other 0 u DeleteFamilyVersion)
      (sym (owned (is_some (value_at cells other 0 u DeleteFamilyVersion))) ∙ (ap (λ (z : IndexCells (List ℕ) (List ℕ)). z.ver other u) (can.reads row) ∙ if_version (form.owns row k) (fix_cells shape (horizon world) (st world (horizon world)) k s verdict) other u (no_version shape (horizon world) (st world (horizon world)) k other s u verdict keys_apart)))

  bare_column : (u : ℕ) → value_at cells other 1 u DeleteColumn ≡ None
  bare_column u = by (value_at cells other 1 u DeleteColumn) refl
    where
      by : (o : Option (List ℕ)) → value_at cells other 1 u DeleteColumn ≡ o → o ≡ None
      by None e = refl
      by (Some z) e = absurd ((can.low.each (cell_of other 1 u DeleteColumn z) e).status refl refl)

  module _ (put new : List CellData) (same : ReadsSame put cells) (reads : ReadsSame new (put ++ read_of x.region)) where
    later : (q u : ℕ) (d : CellKind) → value_at cells other q u d ≡ None → value_at new other q u d ≡ value_at (read_of x.region) other q u d
    later q u d none = ap (λ (h : Contents). h other q u d) (values_put put (read_of x.region) new reads)
        ∙ or_none (value_at put other q u d) (value_at (read_of x.region) other q u d) (ap (λ (h : Contents). h other q u d) (same_values put cells same) ∙ none)

    -- at another key the status and its markers stay
    pub repaired_beside : HasSameStatus (at_key (value_at (read_of x.region)) other) (at_key (value_at new) other)
    repaired_beside = record {
      put = λ u. later 1 u Put (bare_put u);
      column = λ u. later 1 u DeleteColumn (bare_column u);
      family = λ u. later 0 u DeleteFamily (bare_family u);
      version = λ u. later 0 u DeleteFamilyVersion (bare_version u);
    }
