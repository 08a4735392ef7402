-- A table that is made in the run: nothing was done to it before.
use Rattle.std.proofs.Common.{◌≡◌, ◌≢◌, ℕ, ◌<◌, ◌≤◌, Bool, true, false, ◌&&◌, ◌==◌, if◌then◌else◌, Option, Some, None, List, [], ◌∷◌, ◌++◌, refl, ap, sym, ◌∙◌, subst, arith}
use Rattle.std.specs.Prelude.{IsSome, filter}
use Rattle.std.specs.List.{AllByRecursion}
use Rattle.std.proofs.lemmas.Bool.{cond-true, eq-eqb, false≢true, ne_eqb}
use Rattle.px_cells.specs.Contents.{value_at}
use Rattle.px_values.specs.declared.row.Value.{Value}
use Rattle.px_values.specs.declared.name.TableId.{TableId}
use Rattle.px_tables.specs.declared.table.NewTable.{NewTable}
use Rattle.px_tables.specs.declared.table.Table.{Table}
use Rattle.px_trail.specs.declared.entry.Act.{Act}
use Rattle.px_trail.specs.declared.entry.Act.TheVariants.{Made, IndexMade, IndexState, Dropped, Begun, Raised}
use Rattle.px_trail.specs.declared.entry.Entry.{Entry}
use Rattle.px_trail.specs.Batches.{batch_from, batch_of, batch_step}
use Rattle.px_trail.specs.Legal.{Follows, IsLegal, MayCome}
use Rattle.px_trail.specs.States.{Dated, applied, begun, begun_by, is_row_written}
use Rattle.px_trail.specs.Trail.{Base, Catalogue, IsCatalogue, IsRightBase, base_catalogue, catalogue_from, catalogue_of, catalogue_step, horizon_from, horizon_of, horizon_step, new_shape, shape_of, shape_step, table_of}
use Rattle.px_trail.proofs.Growth.{batch_of-snoc, begun-snoc, catalogue-snoc, horizon-snoc, legal-induct, legal-snoc, shape-snoc}
use Rattle.px_trail.proofs.Standing.{catalogue-stands}
use Rattle.px_forms.specs.Rows.{IsDataForm}
use Rattle.px_groupworld.specs.Group.{TableForm, GroupKept}
use Rattle.px_groupworld.specs.Sound.{made_data}

-- ---- numbers only grow

drop_next : (c : Catalogue) (t : TableId) (o : Option Rattle.px_values.specs.declared.name.IndexId.IndexId) → c.next ≤ (catalogue_step c (Dropped t o)).next
unfolding catalogue_step
drop_next c t None = omega arith
drop_next c t (Some i) = omega arith

next_step : (c : Catalogue) (act : Act) → c.next ≤ (catalogue_step c act).next
unfolding catalogue_step
next_step c (Made t what) = omega arith
next_step c (IndexMade t i s what) = omega arith
next_step c (IndexState t i state s) = omega arith
next_step c (Dropped t o) = drop_next c t o
next_step c act = omega arith

-- ---- nothing was done to a table whose number wasn't drawn

pub record IsNew (b : Base) (es : List Entry) (t : ℕ) : Type 0 where
  pub batches : (s : ℕ) → batch_of t s es ≡ None
  pub begins : (r : List Value) → begun t r es ≡ []
  pub horizon : horizon_of b t es ≡ b.horizon t

-- an act of another table, or none that begins a batch or raises a horizon
abbrev IsApart : ℕ → Act → Type 0
IsApart t (Begun t' s cs) = t'.0 ≢ t
IsApart t (Raised t' h) = t'.0 ≢ t
IsApart t act = Unit {0}

if_not : {A : Type 0} (v : Bool) (a c : A) → v ≡ false → (if v then a else c) ≡ c
if_not true a c h = (let z : true ≡ false = h in cc)
if_not false a c h = refl

and_no : (v c : Bool) → v ≡ false → (v && c) ≡ false
and_no true c h = (let z : true ≡ false = h in cc)
and_no false c h = refl

apart_batch : (t s seat : ℕ) (act : Act) → IsApart t act → batch_step t s None seat act ≡ None
unfolding batch_step
apart_batch t s seat (Begun t' s' cs) n = if_not _ _ _ (and_no _ _ (ne_eqb t'.0 t n))
apart_batch t s seat act n = refl

apart_begun : (t : ℕ) (r : List Value) (act : Act) → IsApart t act → begun_by t r act ≡ []
unfolding begun_by
apart_begun t r (Begun t' s cs) n = if_not _ _ _ (ne_eqb t'.0 t n)
apart_begun t r act n = refl

apart_horizon : (t h : ℕ) (act : Act) → IsApart t act → horizon_step t h act ≡ h
apart_horizon t h (Raised t' h') n = if_not _ _ _ (ne_eqb t'.0 t n)
apart_horizon t h act n = refl

new_step : (b : Base) (l : List Entry) (e : Entry) (t : ℕ) → IsNew b l t → IsApart t e.act → IsNew b (l ++ e ∷ []) t
new_step b l e t n a = record {
  batches = λ s. batch_of-snoc t s l e ∙ (ap (λ o. batch_step t s o e.seat e.act) (n.batches s) ∙ apart_batch t s e.seat e.act a);
  begins = λ r. begun-snoc t r l e ∙ (λ i. n.begins r i ++ apart_begun t r e.act a i);
  horizon = horizon-snoc b t l e ∙ (apart_horizon t (horizon_of b t l) e.act a ∙ n.horizon);
}

-- a table that stands has a number that was drawn
stands_below : (b : Base) → IsCatalogue (base_catalogue b) → (l : List Entry) → IsLegal b l → (t : ℕ) → IsSome (table_of b l t) → t < (catalogue_of b l).next
stands_below b right l legal t h = by (table_of b l t) refl h
  where
    by : (o : Option Table) → table_of b l t ≡ o → IsSome o → t < (catalogue_of b l).next
    by None q h = absurd (false≢true h)
    by (Some x) q h = ((catalogue-stands b l right legal).tables t x q).1

act_apart : (b : Base) → IsCatalogue (base_catalogue b) → (l : List Entry) → IsLegal b l → (seat calls t : ℕ) (act : Act) → Follows b l seat calls act → (catalogue_of b l).next ≤ t → IsApart t act
unfolding Follows
act_apart b right l legal seat calls t (Begun t' s cs) f n = λ q. (let m = stands_below b right l legal t'.0 f.3 in omega arith)
act_apart b right l legal seat calls t (Raised t' h) f n = λ q. (let m = stands_below b right l legal t'.0 f.stands in omega arith)
act_apart b right l legal seat calls t act f n = tt

record IsNewTo (b : Base) (l : List Entry) : Type 0 where
  pub grows : b.next ≤ (catalogue_of b l).next
  pub each : (t : ℕ) → (catalogue_of b l).next ≤ t → IsNew b l t

new_to : (b : Base) → IsCatalogue (base_catalogue b) → (es : List Entry) → IsLegal b es → IsNewTo b es
unfolding batch_from begun horizon_from catalogue_from
new_to b right es legal =
    legal-induct b (λ l. IsNewTo b l)
    (λ l e pre may h.
    (let p : (catalogue_of b (l ++ e ∷ [])).next ≡ (catalogue_step (catalogue_of b l) e.act).next = ap (λ (c : Catalogue). c.next) (catalogue-snoc b l e) in
    let q = next_step (catalogue_of b l) e.act in
    record {
      grows = (let g = h.grows in omega arith);
      each = λ t n. (let m : (catalogue_of b l).next ≤ t = omega arith in new_step b l e t (h.each t m) (act_apart b right l pre e.seat e.calls t e.act may.follows m));
    }))
    [] es legal (record { grows = omega arith; each = λ t n. record { batches = λ s. refl; begins = λ r. refl; horizon = refl } })

-- ---- a table that is made is kept

module _ (f : TableForm) (right : IsRightBase f.base) (es : List Entry) (legal : IsLegal f.base es) (e : Entry) (may : MayCome f.base es e) (what : NewTable) (is : e.act ≡ Made f.id what) (shape : new_shape what ≡ f.rows.shape)
    (form : IsDataForm f.rows) (nothing : (r : List Value) (p : ℕ) → f.rows.spelled (λ k q s d. None) r p ≡ None) (whole : (r : List Value) → f.rows.IsWhole 0 (λ k q s d. None) r) where
  abbrev b : Base
  b = f.base

  abbrev t : ℕ
  t = f.id.0

  abbrev es' : List Entry
  es' = es ++ e ∷ []

  number : (catalogue_of b es).next ≤ t
  unfolding Follows
  number = let z = (subst (λ (a : Act). Follows b es e.seat e.calls a) is may.follows).0 in omega arith

  new_before : IsNewTo b es
  new_before = new_to b right.catalogue es legal

  new_now : IsNew b es' t
  new_now = new_step b es e t (new_before.each t number) (subst (IsApart t) (sym is) tt)

  -- it stood in no base
  no_base : b.tables t ≡ None
  no_base = by (b.tables t) refl
    where
      by : (o : Option Table) → b.tables t ≡ o → o ≡ None
      by None q = refl
      by (Some x) q = absurd (let m = (right.catalogue.tables t x q).1 in let g = new_before.grows in let n = number in omega arith)

  state_none : (r : List Value) (p : ℕ) → applied f.rows.shape r p (b.state t r p) (filter (λ d. is_row_written es' t r d.stamp) (begun t r es')) ≡ None
  unfolding applied
  state_none r p = ap (λ (ds : List Dated). applied f.rows.shape r p (b.state t r p) (filter (λ d. is_row_written es' t r d.stamp) ds)) (new_now.begins r) ∙ right.state t r p no_base

  pub group_made : GroupKept f es' made_data
  unfolding shape_step value_at
  group_made = record {
    legal = legal-snoc b es e legal may;
    base = record { rows = right.rows t; low = (let z = (right.horizon t no_base).0 in omega arith) };
    shape = shape-snoc b es e t ∙ (ap (shape_step t (shape_of b es t)) is ∙ (cond-true (t == t) (new_shape what) (shape_of b es t) (eq-eqb t t refl) ∙ shape));
    high = new_now.horizon ∙ (right.horizon t no_base).0;
    indexes = λ i l. absurd (omega arith);
    told = record {
      form = form;
      cells = record { each = λ c h. cc };
      stamps = λ r q u d v h. cc;
      spells = λ r p l. nothing r p ∙ sym (state_none r p);
      whole = whole;
      fits = λ r. subst (AllByRecursion (λ d. f.rows.Fits r d.what)) (sym (new_now.begins r)) tt;
    };
    low = omega arith;
    own = λ i l. absurd (omega arith);
    begun = tt;
    apart = tt;
  }
