-- What a test says of a column, where it is true.
use Rattle.std.proofs.Common.{◌≡◌, ◌≢◌, ◌↔◌, ◌⊎◌, inl, inr, ℕ, Bool, true, false, nat_eq, List, get_or, refl, sym, ap, subst, ◌∙◌, Option, Some, None}
use Rattle.std.proofs.lemmas.Bool.{eqb-true}
use Rattle.std.specs.declared.cmp.Ordering.{Ordering}
use Rattle.std.specs.declared.cmp.Ordering.TheVariants.{Less, Equal, Greater}
use Rattle.px_values.specs.Order.{value_order}
use Rattle.px_values.specs.declared.row.Value as values
use Rattle.px_values.specs.declared.row.Value.TheVariants.{Null, Number, Truth, Text}
use Rattle.px_ast.specs.declared.condition.Comparison.{Comparison}
use Rattle.px_ast.specs.declared.condition.Comparison.TheVariants as c
use Rattle.px_expr.specs.Holds.{meets, compared_values, null_test, test_of}
use Rattle.px_expr.specs.Truth.{known_truth, ◌and◌}
use Rattle.px_expr.specs.declared.bound.Truth.TheVariants as truths
use Rattle.px_expr.specs.declared.bound.Term.TheVariants.{Column, Value as Given}
use Rattle.px_expr.specs.declared.bound.Test.{Test}
use Rattle.px_expr.specs.declared.bound.Test.TheVariants.{Compare, IsNull, Between}
use Rattle.px_ranges.specs.Led.{Inside, can_bound}
use Rattle.px_ranges.specs.declared.leading.Edge.{Edge}
use Rattle.px_ranges.proofs.Ranges.{value_exact, value_same}
use Rattle.px_paths.specs.declared.path.PathColumn.{PathColumn}
use Rattle.px_conjuncts.specs.Conjuncts.{unless_null, at_column, edge, edge_beside, equal_in, lower_in, upper_in}

-- a comparison of two values is told, where neither is NULL
compared_is : (how : Comparison) (x w : values.Value) → x ≢ Null → w ≢ Null → compared_values how x w ≡ known_truth (meets how (value_order x w))
compared_is how Null w n m = absurd (n refl)
compared_is how x Null n m = absurd (m refl)
compared_is how x w n m = refl

compared_true : (how : Comparison) (x w : values.Value) → compared_values how x w ≡ truths.True → x ≢ Null
compared_true how Null w e z = cc
compared_true how (Number n) w e z = cc
compared_true how (Truth n) w e z = cc
compared_true how (Text n) w e z = cc

told_true : (b : Bool) → (known_truth b ≡ truths.True) ↔ (b ≡ true)
told_true true = (λ e. refl, λ e. refl)
told_true false = (λ e. cc, λ e. cc)

-- true of a value exactly where it isn't NULL and the order of the two meets the comparison
pub compared_holds : (how : Comparison) (x w : values.Value) → w ≢ Null → (compared_values how x w ≡ truths.True) ↔ ((x ≢ Null) × (meets how (value_order x w) ≡ true))
compared_holds how x w m = (
  λ e. (let n = compared_true how x w e in (n, (told_true (meets how (value_order x w))).0 (sym (compared_is how x w n m) ∙ e))),
  λ h. compared_is how x w h.0 m ∙ (told_true (meets how (value_order x w))).1 h.1,
)

meets_equal : (o : Ordering) → (meets c.Equal o ≡ true) ↔ (o ≡ Equal)
meets_equal Less = (λ e. cc, λ e. cc)
meets_equal Equal = (λ e. refl, λ e. refl)
meets_equal Greater = (λ e. cc, λ e. cc)

-- the comparison with an edge, and the side on which its values are
abbrev over_word : Bool → Comparison
over_word true = c.GreaterEqual
over_word false = c.Greater

abbrev under_word : Bool → Comparison
under_word true = c.LessEqual
under_word false = c.Less

meets_over : (i : Bool) (o : Ordering) → (meets (over_word i) o ≡ true) ↔ Inside Greater i o
meets_over true Less = (λ e. cc, λ h. elim h [ inl e ↦ cc | inr e ↦ let f = e.1 in cc ])
meets_over true Equal = (λ e. inr (refl, refl), λ h. refl)
meets_over true Greater = (λ e. inl refl, λ h. refl)
meets_over false Less = (λ e. cc, λ h. elim h [ inl e ↦ cc | inr e ↦ let f = e.1 in cc ])
meets_over false Equal = (λ e. cc, λ h. elim h [ inl e ↦ cc | inr e ↦ let f = e.0 in cc ])
meets_over false Greater = (λ e. inl refl, λ h. refl)

meets_under : (i : Bool) (o : Ordering) → (meets (under_word i) o ≡ true) ↔ Inside Less i o
meets_under true Greater = (λ e. cc, λ h. elim h [ inl e ↦ cc | inr e ↦ let f = e.1 in cc ])
meets_under true Equal = (λ e. inr (refl, refl), λ h. refl)
meets_under true Less = (λ e. inl refl, λ h. refl)
meets_under false Greater = (λ e. cc, λ h. elim h [ inl e ↦ cc | inr e ↦ let f = e.1 in cc ])
meets_under false Equal = (λ e. cc, λ h. elim h [ inl e ↦ cc | inr e ↦ let f = e.0 in cc ])
meets_under false Less = (λ e. inl refl, λ h. refl)

over_holds : (i : Bool) (x w : values.Value) → w ≢ Null → (compared_values (over_word i) x w ≡ truths.True) ↔ ((x ≢ Null) × Inside Greater i (value_order x w))
over_holds i x w m =
    let h = compared_holds (over_word i) x w m in
    let g = meets_over i (value_order x w) in (λ e. (let k = h.0 e in (k.0, g.0 k.1)), λ k. h.1 (k.0, g.1 k.1))

under_holds : (i : Bool) (x w : values.Value) → w ≢ Null → (compared_values (under_word i) x w ≡ truths.True) ↔ ((x ≢ Null) × Inside Less i (value_order x w))
under_holds i x w m =
    let h = compared_holds (under_word i) x w m in
    let g = meets_under i (value_order x w) in (λ e. (let k = h.0 e in (k.0, g.0 k.1)), λ k. h.1 (k.0, g.1 k.1))

-- ---- what is told at a column

pub at_place : {A : Type 0} (column : PathColumn) (place : ℕ) (found : Option A) (a : A) → at_column column place found ≡ Some a → (place ≡ column.place) × (found ≡ Some a)
at_place {A} column place found a e = by_test (nat_eq place column.place) refl
  where
    by_test : (b : Bool) → nat_eq place column.place ≡ b → (place ≡ column.place) × (found ≡ Some a)
    by_test true t = (eqb-true place column.place t, sym (here t) ∙ e)
      where
        here : nat_eq place column.place ≡ true → at_column column place found ≡ found
        here t = rw t refl
    by_test false t = absurd (let n = there t in let z : ◌≡◌ {A = Option A} None (Some a) = sym n ∙ e in cc)
      where
        there : nat_eq place column.place ≡ false → at_column column place found ≡ None
        there t = rw t refl

edge_is : (column : PathColumn) (i : Bool) (v : values.Value) (e : Edge) → edge column i v ≡ Some e → (v ≢ Null) × (e ≡ record { value = v; included = i })
edge_is column i v e h = by_test (can_bound column.column.ty v) refl
  where
    never_null : (v : values.Value) → can_bound column.column.ty v ≡ true → v ≢ Null
    never_null Null t z = cc
    never_null (Number n) t z = cc
    never_null (Truth n) t z = cc
    never_null (Text n) t z = cc

    same : (x y : Edge) → ◌≡◌ {A = Option Edge} (Some x) (Some y) → x ≡ y
    same x y e = cc

    by_test : (b : Bool) → can_bound column.column.ty v ≡ b → (v ≢ Null) × (e ≡ record { value = v; included = i })
    by_test true t =
        let is : edge column i v ≡ Some (record { value = v; included = i }) = rw t refl in (never_null v t, same e (record { value = v; included = i }) (sym h ∙ is))
    by_test false t = absurd (let n : edge column i v ≡ None = rw t refl in let z : ◌≡◌ {A = Option Edge} None (Some e) = sym n ∙ h in cc)

given_is : (v w : values.Value) → unless_null v ≡ Some w → (v ≡ w) × (w ≢ Null)
given_is Null w e = cc
given_is (Number n) w e = (cc, λ z. cc)
given_is (Truth n) w e = (cc, λ z. cc)
given_is (Text n) w e = (cc, λ z. cc)

null_holds : (x : values.Value) → (null_test x ≡ truths.True) ↔ (x ≡ Null)
null_holds Null = (λ e. refl, λ e. refl)
null_holds (Number n) = (λ e. cc, λ e. cc)
null_holds (Truth n) = (λ e. cc, λ e. cc)
null_holds (Text n) = (λ e. cc, λ e. cc)

equal_holds : (x w : values.Value) → w ≢ Null → (compared_values c.Equal x w ≡ truths.True) ↔ (x ≡ w)
equal_holds x w m =
    let h = compared_holds c.Equal x w m in
    let g = meets_equal (value_order x w) in (
      λ e. value_exact x w (g.0 (h.0 e).1),
      λ e. h.1 (λ z. m (sym e ∙ z), g.1 (value_same x w e)),
    )

-- a test that tells the column's value is true exactly where the column has it
pub equal_says : (column : PathColumn) (t : Test) (row : List values.Value) (v : values.Value) → equal_in column t ≡ Some v → (test_of row t ≡ truths.True) ↔ (get_or row column.place Null ≡ v)
equal_says column (Compare c.Equal (Column place) (Given w)) row v e =
    let at = at_place column place (unless_null w) v e in
    let is = given_is w v at.1 in
    let h = equal_holds (get_or row place Null) v is.1 in
    let m : compared_values c.Equal (get_or row place Null) w ≡ compared_values c.Equal (get_or row place Null) v = ap (λ (z : values.Value). compared_values c.Equal (get_or row place Null) z) is.0 in
    let p : get_or row place Null ≡ get_or row column.place Null = ap (λ (k : ℕ). get_or row k Null) at.0 in
    (λ f. sym p ∙ h.0 (sym m ∙ f), λ f. m ∙ h.1 (p ∙ f))
equal_says column (IsNull (Column place) false) row v e =
    let at = at_place column place (Some Null) v e in
    let h = null_holds (get_or row place Null) in
    let is : ◌≡◌ {A = values.Value} Null v = some_same Null v at.1 in
    let p : get_or row place Null ≡ get_or row column.place Null = ap (λ (k : ℕ). get_or row k Null) at.0 in
    (λ f. sym p ∙ h.0 f ∙ is, λ f. h.1 (p ∙ f ∙ sym is))
  where
    some_same : (x y : values.Value) → ◌≡◌ {A = Option values.Value} (Some x) (Some y) → x ≡ y
    some_same x y e = cc
equal_says column t row v e = cc

-- ---- bounds

-- a value that isn't NULL, on the inner side of the edge, where there is one
abbrev pub Over : Option Edge → values.Value → Type 0
Over None x = Unit {0}
Over (Some e) x = (x ≢ Null) × Inside Greater e.included (value_order x e.value)

abbrev pub Under : Option Edge → values.Value → Type 0
Under None x = Unit {0}
Under (Some e) x = (x ≢ Null) × Inside Less e.included (value_order x e.value)

-- a statement says that the value is within these edges, where it sets one
abbrev pub Says : Option Edge → Option Edge → values.Value → Type 0 → Type 0
Says None None x S = Unit {0}
Says l u x S = S ↔ (Over l x × Under u x)

over_says : (i : Bool) (column : PathColumn) (place : ℕ) (v : values.Value) (row : List values.Value) (e : Edge) → at_column column place (edge column i v) ≡ Some e → (compared_values (over_word i) (get_or row place Null) v ≡ truths.True) ↔ Over (Some e) (get_or row column.place Null)
over_says i column place v row e h =
    let at = at_place column place (edge column i v) e h in
    let is = edge_is column i v e at.1 in
    let holds = over_holds i (get_or row place Null) v is.0 in
    let found : (compared_values (over_word i) (get_or row place Null) v ≡ truths.True) ↔ Over (Some (record { value = v; included = i })) (get_or row place Null) = holds in
    subst (λ (k : ℕ). (compared_values (over_word i) (get_or row place Null) v ≡ truths.True) ↔ Over (Some e) (get_or row k Null)) at.0
    (subst (λ (d : Edge). (compared_values (over_word i) (get_or row place Null) v ≡ truths.True) ↔ Over (Some d) (get_or row place Null)) (sym is.1) found)

under_says : (i : Bool) (column : PathColumn) (place : ℕ) (v : values.Value) (row : List values.Value) (e : Edge) → at_column column place (edge column i v) ≡ Some e → (compared_values (under_word i) (get_or row place Null) v ≡ truths.True) ↔ Under (Some e) (get_or row column.place Null)
under_says i column place v row e h =
    let at = at_place column place (edge column i v) e h in
    let is = edge_is column i v e at.1 in
    let holds = under_holds i (get_or row place Null) v is.0 in
    let found : (compared_values (under_word i) (get_or row place Null) v ≡ truths.True) ↔ Under (Some (record { value = v; included = i })) (get_or row place Null) = holds in
    subst (λ (k : ℕ). (compared_values (under_word i) (get_or row place Null) v ≡ truths.True) ↔ Under (Some e) (get_or row k Null)) at.0
    (subst (λ (d : Edge). (compared_values (under_word i) (get_or row place Null) v ≡ truths.True) ↔ Under (Some d) (get_or row place Null)) (sym is.1) found)

pub both_true : (a b : _) → (a and b ≡ truths.True) ↔ ((a ≡ truths.True) × (b ≡ truths.True))
both_true truths.False b = (λ e. cc, λ h. let f = h.0 in cc)
both_true truths.Unknown truths.False = (λ e. cc, λ h. let f = h.0 in cc)
both_true truths.Unknown truths.Unknown = (λ e. cc, λ h. let f = h.0 in cc)
both_true truths.Unknown truths.True = (λ e. cc, λ h. let f = h.0 in cc)
both_true truths.True b = (λ e. (refl, e), λ h. h.1)

nowhere : {A : Type 0} (column : PathColumn) (place : ℕ) → at_column {A = A} column place None ≡ None
nowhere {A} column place = by_test (nat_eq place column.place) refl
  where
    by_test : (b : Bool) → nat_eq place column.place ≡ b → at_column {A = A} column place None ≡ None
    by_test true t = rw t refl
    by_test false t = rw t refl

one_sided : (l : Option Edge) (x : values.Value) (S : Type 0) → ((e : Edge) → l ≡ Some e → S ↔ Over (Some e) x) → Says l None x S
one_sided None x S h = tt
one_sided (Some e) x S h = let k = h e refl in (λ s. (k.0 s, tt), λ o. k.1 o.0)

other_sided : (u : Option Edge) (x : values.Value) (S : Type 0) → ((e : Edge) → u ≡ Some e → S ↔ Under (Some e) x) → Says None u x S
other_sided None x S h = tt
other_sided (Some e) x S h = let k = h e refl in (λ s. (tt, k.0 s), λ o. k.1 o.1)

two_sided : (l u : Option Edge) (x : values.Value) (S P Q : Type 0) → S ↔ (P × Q) → ((e : Edge) → l ≡ Some e → P ↔ Over (Some e) x) → ((e : Edge) → u ≡ Some e → Q ↔ Under (Some e) x) → ((l ≡ None) × (u ≡ None)) ⊎ (((e : Edge) × (l ≡ Some e)) × ((d : Edge) × (u ≡ Some d))) → Says l u x S
two_sided None None x S P Q s h k c = tt
two_sided (Some e) None x S P Q s h k c = elim c [ inl y ↦ (let z = y.0 in cc) | inr y ↦ (let z = y.1.1 in cc) ]
two_sided None (Some d) x S P Q s h k c = elim c [ inl y ↦ (let z = y.1 in cc) | inr y ↦ (let z = y.0.1 in cc) ]
two_sided (Some e) (Some d) x S P Q s h k c =
    let a = h e refl in
    let b = k d refl in (λ z. (let y = s.0 z in (a.0 y.0, b.0 y.1)), λ o. s.1 (a.1 o.0, b.1 o.1))

-- the edges of two values at a column: both or none
paired : (column : PathColumn) (place : ℕ) (a b : values.Value) → (((at_column column place (edge_beside column b a) ≡ None) × (at_column column place (edge_beside column a b) ≡ None)) ⊎ (((e : Edge) × (at_column column place (edge_beside column b a) ≡ Some e)) × ((d : Edge) × (at_column column place (edge_beside column a b) ≡ Some d))))
paired column place a b = by_test (nat_eq place column.place) refl
  where
    found : (s t : Bool) → can_bound column.column.ty a ≡ s → can_bound column.column.ty b ≡ t → ((edge_beside column b a ≡ None) × (edge_beside column a b ≡ None)) ⊎ (((e : Edge) × (edge_beside column b a ≡ Some e)) × ((d : Edge) × (edge_beside column a b ≡ Some d)))
    found true true e f = inr ((record { value = a; included = true }, rw (f, e) refl), (record { value = b; included = true }, rw (e, f) refl))
    found true false e f = inl (rw f refl, rw (e, f) refl)
    found false true e f = inl (rw (f, e) refl, rw e refl)
    found false false e f = inl (rw f refl, rw e refl)

    by_test : (t : Bool) → nat_eq place column.place ≡ t → (((at_column column place (edge_beside column b a) ≡ None) × (at_column column place (edge_beside column a b) ≡ None)) ⊎ (((e : Edge) × (at_column column place (edge_beside column b a) ≡ Some e)) × ((d : Edge) × (at_column column place (edge_beside column a b) ≡ Some d))))
    by_test true t = rw t (found (can_bound column.column.ty a) (can_bound column.column.ty b) refl refl)
    by_test false t = rw t (inl (refl, refl))

pub from_beside : (column : PathColumn) (place : ℕ) (a b : values.Value) (e : Edge) → at_column column place (edge_beside column b a) ≡ Some e → at_column column place (edge column true a) ≡ Some e
from_beside column place a b e h = by_test (can_bound column.column.ty b) refl
  where
    by_test : (t : Bool) → can_bound column.column.ty b ≡ t → at_column column place (edge column true a) ≡ Some e
    by_test true t = let is : edge_beside column b a ≡ edge column true a = rw t refl in sym (ap (λ (o : Option Edge). at_column column place o) is) ∙ h
    by_test false t = absurd (let is : edge_beside column b a ≡ None = rw t refl in let z : ◌≡◌ {A = Option Edge} None (Some e) = sym (nowhere column place) ∙ sym (ap (λ (o : Option Edge). at_column column place o) is) ∙ h in cc)

-- a test that sets a bound for a column says just that
pub bound_says : (column : PathColumn) (t : Test) (row : List values.Value) → Says (lower_in column t) (upper_in column t) (get_or row column.place Null) (test_of row t ≡ truths.True)
bound_says column (Compare c.Greater (Column place) (Given v)) row =
    one_sided (at_column column place (edge column false v)) (get_or row column.place Null) _ (over_says false column place v row)
bound_says column (Compare c.GreaterEqual (Column place) (Given v)) row =
    one_sided (at_column column place (edge column true v)) (get_or row column.place Null) _ (over_says true column place v row)
bound_says column (Compare c.Less (Column place) (Given v)) row =
    other_sided (at_column column place (edge column false v)) (get_or row column.place Null) _ (under_says false column place v row)
bound_says column (Compare c.LessEqual (Column place) (Given v)) row =
    other_sided (at_column column place (edge column true v)) (get_or row column.place Null) _ (under_says true column place v row)
bound_says column (Between (Column place) false (Given a) (Given b)) row =
    let x = get_or row place Null in
    two_sided (at_column column place (edge_beside column b a)) (at_column column place (edge_beside column a b)) (get_or row column.place Null) _ _ _
    (both_true (compared_values c.GreaterEqual x a) (compared_values c.LessEqual x b))
    (λ e h. over_says true column place a row e (from_beside column place a b e h))
    (λ d h. under_says true column place b row d (from_beside column place b a d h))
    (paired column place a b)
bound_says column t row = tt
