-- A query has an answer by each path of its table.
use Rattle.std.proofs.Common.{◌≡◌, ◌↔◌, ◌⊎◌, inl, inr, List, [], ◌∷◌, get_or, map, refl, sym, ap, subst, ◌∙◌, Option, Some, None}
use Rattle.std.specs.Cmp.{IsTotalOrder}
use Rattle.std.specs.List.{Contains}
use Rattle.std.specs.Ordering.{is_eq, ordering_reverse, ordering_then}
use Rattle.std.specs.declared.cmp.Ordering.{Ordering}
use Rattle.std.specs.declared.cmp.Ordering.TheVariants.{Less, Equal, Greater}
use Rattle.px_values.specs.Compare.{compare_of}
use Rattle.px_values.specs.Order.{value_order}
use Rattle.px_values.specs.declared.order.Direction.{Direction}
use Rattle.px_values.specs.declared.order.Direction.TheVariants.{Ascending, Descending}
use Rattle.px_values.specs.declared.row.Value.{Value}
use Rattle.px_values.specs.declared.row.Value.TheVariants.{Null}
use Rattle.px_values.proofs.Equal.{value_order-Decides}
use Rattle.px_expr.specs.Holds.{truth_of}
use Rattle.px_expr.specs.declared.bound.Bound.{Bound}
use Rattle.px_expr.specs.declared.bound.Truth.{Truth}
use Rattle.px_expr.specs.declared.bound.Truth.TheVariants as truths
use Rattle.px_tables.specs.declared.index.Index.{Index}
use Rattle.px_tables.specs.declared.table.Table.{Table}
use Rattle.px_bind.specs.declared.request.Query.{Query}
use Rattle.px_paths.specs.Paths.{values_on}
use Rattle.px_paths.specs.declared.path.PathColumn.{PathColumn}
use Rattle.px_paths.proofs.Keys.{same_owner}
use Rattle.px_plan.specs.Answers.{AreKeyed, Ascends, IsAnswer, by_order, by_path, comes_before, cut_off, row_answered}
use Rattle.px_plan.specs.PathColumns.{path_of}
use Rattle.px_plan.specs.Plans.{IsSelected}
use Rattle.px_plan.proofs.OneAnswer.{before_total, here, nothing_in, split, there}

-- ---- rows in order, each once

-- these rows and one more
abbrev With : List Value → List (List Value) → List (List Value) → Type 0
With x ys zs = (z : List Value) → Contains zs z ↔ ((x ≡ z) ⊎ Contains ys z)

with_first : (x : List Value) (ys : List (List Value)) → With x ys (x ∷ ys)
with_first x ys z = (λ c. split x z ys c, λ c. elim c [ inl q ↦ subst (λ (r : List Value). Contains (x ∷ ys) r) q (here x ys) | inr d ↦ there x z ys d ])

with_again : (x y : List Value) (ys : List (List Value)) → x ≡ y → With x (y ∷ ys) (y ∷ ys)
with_again x y ys e z = (λ c. inr c, λ c. elim c [ inl q ↦ subst (λ (r : List Value). Contains (y ∷ ys) r) (sym e ∙ q) (here y ys) | inr d ↦ d ])

with_later : (x y : List Value) (ys zs : List (List Value)) → With x ys zs → With x (y ∷ ys) (y ∷ zs)
with_later x y ys zs h z = (
  λ c. elim (split y z zs c) [
    | inl q ↦ inr (subst (λ (r : List Value). Contains (y ∷ ys) r) q (here y ys))
    | inr d ↦ elim ((h z).0 d) [ inl q ↦ inl q | inr f ↦ inr (there y z ys f) ]
  ],
  λ c. elim c [
    | inl q ↦ there y z zs ((h z).1 (inl q))
    | inr d ↦ elim (split y z ys d) [ inl q ↦ subst (λ (r : List Value). Contains (y ∷ zs) r) q (here y zs) | inr f ↦ there y z zs ((h z).1 (inr f)) ]
  ],
)

module _ (R : List Value → List Value → Ordering) (total : IsTotalOrder R) where
  -- one more among these, behind a row that comes before it
  abbrev Inserted : List Value → List Value → List (List Value) → Type 0
  Inserted w x ys = (zs : List (List Value)) × Ascends R (w ∷ zs) × With x ys zs

  abbrev IsOnce : List Value → List (List Value) → Type 0
  IsOnce x ys = (y : List Value) → Contains ys y → R x y ≡ Equal → x ≡ y

  insert_at : (w x y : List Value) (ys : List (List Value)) → R w x ≡ Less → Ascends R (w ∷ y ∷ ys) → IsOnce x (y ∷ ys) → (R y x ≡ Less → Inserted y x ys) → (o : Ordering) → R x y ≡ o → Inserted w x (y ∷ ys)
  insert_at w x y ys l a once more Less e = (x ∷ y ∷ ys, (l, (e, a.1)), with_first x (y ∷ ys))
  insert_at w x y ys l a once more Equal e = (y ∷ ys, a, with_again x y ys (once y (here y ys) e))
  insert_at w x y ys l a once more Greater e = (let rest = more (total.antisymm y x ∙ ap ordering_reverse e) in (y ∷ rest.0, (a.0, rest.1), with_later x y ys rest.0 rest.2))

  inserted : (w x : List Value) (ys : List (List Value)) → R w x ≡ Less → Ascends R (w ∷ ys) → IsOnce x ys → Inserted w x ys
  inserted w x [] l a once = (x ∷ [], (l, tt), with_first x [])
  inserted w x (y ∷ ys) l a once = insert_at w x y ys l a once (λ before. inserted y x ys before a.1 (λ v c. once v (there y v ys c))) (R x y) refl

  abbrev Put : List Value → List (List Value) → Type 0
  Put x ys = (zs : List (List Value)) × Ascends R zs × With x ys zs

  put_at : (x y : List Value) (ys : List (List Value)) → Ascends R (y ∷ ys) → IsOnce x (y ∷ ys) → (o : Ordering) → R x y ≡ o → Put x (y ∷ ys)
  put_at x y ys a once Less e = (x ∷ y ∷ ys, (e, a), with_first x (y ∷ ys))
  put_at x y ys a once Equal e = (y ∷ ys, a, with_again x y ys (once y (here y ys) e))
  put_at x y ys a once Greater e =
      let rest = inserted y x ys (total.antisymm y x ∙ ap ordering_reverse e) a (λ v c. once v (there y v ys c)) in (y ∷ rest.0, rest.1, with_later x y ys rest.0 rest.2)

  put : (x : List Value) (ys : List (List Value)) → Ascends R ys → IsOnce x ys → Put x ys
  put x [] a once = (x ∷ [], tt, with_first x [])
  put x (y ∷ ys) a once = put_at x y ys a once (R x y) refl

  -- the rows that are chosen, in order
  abbrev Sorted : (List Value → Type 0) → List (List Value) → Type 0
  Sorted P rows = (zs : List (List Value)) × Ascends R zs × ((z : List Value) → Contains zs z ↔ (Contains rows z × P z))

  sort_one : (P : List Value → Type 0) (x : List Value) (rows : List (List Value)) → ((a b : List Value) → Contains (x ∷ rows) a → Contains (x ∷ rows) b → R a b ≡ Equal → a ≡ b) → Sorted P rows → P x ⊎ (P x → ⊥) → Sorted P (x ∷ rows)
  sort_one P x rows once s (inl p) =
      let found = put x s.0 s.1 (λ v c e. once x v (here x rows) (there x v rows ((s.2 v).0 c).0) e) in (
        found.0,
        found.1,
        λ z. (
          λ c. elim ((found.2 z).0 c) [ inl q ↦ (subst (λ (r : List Value). Contains (x ∷ rows) r) q (here x rows), subst P q p) | inr d ↦ (let h = (s.2 z).0 d in (there x z rows h.0, h.1)) ],
          λ c. elim (split x z rows c.0) [ inl q ↦ (found.2 z).1 (inl q) | inr d ↦ (found.2 z).1 (inr ((s.2 z).1 (d, c.1))) ],
        ),
      )
  sort_one P x rows once s (inr n) = (
    s.0,
    s.1,
    λ z. (
      λ c. (let h = (s.2 z).0 c in (there x z rows h.0, h.1)),
      λ c. elim (split x z rows c.0) [ inl q ↦ absurd (n (subst P (sym q) c.1)) | inr d ↦ (s.2 z).1 (d, c.1) ],
    ),
  )

  pub sorted_rows : (P : List Value → Type 0) → ((row : List Value) → P row ⊎ (P row → ⊥)) → (rows : List (List Value)) → ((a b : List Value) → Contains rows a → Contains rows b → R a b ≡ Equal → a ≡ b) → Sorted P rows
  sorted_rows P decided [] once = ([], tt, λ z. (λ c. absurd (nothing_in z c), λ c. absurd (nothing_in z c.0)))
  sorted_rows P decided (x ∷ rows) once = sort_one P x rows once (sorted_rows P decided rows (λ a b c d e. once a b (there x a rows c) (there x b rows d) e)) (decided x)

-- ---- a row is selected or not

by_truth : (b : Bound) (row : List Value) (t : Truth) → truth_of row b ≡ t → (truth_of row b ≡ truths.True) ⊎ (truth_of row b ≡ truths.True → ⊥)
by_truth b row truths.True e = inl e
by_truth b row truths.False e = inr (λ h. (let z : ◌≡◌ {A = Truth} truths.False truths.True = sym e ∙ h in cc))
by_truth b row truths.Unknown e = inr (λ h. (let z : ◌≡◌ {A = Truth} truths.Unknown truths.True = sym e ∙ h in cc))

selected_or_not : (filter : Option Bound) (row : List Value) → IsSelected filter row ⊎ (IsSelected filter row → ⊥)
selected_or_not None row = inl tt
selected_or_not (Some b) row = by_truth b row (truth_of row b) refl

-- ---- rows with one key are one row

then_equal : (o p : Ordering) → ordering_then o p ≡ Equal → (o ≡ Equal) × (p ≡ Equal)
then_equal Less p h = absurd (let z : ◌≡◌ {A = Ordering} Less Equal = h in cc)
then_equal Equal p h = (refl, h)
then_equal Greater p h = absurd (let z : ◌≡◌ {A = Ordering} Greater Equal = h in cc)

same_values : (v w : Value) → value_order v w ≡ Equal → v ≡ w
same_values v w e = (value_order-Decides v w).0 (ap is_eq e)

turned : (o : Ordering) → ordering_reverse o ≡ Equal → o ≡ Equal
turned Less h = absurd (let z : ◌≡◌ {A = Ordering} Greater Equal = h in cc)
turned Equal h = refl
turned Greater h = absurd (let z : ◌≡◌ {A = Ordering} Less Equal = h in cc)

same_directed : (d : Direction) (v w : Value) → compare_of d v w ≡ Equal → v ≡ w
same_directed Ascending v w e = same_values v w e
same_directed Descending v w e = same_values v w (turned (value_order v w) e)

same_key : (path : List PathColumn) (a b : List Value) → by_path path a b ≡ Equal → values_on path a ≡ values_on path b
same_key [] a b e = refl
same_key (c ∷ path) a b e =
    let v = get_or a c.place Null in
    let w = get_or b c.place Null in
    let both = then_equal (compare_of c.column.direction v w) (by_path path a b) e in
    ap (λ (x : Value). x ∷ values_on path a) (same_directed c.column.direction v w both.0) ∙ ap (λ (xs : List Value). w ∷ xs) (same_key path a b both.1)

same_primary : (t : Table) (by : Option Index) (a b : List Value) → values_on (path_of t by) a ≡ values_on (path_of t by) b → values_on (path_of t None) a ≡ values_on (path_of t None) b
same_primary t None a b e = e
same_primary t (Some x) a b e = same_owner t x a b e

pub some_answer : (t : Table) (by : Option Index) (q : Query) (rows : List (List Value)) → AreKeyed t rows → (answer : List (List Value)) × IsAnswer rows q (path_of t by) answer
some_answer t by q rows keyed =
    let path = path_of t by in
    let once : (a b : List Value) → Contains rows a → Contains rows b → comes_before q path a b ≡ Equal → a ≡ b = λ a b c d e. keyed a b c d (same_primary t by a b (same_key path a b (then_equal (by_order q.order a b) (by_path path a b) e).1)) in
    let s = sorted_rows (comes_before q path) (before_total q path) (IsSelected q.filter) (selected_or_not q.filter) rows once in
    (map (row_answered q) (cut_off q.limit s.0), record { sorted = s.0; ascends = s.1; selected = s.2; given = refl })
