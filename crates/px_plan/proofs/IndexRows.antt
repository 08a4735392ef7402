-- What is asked of a row and of what an index shows of it.
use Rattle.std.proofs.Common.{◌≡◌, ◌↔◌, inl, inr, ℕ, zero, suc, Bool, true, false, ◌&&◌, List, [], ◌∷◌, ◌++◌, take, map, get_or, refl, sym, ap, subst, ◌∙◌, Option, Some, None}
use Rattle.std.specs.List.{Contains, list_all}
use Rattle.std.specs.Ordering.{ordering_then}
use Rattle.std.specs.declared.cmp.Ordering.{Ordering}
use Rattle.px_values.specs.Compare.{compare_of}
use Rattle.px_values.specs.declared.row.Value as values
use Rattle.px_values.specs.declared.row.Value.TheVariants.{Null}
use Rattle.px_keys.specs.KeyOrder.{parts_order}
use Rattle.px_ast.specs.declared.condition.Comparison.TheVariants as c
use Rattle.px_expr.specs.Truth.{negated_if, opposite, some_of, ◌and◌, ◌or◌}
use Rattle.px_expr.specs.Holds.{all_of, any_of, compared_values, null_test, term_value, test_of, truth_of}
use Rattle.px_expr.specs.declared.bound.Bound.{Bound, Or', And', Not', Row_of-Bound, end_of-Bound, more_of-Bound}
use Rattle.px_expr.specs.declared.bound.Bound.TheVariants as bounds
use Rattle.px_expr.specs.declared.bound.Term.{Term}
use Rattle.px_expr.specs.declared.bound.Term.TheVariants.{Column, Value as Given}
use Rattle.px_expr.specs.declared.bound.Test.{Test}
use Rattle.px_expr.specs.declared.bound.Test.TheVariants.{Compare, IsNull, In, Between}
use Rattle.px_expr.specs.declared.bound.Truth.{Truth}
use Rattle.px_tables.specs.declared.index.Index.{Index}
use Rattle.px_tables.specs.declared.table.KeyPlace.{KeyPlace}
use Rattle.px_tables.specs.declared.table.Table.{Table}
use Rattle.px_bind.specs.declared.request.Query.{Query}
use Rattle.px_paths.specs.Paths.{FitsRow, columns_on, index_path, is_held, shown_on, values_on}
use Rattle.px_paths.proofs.Keys.{held_shown, index_key_fits, shown_key}
use Rattle.px_plan.specs.Answers.{AreKeyed, Ascends, IsAnswer, by_order, by_path, comes_before, cut_off, row_answered}
use Rattle.px_plan.specs.Naming.{columns_in, columns_in_all, columns_named, filter_columns, holds_all, term_columns, test_columns}
use Rattle.px_plan.specs.PathColumns.{path_of}
use Rattle.px_plan.specs.Plans.{HasKey, IsSelected}
use Rattle.px_plan.proofs.OneAnswer.{here, nothing_in, one_answer, split, there}
use Rattle.px_plan.proofs.SomeAnswer.{some_answer}

pub and_left : (a b : Bool) → (a && b) ≡ true → a ≡ true
and_left true b h = refl
and_left false b h = h

pub and_right : (a b : Bool) → (a && b) ≡ true → b ≡ true
and_right true b h = h
and_right false b h = absurd (let z : ◌≡◌ {A = Bool} false true = h in cc)

pub all_left : (p : ℕ → Bool) (xs ys : List ℕ) → list_all p (xs ++ ys) ≡ true → list_all p xs ≡ true
all_left p [] ys h = refl
all_left p (x ∷ xs) ys h = ap (λ (b : Bool). b && list_all p xs) (and_left (p x) (list_all p (xs ++ ys)) h) ∙ all_left p xs ys (and_right (p x) (list_all p (xs ++ ys)) h)

pub all_right : (p : ℕ → Bool) (xs ys : List ℕ) → list_all p (xs ++ ys) ≡ true → list_all p ys ≡ true
all_right p [] ys h = h
all_right p (x ∷ xs) ys h = all_right p xs ys (and_right (p x) (list_all p (xs ++ ys)) h)

-- two rows with the same values in the columns that an index holds
module _ (t : Table) (x : Index) (a b : List values.Value) (same : (k : ℕ) → is_held t x k ≡ true → get_or a k Null ≡ get_or b k Null) where
  same_term : (term : Term) → holds_all t x (term_columns term) ≡ true → term_value a term ≡ term_value b term
  same_term (Column place) h = same place (and_left (is_held t x place) true h)
  same_term (Given v) h = refl

  same_test : (test : Test) → holds_all t x (test_columns test) ≡ true → test_of a test ≡ test_of b test
  same_test (Compare how left right) h =
      ap (λ (v : values.Value). compared_values how v (term_value a right)) (same_term left (all_left (is_held t x) (term_columns left) (term_columns right) h))
      ∙ ap (λ (v : values.Value). compared_values how (term_value b left) v) (same_term right (all_right (is_held t x) (term_columns left) (term_columns right) h))
  same_test (IsNull term negated) h = ap (λ (v : values.Value). negated_if negated (null_test v)) (same_term term h)
  same_test (In term negated vs) h = ap (λ (v : values.Value). negated_if negated (some_of (map (compared_values c.Equal v) vs))) (same_term term h)
  same_test (Between term negated low high) h =
      let rest = all_right (is_held t x) (term_columns term) (term_columns low ++ term_columns high) h in
      let one = same_term term (all_left (is_held t x) (term_columns term) (term_columns low ++ term_columns high) h) in
      let two = same_term low (all_left (is_held t x) (term_columns low) (term_columns high) rest) in
      let three = same_term high (all_right (is_held t x) (term_columns low) (term_columns high) rest) in
      ap (λ (v : values.Value). negated_if negated (compared_values c.GreaterEqual v (term_value a low) and compared_values c.LessEqual v (term_value a high))) one
      ∙ ap (λ (v : values.Value). negated_if negated (compared_values c.GreaterEqual (term_value b term) v and compared_values c.LessEqual (term_value b term) (term_value a high))) two
      ∙ ap (λ (v : values.Value). negated_if negated (compared_values c.GreaterEqual (term_value b term) (term_value b low) and compared_values c.LessEqual (term_value b term) v)) three

  mutual
    pub same_truth : (d : Bound) → holds_all t x (columns_in d) ≡ true → truth_of a d ≡ truth_of b d
    same_truth (Or' shape parts) h = same_any parts h
    same_truth (And' shape parts) h = same_all parts h
    same_truth (Not' shape part) h = ap opposite (same_all part h)
    same_truth (bounds.Test test) h = same_test test h

    same_any : {m : _} → (parts : Row_of-Bound m) → holds_all t x (columns_in_all parts) ≡ true → any_of a parts ≡ any_of b parts
    same_any end_of-Bound h = refl
    same_any (more_of-Bound d rest) h =
        ap (λ (u : Truth). u or any_of a rest) (same_truth d (all_left (is_held t x) (columns_in d) (columns_in_all rest) h))
        ∙ ap (λ (u : Truth). truth_of b d or u) (same_any rest (all_right (is_held t x) (columns_in d) (columns_in_all rest) h))

    same_all : {m : _} → (parts : Row_of-Bound m) → holds_all t x (columns_in_all parts) ≡ true → all_of a parts ≡ all_of b parts
    same_all end_of-Bound h = refl
    same_all (more_of-Bound d rest) h =
        ap (λ (u : Truth). u and all_of a rest) (same_truth d (all_left (is_held t x) (columns_in d) (columns_in_all rest) h))
        ∙ ap (λ (u : Truth). truth_of b d and u) (same_all rest (all_right (is_held t x) (columns_in d) (columns_in_all rest) h))

  same_selected : (filter : Option Bound) → holds_all t x (filter_columns filter) ≡ true → IsSelected filter a → IsSelected filter b
  same_selected None h s = tt
  same_selected (Some d) h s = sym (same_truth d h) ∙ s

  pub same_shown : (places : List ℕ) → holds_all t x places ≡ true → map (λ place. get_or a place Null) places ≡ map (λ place. get_or b place Null) places
  same_shown [] h = refl
  same_shown (p ∷ places) h =
      ap (λ (v : values.Value). v ∷ map (λ place. get_or a place Null) places) (same p (and_left (is_held t x p) (holds_all t x places) h))
      ∙ ap (λ (vs : List values.Value). get_or b p Null ∷ vs) (same_shown places (and_right (is_held t x p) (holds_all t x places) h))

-- the order of two rows is that of what the index shows of them
same_order : (t : Table) (x : Index) (order : List KeyPlace) (a b : List values.Value) → holds_all t x (map (λ p. p.column) order) ≡ true → by_order order (shown_on t x a) (shown_on t x b) ≡ by_order order a b
same_order t x [] a b h = refl
same_order t x (p ∷ order) a b h =
    let held = and_left (is_held t x p.column) (holds_all t x (map (λ q. q.column) order)) h in
    let rest = and_right (is_held t x p.column) (holds_all t x (map (λ q. q.column) order)) h in
    ap (λ (v : values.Value). ordering_then (compare_of p.direction v (get_or (shown_on t x b) p.column Null)) (by_order order (shown_on t x a) (shown_on t x b))) (held_shown t x a p.column held)
    ∙ ap (λ (v : values.Value). ordering_then (compare_of p.direction (get_or a p.column Null) v) (by_order order (shown_on t x a) (shown_on t x b))) (held_shown t x b p.column held)
    ∙ ap (λ (o : Ordering). ordering_then (compare_of p.direction (get_or a p.column Null) (get_or b p.column Null)) o) (same_order t x order a b rest)

same_before : (t : Table) (x : Index) (q : Query) (a b : List values.Value) → holds_all t x (map (λ p. p.column) q.order) ≡ true → comes_before q (index_path t x) (shown_on t x a) (shown_on t x b) ≡ comes_before q (index_path t x) a b
same_before t x q a b h =
    ap (λ (vs : List values.Value). ordering_then (by_order q.order (shown_on t x a) (shown_on t x b)) (parts_order (columns_on (index_path t x)) vs (values_on (index_path t x) (shown_on t x b)))) (shown_key t x a)
    ∙ ap (λ (vs : List values.Value). ordering_then (by_order q.order (shown_on t x a) (shown_on t x b)) (parts_order (columns_on (index_path t x)) (values_on (index_path t x) a) vs)) (shown_key t x b)
    ∙ ap (λ (o : Ordering). ordering_then o (by_path (index_path t x) a b)) (same_order t x q.order a b h)

ascends_shown : (t : Table) (x : Index) (q : Query) (rows : List (List values.Value)) → holds_all t x (map (λ p. p.column) q.order) ≡ true → Ascends (comes_before q (index_path t x)) rows → Ascends (comes_before q (index_path t x)) (map (shown_on t x) rows)
ascends_shown t x q [] h s = tt
ascends_shown t x q (a ∷ []) h s = tt
ascends_shown t x q (a ∷ b ∷ rows) h s = (same_before t x q a b h ∙ s.0, ascends_shown t x q (b ∷ rows) h s.1)

-- ---- the rows that an index shows

shown_in : (f : List values.Value → List values.Value) (rows : List (List values.Value)) (row : List values.Value) → Contains rows row → Contains (map f rows) (f row)
shown_in f [] row c = absurd (nothing_in row c)
shown_in f (r ∷ rows) row c = elim (split r row rows c) [
  | inl e ↦ subst (λ (s : List values.Value). Contains (f r ∷ map f rows) (f s)) e (here (f r) (map f rows))
  | inr d ↦ there (f r) (f row) (map f rows) (shown_in f rows row d)
]

shown_of : (f : List values.Value → List values.Value) (rows : List (List values.Value)) (s : List values.Value) → Contains (map f rows) s → (row : List values.Value) × Contains rows row × (f row ≡ s)
shown_of f [] s c = absurd (nothing_in s c)
shown_of f (r ∷ rows) s c = elim (split (f r) s (map f rows) c) [
  | inl e ↦ (r, here r rows, e)
  | inr d ↦ (let more = shown_of f rows s d in (more.0, there r more.0 rows more.1, more.2))
]

cut_shown : (f : List values.Value → List values.Value) (n : ℕ) (rows : List (List values.Value)) → take n (map f rows) ≡ map f (take n rows)
cut_shown f zero rows = refl
cut_shown f (suc n) [] = refl
cut_shown f (suc n) (r ∷ rows) = ap (λ (rs : List (List values.Value)). f r ∷ rs) (cut_shown f n rows)

cut_off_shown : (f : List values.Value → List values.Value) (limit : Option ℕ) (rows : List (List values.Value)) → cut_off limit (map f rows) ≡ map f (cut_off limit rows)
cut_off_shown f None rows = refl
cut_off_shown f (Some n) rows = cut_shown f n rows

given_shown : (t : Table) (x : Index) (q : Query) (rows : List (List values.Value)) → holds_all t x q.shown ≡ true → map (row_answered q) rows ≡ map (row_answered q) (map (shown_on t x) rows)
given_shown t x q [] h = refl
given_shown t x q (r ∷ rows) h =
    ap (λ (s : List values.Value). s ∷ map (row_answered q) rows) (sym (same_shown t x (shown_on t x r) r (λ k e. held_shown t x r k e) q.shown h))
    ∙ ap (λ (ss : List (List values.Value)). row_answered q (shown_on t x r) ∷ ss) (given_shown t x q rows h)

-- an answer over rows is one over what an index shows of them
shown_answer : (t : Table) (x : Index) (q : Query) (rows answer : List (List values.Value)) → holds_all t x (columns_named q) ≡ true → IsAnswer rows q (index_path t x) answer → IsAnswer (map (shown_on t x) rows) q (index_path t x) answer
shown_answer t x q rows answer h s =
    let f = shown_on t x in
    let places = map (λ p. p.column) q.order in
    let shown_held = all_left (is_held t x) q.shown (filter_columns q.filter ++ places) h in
    let rest = all_right (is_held t x) q.shown (filter_columns q.filter ++ places) h in
    let filter_held = all_left (is_held t x) (filter_columns q.filter) places rest in
    let order_held = all_right (is_held t x) (filter_columns q.filter) places rest in record {
      sorted = map f s.sorted;
      ascends = ascends_shown t x q s.sorted order_held s.ascends;
      selected = λ z. (
        λ c. (let r = shown_of f s.sorted z c in
            let in_rows = (s.selected r.0).0 r.1 in (
              subst (λ (v : List values.Value). Contains (map f rows) v) r.2 (shown_in f rows r.0 in_rows.0),
              subst (λ (v : List values.Value). IsSelected q.filter v) r.2 (same_selected t x r.0 (f r.0) (λ k e. sym (held_shown t x r.0 k e)) q.filter filter_held in_rows.1),
            )),
        λ c. (let r = shown_of f rows z c.0 in
            let selected = same_selected t x (f r.0) r.0 (λ k e. held_shown t x r.0 k e) q.filter filter_held (subst (λ (v : List values.Value). IsSelected q.filter v) (sym r.2) c.1) in
            subst (λ (v : List values.Value). Contains (map f s.sorted) v) r.2 (shown_in f s.sorted r.0 ((s.selected r.0).1 (r.1, selected)))),
      );
      given = s.given ∙ given_shown t x q (cut_off q.limit s.sorted) shown_held ∙ ap (λ (rs : List (List values.Value)). map (row_answered q) rs) (sym (cut_off_shown f q.limit s.sorted));
    }

pub index_answer : (t : Table) (x : Index) (q : Query) (rows answer : List (List values.Value)) → AreKeyed t rows → holds_all t x (columns_named q) ≡ true → IsAnswer rows q (index_path t x) answer ↔ IsAnswer (map (shown_on t x) rows) q (index_path t x) answer
index_answer t x q rows answer keyed h = (
  shown_answer t x q rows answer h,
  λ s. (let one = some_answer t (Some x) q rows keyed in
      let same = one_answer (map (shown_on t x) rows) q (index_path t x) one.0 answer (shown_answer t x q rows one.0 h one.1) s in
      subst (λ (a : List (List values.Value)). IsAnswer rows q (index_path t x) a) same one.1),
)

-- a row of the table has a key on each path
pub row_has_key : (t : Table) (by : Option Index) (row : List values.Value) → FitsRow t row → HasKey (path_of t by) row
row_has_key t None row h = h.key
row_has_key t (Some x) row h = index_key_fits t x row h
