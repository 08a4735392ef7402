-- Rows that were found in the order of a path, sorted by an ORDER BY, are in the order of the answer.
use Rattle.std.proofs.Common.{◌≡◌, ◌↔◌, ℕ, zero, suc, Bool, true, false, List, [], ◌∷◌, map, take, Option, Some, None, refl, sym, ap, ◌∙◌}
use Rattle.std.specs.Cmp.{IsStrictWeakOrder, IsTotalOrder}
use Rattle.std.specs.List.{Contains}
use Rattle.std.specs.Ordering.{is_lt, ordering_reverse, ordering_then}
use Rattle.std.specs.declared.cmp.Ordering.{Ordering}
use Rattle.std.specs.declared.cmp.Ordering.TheVariants.{Less, Equal, Greater}
use Rattle.std.proofs.lemmas.List.Sorted.{Contains-permutation, IsPermutation-map, IsPermutation-sym, ranks_by}
use Rattle.px_values.specs.declared.row.Value.{Value}
use Rattle.px_values.proofs.ValueOrder.{total_along}
use Rattle.px_tables.specs.declared.table.KeyPlace.{KeyPlace}
use Rattle.px_bind.specs.declared.request.Query.{Query}
use Rattle.px_paths.specs.declared.path.PathColumn.{PathColumn}
use Rattle.px_plan.specs.Answers.{Ascends, IsAnswer, by_order, by_path, comes_before, cut_off, row_answered}
use Rattle.px_plan.specs.Asked.{asked_of}
use Rattle.px_plan.specs.Plans.{IsSelected}
use Rattle.px_plan.proofs.OneAnswer.{before_total}
use Rattle.px_scan.specs.declared.answer.Placed.{Placed}
use Rattle.px_sorted.specs.Sorting.{answer_of, is_ordered_before, put_in, row_shown, sorted_by, stably_sorted}
use Rattle.px_sorted.proofs.Stable.{sorted_same}

-- ---- the order of an ORDER BY, and that of a path

abbrev plain : List KeyPlace → Query
plain order = record { table = record { 0 = 0 }; hints = []; shown = []; filter = None; order = order; limit = None }

then_equal : (o : Ordering) → o ≡ ordering_then o Equal
then_equal Less = refl
then_equal Equal = refl
then_equal Greater = refl

order_total : (order : List KeyPlace) → IsTotalOrder (by_order order)
order_total order = total_along (λ a b. then_equal (by_order order a b)) (before_total (plain order) [])

path_total : (path : List PathColumn) → IsTotalOrder (by_path path)
path_total path = total_along (λ a b. refl) (before_total (plain []) path)

pub rank : (order : List KeyPlace) → IsStrictWeakOrder (is_ordered_before order)
rank order = ranks_by (order_total order) (λ (p : Placed). p.row)

-- ---- rows without their places

abbrev row_before : List KeyPlace → List Value → List Value → Bool
row_before order a b = is_lt (by_order order a b)

abbrev rows_of : List Placed → List (List Value)
rows_of ps = map (λ p. p.row) ps

put_at : (order : List KeyPlace) (p q : Placed) (qs : List Placed) → rows_of (put_in (is_ordered_before order) p qs) ≡ put_in (row_before order) p.row (rows_of qs) → (b : Bool) → is_ordered_before order q p ≡ b → rows_of (put_in (is_ordered_before order) p (q ∷ qs)) ≡ put_in (row_before order) p.row (rows_of (q ∷ qs))
put_at order p q qs more true e = rw e (ap (λ rest. q.row ∷ rest) more)
put_at order p q qs more false e = rw e refl

rows_put : (order : List KeyPlace) (p : Placed) (qs : List Placed) → rows_of (put_in (is_ordered_before order) p qs) ≡ put_in (row_before order) p.row (rows_of qs)
rows_put order p [] = refl
rows_put order p (q ∷ qs) = put_at order p q qs (rows_put order p qs) (is_ordered_before order q p) refl

rows_sorted : (order : List KeyPlace) (ps : List Placed) → rows_of (sorted_by order ps) ≡ stably_sorted (row_before order) (rows_of ps)
rows_sorted order [] = refl
rows_sorted order (p ∷ ps) = rows_put order p (sorted_by order ps) ∙ ap (λ rows. put_in (row_before order) p.row rows) (rows_sorted order ps)

-- ---- in the order of the answer

is_less : (o : Ordering) → is_lt o ≡ true → o ≡ Less
is_less Less h = refl
is_less Equal h = absurd (let z : ◌≡◌ {A = Bool} false true = h in cc)
is_less Greater h = absurd (let z : ◌≡◌ {A = Bool} false true = h in cc)

module _ (q : Query) (path : List PathColumn) where
  abbrev Before : List Value → List Value → Ordering
  Before = comes_before q path

  abbrev less : List Value → List Value → Bool
  less = row_before q.order

  -- all of these are behind the row on the path
  abbrev AllBehind : List Value → List (List Value) → Type 0
  AllBehind x [] = Unit {0}
  AllBehind x (y ∷ ys) = (by_path path x y ≡ Less) × AllBehind x ys

  by_less : (x y : List Value) → less y x ≡ true → Before y x ≡ Less
  by_less x y h = rw (is_less (by_order q.order y x) h) refl

  by_cases : (x y : List Value) → by_path path x y ≡ Less → less y x ≡ false → (o : Ordering) → by_order q.order x y ≡ o → Before x y ≡ Less
  by_cases x y p h Less e = rw e refl
  by_cases x y p h Equal e = rw e p
  by_cases x y p h Greater e =
      let r = (order_total q.order).antisymm y x ∙ ap ordering_reverse e in
      let z : ◌≡◌ {A = Bool} true false = sym (ap is_lt r) ∙ h in
      absurd (let w : ◌≡◌ {A = Bool} true false = z in cc)

  by_place : (x y : List Value) → by_path path x y ≡ Less → less y x ≡ false → Before x y ≡ Less
  by_place x y p h = by_cases x y p h (by_order q.order x y) refl

  after_at : (w x y : List Value) (ys : List (List Value)) → Before w x ≡ Less → Ascends Before (w ∷ y ∷ ys) → AllBehind x (y ∷ ys) → (Before y x ≡ Less → Ascends Before (y ∷ put_in less x ys)) → (b : Bool) → less y x ≡ b → Ascends Before (w ∷ put_in less x (y ∷ ys))
  after_at w x y ys e a b more true h = rw h (a.0, more (by_less x y h))
  after_at w x y ys e a b more false h = rw h (e, (by_place x y b.0 h, a.1))

  put_after : (w x : List Value) (ys : List (List Value)) → Before w x ≡ Less → Ascends Before (w ∷ ys) → AllBehind x ys → Ascends Before (w ∷ put_in less x ys)
  put_after w x [] e a b = (e, tt)
  put_after w x (y ∷ ys) e a b = after_at w x y ys e a b (λ f. put_after y x ys f a.1 b.1) (less y x) refl

  first_at : (x y : List Value) (ys : List (List Value)) → Ascends Before (y ∷ ys) → AllBehind x (y ∷ ys) → (b : Bool) → less y x ≡ b → Ascends Before (put_in less x (y ∷ ys))
  first_at x y ys a b true h = rw h (put_after y x ys (by_less x y h) a b.1)
  first_at x y ys a b false h = rw h (by_place x y b.0 h, a)

  put_ascends : (x : List Value) (ys : List (List Value)) → Ascends Before ys → AllBehind x ys → Ascends Before (put_in less x ys)
  put_ascends x [] a b = tt
  put_ascends x (y ∷ ys) a b = first_at x y ys a b (less y x) refl

  behind_at : (x y z : List Value) (zs : List (List Value)) → by_path path x y ≡ Less → AllBehind x (z ∷ zs) → AllBehind x (put_in less y zs) → (b : Bool) → less z y ≡ b → AllBehind x (put_in less y (z ∷ zs))
  behind_at x y z zs p b more true h = rw h (b.0, more)
  behind_at x y z zs p b more false h = rw h (p, b)

  put_behind : (x y : List Value) (zs : List (List Value)) → by_path path x y ≡ Less → AllBehind x zs → AllBehind x (put_in less y zs)
  put_behind x y [] p b = (p, tt)
  put_behind x y (z ∷ zs) p b = behind_at x y z zs p b (put_behind x y zs p b.1) (less z y) refl

  sorted_behind : (x : List Value) (ys : List (List Value)) → AllBehind x ys → AllBehind x (stably_sorted less ys)
  sorted_behind x [] b = tt
  sorted_behind x (y ∷ ys) b = put_behind x y (stably_sorted less ys) b.0 (sorted_behind x ys b.1)

  further : (x y : List Value) (zs : List (List Value)) → by_path path x y ≡ Less → AllBehind y zs → AllBehind x zs
  further x y [] p b = tt
  further x y (z ∷ zs) p b = ((path_total path).trans x y z p b.0, further x y zs p b.1)

  all_behind : (x : List Value) (ys : List (List Value)) → Ascends (by_path path) (x ∷ ys) → AllBehind x ys
  all_behind x [] a = tt
  all_behind x (y ∷ ys) a = (a.0, further x y ys a.0 (all_behind y ys a.1))

  rest_ascends : (x : List Value) (ys : List (List Value)) → Ascends (by_path path) (x ∷ ys) → Ascends (by_path path) ys
  rest_ascends x [] a = tt
  rest_ascends x (y ∷ ys) a = a.1

  pub sorted_ascends : (rows : List (List Value)) → Ascends (by_path path) rows → Ascends Before (stably_sorted less rows)
  sorted_ascends [] a = tt
  sorted_ascends (x ∷ xs) a = put_ascends x (stably_sorted less xs) (sorted_ascends xs (rest_ascends x xs a)) (sorted_behind x xs (all_behind x xs a))

-- ---- what is shown

taken : {A B : Type 0} (f : A → B) (n : ℕ) (xs : List A) → map f (take n xs) ≡ take n (map f xs)
taken f zero xs = refl
taken f (suc n) [] = refl
taken f (suc n) (x ∷ xs) = ap (λ rest. f x ∷ rest) (taken f n xs)

cut_rows : {A B : Type 0} (f : A → B) (limit : Option ℕ) (xs : List A) → map f (cut_off limit xs) ≡ cut_off limit (map f xs)
cut_rows f None xs = refl
cut_rows f (Some n) xs = taken f n xs

shown_rows : (q : Query) (ps : List Placed) → map (λ p. row_shown q.shown p.row) ps ≡ map (row_answered q) (rows_of ps)
shown_rows q [] = refl
shown_rows q (p ∷ ps) = ap (λ rest. row_shown q.shown p.row ∷ rest) (shown_rows q ps)

pub is_answer : (rows : List (List Value)) (q : Query) (path : List PathColumn) (found : List Placed) → Ascends (by_path path) (rows_of found) → ((row : List Value) → Contains (rows_of found) row ↔ (Contains rows row × IsSelected q.filter row)) → IsAnswer rows q path (answer_of (asked_of q) found).rows
is_answer rows q path found a has =
    let less = is_ordered_before q.order in
    let placed = sorted_by q.order found in
    let moved = IsPermutation-map (λ (p : Placed). p.row) found placed (sorted_same less (rank q.order) found) in
    record {
      sorted = rows_of placed;
      ascends = rw (rows_sorted q.order found) (sorted_ascends q path (rows_of found) a);
      selected = λ row. (
        λ c. (has row).0 (Contains-permutation (rows_of placed) (rows_of found) row (IsPermutation-sym (rows_of found) (rows_of placed) moved) c),
        λ c. Contains-permutation (rows_of found) (rows_of placed) row moved ((has row).1 c),
      );
      given = shown_rows q (cut_off q.limit placed) ∙ ap (map (row_answered q)) (cut_rows (λ (p : Placed). p.row) q.limit placed);
    }
