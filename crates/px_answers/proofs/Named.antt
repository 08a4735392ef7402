-- Rows with the same named values are sorted alike, and show the same.
use Rattle.std.proofs.Common.{◌≡◌, ℕ, zero, suc, Bool, true, false, List, [], ◌∷◌, ◌++◌, map, get_or, take, Option, Some, None, refl, sym, ap, ◌∙◌}
use Rattle.std.specs.Ordering.{is_lt, ordering_reverse, ordering_then}
use Rattle.std.specs.declared.cmp.Ordering.{Ordering}
use Rattle.px_values.specs.Compare.{compare_of}
use Rattle.px_values.specs.declared.row.Value.{Value}
use Rattle.px_values.specs.declared.row.Value.TheVariants.{Null, Text}
use Rattle.px_tables.specs.declared.found.Found.{Found}
use Rattle.px_tables.specs.declared.table.KeyPlace.{KeyPlace}
use Rattle.px_trail.specs.Answers.{Given}
use Rattle.px_calls.specs.declared.query.By.{By}
use Rattle.px_gather.specs.Gathered.{named_of}
use Rattle.px_gather.specs.Query.{asked}
use Rattle.px_plan.specs.Answers.{by_order, cut_off}
use Rattle.px_plan.specs.declared.plan.Asked.{Asked}
use Rattle.px_planned.specs.Queries.{limit_if, query_of, values_at}
use Rattle.px_planned.specs.declared.planned.Planned.{Planned}
use Rattle.px_scan.specs.declared.answer.Placed.{Placed}
use Rattle.px_scan.specs.Turns.{given_of}
use Rattle.px_sorted.specs.Sorting.{answer_of, given_rows, is_ordered_before, put_in, row_shown, sorted_by, stably_sorted}
use Rattle.px_answers.specs.Selects.{AreShown}
use Rattle.px_answers.proofs.Final.{IsSortable, given_last, is_less, order_total}

-- 1. Named values

first_same : {X : Type 0} (x y : X) (xs ys : List X) → x ∷ xs ≡ y ∷ ys → x ≡ y
first_same x y xs ys e = cc

rest_same : {X : Type 0} (x y : X) (xs ys : List X) → x ∷ xs ≡ y ∷ ys → xs ≡ ys
rest_same x y xs ys e = cc

front_same : (xs ys : List ℕ) (a b : List Value) → values_at (xs ++ ys) a ≡ values_at (xs ++ ys) b → values_at xs a ≡ values_at xs b
front_same [] ys a b e = refl
front_same (x ∷ xs) ys a b e =
    let one = first_same (get_or a x Null) (get_or b x Null) (values_at (xs ++ ys) a) (values_at (xs ++ ys) b) e in
    let more = front_same xs ys a b (rest_same (get_or a x Null) (get_or b x Null) (values_at (xs ++ ys) a) (values_at (xs ++ ys) b) e) in
    ap (λ (v : Value). v ∷ values_at xs a) one ∙ ap (λ (vs : List Value). get_or b x Null ∷ vs) more

back_same : (xs ys : List ℕ) (a b : List Value) → values_at (xs ++ ys) a ≡ values_at (xs ++ ys) b → values_at ys a ≡ values_at ys b
back_same [] ys a b e = e
back_same (x ∷ xs) ys a b e = back_same xs ys a b (rest_same (get_or a x Null) (get_or b x Null) (values_at (xs ++ ys) a) (values_at (xs ++ ys) b) e)

abbrev columns : List KeyPlace → List ℕ
columns order = map (λ p. p.column) order

order_same : (order : List KeyPlace) (a b z : List Value) → values_at (columns order) a ≡ values_at (columns order) b → by_order order a z ≡ by_order order b z
order_same [] a b z e = refl
order_same (p ∷ order) a b z e =
    let one = first_same (get_or a p.column Null) (get_or b p.column Null) (values_at (columns order) a) (values_at (columns order) b) e in
    let more = order_same order a b z (rest_same (get_or a p.column Null) (get_or b p.column Null) (values_at (columns order) a) (values_at (columns order) b) e) in
    ap (λ (v : Value). ordering_then (compare_of p.direction v (get_or z p.column Null)) (by_order order a z)) one
    ∙ ap (λ (o : Ordering). ordering_then (compare_of p.direction (get_or b p.column Null) (get_or z p.column Null)) o) more

-- the named columns: those that are shown, those of the condition, those of the ORDER BY
abbrev named : Planned → List Value → List Value
named p row = (query_of p).named row

named_order : (p : Planned) (a b z : List Value) → named p a ≡ named p b → by_order p.asked.order a z ≡ by_order p.asked.order b z
named_order p a b z e = order_same p.asked.order a b z (back_same _ (columns p.asked.order) a b (back_same p.asked.shown _ a b e))

named_shown : (p : Planned) (a b : List Value) → named p a ≡ named p b → row_shown p.asked.shown a ≡ row_shown p.asked.shown b
named_shown p a b e = front_same p.asked.shown _ a b e

key_same : (k l : List ℕ) (xs ys : List Value) → Text k ∷ xs ≡ Text l ∷ ys → k ≡ l
key_same k l xs ys e = cc

limit_ends : (order : List KeyPlace) (limit : Option ℕ) (n : ℕ) → limit_if order limit ≡ Some n → (order ≡ []) × (limit ≡ Some n)
limit_ends [] limit n e = (refl, e)
limit_ends (p ∷ order) limit n e = absurd (let z : ◌≡◌ {A = Option ℕ} None (Some n) = e in cc)

pub sortable : (p : Planned) (found : Found) (by : By) → IsSortable (asked (query_of p) found by) p.asked.order p.asked.limit
sortable p found by = record {
  by_key = λ x y. refl;
  key_told = λ x y e. key_same _ _ (named p x) (named p y) e;
  order_told = λ x y z e. named_order p x y z (rest_same _ _ (named p x) (named p y) e);
  limited = λ n e. limit_ends p.asked.order p.asked.limit n e;
}

-- 2. Two lists of rows, one by one with the same named values and places

abbrev Pairs : Planned → List Given → List Given → Type 0
Pairs p [] [] = Unit {0}
Pairs p [] (y ∷ ys) = ⊥
Pairs p (x ∷ xs) [] = ⊥
Pairs p (x ∷ xs) (y ∷ ys) = ((named p x.row ≡ named p y.row) × (x.at ≡ y.at)) × Pairs p xs ys

are_pairs : (p : Planned) (xs ys : List Given) → map (named_of (query_of p)) xs ≡ map (named_of (query_of p)) ys → Pairs p xs ys
are_pairs p [] [] e = tt
are_pairs p [] (y ∷ ys) e = let z : ◌≡◌ {A = List Given} [] (named_of (query_of p) y ∷ map (named_of (query_of p)) ys) = e in cc
are_pairs p (x ∷ xs) [] e = let z : ◌≡◌ {A = List Given} (named_of (query_of p) x ∷ map (named_of (query_of p)) xs) [] = e in cc
are_pairs p (x ∷ xs) (y ∷ ys) e =
    let one = first_same (named_of (query_of p) x) (named_of (query_of p) y) (map (named_of (query_of p)) xs) (map (named_of (query_of p)) ys) e in
    ((ap (λ (g : Given). g.row) one, ap (λ (g : Given). g.at) one), are_pairs p xs ys (rest_same (named_of (query_of p) x) (named_of (query_of p) y) (map (named_of (query_of p)) xs) (map (named_of (query_of p)) ys) e))

module _ (p : Planned) where
  abbrev less : Given → Given → Bool
  less = is_less p.asked.order

  other_side : (a b z : List Value) → named p a ≡ named p b → by_order p.asked.order z a ≡ by_order p.asked.order z b
  other_side a b z e =
      let t = order_total p.asked.order in t.antisymm z a ∙ (ap ordering_reverse (named_order p a b z e) ∙ sym (t.antisymm z b))

  less_same : (v w x y : Given) → named p v.row ≡ named p w.row → named p x.row ≡ named p y.row → less v x ≡ less w y
  less_same v w x y e f = ap is_lt (named_order p v.row w.row x.row e ∙ other_side x.row y.row w.row f)

  put_at : (v w x y : Given) (xs ys : List Given) → Pairs p (v ∷ xs) (w ∷ ys) → Pairs p (x ∷ []) (y ∷ []) → (Pairs p xs ys → Pairs p (put_in less x xs) (put_in less y ys)) → (b : Bool) → less v x ≡ b → less w y ≡ b
      → Pairs p (put_in less x (v ∷ xs)) (put_in less y (w ∷ ys))
  put_at v w x y xs ys h one more true e f = rw (e, f) (h.0, more h.1)
  put_at v w x y xs ys h one more false e f = rw (e, f) (one.0, h)

  put_pairs : (x y : Given) (xs ys : List Given) → Pairs p (x ∷ []) (y ∷ []) → Pairs p xs ys → Pairs p (put_in less x xs) (put_in less y ys)
  put_pairs x y [] [] one h = one
  put_pairs x y [] (w ∷ ys) one h = absurd h
  put_pairs x y (v ∷ xs) [] one h = absurd h
  put_pairs x y (v ∷ xs) (w ∷ ys) one h = put_at v w x y xs ys h one (put_pairs x y xs ys one) (less v x) refl (sym (less_same v w x y h.0.0 one.0.0))

  sorted_pairs : (xs ys : List Given) → Pairs p xs ys → Pairs p (stably_sorted less xs) (stably_sorted less ys)
  sorted_pairs [] [] h = h
  sorted_pairs [] (y ∷ ys) h = absurd h
  sorted_pairs (x ∷ xs) [] h = absurd h
  sorted_pairs (x ∷ xs) (y ∷ ys) h = put_pairs x y (stably_sorted less xs) (stably_sorted less ys) (h.0, tt) (sorted_pairs xs ys h.1)

  take_pairs : (n : ℕ) (xs ys : List Given) → Pairs p xs ys → Pairs p (take n xs) (take n ys)
  take_pairs zero xs ys h = tt
  take_pairs (suc n) [] [] h = tt
  take_pairs (suc n) [] (y ∷ ys) h = absurd h
  take_pairs (suc n) (x ∷ xs) [] h = absurd h
  take_pairs (suc n) (x ∷ xs) (y ∷ ys) h = (h.0, take_pairs n xs ys h.1)

  cut_pairs : (limit : Option ℕ) (xs ys : List Given) → Pairs p xs ys → Pairs p (cut_off limit xs) (cut_off limit ys)
  cut_pairs None xs ys h = h
  cut_pairs (Some n) xs ys h = take_pairs n xs ys h

  rows_shown : (xs ys : List Given) → Pairs p xs ys → map (λ g. row_shown p.asked.shown g.row) xs ≡ map (λ g. row_shown p.asked.shown g.row) ys
  rows_shown [] [] h = refl
  rows_shown [] (y ∷ ys) h = absurd h
  rows_shown (x ∷ xs) [] h = absurd h
  rows_shown (x ∷ xs) (y ∷ ys) h =
      ap (λ (r : List Value). r ∷ map (λ g. row_shown p.asked.shown g.row) xs) (named_shown p x.row y.row h.0.0)
      ∙ ap (λ (rs : List (List Value)). row_shown p.asked.shown y.row ∷ rs) (rows_shown xs ys h.1)

  places_same : (xs ys : List Given) → Pairs p xs ys → map (λ g. g.at) xs ≡ map (λ g. g.at) ys
  places_same [] [] h = refl
  places_same [] (y ∷ ys) h = absurd h
  places_same (x ∷ xs) [] h = absurd h
  places_same (x ∷ xs) (y ∷ ys) h = ap (λ (n : ℕ). n ∷ map (λ g. g.at) xs) h.0.1 ∙ ap (λ (ns : List ℕ). y.at ∷ ns) (places_same xs ys h.1)

-- 3. Rows with their places

abbrev given : Placed → Given
given r = record { row = r.row; at = r.at }

put_given : (order : List KeyPlace) (x : Placed) (ys : List Placed) → given_of (put_in (is_ordered_before order) x ys) ≡ put_in (is_less order) (given x) (given_of ys)
put_given order x [] = refl
put_given order x (y ∷ ys) = at (put_given order x ys) (is_ordered_before order y x) refl
  where
    at : given_of (put_in (is_ordered_before order) x ys) ≡ put_in (is_less order) (given x) (given_of ys) → (b : Bool) → is_ordered_before order y x ≡ b → given_of (put_in (is_ordered_before order) x (y ∷ ys)) ≡ put_in (is_less order) (given x) (given_of (y ∷ ys))
    at more true e = rw e (ap (λ rest. given y ∷ rest) more)
    at more false e = rw e refl

sorted_given : (order : List KeyPlace) (xs : List Placed) → given_of (sorted_by order xs) ≡ stably_sorted (is_less order) (given_of xs)
sorted_given order [] = refl
sorted_given order (x ∷ xs) = put_given order x (sorted_by order xs) ∙ ap (put_in (is_less order) (given x)) (sorted_given order xs)

take_given : (n : ℕ) (xs : List Placed) → given_of (take n xs) ≡ take n (given_of xs)
take_given zero xs = refl
take_given (suc n) [] = refl
take_given (suc n) (x ∷ xs) = ap (λ rest. given x ∷ rest) (take_given n xs)

cut_given : (limit : Option ℕ) (xs : List Placed) → given_of (cut_off limit xs) ≡ cut_off limit (given_of xs)
cut_given None xs = refl
cut_given (Some n) xs = take_given n xs

last_given : (a : Asked) (xs : List Placed) → given_of (given_rows a xs) ≡ given_last a.order a.limit (given_of xs)
last_given a xs = cut_given a.limit (sorted_by a.order xs) ∙ ap (cut_off a.limit) (sorted_given a.order xs)

map_given : {X : Type 0} (f : Given → X) (xs : List Placed) → map (λ r. f (given r)) xs ≡ map f (given_of xs)
map_given f [] = refl
map_given f (x ∷ xs) = ap (λ rest. f (given x) ∷ rest) (map_given f xs)

-- what is shown of rows that were kept is shown of the whole rows
pub shown-is : (p : Planned) (rows : List Placed) (xs : List Given) → map (named_of (query_of p)) (given_of rows) ≡ map (named_of (query_of p)) xs → AreShown p.asked.shown (given_last p.asked.order p.asked.limit xs) (answer_of p.asked rows)
shown-is p rows xs e =
    let pairs = cut_pairs p p.asked.limit (stably_sorted (is_less p.asked.order) (given_of rows)) (stably_sorted (is_less p.asked.order) xs) (sorted_pairs p (given_of rows) xs (are_pairs p (given_of rows) xs e)) in
    let kept = given_last p.asked.order p.asked.limit (given_of rows) in
    let whole = given_last p.asked.order p.asked.limit xs in
    record {
      rows = map_given (λ g. row_shown p.asked.shown g.row) (given_rows p.asked rows) ∙ (ap (map (λ g. row_shown p.asked.shown g.row)) (last_given p.asked rows) ∙ rows_shown p kept whole pairs);
      places = map_given (λ g. g.at) (given_rows p.asked rows) ∙ (ap (map (λ g. g.at)) (last_given p.asked rows) ∙ places_same p kept whole pairs);
    }
