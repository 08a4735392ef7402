-- Rows that come in the order of their keys, sorted by an ORDER BY and cut at a LIMIT.
use Rattle.std.proofs.Common.{◌≡◌, ◌≤◌, ◌⊎◌, inl, inr, ℕ, zero, suc, Bool, true, false, not, List, [], ◌∷◌, length, take, Option, Some, None, refl, sym, ap, subst, ◌∙◌, arith}
use Rattle.std.proofs.lemmas.Map.Text.{is_eq-slice_cmp}
use Rattle.std.proofs.lemmas.Slice.Eq.{bytes_eq-Decides}
use Rattle.std.proofs.lemmas.List.{length-take-le}
use Rattle.std.specs.Cmp.{IsStrictWeakOrder, IsTotalOrder}
use Rattle.std.specs.Cmp.Lexicographic.{slice_cmp}
use Rattle.std.specs.Ordering.{is_eq, is_lt, nat_cmp, ordering_reverse, ordering_then}
use Rattle.std.specs.declared.cmp.Ordering.{Ordering}
use Rattle.std.specs.declared.cmp.Ordering.TheVariants.{Less, Equal, Greater}
use Rattle.std.proofs.lemmas.List.Sorted.{ranks_by}
use Rattle.px_values.specs.declared.row.Value.{Value}
use Rattle.px_values.proofs.ValueOrder.{total_along}
use Rattle.px_tables.specs.declared.table.KeyPlace.{KeyPlace}
use Rattle.px_trail.specs.Answers.{AreInOrder, Asked, Given, IsAmong, IsCutByLimit, IsRowGiven, IsWithinLimit}
use Rattle.px_bind.specs.declared.request.Query.{Query}
use Rattle.px_calls.specs.Looks.{key_less}
use Rattle.px_calls.proofs.Keys.{asymmetric, up_to_or}
use Rattle.px_plan.specs.Answers.{by_order, cut_off}
use Rattle.px_plan.proofs.OneAnswer.{before_total}
use Rattle.px_answers.specs.Selects.{goes_before, in_order_of}
use Rattle.px_sorted.specs.Sorting.{put_in, stably_sorted}

-- 1. The order of an ORDER BY

abbrev plain : List KeyPlace → Query
plain order = record { table = record { 0 = 0 }; hints = []; shown = []; filter = None; order = order; limit = None }

then_equal : (o : Ordering) → o ≡ ordering_then o Equal
then_equal Less = refl
then_equal Equal = refl
then_equal Greater = refl

pub order_total : (order : List KeyPlace) → IsTotalOrder (by_order order)
order_total order = total_along (λ a b. then_equal (by_order order a b)) (before_total (plain order) [])

abbrev pub is_less : List KeyPlace → Given → Given → Bool
is_less order x y = is_lt (by_order order x.row y.row)

rank : (order : List KeyPlace) → IsStrictWeakOrder (is_less order)
rank order = ranks_by (order_total order) (λ (x : Given). x.row)

less_is : (o : Ordering) → is_lt o ≡ true → o ≡ Less
less_is Less h = refl
less_is Equal h = absurd (let z : ◌≡◌ {A = Bool} false true = h in cc)
less_is Greater h = absurd (let z : ◌≡◌ {A = Bool} false true = h in cc)

same_bytes : (k l : List ℕ) → slice_cmp nat_cmp k l ≡ Equal → k ≡ l
same_bytes k l e = (bytes_eq-Decides k l).0 (sym (is_eq-slice_cmp k l) ∙ ap is_eq e)

no_both : (b : Bool) → b ≡ true → b ≡ false → ⊥
no_both true h k = let z : ◌≡◌ {A = Bool} true false = k in cc
no_both false h k = let z : ◌≡◌ {A = Bool} false true = h in cc

module _ (order : List KeyPlace) (key : List Value → List ℕ) where
  abbrev before : List Value → List Value → Bool
  before = goes_before order key

  -- one that comes first by the ORDER BY has none behind it that comes before it
  first_by_order : (x y : List Value) → is_lt (by_order order x y) ≡ true → before y x ≡ false
  first_by_order x y h =
      let e : by_order order y x ≡ Greater = (order_total order).antisymm y x ∙ ap ordering_reverse (less_is (by_order order x y) h) in rw e refl

  by_key_at : (x y : List Value) → is_lt (by_order order y x) ≡ false → key_less (key y) (key x) ≡ false → (o : Ordering) → by_order order y x ≡ o → before y x ≡ false
  by_key_at x y h k Less e = absurd (no_both (is_lt (by_order order y x)) (ap is_lt e) h)
  by_key_at x y h k Equal e = rw e k
  by_key_at x y h k Greater e = rw e refl

  -- and so has one that doesn't come behind by the ORDER BY, and comes first by its key
  first_by_key : (x y : List Value) → is_lt (by_order order y x) ≡ false → key_less (key x) (key y) ≡ true → before y x ≡ false
  first_by_key x y h k = by_key_at x y h (asymmetric (key x) (key y) k) (by_order order y x) refl

  by_order_at : (x y : List Value) → before y x ≡ false → (o : Ordering) → by_order order y x ≡ o → is_lt (by_order order y x) ≡ false
  by_order_at x y h Less e = absurd (no_both (before y x) (rw e refl) h)
  by_order_at x y h Equal e = ap is_lt e
  by_order_at x y h Greater e = ap is_lt e

  in_order : (x y : List Value) → before y x ≡ false → is_lt (by_order order y x) ≡ false
  in_order x y h = by_order_at x y h (by_order order y x) refl

-- 2. One element put in

module _ {X : Type 0} (less : X → X → Bool) where
  passed : (x y : X) (ys : List X) → less y x ≡ true → put_in less x (y ∷ ys) ≡ y ∷ put_in less x ys
  passed x y ys e = rw e refl

  stopped : (x y : X) (ys : List X) → less y x ≡ false → put_in less x (y ∷ ys) ≡ x ∷ y ∷ ys
  stopped x y ys e = rw e refl

  from_at : (z x y : X) (ys : List X) → (IsAmong z (put_in less x ys) → (x ≡ z) ⊎ IsAmong z ys) → IsAmong z (put_in less x (y ∷ ys)) → (b : Bool) → less y x ≡ b → (x ≡ z) ⊎ IsAmong z (y ∷ ys)
  unfolding IsAmong
  from_at z x y ys more h true e = elim (subst (λ (l : List X). IsAmong z l) (passed x y ys e) h) [ inl k ↦ inr (inl k) | inr k ↦ elim (more k) [ inl j ↦ inl j | inr j ↦ inr (inr j) ] ]
  from_at z x y ys more h false e = subst (λ (l : List X). IsAmong z l) (stopped x y ys e) h

  put_from : (z x : X) (ys : List X) → IsAmong z (put_in less x ys) → (x ≡ z) ⊎ IsAmong z ys
  unfolding IsAmong
  put_from z x [] h = h
  put_from z x (y ∷ ys) h = from_at z x y ys (put_from z x ys) h (less y x) refl

  to_at : (z x y : X) (ys : List X) → ((x ≡ z) ⊎ IsAmong z ys → IsAmong z (put_in less x ys)) → (x ≡ z) ⊎ IsAmong z (y ∷ ys) → (b : Bool) → less y x ≡ b → IsAmong z (put_in less x (y ∷ ys))
  unfolding IsAmong
  to_at z x y ys more h true e = subst (λ (l : List X). IsAmong z l) (sym (passed x y ys e)) (elim h [ inl k ↦ inr (more (inl k)) | inr k ↦ elim k [ inl j ↦ inl j | inr j ↦ inr (more (inr j)) ] ])
  to_at z x y ys more h false e = subst (λ (l : List X). IsAmong z l) (sym (stopped x y ys e)) h

  put_to : (z x : X) (ys : List X) → (x ≡ z) ⊎ IsAmong z ys → IsAmong z (put_in less x ys)
  unfolding IsAmong
  put_to z x [] h = h
  put_to z x (y ∷ ys) h = to_at z x y ys (put_to z x ys) h (less y x) refl

  pub sorted_from : (z : X) (xs : List X) → IsAmong z (stably_sorted less xs) → IsAmong z xs
  unfolding IsAmong
  sorted_from z [] h = h
  sorted_from z (x ∷ xs) h = elim (put_from z x (stably_sorted less xs) h) [ inl e ↦ inl e | inr k ↦ inr (sorted_from z xs k) ]

  pub sorted_to : (z : X) (xs : List X) → IsAmong z xs → IsAmong z (stably_sorted less xs)
  unfolding IsAmong
  sorted_to z [] h = h
  sorted_to z (x ∷ xs) h = put_to z x (stably_sorted less xs) (elim h [ inl e ↦ inl e | inr k ↦ inr (sorted_to z xs k) ])

  one_more_at : (x y : X) (ys : List X) → length (put_in less x ys) ≡ suc (length ys) → (b : Bool) → less y x ≡ b → length (put_in less x (y ∷ ys)) ≡ suc (suc (length ys))
  one_more_at x y ys more true e = rw (passed x y ys e) (ap suc more)
  one_more_at x y ys more false e = rw (stopped x y ys e) refl

  one_more : (x : X) (ys : List X) → length (put_in less x ys) ≡ suc (length ys)
  one_more x [] = refl
  one_more x (y ∷ ys) = one_more_at x y ys (one_more x ys) (less y x) refl

  pub sorted_length : (xs : List X) → length (stably_sorted less xs) ≡ length xs
  sorted_length [] = refl
  sorted_length (x ∷ xs) = one_more x (stably_sorted less xs) ∙ ap suc (sorted_length xs)

taken_from : {X : Type 0} (z : X) (n : ℕ) (xs : List X) → IsAmong z (take n xs) → IsAmong z xs
unfolding IsAmong
taken_from z zero xs h = absurd h
taken_from z (suc n) [] h = h
taken_from z (suc n) (x ∷ xs) (inl e) = inl e
taken_from z (suc n) (x ∷ xs) (inr k) = inr (taken_from z n xs k)

cut_from : {X : Type 0} (z : X) (limit : Option ℕ) (xs : List X) → IsAmong z (cut_off limit xs) → IsAmong z xs
cut_from z None xs h = h
cut_from z (Some n) xs h = taken_from z n xs h

-- 3. The rows that are given

-- a row is told by its key and its named values, which tell its place in the ORDER BY; and LIMIT ends what comes only where nothing is sorted
pub record IsSortable (a : Asked) (order : List KeyPlace) (limit : Option ℕ) : Type 0 where
  pub by_key : (x y : List Value) → a.before x y ≡ key_less (a.path_key x) (a.path_key y)
  pub key_told : (x y : List Value) → a.named x ≡ a.named y → a.path_key x ≡ a.path_key y
  pub order_told : (x y z : List Value) → a.named x ≡ a.named y → by_order order x z ≡ by_order order y z
  pub limited : (n : ℕ) → a.limit ≡ Some n → (order ≡ []) × (limit ≡ Some n)

abbrev pub given_last : List KeyPlace → Option ℕ → List Given → List Given
given_last order limit xs = cut_off limit (stably_sorted (is_less order) xs)

pub last_from : (order : List KeyPlace) (limit : Option ℕ) (z : Given) (xs : List Given) → IsAmong z (given_last order limit xs) → IsAmong z xs
last_from order limit z xs h = sorted_from (is_less order) z xs (cut_from z limit (stably_sorted (is_less order) xs) h)

module _ (a : Asked) (order : List KeyPlace) (limit : Option ℕ) (s : IsSortable a order limit) where
  abbrev q : Asked
  q = in_order_of order limit a

  abbrev less : Given → Given → Bool
  less = is_less order

  abbrev Apart : Given → Given → Type 0
  Apart x y = (q.before y.row x.row ≡ false) × (q.path_key y.row ≡ q.path_key x.row → ⊥)

  -- the keys of all of these are past that of x
  abbrev ArePast : Given → List Given → Type 0
  ArePast x ys = (y : Given) → IsAmong y ys → key_less (a.path_key x.row) (a.path_key y.row) ≡ true

  turned : (x y : Given) → (a.path_key y.row ≡ a.path_key x.row → ⊥) → a.path_key x.row ≡ a.path_key y.row → ⊥
  turned x y n e = n (sym e)

  differ : (x y : Given) → key_less (a.path_key x.row) (a.path_key y.row) ≡ true → a.path_key y.row ≡ a.path_key x.row → ⊥
  differ x y h e =
      let j : key_less (a.path_key x.row) (a.path_key x.row) ≡ true = subst (λ (k : List ℕ). key_less (a.path_key x.row) k ≡ true) e h in
      no_both (key_less (a.path_key x.row) (a.path_key x.row)) j (asymmetric (a.path_key x.row) (a.path_key x.row) j)

  put_at : (x y : Given) (ys : List Given) → AreInOrder q (y ∷ ys) → ArePast x (y ∷ ys) → (ArePast x ys → AreInOrder q (put_in less x ys)) → (b : Bool) → less y x ≡ b → AreInOrder q (put_in less x (y ∷ ys))
  unfolding AreInOrder IsAmong
  put_at x y ys o past more true e =
      subst (λ (l : List Given). AreInOrder q l) (sym (passed less x y ys e)) (
        (λ z among. elim (put_from less z x ys among) [
          | inl same ↦ subst (λ (w : Given). Apart y w) same (first_by_order order a.path_key y.row x.row e, turned x y (differ x y (past y (inl refl))))
          | inr k ↦ o.0 z k
        ]),
        more (λ z k. past z (inr k)),
      )
  put_at x y ys o past more false e =
      subst (λ (l : List Given). AreInOrder q l) (sym (stopped less x y ys e)) (
        (λ z among. (
          first_by_key order a.path_key x.row z.row (elim among [
            | inl same ↦ subst (λ (w : Given). less w x ≡ false) same e
            | inr k ↦ (rank order).chain z y x (in_order order a.path_key y.row z.row (o.0 z k).0) e
          ]) (past z among),
          differ x z (past z among),
        )),
        o,
      )

  put_in_order : (x : Given) (ys : List Given) → AreInOrder q ys → ArePast x ys → AreInOrder q (put_in less x ys)
  unfolding AreInOrder IsAmong
  put_in_order x [] o past = ((λ z k. absurd k), tt)
  put_in_order x (y ∷ ys) o past = put_at x y ys o past (put_in_order x ys o.1) (less y x) refl

  a_key : (x y : Given) → a.before x.row y.row ≡ key_less (a.path_key x.row) (a.path_key y.row)
  a_key x y = s.by_key x.row y.row

  past_at : (x y : Given) → a.before y.row x.row ≡ false → (a.path_key y.row ≡ a.path_key x.row → ⊥) → key_less (a.path_key x.row) (a.path_key y.row) ≡ true
  past_at x y h n = elim (up_to_or (a.path_key x.row) (a.path_key y.row) (ap not (sym (a_key y x) ∙ h))) [
    | inl l ↦ l
    | inr e ↦ absurd (n (sym (same_bytes (a.path_key x.row) (a.path_key y.row) e)))
  ]

  sorted_order : (xs : List Given) → AreInOrder a xs → AreInOrder q (stably_sorted less xs)
  unfolding AreInOrder
  sorted_order [] o = tt
  sorted_order (x ∷ xs) o = put_in_order x (stably_sorted less xs) (sorted_order xs o.1) (λ y k. let z = o.0 y (sorted_from less y xs k) in past_at x y z.0 z.1)

  -- a row that is given first is given, or so many come before it
  pub record Behind (n : ℕ) (xs : List Given) (row : List Value) : Type 0 where
    pub full : n ≤ length (take n xs)
    pub behind : (x : Given) → IsAmong x (take n xs) → q.before row x.row ≡ false

  taken_or_behind : (n : ℕ) (g : Given) (xs : List Given) → AreInOrder q xs → IsAmong g xs → IsAmong g (take n xs) ⊎ Behind n xs g.row
  unfolding AreInOrder IsAmong
  taken_or_behind zero g xs o h = inr (record { full = omega arith; behind = λ x k. absurd k })
  taken_or_behind (suc n) g [] o h = absurd h
  taken_or_behind (suc n) g (x ∷ xs) o (inl e) = inl (inl e)
  taken_or_behind (suc n) g (x ∷ xs) o (inr h) = elim (taken_or_behind n g xs o.1 h) [
    | inl k ↦ inl (inr k)
    | inr b ↦ inr (record {
      full = (let l = b.full in omega arith);
      behind = λ y k. elim k [ inl e ↦ subst (λ (w : Given). q.before g.row w.row ≡ false) e (o.0 g h).0 | inr j ↦ b.behind y j ];
    })
  ]

  pub same_before : (x y z : List Value) → a.named x ≡ a.named y → q.before y z ≡ q.before x z
  same_before x y z e =
      let o : by_order order y z ≡ by_order order x z = sym (s.order_told x y z e) in
      let k : a.path_key y ≡ a.path_key x = sym (s.key_told x y e) in
      ap (λ (w : Ordering). is_lt (ordering_then w (slice_cmp nat_cmp (a.path_key y) (a.path_key z)))) o
      ∙ ap (λ (w : List ℕ). is_lt (ordering_then (by_order order x z) (slice_cmp nat_cmp w (a.path_key z)))) k

  -- a row that was given is given in the end, or cut off
  kept_or_cut : (m : Option ℕ) (ys : List Given) (row : List Value) → AreInOrder q ys → limit ≡ m → IsRowGiven a ys row → IsRowGiven q (cut_off m ys) row ⊎ IsCutByLimit q (cut_off m ys) row
  kept_or_cut None ys row o e h = inl (record { given = h.given; among = h.among; same = h.same })
  kept_or_cut (Some n) ys row o e h = elim (taken_or_behind n h.given ys o h.among) [
    | inl k ↦ inl (record { given = h.given; among = k; same = h.same })
    | inr b ↦ inr (record {
      limit = n;
      is = e;
      full = b.full;
      behind = λ x k. same_before h.given.row row x.row h.same ∙ b.behind x k;
    })
  ]

  sorted_given : (xs : List Given) (row : List Value) → IsRowGiven a xs row → IsRowGiven a (stably_sorted less xs) row
  sorted_given xs row h = record { given = h.given; among = sorted_to less h.given xs h.among; same = h.same }

  -- where nothing is sorted, what was cut off stays so
  still_cut : (xs : List Given) (row : List Value) → (c : IsCutByLimit a xs row) → (order ≡ []) → limit ≡ Some c.limit → IsCutByLimit q (given_last order limit xs) row
  still_cut xs row c plain_order e = record {
    limit = c.limit;
    is = e;
    full =
        (let ys = stably_sorted less xs in
        let l : c.limit ≤ length ys = (let m = sorted_length less xs in let n = c.full in omega arith) in
        let t = length-take-le c.limit ys l in
        subst (λ (m : Option ℕ). c.limit ≤ length (cut_off m ys)) (sym e) (omega arith));
    behind = λ x k.
        (let b : key_less (a.path_key row) (a.path_key x.row) ≡ false = sym (s.by_key row x.row) ∙ c.behind x (last_from order limit x xs k) in
        subst (λ (o : List KeyPlace). goes_before o a.path_key row x.row ≡ false) (sym plain_order) b);
  }

  pub last_whole : (xs : List Given) (row : List Value) → AreInOrder a xs → IsRowGiven a xs row ⊎ IsCutByLimit a xs row → IsRowGiven q (given_last order limit xs) row ⊎ IsCutByLimit q (given_last order limit xs) row
  last_whole xs row o (inl h) = kept_or_cut limit (stably_sorted less xs) row (sorted_order xs o) refl (sorted_given xs row h)
  last_whole xs row o (inr c) = let l = s.limited c.limit c.is in inr (still_cut xs row c l.0 l.1)

  take_order : (n : ℕ) (xs : List Given) → AreInOrder q xs → AreInOrder q (take n xs)
  unfolding AreInOrder
  take_order zero xs o = tt
  take_order (suc n) [] o = tt
  take_order (suc n) (x ∷ xs) o = ((λ y k. o.0 y (taken_from y n xs k)), take_order n xs o.1)

  cut_order : (m : Option ℕ) (xs : List Given) → AreInOrder q xs → AreInOrder q (cut_off m xs)
  cut_order None xs o = o
  cut_order (Some n) xs o = take_order n xs o

  pub last_order : (xs : List Given) → AreInOrder a xs → AreInOrder q (given_last order limit xs)
  last_order xs o = cut_order limit (stably_sorted less xs) (sorted_order xs o)

take_short : {X : Type 0} (n : ℕ) (xs : List X) → length (take n xs) ≤ n
take_short zero xs = omega arith
take_short (suc n) [] = omega arith
take_short (suc n) (x ∷ xs) = let h = take_short n xs in omega arith

cut_within : (m : Option ℕ) (xs : List Given) → IsWithinLimit m (length (cut_off m xs))
cut_within None xs = tt
cut_within (Some n) xs = take_short n xs

pub last_within : (order : List KeyPlace) (limit : Option ℕ) (xs : List Given) → IsWithinLimit limit (length (given_last order limit xs))
last_within order limit xs = cut_within limit (stably_sorted (is_less order) xs)
