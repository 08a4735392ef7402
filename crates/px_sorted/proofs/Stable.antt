-- Sorting by insertion: what it keeps, and that a stable sort can give nothing else.
use native.Mathlib.Numerals.{unary_clauses}
use Rattle.std.proofs.Common.{◌≡◌, ◌<◌, ℕ, zero, suc, Bool, true, false, not, ◌&&◌, List, [], ◌∷◌, length, get_or, slice_index_or, refl, sym, ap, subst, ◌∙◌, arith}
use Rattle.std.specs.Cmp.{IsStrictWeakOrder}
use Rattle.std.specs.List.{filter}
use Rattle.std.specs.List.Sorted.{IsPermutation, IsSortedBy, IsStableBy, ties}
use Rattle.std.proofs.lemmas.List.Sorted.{IsPermutation-refl, IsPermutation-cons, IsPermutation-middle, IsPermutation-trans, sorted_far}
use Rattle.px_sorted.specs.Sorting.{put_in, stably_sorted}

-- ---- filters

kept : {X : Type 0} (t : X → Bool) (x : X) (xs : List X) → t x ≡ true → filter t (x ∷ xs) ≡ x ∷ filter t xs
kept t x xs e = rw e refl

left_out : {X : Type 0} (t : X → Bool) (x : X) (xs : List X) → t x ≡ false → filter t (x ∷ xs) ≡ filter t xs
left_out t x xs e = rw e refl

filter_behind : {X : Type 0} (t : X → Bool) (x : X) (xs ys : List X) → filter t xs ≡ filter t ys → (b : Bool) → t x ≡ b → filter t (x ∷ xs) ≡ filter t (x ∷ ys)
filter_behind t x xs ys h true e = kept t x xs e ∙ ap (λ rest. x ∷ rest) h ∙ sym (kept t x ys e)
filter_behind t x xs ys h false e = left_out t x xs e ∙ h ∙ sym (left_out t x ys e)

-- two of which at most one is kept may change places
swapped : {X : Type 0} (t : X → Bool) (x y : X) (zs ys : List X) → filter t zs ≡ filter t (x ∷ ys) → (t x ≡ true → t y ≡ true → ⊥) → (a b : Bool) → t x ≡ a → t y ≡ b → filter t (y ∷ zs) ≡ filter t (x ∷ y ∷ ys)
swapped t x y zs ys h n true true e f = absurd (n e f)
swapped t x y zs ys h n true false e f = left_out t y zs f ∙ h ∙ kept t x ys e ∙ sym (kept t x (y ∷ ys) e ∙ ap (λ rest. x ∷ rest) (left_out t y ys f))
swapped t x y zs ys h n false true e f = kept t y zs f ∙ ap (λ rest. y ∷ rest) (h ∙ left_out t x ys e) ∙ sym (left_out t x (y ∷ ys) e ∙ kept t y ys f)
swapped t x y zs ys h n false false e f = left_out t y zs f ∙ h ∙ left_out t x ys e ∙ sym (left_out t x (y ∷ ys) e ∙ left_out t y ys f)

first_same : {X : Type 0} (x y : X) (xs ys : List X) → x ∷ xs ≡ y ∷ ys → x ≡ y
first_same x y xs ys e = cc

rest_same : {X : Type 0} (x y : X) (xs ys : List X) → x ∷ xs ≡ y ∷ ys → xs ≡ ys
rest_same x y xs ys e = cc

neither : (a b : Bool) → (not a && not b) ≡ true → (a ≡ false) × (b ≡ false)
neither false false h = (refl, refl)
neither false true h = absurd (let z : ◌≡◌ {A = Bool} false true = h in cc)
neither true b h = absurd (let z : ◌≡◌ {A = Bool} false true = h in cc)

module _ {X : Type 0} (less : X → X → Bool) (o : IsStrictWeakOrder less) where
  -- ---- one step

  passed : (x y : X) (ys : List X) → less y x ≡ true → put_in less x (y ∷ ys) ≡ y ∷ put_in less x ys
  passed x y ys e = rw e refl

  stopped : (x y : X) (ys : List X) → less y x ≡ false → put_in less x (y ∷ ys) ≡ x ∷ y ∷ ys
  stopped x y ys e = rw e refl

  not_itself : (x : X) (b : Bool) → less x x ≡ b → less x x ≡ false
  not_itself x true e = o.one_way x x e
  not_itself x false e = e

  tie : (x y : X) → less x y ≡ false → less y x ≡ false → ties less x y ≡ true
  tie x y e f = rw (e, f) refl

  ties_itself : (x : X) → ties less x x ≡ true
  ties_itself x = let e = not_itself x (less x x) refl in tie x x e e

  -- ---- the same elements

  same_at : (x y : X) (ys : List X) → IsPermutation (x ∷ ys) (put_in less x ys) → (b : Bool) → less y x ≡ b → IsPermutation (x ∷ y ∷ ys) (put_in less x (y ∷ ys))
  same_at x y ys more true e =
      rw (passed x y ys e)
      (IsPermutation-trans (x ∷ y ∷ ys) (y ∷ x ∷ ys) (y ∷ put_in less x ys) (IsPermutation-middle (x ∷ []) y ys) (IsPermutation-cons y (x ∷ ys) (put_in less x ys) more))
  same_at x y ys more false e = rw (stopped x y ys e) (IsPermutation-refl (x ∷ y ∷ ys))

  put_same : (x : X) (ys : List X) → IsPermutation (x ∷ ys) (put_in less x ys)
  put_same x [] = IsPermutation-refl (x ∷ [])
  put_same x (y ∷ ys) = same_at x y ys (put_same x ys) (less y x) refl

  pub sorted_same : (xs : List X) → IsPermutation xs (stably_sorted less xs)
  sorted_same [] = IsPermutation-refl []
  sorted_same (x ∷ xs) =
      let ys = stably_sorted less xs in IsPermutation-trans (x ∷ xs) (x ∷ ys) (put_in less x ys) (IsPermutation-cons x xs ys (sorted_same xs)) (put_same x ys)

  -- ---- in order

  -- none of these is less than x
  abbrev NoneBefore : X → List X → Type 0
  NoneBefore x [] = Unit {0}
  NoneBefore x (y ∷ ys) = (less y x ≡ false) × NoneBefore x ys

  abbrev Rises : List X → Type 0
  Rises [] = Unit {0}
  Rises (x ∷ xs) = NoneBefore x xs × Rises xs

  none_at : (w x y : X) (ys : List X) → less x w ≡ false → NoneBefore w (y ∷ ys) → NoneBefore w (put_in less x ys) → (b : Bool) → less y x ≡ b → NoneBefore w (put_in less x (y ∷ ys))
  none_at w x y ys e n more true h = rw (passed x y ys h) (n.0, more)
  none_at w x y ys e n more false h = rw (stopped x y ys h) (e, n)

  none_put : (w x : X) (ys : List X) → less x w ≡ false → NoneBefore w ys → NoneBefore w (put_in less x ys)
  none_put w x [] e n = (e, tt)
  none_put w x (y ∷ ys) e n = none_at w x y ys e n (none_put w x ys e n.1) (less y x) refl

  none_below : (x y : X) (zs : List X) → less y x ≡ false → NoneBefore y zs → NoneBefore x zs
  none_below x y [] e n = tt
  none_below x y (z ∷ zs) e n = (o.chain z y x n.0 e, none_below x y zs e n.1)

  rises_at : (x y : X) (ys : List X) → Rises (y ∷ ys) → Rises (put_in less x ys) → (b : Bool) → less y x ≡ b → Rises (put_in less x (y ∷ ys))
  rises_at x y ys r more true h = rw (passed x y ys h) (none_put y x ys (o.one_way y x h) r.0, more)
  rises_at x y ys r more false h = rw (stopped x y ys h) ((h, none_below x y ys h r.0), r)

  put_rises : (x : X) (ys : List X) → Rises ys → Rises (put_in less x ys)
  put_rises x [] r = (tt, tt)
  put_rises x (y ∷ ys) r = rises_at x y ys r (put_rises x ys r.1) (less y x) refl

  sorted_rises : (xs : List X) → Rises (stably_sorted less xs)
  sorted_rises [] = tt
  sorted_rises (x ∷ xs) = put_rises x (stably_sorted less xs) (sorted_rises xs)

  first_of : (x : X) (xs : List X) (d : X) → 1 < length (x ∷ xs) → NoneBefore x xs → less (slice_index_or (x ∷ xs) 1 d) x ≡ false
  first_of x [] d l n = absurd (omega arith)
  first_of x (y ∷ ys) d l n = n.0

  from_rises : (xs : List X) → Rises xs → IsSortedBy less xs
  from_rises [] r k d l h = absurd (omega arith)
  from_rises (x ∷ xs) r zero d l h = first_of x xs d h r.0
  from_rises (x ∷ xs) r (suc k) d l h = (let e = from_rises xs r.1 k d (omega arith) (omega arith) in simp unary_clauses (simp unary_clauses at e))

  none_from : (x : X) (ys : List X) → ((k : ℕ) → k < length ys → less (get_or ys k x) x ≡ false) → NoneBefore x ys
  none_from x [] f = tt
  none_from x (y ∷ ys) f = (f 0 (omega arith), none_from x ys (λ k l. f (suc k) (omega arith)))

  to_rises : (xs : List X) → IsSortedBy less xs → Rises xs
  to_rises [] s = tt
  to_rises (x ∷ xs) s = (
    none_from x xs (λ k l. sorted_far less o (x ∷ xs) s 0 (suc k) x (omega arith) (omega arith)),
    to_rises xs (λ k d l h. (let e = s (suc k) d (omega arith) (omega arith) in simp unary_clauses (simp unary_clauses at e))),
  )

  pub sorted_in_order : (xs : List X) → IsSortedBy less (stably_sorted less xs)
  sorted_in_order xs = from_rises (stably_sorted less xs) (sorted_rises xs)

  -- ---- those that tie

  not_both : (z x y : X) → less y x ≡ true → ties less z x ≡ true → ties less z y ≡ true → ⊥
  not_both z x y h e f =
      let a = neither (less z x) (less x z) e in
      let b = neither (less z y) (less y z) f in
      let q : ◌≡◌ {A = Bool} true false = sym h ∙ o.chain y z x b.1 a.0 in
      cc

  stable_at : (z x y : X) (ys : List X) → filter (ties less z) (put_in less x ys) ≡ filter (ties less z) (x ∷ ys) → (b : Bool) → less y x ≡ b → filter (ties less z) (put_in less x (y ∷ ys)) ≡ filter (ties less z) (x ∷ y ∷ ys)
  stable_at z x y ys more true h =
      rw (passed x y ys h) (swapped (ties less z) x y (put_in less x ys) ys more (λ e f. not_both z x y h e f) (ties less z x) (ties less z y) refl refl)
  stable_at z x y ys more false h = rw (stopped x y ys h) refl

  put_stable : (z x : X) (ys : List X) → filter (ties less z) (put_in less x ys) ≡ filter (ties less z) (x ∷ ys)
  put_stable z x [] = refl
  put_stable z x (y ∷ ys) = stable_at z x y ys (put_stable z x ys) (less y x) refl

  pub sorted_stable : (xs : List X) → IsStableBy less xs (stably_sorted less xs)
  sorted_stable [] z = refl
  sorted_stable (x ∷ xs) z =
      let ys = stably_sorted less xs in put_stable z x ys ∙ filter_behind (ties less z) x ys xs (sorted_stable xs z) (ties less z x) refl

  -- ---- there is one such list

  below_at : (t : X → Bool) (x y w : X) (ys zs : List X) → less w y ≡ false → (filter t ys ≡ x ∷ zs → less x y ≡ false) → filter t (w ∷ ys) ≡ x ∷ zs → (b : Bool) → t w ≡ b → less x y ≡ false
  below_at t x y w ys zs e more h true f =
      let q = first_same w x (filter t ys) zs (sym (kept t w ys f) ∙ h) in subst (λ (v : X). less v y ≡ false) q e
  below_at t x y w ys zs e more h false f = more (sym (left_out t w ys f) ∙ h)

  -- the first that is kept is not less than the first
  below : (t : X → Bool) (x y : X) (ys zs : List X) → NoneBefore y ys → filter t ys ≡ x ∷ zs → less x y ≡ false
  below t x y [] zs n h = cc
  below t x y (w ∷ ys) zs n h = below_at t x y w ys zs n.0 (λ k. below t x y ys zs n.1 k) h (t w) refl

  rest_at : (z x y : X) (xs ys : List X) → x ≡ y → filter (ties less z) (x ∷ xs) ≡ filter (ties less z) (y ∷ ys) → (b : Bool) → ties less z x ≡ b → filter (ties less z) xs ≡ filter (ties less z) ys
  rest_at z x y xs ys q h true e =
      let f : ties less z y ≡ true = subst (λ (v : X). ties less z v ≡ true) q e in
      rest_same x y (filter (ties less z) xs) (filter (ties less z) ys) (sym (kept (ties less z) x xs e) ∙ h ∙ kept (ties less z) y ys f)
  rest_at z x y xs ys q h false e =
      let f : ties less z y ≡ false = subst (λ (v : X). ties less z v ≡ false) q e in sym (left_out (ties less z) x xs e) ∙ h ∙ left_out (ties less z) y ys f

  some_kept : (y : X) (ys : List X) → [] ≡ filter (ties less y) (y ∷ ys) → ⊥
  some_kept y ys h = let q = h ∙ kept (ties less y) y ys (ties_itself y) in cc

  not_below : (x y : X) (xs ys : List X) → NoneBefore y (y ∷ ys) → filter (ties less x) (x ∷ xs) ≡ filter (ties less x) (y ∷ ys) → less x y ≡ false
  not_below x y xs ys n h = below (ties less x) x y (y ∷ ys) (filter (ties less x) xs) n (sym h ∙ kept (ties less x) x xs (ties_itself x))

  first_is : (x y : X) (xs ys : List X) → less x y ≡ false → less y x ≡ false → filter (ties less x) (x ∷ xs) ≡ filter (ties less x) (y ∷ ys) → x ≡ y
  first_is x y xs ys e f h =
      first_same x y (filter (ties less x) xs) (filter (ties less x) ys) (sym (kept (ties less x) x xs (ties_itself x)) ∙ h ∙ kept (ties less x) y ys (tie x y e f))

  one_list : (xs ys : List X) → Rises xs → Rises ys → ((z : X) → filter (ties less z) xs ≡ filter (ties less z) ys) → xs ≡ ys
  one_list [] [] r s h = refl
  one_list [] (y ∷ ys) r s h = absurd (some_kept y ys (h y))
  one_list (x ∷ xs) [] r s h = absurd (some_kept x xs (sym (h x)))
  one_list (x ∷ xs) (y ∷ ys) r s h =
      let itself = λ (v : X). not_itself v (less v v) refl in
      let q = first_is x y xs ys (not_below x y xs ys (itself y, s.0) (h x)) (not_below y x ys xs (itself x, r.0) (sym (h y))) (h x) in
      let rest = one_list xs ys r.1 s.1 (λ z. rest_at z x y xs ys q (h z) (ties less z x) refl) in
      ap (λ (v : X). v ∷ xs) q ∙ ap (λ (vs : List X). y ∷ vs) rest

  pub only_sorted : (xs ys : List X) → IsSortedBy less ys → IsStableBy less xs ys → ys ≡ stably_sorted less xs
  only_sorted xs ys s h = one_list ys (stably_sorted less xs) (to_rises ys s) (sorted_rises xs) (λ z. h z ∙ sym (sorted_stable xs z))
