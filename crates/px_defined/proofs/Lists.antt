-- A list with an element more, or with some less.
use Rattle.std.proofs.Common.{◌≡◌, ◌≢◌, ◌⊎◌, inl, inr, ℕ, zero, suc, ◌<◌, Bool, true, false, Some, List, [], ◌∷◌, ◌++◌, length, set, slice_get, refl, ap, sym, ◌∙◌, subst, arith}
use Rattle.std.specs.Prelude.{filter, get_or, if◌then◌else◌}
use Rattle.std.specs.List.{AllByRecursion}
use Rattle.std.proofs.lemmas.Bool.{false≢true}

module _ {A : Type 0} where
  -- 1. An element more

  abbrev pub StandsOrLast : List A → A → ℕ → A → Type 0
  StandsOrLast xs y i z = (slice_get xs i ≡ Some z) ⊎ ((i ≡ length xs) × (z ≡ y))

  pub end_cases : (xs : List A) (y : A) (i : ℕ) (z : A) → slice_get (xs ++ y ∷ []) i ≡ Some z → StandsOrLast xs y i z
  end_cases [] y zero z e = inr (refl, cc)
  end_cases [] y (suc i) z e = cc
  end_cases (x ∷ xs) y zero z e = inl e
  end_cases (x ∷ xs) y (suc i) z e = elim (end_cases xs y i z e) [
    | inl h ↦ inl h
    | inr h ↦ inr ((let l = h.0 in omega arith), h.1)
  ]

  pub end_here : (xs : List A) (y : A) → slice_get (xs ++ y ∷ []) (length xs) ≡ Some y
  end_here [] y = refl
  end_here (x ∷ xs) y = end_here xs y

  pub end_other : (xs : List A) (y : A) (i : ℕ) (z : A) → slice_get xs i ≡ Some z → slice_get (xs ++ y ∷ []) i ≡ Some z
  end_other [] y i z e = cc
  end_other (x ∷ xs) y zero z e = e
  end_other (x ∷ xs) y (suc i) z e = end_other xs y i z e

  pub all_end : (P : A → Type 0) (xs : List A) (y : A) → AllByRecursion P xs → P y → AllByRecursion P (xs ++ y ∷ [])
  all_end P [] y h p = (p, tt)
  all_end P (x ∷ xs) y h p = (h.0, all_end P xs y h.1 p)

  pub within : (xs : List A) (i : ℕ) (x : A) → slice_get xs i ≡ Some x → i < length xs
  within [] i x e = cc
  within (z ∷ xs) zero x e = omega arith
  within (z ∷ xs) (suc i) x e = (let l = within xs i x e in omega arith)

  pub same_at : (xs : List A) (i : ℕ) (x y : A) → slice_get xs i ≡ Some x → slice_get xs i ≡ Some y → x ≡ y
  same_at xs i x y e f = cc

  pub all_at : (P : A → Type 0) (xs : List A) (i : ℕ) (x : A) → slice_get xs i ≡ Some x → AllByRecursion P xs → P x
  all_at P [] i x e h = cc
  all_at P (y ∷ xs) zero x e h = let same : y ≡ x = cc in subst P same h.0
  all_at P (y ∷ xs) (suc i) x e h = all_at P xs i x e h.1

  pub all_more : (P Q : A → Type 0) → ((x : A) → P x → Q x) → (xs : List A) → AllByRecursion P xs → AllByRecursion Q xs
  all_more P Q f [] h = tt
  all_more P Q f (x ∷ xs) h = (f x h.0, all_more P Q f xs h.1)

  -- 2. One changed

  abbrev pub IsPutOrStands : List A → ℕ → ℕ → A → A → Type 0
  IsPutOrStands xs i j y z = ((j ≡ i) × (z ≡ y)) ⊎ ((j ≢ i) × (slice_get xs j ≡ Some z))

  pub set_cases : (xs : List A) (i j : ℕ) (y z : A) → slice_get (set xs i y) j ≡ Some z → IsPutOrStands xs i j y z
  set_cases [] i j y z e = cc
  set_cases (x ∷ xs) zero zero y z e = inl (refl, cc)
  set_cases (x ∷ xs) zero (suc j) y z e = inr ((λ q. omega arith), e)
  set_cases (x ∷ xs) (suc i) zero y z e = inr ((λ q. omega arith), e)
  set_cases (x ∷ xs) (suc i) (suc j) y z e = elim (set_cases xs i j y z e) [
    | inl h ↦ inl (omega (arith, h.0), h.1)
    | inr h ↦ inr ((λ q. h.0 (omega arith)), h.1)
  ]

  pub set_other : (xs : List A) (i j : ℕ) (y : A) → j ≢ i → slice_get (set xs i y) j ≡ slice_get xs j
  set_other [] i j y n = refl
  set_other (x ∷ xs) zero zero y n = absurd (n refl)
  set_other (x ∷ xs) zero (suc j) y n = refl
  set_other (x ∷ xs) (suc i) zero y n = refl
  set_other (x ∷ xs) (suc i) (suc j) y n = set_other xs i j y (λ q. n (omega arith))

  pub set_here : (xs : List A) (i : ℕ) (x y : A) → slice_get xs i ≡ Some x → slice_get (set xs i y) i ≡ Some y
  set_here [] i x y e = cc
  set_here (z ∷ xs) zero x y e = refl
  set_here (z ∷ xs) (suc i) x y e = set_here xs i x y e

  pub all_set : (P : A → Type 0) (xs : List A) (i : ℕ) (y : A) → P y → AllByRecursion P xs → AllByRecursion P (set xs i y)
  all_set P [] i y p h = tt
  all_set P (x ∷ xs) zero y p h = (p, h.1)
  all_set P (x ∷ xs) (suc i) y p h = (h.0, all_set P xs i y p h.1)

  -- 3. Some less

  abbrev kept_if : Bool → A → List A → List A
  kept_if c x l = if c then x ∷ l else l

  module _ (keep : A → Bool) where
    -- what is kept stood there
    abbrev pub IsFrom : List A → A → Type 0
    IsFrom xs z = (m : ℕ) × ((slice_get xs m ≡ Some z) × (keep z ≡ true))

    from_later : (x : A) (xs : List A) (z : A) → IsFrom xs z → IsFrom (x ∷ xs) z
    from_later x xs z r = (suc r.0, r.1)

    from_by : (x : A) (xs : List A) → ((k : ℕ) (z : A) → slice_get (filter keep xs) k ≡ Some z → IsFrom xs z) → (c : Bool) → keep x ≡ c → (k : ℕ) (z : A) → slice_get (kept_if c x (filter keep xs)) k ≡ Some z → IsFrom (x ∷ xs) z
    from_by x xs rest true is zero z e = let same : x ≡ z = cc in (zero, (e, ap keep (sym same) ∙ is))
    from_by x xs rest true is (suc k) z e = from_later x xs z (rest k z e)
    from_by x xs rest false is k z e = from_later x xs z (rest k z e)

    pub from_filter : (xs : List A) (k : ℕ) (z : A) → slice_get (filter keep xs) k ≡ Some z → IsFrom xs z
    from_filter [] k z e = cc
    from_filter (x ∷ xs) k z e = from_by x xs (from_filter xs) (keep x) refl k z e

    -- what stood there and isn't taken away stands there still
    abbrev pub IsStill : List A → A → Type 0
    IsStill ys z = (k : ℕ) × (slice_get ys k ≡ Some z)

    to_by : (x : A) (xs : List A) → ((m : ℕ) (z : A) → slice_get xs m ≡ Some z → keep z ≡ true → IsStill (filter keep xs) z) → (c : Bool) → keep x ≡ c → (m : ℕ) (z : A) → slice_get (x ∷ xs) m ≡ Some z → keep z ≡ true → IsStill (kept_if c x (filter keep xs)) z
    to_by x xs rest true is zero z e a = (zero, e)
    to_by x xs rest false is zero z e a = let same : x ≡ z = cc in absurd (false≢true (sym is ∙ (ap keep same ∙ a)))
    to_by x xs rest true is (suc m) z e a = let r = rest m z e a in (suc r.0, r.1)
    to_by x xs rest false is (suc m) z e a = rest m z e a

    pub to_filter : (xs : List A) (m : ℕ) (z : A) → slice_get xs m ≡ Some z → keep z ≡ true → IsStill (filter keep xs) z
    to_filter [] m z e a = cc
    to_filter (x ∷ xs) m z e a = to_by x xs (to_filter xs) (keep x) refl m z e a

    all_by : (P : A → Type 0) (x : A) (xs : List A) (c : Bool) → P x → AllByRecursion P (filter keep xs) → AllByRecursion P (kept_if c x (filter keep xs))
    all_by P x xs true p h = (p, h)
    all_by P x xs false p h = h

    pub all_filter : (P : A → Type 0) (xs : List A) → AllByRecursion P xs → AllByRecursion P (filter keep xs)
    all_filter P [] h = tt
    all_filter P (x ∷ xs) h = all_by P x xs (keep x) h.0 (all_filter P xs h.1)

-- 4. Two lists of which the same places are kept

module _ {A B : Type 0} (keep : A → Bool) (hold : B → Bool) (P : A → B → Type 0) (alike : (x : A) (y : B) → P x y → keep x ≡ hold y) (none : A) where
  abbrev pub ArePaired : List A → List B → Type 0
  ArePaired [] [] = Unit {0}
  ArePaired [] (y ∷ ys) = ⊥
  ArePaired (x ∷ xs) [] = ⊥
  ArePaired (x ∷ xs) (y ∷ ys) = P x y × ArePaired xs ys

  pub to_paired : (xs : List A) (ys : List B) → length xs ≡ length ys → ((i : ℕ) (y : B) → slice_get ys i ≡ Some y → P (get_or xs i none) y) → ArePaired xs ys
  to_paired [] [] l h = tt
  to_paired [] (y ∷ ys) l h = absurd (omega arith)
  to_paired (x ∷ xs) [] l h = absurd (omega arith)
  to_paired (x ∷ xs) (y ∷ ys) l h = (h zero y refl, to_paired xs ys (omega arith) (λ i z e. h (suc i) z e))

  paired_by : (x : A) (xs : List A) (y : B) (ys : List B) (c d : Bool) → c ≡ d → P x y → ArePaired (filter keep xs) (filter hold ys) → ArePaired (kept_if c x (filter keep xs)) (kept_if d y (filter hold ys))
  paired_by x xs y ys true true e p h = (p, h)
  paired_by x xs y ys true false e p h = (let z : true ≡ false = e in cc)
  paired_by x xs y ys false true e p h = (let z : true ≡ false = sym e in cc)
  paired_by x xs y ys false false e p h = h

  pub paired_filter : (xs : List A) (ys : List B) → ArePaired xs ys → ArePaired (filter keep xs) (filter hold ys)
  paired_filter [] [] h = tt
  paired_filter [] (y ∷ ys) h = absurd h
  paired_filter (x ∷ xs) [] h = absurd h
  paired_filter (x ∷ xs) (y ∷ ys) h = paired_by x xs y ys (keep x) (hold y) (alike x y h.0) h.0 (paired_filter xs ys h.1)

  pub paired_length : (xs : List A) (ys : List B) → ArePaired xs ys → length xs ≡ length ys
  paired_length [] [] h = refl
  paired_length [] (y ∷ ys) h = absurd h
  paired_length (x ∷ xs) [] h = absurd h
  paired_length (x ∷ xs) (y ∷ ys) h = (let l = paired_length xs ys h.1 in omega arith)

  pub paired_at : (xs : List A) (ys : List B) → ArePaired xs ys → (i : ℕ) (y : B) → slice_get ys i ≡ Some y → P (get_or xs i none) y
  paired_at [] [] h i y e = cc
  paired_at [] (z ∷ ys) h i y e = absurd h
  paired_at (x ∷ xs) [] h i y e = absurd h
  paired_at (x ∷ xs) (z ∷ ys) h zero y e = (let same : z ≡ y = cc in subst (P x) same h.0)
  paired_at (x ∷ xs) (z ∷ ys) h (suc i) y e = paired_at xs ys h.1 i y e

-- 5. Places

module _ {A : Type 0} where
  pub at_get : (xs : List A) (i : ℕ) (d : A) → i < length xs → slice_get xs i ≡ Some (get_or xs i d)
  at_get [] i d l = absurd (omega arith)
  at_get (x ∷ xs) zero d l = refl
  at_get (x ∷ xs) (suc i) d l = at_get xs i d (omega arith)

  pub get_at : (xs : List A) (i : ℕ) (d x : A) → slice_get xs i ≡ Some x → get_or xs i d ≡ x
  get_at [] i d x e = cc
  get_at (y ∷ xs) zero d x e = cc
  get_at (y ∷ xs) (suc i) d x e = get_at xs i d x e

  pub get_end : (xs : List A) (y d : A) → get_or (xs ++ y ∷ []) (length xs) d ≡ y
  get_end [] y d = refl
  get_end (x ∷ xs) y d = get_end xs y d

  pub item_at : (xs : List A) (i : ℕ) (x : A) → i < length xs → x ≡ get_or xs i x → slice_get xs i ≡ Some x
  item_at xs i x l e = at_get xs i x l ∙ ap Some (sym e)
