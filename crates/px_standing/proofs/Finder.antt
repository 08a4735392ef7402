-- What is found by its number in a list whose numbers rise.
use Rattle.std.proofs.Common.{◌≡◌, ◌≢◌, ◌<◌, ◌≤◌, ◌⊎◌, inl, inr, ℕ, zero, suc, Bool, true, false, cond, Option, Some, None, List, [], ◌∷◌, length, get_or, refl, sym, ap, subst, ◌∙◌, arith}
use Rattle.std.specs.Prelude.{filter, if◌then◌else◌}
use Rattle.std.specs.List.{AllByRecursion}
use Rattle.std.specs.Option.{is_some}
use Rattle.std.proofs.lemmas.Bool.{cases_eq, false≢true}
use Rattle.px_trail.specs.Answers.{IsAmong}
use Rattle.px_schema.proofs.Numbers.{filter_all}
use Rattle.px_calls.specs.Causes.{count_below}
use Rattle.px_standing.specs.Agrees.{AreRisingBy}

-- the function finds the first element of a number
pub record IsFinder {A : Type 0} (num : A → ℕ) (find : List A → ℕ → Option A) : Type 0 where
  pub none : (n : ℕ) → find [] n ≡ None
  pub first : (x : A) (xs : List A) (n : ℕ) → num x ≡ n → find (x ∷ xs) n ≡ Some x
  pub later : (x : A) (xs : List A) (n : ℕ) → num x ≢ n → find (x ∷ xs) n ≡ find xs n

some_is : {A : Type 0} (a z : A) → Some a ≡ Some z → a ≡ z
some_is a z e = cc

-- ---- elements

pub among_all : {A : Type 0} (P : A → Type 0) (xs : List A) (x : A) → AllByRecursion P xs → IsAmong x xs → P x
unfolding IsAmong
among_all P [] x all i = absurd i
among_all P (y ∷ ys) x all (inl e) = subst P e all.0
among_all P (y ∷ ys) x all (inr i) = among_all P ys x all.1 i

pub each_among : {A : Type 0} (P : A → Type 0) (xs : List A) → ((x : A) → IsAmong x xs → P x) → AllByRecursion P xs
unfolding IsAmong
each_among P [] each = tt
each_among P (y ∷ ys) each = (each y (inl refl), each_among P ys (λ x i. each x (inr i)))

pub place_among : {A : Type 0} (xs : List A) (i : ℕ) (d : A) → i < length xs → IsAmong (get_or xs i d) xs
unfolding IsAmong
place_among [] i d l = absurd (omega (arith, l))
place_among (y ∷ ys) zero d l = inl refl
place_among (y ∷ ys) (suc i) d l = inr (place_among ys i d (omega (arith, l)))

pub all_weaker : {A : Type 0} (P Q : A → Type 0) → ((x : A) → P x → Q x) → (xs : List A) → AllByRecursion P xs → AllByRecursion Q xs
all_weaker P Q f [] all = tt
all_weaker P Q f (x ∷ xs) all = (f x all.0, all_weaker P Q f xs all.1)

module _ {A : Type 0} (keep : A → Bool) where
  to_by : (y : A) (ys : List A) (x : A) (c : Bool) → keep y ≡ c → keep x ≡ true → (y ≡ x) ⊎ IsAmong x (filter keep ys) → IsAmong x (cond c (y ∷ filter keep ys) (filter keep ys))
  unfolding IsAmong
  to_by y ys x true is k i = i
  to_by y ys x false is k (inl e) = absurd (false≢true (sym is ∙ (ap keep e ∙ k)))
  to_by y ys x false is k (inr i) = i

  pub to_kept : (xs : List A) (x : A) → IsAmong x xs → keep x ≡ true → IsAmong x (filter keep xs)
  unfolding IsAmong
  to_kept [] x i k = absurd i
  to_kept (y ∷ ys) x (inl e) k = to_by y ys x (keep y) refl k (inl e)
  to_kept (y ∷ ys) x (inr i) k = to_by y ys x (keep y) refl k (inr (to_kept ys x i k))

  from_by : (y : A) (ys : List A) (x : A) (c : Bool) → keep y ≡ c → (IsAmong x (filter keep ys) → IsAmong x ys × (keep x ≡ true)) → IsAmong x (cond c (y ∷ filter keep ys) (filter keep ys)) → IsAmong x (y ∷ ys) × (keep x ≡ true)
  unfolding IsAmong
  from_by y ys x true is rest (inl e) = (inl e, sym (ap keep e) ∙ is)
  from_by y ys x true is rest (inr i) = (inr (rest i).0, (rest i).1)
  from_by y ys x false is rest i = (inr (rest i).0, (rest i).1)

  pub from_kept : (xs : List A) (x : A) → IsAmong x (filter keep xs) → IsAmong x xs × (keep x ≡ true)
  unfolding IsAmong
  from_kept [] x i = absurd i
  from_kept (y ∷ ys) x i = from_by y ys x (keep y) refl (from_kept ys x) i

  -- the element, if it is kept
  abbrev pub if_kept : Option A → Option A
  if_kept None = None
  if_kept (Some x) = if keep x then Some x else None

pub rising_kept : {A : Type 0} (num : A → ℕ) (keep : A → Bool) (xs : List A) → AreRisingBy num xs → AreRisingBy num (filter keep xs)
rising_kept num keep [] up = tt
rising_kept num keep (x ∷ xs) up = elim (keep x) as (λ (b : Bool). AreRisingBy num (cond b (x ∷ filter keep xs) (filter keep xs))) [ true ↦ (filter_all (λ y. num x < num y) keep xs up.0, rising_kept num keep xs up.1) | false ↦ rising_kept num keep xs up.1 ]

-- ---- what is found

module _ {A : Type 0} (num : A → ℕ) (find : List A → ℕ → Option A) (f : IsFinder num find) where
  pub found_all : (P : A → Type 0) (xs : List A) (n : ℕ) (x : A) → AllByRecursion P xs → find xs n ≡ Some x → P x
  found_all P [] n x all is = absurd (let no : None ≡ Some x = sym (f.none n) ∙ is in cc)
  found_all P (y ∷ ys) n x all is = elim (cases_eq (num y) n) [
    | inl e ↦ subst P (some_is y x (sym (f.first y ys n e) ∙ is)) all.0
    | inr e ↦ found_all P ys n x all.1 (sym (f.later y ys n e) ∙ is)
  ]

  pub found_number : (xs : List A) (n : ℕ) (x : A) → find xs n ≡ Some x → num x ≡ n
  found_number [] n x is = absurd (let no : None ≡ Some x = sym (f.none n) ∙ is in cc)
  found_number (y ∷ ys) n x is = elim (cases_eq (num y) n) [
    | inl e ↦ ap num (sym (some_is y x (sym (f.first y ys n e) ∙ is))) ∙ e
    | inr e ↦ found_number ys n x (sym (f.later y ys n e) ∙ is)
  ]

  pub found_among : (xs : List A) (n : ℕ) (x : A) → find xs n ≡ Some x → IsAmong x xs
  unfolding IsAmong
  found_among [] n x is = absurd (let no : None ≡ Some x = sym (f.none n) ∙ is in cc)
  found_among (y ∷ ys) n x is = elim (cases_eq (num y) n) [
    | inl e ↦ inl (some_is y x (sym (f.first y ys n e) ∙ is))
    | inr e ↦ inr (found_among ys n x (sym (f.later y ys n e) ∙ is))
  ]

  pub among_found : (xs : List A) (x : A) → AreRisingBy num xs → IsAmong x xs → find xs (num x) ≡ Some x
  unfolding IsAmong
  among_found [] x up i = absurd i
  among_found (y ∷ ys) x up (inl e) = f.first y ys (num x) (ap num e) ∙ ap (λ (z : A). Some z) e
  among_found (y ∷ ys) x up (inr i) = f.later y ys (num x) (λ same. (let l = among_all (λ z. num y < num z) ys x up.0 i in omega (arith, l, same))) ∙ among_found ys x up.1 i

  pub found_none : (xs : List A) (n : ℕ) → AllByRecursion (λ y. num y ≢ n) xs → find xs n ≡ None
  found_none [] n all = f.none n
  found_none (y ∷ ys) n all = f.later y ys n all.0 ∙ found_none ys n all.1

  none_above : (x : A) (xs : List A) → AllByRecursion (λ y. num x < num y) xs → AllByRecursion (λ y. num y ≢ num x) xs
  none_above x xs all = all_weaker (λ y. num x < num y) (λ y. num y ≢ num x) (λ y l same. omega (arith, l, same)) xs all

  -- in a list that is filtered
  module _ (keep : A → Bool) where
    filter_by : (x : A) (xs : List A) (q : ℕ) → AllByRecursion (λ y. num x < num y) xs → find (filter keep xs) q ≡ if_kept keep (find xs q) → (c : Bool) → keep x ≡ c → find (cond c (x ∷ filter keep xs) (filter keep xs)) q ≡ if_kept keep (find (x ∷ xs) q)
    filter_by x xs q above rest true is = elim (cases_eq (num x) q) [
      | inl e ↦ f.first x (filter keep xs) q e ∙ sym (ap (if_kept keep) (f.first x xs q e) ∙ ap (λ (v : Bool). if v then Some x else None) is)
      | inr e ↦ f.later x (filter keep xs) q e ∙ (rest ∙ ap (if_kept keep) (sym (f.later x xs q e)))
    ]
    filter_by x xs q above rest false is = elim (cases_eq (num x) q) [
      | inl e ↦ found_none (filter keep xs) q (filter_all (λ y. num y ≢ q) keep xs (subst (λ (n : ℕ). AllByRecursion (λ y. num y ≢ n) xs) e (none_above x xs above))) ∙ sym (ap (if_kept keep) (f.first x xs q e) ∙ ap (λ (v : Bool). if v then Some x else None) is)
      | inr e ↦ rest ∙ ap (if_kept keep) (sym (f.later x xs q e))
    ]

    pub found_kept : (xs : List A) (q : ℕ) → AreRisingBy num xs → find (filter keep xs) q ≡ if_kept keep (find xs q)
    found_kept [] q up = f.none q ∙ sym (ap (if_kept keep) (f.none q))
    found_kept (x ∷ xs) q up = filter_by x xs q up.0 (found_kept xs q up.1) (keep x) refl

-- ---- how many are found

pub counted_same : {A : Type 0} (g h : ℕ → Option A) → ((m : ℕ) → g m ≡ h m) → (n : ℕ) → count_below g n ≡ count_below h n
counted_same g h same n = λ i. count_below (λ m. same m i) n

module _ {A : Type 0} where
  counts : (g : ℕ → Option A) (n : ℕ) (v : Bool) → is_some (g n) ≡ v → count_below g (suc n) ≡ (if v then suc (count_below g n) else count_below g n)
  unfolding count_below
  counts g n v is = ap (λ (w : Bool). if w then suc (count_below g n) else count_below g n) is

  counted_none : (g : ℕ → Option A) → ((m : ℕ) → g m ≡ None) → (n : ℕ) → count_below g n ≡ 0
  unfolding count_below
  counted_none g none zero = refl
  counted_none g none (suc n) = counts g n false (ap is_some (none n)) ∙ counted_none g none n

  -- one more of them at the number a
  more_by : (g h : ℕ → Option A) (n : ℕ) (v : Bool) → is_some (h n) ≡ v → g n ≡ h n → count_below g n ≡ suc (count_below h n) → count_below g (suc n) ≡ suc (count_below h (suc n))
  more_by g h n true is same k = counts g n true (ap is_some same ∙ is) ∙ (ap (λ (m : ℕ). suc m) k ∙ ap (λ (m : ℕ). suc m) (sym (counts h n true is)))
  more_by g h n false is same k = counts g n false (ap is_some same ∙ is) ∙ (k ∙ ap (λ (m : ℕ). suc m) (sym (counts h n false is)))

  same_by : (g h : ℕ → Option A) (n : ℕ) (v : Bool) → is_some (h n) ≡ v → g n ≡ h n → count_below g n ≡ count_below h n → count_below g (suc n) ≡ count_below h (suc n)
  same_by g h n true is same k = counts g n true (ap is_some same ∙ is) ∙ (ap (λ (m : ℕ). suc m) k ∙ sym (counts h n true is))
  same_by g h n false is same k = counts g n false (ap is_some same ∙ is) ∙ (k ∙ sym (counts h n false is))

  pub counted_one : (g h : ℕ → Option A) (a : ℕ) → is_some (g a) ≡ true → is_some (h a) ≡ false → ((m : ℕ) → a ≢ m → g m ≡ h m) → (n : ℕ) → (a < n → count_below g n ≡ suc (count_below h n)) × (n ≤ a → count_below g n ≡ count_below h n)
  unfolding count_below
  counted_one g h a some none same zero = ((λ l. absurd (omega (arith, l))), (λ l. refl))
  counted_one g h a some none same (suc n) =
      let k = counted_one g h a some none same n in
      elim (cases_eq a n) [
        | inl e ↦ (
          (λ l. counts g n true (ap (λ (m : ℕ). is_some (g m)) (sym e) ∙ some) ∙ (ap (λ (m : ℕ). suc m) (k.1 (omega (arith, e))) ∙ ap (λ (m : ℕ). suc m) (sym (counts h n false (ap (λ (m : ℕ). is_some (h m)) (sym e) ∙ none))))),
          (λ l. absurd (omega (arith, l, e))),
        )
        | inr e ↦ (
          (λ l. more_by g h n (is_some (h n)) refl (same n e) (k.0 (omega (arith, l, e)))),
          (λ l. same_by g h n (is_some (h n)) refl (same n e) (k.1 (omega (arith, l)))),
        )
      ]

pub counted_found : {A : Type 0} (num : A → ℕ) (find : List A → ℕ → Option A) (f : IsFinder num find) (xs : List A) → AreRisingBy num xs → (n : ℕ) → AllByRecursion (λ x. num x < n) xs → count_below (find xs) n ≡ length xs
counted_found num find f [] up n all = counted_none (find []) f.none n
counted_found num find f (x ∷ xs) up n all =
    let one : count_below (find (x ∷ xs)) n ≡ suc (count_below (find xs) n) = (counted_one (find (x ∷ xs)) (find xs) (num x) (ap is_some (f.first x xs (num x) refl)) (ap is_some (found_none num find f xs (num x) (none_above num find f x xs up.0))) (λ m other. f.later x xs m other) n).0 all.0 in
    let rest = counted_found num find f xs up.1 n all.1 in
    omega (arith, one, rest)
