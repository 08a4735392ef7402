-- Parts of lists, and a part that is put back.
use Rattle.std.proofs.Common.{◌≡◌, ◌≤◌, ◌<◌, ◌+◌, ℕ, zero, suc, List, [], ◌∷◌, ◌++◌, length, take, drop, get_or, set, refl, sym, ap, subst, ◌∙◌, arith, inl, inr}
use Rattle.std.proofs.lemmas.Bool.{cases_eq}
use Rattle.std.proofs.lemmas.List.{drop-set-lt, length-set, take-set, take-set-le, take_more_set, length-append, length-drop, length-take-le}

module _ {A : Type 0} where
  abbrev nil : List A
  nil = []

  drop_none : (n : ℕ) → drop n nil ≡ nil
  drop_none zero = refl
  drop_none (suc n) = refl

  take_none : (n : ℕ) → take n nil ≡ nil
  take_none zero = refl
  take_none (suc n) = refl

  pub drop_drop : (a b : ℕ) (xs : List A) → drop b (drop a xs) ≡ drop (a + b) xs
  drop_drop zero b xs = (let e : b ≡ 0 + b = omega arith in ap (λ (k : ℕ). drop k xs) e)
  drop_drop (suc a) b [] = drop_none b ∙ sym (drop_none (suc a + b))
  drop_drop (suc a) b (x ∷ xs) = (let e : suc (a + b) ≡ suc a + b = omega arith in drop_drop a b xs ∙ ap (λ (k : ℕ). drop k (x ∷ xs)) e)

  pub drop_take : (a b : ℕ) (xs : List A) → drop a (take (a + b) xs) ≡ take b (drop a xs)
  drop_take zero b xs = (let e : 0 + b ≡ b = omega arith in ap (λ (k : ℕ). take k xs) e)
  drop_take (suc a) b [] = ap (drop (suc a)) (take_none (suc a + b)) ∙ (drop_none (suc a) ∙ sym (take_none b))
  drop_take (suc a) b (x ∷ xs) = (let e : suc a + b ≡ suc (a + b) = omega arith in ap (λ (k : ℕ). drop (suc a) (take k (x ∷ xs))) e ∙ drop_take a b xs)

  pub take_split : (a b : ℕ) (xs : List A) → take (a + b) xs ≡ take a xs ++ take b (drop a xs)
  take_split zero b xs = (let e : 0 + b ≡ b = omega arith in ap (λ (k : ℕ). take k xs) e)
  take_split (suc a) b [] = take_none (suc a + b) ∙ sym (take_none b)
  take_split (suc a) b (x ∷ xs) = (let e : suc a + b ≡ suc (a + b) = omega arith in ap (λ (k : ℕ). take k (x ∷ xs)) e ∙ ap (λ (l : List A). x ∷ l) (take_split a b xs))

  take_over : (xs zs : List A) (m : ℕ) → take (length xs + m) (xs ++ zs) ≡ xs ++ take m zs
  take_over [] zs m = (let e : 0 + m ≡ m = omega arith in ap (λ (k : ℕ). take k zs) e)
  take_over (x ∷ xs) zs m = (let e : length (x ∷ xs) + m ≡ suc (length xs + m) = omega arith in ap (λ (k : ℕ). take k (x ∷ (xs ++ zs))) e ∙ ap (λ (l : List A). x ∷ l) (take_over xs zs m))

  drop_over : (xs zs : List A) (m : ℕ) → drop (length xs + m) (xs ++ zs) ≡ drop m zs
  drop_over [] zs m = (let e : 0 + m ≡ m = omega arith in ap (λ (k : ℕ). drop k zs) e)
  drop_over (x ∷ xs) zs m = (let e : length (x ∷ xs) + m ≡ suc (length xs + m) = omega arith in ap (λ (k : ℕ). drop k (x ∷ (xs ++ zs))) e ∙ drop_over xs zs m)

  pub take_within : (xs ys : List A) (n : ℕ) → n ≤ length xs → take n (xs ++ ys) ≡ take n xs
  take_within xs ys zero l = refl
  take_within [] ys (suc n) l = absurd (omega arith)
  take_within (x ∷ xs) ys (suc n) l = ap (λ (l : List A). x ∷ l) (take_within xs ys n (omega arith))

  pub drop_past : (n : ℕ) (xs : List A) → length xs ≤ n → drop n xs ≡ []
  drop_past zero [] le = refl
  drop_past zero (x ∷ xs) le = absurd (omega arith)
  drop_past (suc n) [] le = refl
  drop_past (suc n) (x ∷ xs) le = drop_past n xs (omega arith)

  get_none : (k : ℕ) (d : A) → get_or nil k d ≡ d
  get_none zero d = refl
  get_none (suc k) d = refl

  pub get_from : (i k : ℕ) (xs : List A) (d : A) → get_or (drop i xs) k d ≡ get_or xs (i + k) d
  get_from zero k xs d = (let e : k ≡ 0 + k = omega arith in ap (λ (j : ℕ). get_or xs j d) e)
  get_from (suc i) k [] d = get_none k d ∙ sym (get_none (suc i + k) d)
  get_from (suc i) k (x ∷ xs) d = (let e : suc (i + k) ≡ suc i + k = omega arith in get_from i k xs d ∙ ap (λ (j : ℕ). get_or (x ∷ xs) j d) e)

  -- where two are swapped, the later one is at the earlier place, and those behind both stay
  module _ (xs ys : List A) (n i : ℕ) (le : n ≤ i) (inside : i < length xs) (d : A) (swapped : ys ≡ set (set xs n (get_or xs i d)) i (get_or xs n d)) where
    pub swap_front : take (n + 1) ys ≡ take n xs ++ get_or xs i d ∷ []
    swap_front = ap (take (n + 1)) swapped ∙ elim (cases_eq n i) [
      | inl e ↦ subst (λ (j : ℕ). take (n + 1) (set (set xs n (get_or xs j d)) j (get_or xs n d)) ≡ take n xs ++ get_or xs j d ∷ []) e
          (take_more_set (set xs n (get_or xs n d)) n (get_or xs n d) (let s = length-set xs n (get_or xs n d) in omega arith) ∙ ap (λ (l : List A). l ++ get_or xs n d ∷ []) (take-set xs n (get_or xs n d)))
      | inr e ↦ take-set-le (n + 1) (set xs n (get_or xs i d)) i (get_or xs n d) (omega arith) ∙ take_more_set xs n (get_or xs i d) (omega arith)
    ]

    pub swap_behind : drop (i + 1) ys ≡ drop (i + 1) xs
    swap_behind = ap (drop (i + 1)) swapped ∙ (drop-set-lt (i + 1) (set xs n (get_or xs i d)) i (get_or xs n d) (omega arith) ∙ drop-set-lt (i + 1) xs n (get_or xs i d) (omega arith))

  -- a part from a place on is put back
  module _ (all part new : List A) (n len : ℕ) (within : n + len ≤ length all) (long : length part ≡ len) (is : new ≡ take n all ++ (part ++ drop len (drop n all))) where
    front_long : length (take n all) ≡ n
    front_long = length-take-le n all (omega arith)

    pub put_front : (m : ℕ) → m ≤ len → take (n + m) new ≡ take n all ++ take m part
    put_front m le =
        ap (take (n + m)) is ∙ subst (λ (k : ℕ). take (k + m) (take n all ++ (part ++ drop len (drop n all))) ≡ take n all ++ take m (part ++ drop len (drop n all))) front_long (take_over (take n all) (part ++ drop len (drop n all)) m)
        ∙ ap (λ (l : List A). take n all ++ l) (take_within part (drop len (drop n all)) m (omega arith))

    pub put_behind : drop (n + len) new ≡ drop (n + len) all
    put_behind =
        ap (drop (n + len)) is ∙ subst (λ (k : ℕ). drop (k + len) (take n all ++ (part ++ drop len (drop n all))) ≡ drop len (part ++ drop len (drop n all))) front_long (drop_over (take n all) (part ++ drop len (drop n all)) len)
        ∙ subst (λ (k : ℕ). drop k (part ++ drop len (drop n all)) ≡ drop len (drop n all)) (omega arith) (drop_over part (drop len (drop n all)) 0)
        ∙ drop_drop n len all

    pub put_long : length new ≡ length all
    put_long =
        (let a = ap length is in let b = length-append (take n all) (part ++ drop len (drop n all)) in let c = length-append part (drop len (drop n all)) in let e = length-drop n all in let f = length-drop len (drop n all) in let g = front_long in omega arith)
