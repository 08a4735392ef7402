-- The places of cells in a sorted list, and the steps that bring the cells there.
use Rattle.std.proofs.Common.{◌≡◌, ℕ, zero, suc, ◌+◌, ◌-◌, ◌<◌, ◌≤◌, ◌⊎◌, List, [], ◌∷◌, ◌++◌, length, take, drop, get_or, refl, sym, ◌∙◌, ap, subst, inl, inr, arith, length-take-le, length-drop, take-append-drop}
use Rattle.std.specs.Prelude.{slice_set}
use Rattle.std.specs.List.{AllByRecursion}
use Rattle.std.proofs.lemmas.List.{drop-drop, drop-take, get_or-drop, get_or-take, length-set, take-take}
use Rattle.px_cells.specs.CellData.{CellData}
use Rattle.px_cells.specs.Among.{Has}
use Rattle.px_cells.specs.Order.{Below, SamePlace}
use Rattle.px_cells.specs.declared.kind.CellKind.TheVariants.{Put}
use Rattle.px_cells.proofs.Orders.{below_left, below_trans}
use Rattle.px_cells.proofs.Among.{all_has, has_all, has_left, has_right}
use Rattle.px_cells.proofs.Sights.{place_back}
use Rattle.px_memstore.specs.inner.Merging.{ArePlaces, BelongsAt}

-- So many cells from `end` on come before those in front of them that aren't below the last of them: these stand from `at` on.
pub record IsTurned (old new : List CellData) (end rest at : ℕ) : Type 0 where
  pub within : at ≤ end
  pub below : (d : CellData) → AllByRecursion (λ m. Below m (get_or old (end + rest - 1) d)) (take at old)
  pub from : (d : CellData) → AllByRecursion (λ m. Below m (get_or old (end + rest - 1) d) → ⊥) (drop at (take end old))
  pub turned : new ≡ take at old ++ (take rest (drop end old) ++ (drop at (take end old) ++ drop (end + rest) old))

-- ---- cells and their places

pub places_len : (xs : List CellData) (b : ℕ) (cs : List CellData) (ps : List ℕ) → ArePlaces xs b cs ps → length cs ≡ length ps
places_len xs b [] [] a = refl
places_len xs b [] (p ∷ ps) a = absurd a
places_len xs b (c ∷ cs) [] a = absurd a
places_len xs b (c ∷ cs) (p ∷ ps) a = ap suc (places_len xs b cs ps a.1)

pub places_to : (xs ys : List CellData) (b b2 : ℕ) (cs : List CellData) (ps : List ℕ) → ((c : CellData) (p : ℕ) → Has cs c → BelongsAt xs b c p → BelongsAt ys b2 c p) → ArePlaces xs b cs ps → ArePlaces ys b2 cs ps
places_to xs ys b b2 [] [] f a = tt
places_to xs ys b b2 [] (p ∷ ps) f a = a
places_to xs ys b b2 (c ∷ cs) [] f a = a
places_to xs ys b b2 (c ∷ cs) (p ∷ ps) f a = (f c p (inl refl) a.0, places_to xs ys b b2 cs ps (λ d q h. f d q (inr h)) a.1)

pub places_take : (xs : List CellData) (b : ℕ) (cs : List CellData) (ps : List ℕ) (n : ℕ) → ArePlaces xs b cs ps → ArePlaces xs b (take n cs) (take n ps)
places_take xs b cs ps zero a = tt
places_take xs b [] [] (suc n) a = tt
places_take xs b [] (p ∷ ps) (suc n) a = absurd a
places_take xs b (c ∷ cs) [] (suc n) a = absurd a
places_take xs b (c ∷ cs) (p ∷ ps) (suc n) a = (a.0, places_take xs b cs ps n a.1)

pub places_drop : (xs : List CellData) (b : ℕ) (cs : List CellData) (ps : List ℕ) (n : ℕ) → ArePlaces xs b cs ps → ArePlaces xs b (drop n cs) (drop n ps)
places_drop xs b cs ps zero a = a
places_drop xs b [] [] (suc n) a = tt
places_drop xs b [] (p ∷ ps) (suc n) a = absurd a
places_drop xs b (c ∷ cs) [] (suc n) a = absurd a
places_drop xs b (c ∷ cs) (p ∷ ps) (suc n) a = places_drop xs b cs ps n a.1

place_at : (xs : List CellData) (b : ℕ) (cs : List CellData) (ps : List ℕ) (k : ℕ) (d : CellData) → k < length cs → ArePlaces xs b cs ps → BelongsAt xs b (get_or cs k d) (get_or ps k 0)
place_at xs b [] ps k d l a = absurd (omega (arith, l))
place_at xs b (c ∷ cs) [] k d l a = absurd a
place_at xs b (c ∷ cs) (p ∷ ps) zero d l a = a.0
place_at xs b (c ∷ cs) (p ∷ ps) (suc k) d l a = place_at xs b cs ps k d (omega (arith, l)) a.1

-- ---- the same cells in a part of the list

pub nat_cases : (m n : ℕ) → (m < n) ⊎ (n ≤ m)
nat_cases m zero = inr (omega arith)
nat_cases zero (suc n) = inl (omega arith)
nat_cases (suc m) (suc n) = elim (nat_cases m n) [ inl l ↦ inl (omega (arith, l)) | inr l ↦ inr (omega (arith, l)) ]

has_taken : (xs : List CellData) (i n : ℕ) (d : CellData) → i < n → i < length xs → Has (take n xs) (get_or xs i d)
has_taken xs i zero d l k = absurd (omega (arith, l))
has_taken [] i (suc n) d l k = absurd (omega (arith, k))
has_taken (x ∷ xs) zero (suc n) d l k = inl refl
has_taken (x ∷ xs) (suc i) (suc n) d l k = inr (has_taken xs i n d (omega (arith, l)) (omega (arith, k)))

pub has_dropped : (xs : List CellData) (i : ℕ) (d : CellData) → i < length xs → Has (drop i xs) (get_or xs i d)
has_dropped [] i d k = absurd (omega (arith, k))
has_dropped (x ∷ xs) zero d k = inl refl
has_dropped (x ∷ xs) (suc i) d k = has_dropped xs i d (omega (arith, k))

pub in_taken : (xs : List CellData) (n : ℕ) (m : CellData) → Has (take n xs) m → Has xs m
in_taken xs n m h = subst (λ (l : List CellData). Has l m) (take-append-drop n xs) (has_left (take n xs) (drop n xs) m h)

pub in_dropped : (xs : List CellData) (n : ℕ) (m : CellData) → Has (drop n xs) m → Has xs m
in_dropped xs n m h = subst (λ (l : List CellData). Has l m) (take-append-drop n xs) (has_right (take n xs) (drop n xs) m h)

-- of two cells, the one that isn't above the other doesn't belong behind it
place_order : (xs : List CellData) (q at : ℕ) (c e : CellData) → q ≤ length xs → (c ≡ e) ⊎ Below c e → AllByRecursion (λ m. Below m c) (take q xs) → AllByRecursion (λ m. Below m e → ⊥) (drop at xs) → q ≤ at
place_order xs q at c e l o below from = elim (nat_cases at q) [
  | inl k ↦ (let x = get_or xs at c in
      let b : Below x c = all_has (λ m. Below m c) (take q xs) x below (has_taken xs at q c k (omega (arith, k, l))) in
      let n : Below x e → ⊥ = all_has (λ m. Below m e → ⊥) (drop at xs) x from (has_dropped xs at c (omega (arith, k, l))) in
      elim o [ inl s ↦ absurd (n (subst (λ (z : CellData). Below x z) s b)) | inr s ↦ absurd (n (below_trans x c e b s)) ])
  | inr k ↦ k
]

pub left_place : (xs : List CellData) (b at : ℕ) (e c : CellData) (p : ℕ) → at ≤ length xs → AllByRecursion (λ m. Below m e → ⊥) (drop at xs) → (c ≡ e) ⊎ Below c e → BelongsAt xs b c p → BelongsAt (take at xs) b c p
left_place xs b at e c p l from o w =
    let low : w.at ≤ at = place_order xs w.at at c e w.within o w.below from in
    let cut : drop w.at (take at xs) ≡ take (at - w.at) (drop w.at xs) = ap (λ (n : ℕ). drop w.at (take n xs)) (rest w.at low) ∙ drop-take w.at (at - w.at) xs in
    record {
      at = w.at;
      is = w.is;
      within = (let n = length-take-le at xs l in omega (arith, n, low));
      below = subst (λ (l : List CellData). AllByRecursion (λ m. Below m c) l) (sym (take-take w.at at xs low)) w.below;
      from = has_all (λ m. Below m c → ⊥) (drop w.at (take at xs)) (λ m h. all_has (λ m. Below m c → ⊥) (drop w.at xs) m w.from (in_taken (drop w.at xs) (at - w.at) m (subst (λ (l : List CellData). Has l m) cut h)));
    }
  where
    rest : (q : ℕ) → q ≤ at → at ≡ q + (at - q)
    rest q h = omega (arith, h)

pub right_place : (xs : List CellData) (b at : ℕ) (e c : CellData) (p : ℕ) → at ≤ length xs → AllByRecursion (λ m. Below m e) (take at xs) → Below e c → BelongsAt xs b c p → BelongsAt (drop at xs) (b + at) c p
right_place xs b at e c p l below o w =
    let low : at ≤ w.at = place_order xs at w.at e c l (inr o) below w.from in
    let k = w.is in
    let n = w.within in
    record {
      at = w.at - at;
      is = omega (arith, k, low);
      within = (let d = length-drop at xs in omega (arith, d, n, low));
      below = has_all (λ m. Below m c) (take (w.at - at) (drop at xs)) (λ m h. all_has (λ m. Below m c) (take w.at xs) m w.below (in_dropped (take w.at xs) at m (subst (λ (l : List CellData). Has l m) (sym (front w.at low)) h)));
      from = subst (λ (l : List CellData). AllByRecursion (λ m. Below m c → ⊥) l) (sym (back w.at low)) w.from;
    }
  where
    rest : (q : ℕ) → at ≤ q → q ≡ at + (q - at)
    rest q h = omega (arith, h)

    front : (q : ℕ) → at ≤ q → drop at (take q xs) ≡ take (q - at) (drop at xs)
    front q h = ap (λ (n : ℕ). drop at (take n xs)) (rest q h) ∙ drop-take at (q - at) xs

    back : (q : ℕ) → at ≤ q → drop (q - at) (drop at xs) ≡ drop q xs
    back q h = drop-drop (q - at) at xs ∙ ap (λ (n : ℕ). drop n xs) (sym (rest q h))

-- ---- a cell of the list is replaced by one of its place

set_take : (P : CellData → Type 0) (xs : List CellData) (i q : ℕ) (x : CellData) → (P (get_or xs i x) → P x) → AllByRecursion P (take q xs) → AllByRecursion P (take q (slice_set xs i x))
set_take P xs i zero x f a = tt
set_take P [] i (suc q) x f a = a
set_take P (y ∷ xs) zero (suc q) x f a = (f a.0, a.1)
set_take P (y ∷ xs) (suc i) (suc q) x f a = (a.0, set_take P xs i q x f a.1)

pub set_drop : (P : CellData → Type 0) (xs : List CellData) (i q : ℕ) (x : CellData) → (P (get_or xs i x) → P x) → AllByRecursion P (drop q xs) → AllByRecursion P (drop q (slice_set xs i x))
set_drop P [] i q x f a = a
set_drop P (y ∷ xs) zero zero x f a = (f a.0, a.1)
set_drop P (y ∷ xs) (suc i) zero x f a = (a.0, set_drop P xs i zero x f a.1)
set_drop P (y ∷ xs) zero (suc q) x f a = a
set_drop P (y ∷ xs) (suc i) (suc q) x f a = set_drop P xs i q x f a

pub places_set : (xs : List CellData) (i : ℕ) (x : CellData) (cs : List CellData) (ps : List ℕ) → SamePlace (get_or xs i x) x → ArePlaces xs 0 cs ps → ArePlaces (slice_set xs i x) 0 cs ps
places_set xs i x cs ps s a = places_to xs (slice_set xs i x) 0 0 cs ps (λ c p h w. record {
  at = w.at;
  is = w.is;
  within = (let n = length-set xs i x in let k = w.within in omega (arith, n, k));
  below = set_take (λ m. Below m c) xs i w.at x (λ b. below_left (get_or xs i x) x c s b) w.below;
  from = set_drop (λ m. Below m c → ⊥) xs i w.at x (λ n b. n (below_left x (get_or xs i x) c (place_back (get_or xs i x) x s) b)) w.from;
}) a

-- ---- the place of the last of them

any_cell : CellData
any_cell = record { key = []; qualifier = 0; stamp = 0; kind = Put; value = [] }

module _ (old : List CellData) (end rest before : ℕ) (ps : List ℕ) (some : 0 < rest) (inside : end + rest ≤ length old) (places : ArePlaces (take end old) before (take rest (drop end old)) (take rest ps)) where
  back_len : length (take rest (drop end old)) ≡ rest
  back_len = (let d = length-drop end old in length-take-le rest (drop end old) (omega (arith, d, inside)))

  last_is : (d : CellData) → get_or (take rest (drop end old)) (rest - 1) d ≡ get_or old (end + rest - 1) d
  last_is d = get_or-take rest (drop end old) (rest - 1) d less ∙ (get_or-drop end old (rest - 1) d ∙ ap (λ (n : ℕ). get_or old n d) same)
    where
      less : rest - 1 < rest
      less = omega (arith, some)

      same : end + (rest - 1) ≡ end + rest - 1
      same = omega (arith, some)

  value_is : get_or (take rest ps) (rest - 1) 0 ≡ get_or ps (rest - 1) 0
  value_is = get_or-take rest ps (rest - 1) 0 less
    where
      less : rest - 1 < rest
      less = omega (arith, some)

  last_place : (d : CellData) → BelongsAt (take end old) before (get_or old (end + rest - 1) d) (get_or ps (rest - 1) 0)
  last_place d =
      let w = place_at (take end old) before (take rest (drop end old)) (take rest ps) (rest - 1) d (omega (arith, some, back_len)) places in
      subst (λ (p : ℕ). BelongsAt (take end old) before (get_or old (end + rest - 1) d) p) value_is (subst (λ (c : CellData). BelongsAt (take end old) before c (get_or (take rest ps) (rest - 1) 0)) (last_is d) w)

  front_len : length (take end old) ≡ end
  front_len = length-take-le end old (omega (arith, inside))

  pub place_from : before ≤ get_or ps (rest - 1) 0
  place_from = (let w = last_place any_cell in let e = w.is in omega (arith, e))

  pub place_within : get_or ps (rest - 1) 0 - before ≤ end
  place_within = (let w = last_place any_cell in let e = w.is in let l = w.within in omega (arith, e, l, front_len))

  pub turned_at : (new : List CellData) → let at = get_or ps (rest - 1) 0 - before in new ≡ take at old ++ (take rest (drop end old) ++ (drop at (take end old) ++ drop (end + rest) old)) → IsTurned old new end rest at
  turned_at new is = record {
    within = place_within;
    below = λ d. (let w = last_place d in let e = w.is in let l = w.within in
        subst (λ (l : List CellData). AllByRecursion (λ m. Below m (get_or old (end + rest - 1) d)) l) (front w.at (omega (arith, l, front_len)) (omega (arith, e))) w.below);
    from = λ d. (let w = last_place d in let e = w.is in
        subst (λ (n : ℕ). AllByRecursion (λ m. Below m (get_or old (end + rest - 1) d) → ⊥) (drop n (take end old))) (here w.at e) w.from);
    turned = is;
  }
    where
      here : (q : ℕ) → get_or ps (rest - 1) 0 ≡ before + q → q ≡ get_or ps (rest - 1) 0 - before
      here q e = omega (arith, e)

      front : (q : ℕ) → q ≤ end → q ≡ get_or ps (rest - 1) 0 - before → take q (take end old) ≡ take (get_or ps (rest - 1) 0 - before) old
      front q l e = take-take q end old l ∙ ap (λ (n : ℕ). take n old) e
