-- The place of a cell, looked for from the end of a sorted list.
use Rattle.std.proofs.Common.{◌≡◌, ℕ, ◌+◌, ◌<◌, ◌≤◌, List, [], ◌∷◌, ◌++◌, length, take, drop, get_or, sym, ◌∙◌, ap, subst, inl, inr, arith, length-take-le, length-drop, take-append-drop}
use Rattle.std.specs.List.{AllByRecursion}
use Rattle.std.proofs.lemmas.List.{drop-drop, drop-take, take_more, take-take}
use Rattle.px_cells.specs.CellData.{CellData}
use Rattle.px_cells.specs.Order.{Below, IsAscending}
use Rattle.px_cells.proofs.Orders.{below_trans}
use Rattle.px_cells.proofs.Among.{after_is_above, all_has, ascending_left, ascending_right, before_is_below, has_all, has_append}
use Rattle.px_memstore.proofs.Lists.{drop_within}
use Rattle.px_memstore.proofs.Placed.{rest_at}

abbrev AllUnder : CellData → List CellData → Type 0
AllUnder c xs = AllByRecursion (λ m. Below m c) xs

abbrev NoneUnder : CellData → List CellData → Type 0
NoneUnder c xs = AllByRecursion (λ m. Below m c → ⊥) xs

joined : (P : CellData → Type 0) (xs ys : List CellData) → AllByRecursion P xs → AllByRecursion P ys → AllByRecursion P (xs ++ ys)
joined P xs ys a b = has_all P (xs ++ ys) (λ m h. elim (has_append xs ys m h) [ inl l ↦ all_has P xs m a l | inr r ↦ all_has P ys m b r ])

pub part_sorted : (xs : List CellData) (k n : ℕ) → IsAscending xs → IsAscending (take n (drop k xs))
part_sorted xs k n a = ascending_left (take n (drop k xs)) (drop n (drop k xs)) (subst IsAscending (sym (take-append-drop n (drop k xs))) (ascending_right (take k xs) (drop k xs) (subst IsAscending (sym (take-append-drop k xs)) a)))

module _ (xs : List CellData) (i : ℕ) (x c : CellData) (a : IsAscending xs) (l : i < length xs) (is : x ≡ get_or xs i x) where
  rest : drop i xs ≡ x ∷ drop (i + 1) xs
  rest = rest_at xs i x l ∙ ap (λ (y : CellData). y ∷ drop (i + 1) xs) (sym is)

  whole : IsAscending (take i xs ++ x ∷ drop (i + 1) xs)
  whole = subst IsAscending (sym (take-append-drop i xs) ∙ ap (λ (y : List CellData). take i xs ++ y) rest) a

  -- no cell behind one that isn't below another is
  pub none_behind : (Below x c → ⊥) → NoneUnder c (drop i xs)
  none_behind n = subst (NoneUnder c) (sym rest) (n, has_all (λ m. Below m c → ⊥) (drop (i + 1) xs) (λ m h b. n (below_trans x m c (after_is_above (take i xs) (drop (i + 1) xs) x m whole h) b)))

  -- all cells up to one that is below another are
  pub all_before : Below x c → AllUnder c (take (i + 1) xs)
  all_before b = subst (AllUnder c) (sym (take_more xs i x l ∙ ap (λ (y : CellData). take i xs ++ y ∷ []) (sym is)))
      (joined (λ m. Below m c) (take i xs) (x ∷ []) (has_all (λ m. Below m c) (take i xs) (λ m h. below_trans m x c (before_is_below (take i xs) (drop (i + 1) xs) x m whole h) b)) (b, tt))

-- the place in a part of the list, with those before the part below the cell and those behind it not
module _ (xs : List CellData) (c : CellData) (k n p r : ℕ) (mid : List CellData) (is : r ≡ k + p) (part : mid ≡ take n (drop k xs)) (inside : k + n ≤ length xs) (within : p ≤ length mid) where
  mid_len : length mid ≡ n
  mid_len = (let d = length-drop k xs in ap (λ (l : List CellData). length l) part ∙ length-take-le n (drop k xs) (omega (arith, d, inside)))

  front : take r xs ≡ take k xs ++ take p mid
  front =
      let low : p ≤ n = (let m = mid_len in omega (arith, m, within)) in
      let less : k ≤ k + p = omega arith in
      ap (λ (q : ℕ). take q xs) is ∙ (sym (take-append-drop k (take (k + p) xs)) ∙ (λ i. take-take k (k + p) xs less i ++ drop-take k p xs i)
      ∙ ap (λ (l : List CellData). take k xs ++ l) (sym (ap (take p) part ∙ take-take p n (drop k xs) low)))

  behind : drop r xs ≡ drop p mid ++ drop (k + n) xs
  behind =
      let all : drop k xs ≡ mid ++ drop (k + n) xs = sym (take-append-drop n (drop k xs)) ∙ (λ i. sym part i ++ drop-drop n k xs i) in
      ap (λ (q : ℕ). drop q xs) is ∙ (sym (drop-drop p k xs) ∙ (ap (drop p) all ∙ drop_within mid (drop (k + n) xs) p within))

  pub near_below : AllUnder c (take k xs) → AllUnder c (take p mid) → AllUnder c (take r xs)
  near_below a b = subst (AllUnder c) (sym front) (joined (λ m. Below m c) (take k xs) (take p mid) a b)

  pub near_from : NoneUnder c (drop p mid) → NoneUnder c (drop (k + n) xs) → NoneUnder c (drop r xs)
  near_from a b = subst (NoneUnder c) (sym behind) (joined (λ m. Below m c → ⊥) (drop p mid) (drop (k + n) xs) a b)
