-- Lists in which nothing stands twice, a first element at a time.
use Rattle.std.proofs.Common.{◌≡◌, ℕ, zero, suc, ◌-◌, ◌<◌, ◌≤◌, Bool, true, false, ◌↔◌, IsTrue, List, [], ◌∷◌, length, drop, take, get_or, refl, ap, sym, ◌∙◌, subst, arith}
use Rattle.std.specs.Prelude.{nat_eq, not, ◌&&◌}
use Rattle.std.specs.List.{list_any}
use Rattle.std.proofs.lemmas.Bool.{both_ways, eq-eqb}
use Rattle.std.proofs.lemmas.List.{take_all}
use Rattle.std.proofs.lemmas.List.Folds.{list_any_at}
use Rattle.px_rows.specs.Keys.{are_distinct, is_part}
use Rattle.px_tables.specs.declared.table.KeyPlace.{KeyPlace}
use Rattle.px_cellshapes.proofs.Tests.{place_among}

-- the slice behind the first element
abbrev pub behind : {X : Type 0} → List X → List X
behind xs = take (length xs - 1) (drop 1 xs)

behind_is : {X : Type 0} (x : X) (xs : List X) → behind (x ∷ xs) ≡ xs
behind_is x xs = take_all (length (x ∷ xs) - 1) xs (omega arith)

-- 1. Places

pub distinct_none : (xs : List KeyPlace) → length xs < 1 → true ≡ are_distinct xs
unfolding are_distinct
distinct_none [] l = refl
distinct_none (x ∷ xs) l = absurd (omega arith)

pub distinct_more : (xs : List KeyPlace) (d : KeyPlace) → 1 ≤ length xs → is_part (behind xs) (get_or xs 0 d).column ≡ false → are_distinct (behind xs) ≡ are_distinct xs
unfolding are_distinct
distinct_more [] d l h = absurd (omega arith)
distinct_more (x ∷ xs) d l h =
    let n : is_part xs x.column ≡ false = ap (λ (ys : List KeyPlace). is_part ys x.column) (sym (behind_is x xs)) ∙ h in
    ap are_distinct (behind_is x xs) ∙ λ i. not (sym n i) && are_distinct xs

pub distinct_not : (xs : List KeyPlace) (d : KeyPlace) → 1 ≤ length xs → is_part (behind xs) (get_or xs 0 d).column ≡ true → false ≡ are_distinct xs
unfolding are_distinct
distinct_not [] d l h = absurd (omega arith)
distinct_not (x ∷ xs) d l h =
    let n : is_part xs x.column ≡ true = ap (λ (ys : List KeyPlace). is_part ys x.column) (sym (behind_is x xs)) ∙ h in
    λ i. not (sym n i) && are_distinct xs

-- 2. Columns

abbrev pub IsOnce : List ℕ → Type 0
IsOnce xs = (c d : ℕ) → c < length xs → d < length xs → get_or xs c 0 ≡ get_or xs d 0 → c ≡ d

abbrev pub is_in : ℕ → List ℕ → Bool
is_in q xs = list_any (λ c. nat_eq c q) xs

once_behind : (x : ℕ) (xs : List ℕ) → is_in x xs ≡ false → IsOnce xs → IsOnce (x ∷ xs)
once_behind x xs n h zero zero l m e = refl
once_behind x xs n h zero (suc d) l m e = absurd (both_ways (is_in x xs) n (list_any_at (λ c. nat_eq c x) xs d 0 (omega arith) (eq-eqb (get_or xs d 0) x (sym e))))
once_behind x xs n h (suc c) zero l m e = absurd (both_ways (is_in x xs) n (list_any_at (λ z. nat_eq z x) xs c 0 (omega arith) (eq-eqb (get_or xs c 0) x e)))
once_behind x xs n h (suc c) (suc d) l m e = ap suc (h c d (omega arith) (omega arith) e)

once_first : (x : ℕ) (xs : List ℕ) → IsOnce (x ∷ xs) → IsOnce xs
once_first x xs o c e p q z = (let s : suc c ≡ suc e = o (suc c) (suc e) (omega arith) (omega arith) z in omega arith)

pub once_more : (xs : List ℕ) (d : ℕ) (b : Bool) → 1 ≤ length xs → is_in (get_or xs 0 d) (behind xs) ≡ false → IsTrue b ↔ IsOnce (behind xs) → IsTrue b ↔ IsOnce xs
once_more [] d b l n h = absurd (omega arith)
once_more (x ∷ xs) d b l n h = (
  λ t. once_behind x xs (ap (is_in x) (sym (behind_is x xs)) ∙ n) (subst IsOnce (behind_is x xs) (h.0 t)),
  λ o. h.1 (subst IsOnce (sym (behind_is x xs)) (once_first x xs o)),
)

pub once_not : (xs : List ℕ) (d : ℕ) → 1 ≤ length xs → is_in (get_or xs 0 d) (behind xs) ≡ true → IsOnce xs → ⊥
once_not [] d l h o = absurd (omega arith)
once_not (x ∷ xs) d l h o = (let at = place_among xs x (ap (is_in x) (sym (behind_is x xs)) ∙ h) in let m = at.1 in let s : 0 ≡ suc at.0 = o 0 (suc at.0) (omega arith) (omega arith) (sym at.2) in absurd (omega arith))
