-- Numbers that differ, in any order.
use Rattle.std.proofs.Common.{◌≡◌, ◌≢◌, ◌≤◌, ◌+◌, ℕ, zero, suc, Bool, true, false, List, [], ◌∷◌, ◌++◌, map, refl, sym, ap, subst, ◌∙◌, arith, inl, inr}
use Rattle.std.specs.Prelude.{◌==◌, ◌||◌, if◌then◌else◌, IsPermutation}
use Rattle.std.specs.List.{AllByRecursion, list_any, sum_by}
use Rattle.std.proofs.lemmas.Bool.{cases_Bool, cases_eq, eq-eqb, eqb-true, ne_eqb, false≢true}
use Rattle.std.proofs.lemmas.List.Elements.{All-from_recursion, recursion_from_All}
use Rattle.std.proofs.lemmas.List.Sorted.{All-permutation, IsPermutation-sym, sum_by-IsPermutation}
use Rattle.std.proofs.lemmas.List.Sums.{sum_by-cons}
use Rattle.px_outside.specs.Parts.{AreDistinct, HasNone}
use Rattle.px_recovery.specs.Folder.{IsNumberAmong}
use Rattle.px_folder.specs.Drawn.{same_number}

-- ---- a number that is among others

none_among : (n : ℕ) (l : List ℕ) → HasNone same_number n l → list_any (λ m. m == n) l ≡ false
none_among n [] none = refl
none_among n (m ∷ l) none = ap (λ (b : Bool). b || list_any (λ k. k == n) l) (ne_eqb m n none.0) ∙ none_among n l none.1

among_none : (n : ℕ) (l : List ℕ) → list_any (λ m. m == n) l ≡ false → HasNone same_number n l
among_none n [] is = tt
among_none n (m ∷ l) is = elim (cases_eq m n) [
  | inl same ↦ absurd (false≢true (sym is ∙ ap (λ (b : Bool). b || list_any (λ k. k == n) l) (eq-eqb m n same)))
  | inr other ↦ (other, among_none n l (sym (ap (λ (b : Bool). b || list_any (λ k. k == n) l) (ne_eqb m n other)) ∙ is))
]

pub among_permuted : (n : ℕ) (l k : List ℕ) → IsPermutation l k → IsNumberAmong n l → IsNumberAmong n k
among_permuted n l k moved is = elim (cases_Bool (list_any (λ m. m == n) k)) [
  | inl there ↦ there
  | inr not ↦ absurd (
      let none = All-from_recursion (λ m. m ≢ n) k (among_none n k not) in
      let none_there = recursion_from_All (λ m. m ≢ n) l (All-permutation (λ m. m ≢ n) k l (IsPermutation-sym l k moved) none) in
      false≢true (sym (none_among n l none_there) ∙ is))
]

-- ---- how often a number stands

abbrev one_at : ℕ → ℕ → ℕ
one_at n m = if m == n then 1 else 0

abbrev count : ℕ → List ℕ → ℕ
count n l = sum_by (one_at n) l

count_here : (n m : ℕ) (l : List ℕ) → m ≡ n → count n (m ∷ l) ≡ 1 + count n l
count_here n m l same = sum_by-cons (one_at n) m l ∙ ap (λ (b : Bool). (if b then 1 else 0) + count n l) (eq-eqb m n same)

count_other : (n m : ℕ) (l : List ℕ) → m ≢ n → count n (m ∷ l) ≡ count n l
count_other n m l other = (let e = sum_by-cons (one_at n) m l in let z : one_at n m ≡ 0 = ap (λ (b : Bool). if b then 1 else 0) (ne_eqb m n other) in omega arith)

count_none : (n : ℕ) (l : List ℕ) → HasNone same_number n l → count n l ≡ 0
count_none n [] none = refl
count_none n (m ∷ l) none = count_other n m l none.0 ∙ count_none n l none.1

none_counted : (n : ℕ) (l : List ℕ) → count n l ≡ 0 → HasNone same_number n l
none_counted n [] is = tt
none_counted n (m ∷ l) is = elim (cases_eq m n) [
  | inl same ↦ absurd (let e = count_here n m l same in omega arith)
  | inr other ↦ (other, none_counted n l (sym (count_other n m l other) ∙ is))
]

counted_once : (l : List ℕ) → AreDistinct same_number l → (n : ℕ) → count n l ≤ 1
counted_once [] once n = omega arith
counted_once (m ∷ l) once n = elim (cases_eq m n) [
  | inl same ↦ (let e = count_here n m l same in let z = count_none n l (subst (λ (k : ℕ). HasNone same_number k l) same once.0) in omega arith)
  | inr other ↦ (let e = count_other n m l other in let r = counted_once l once.1 n in omega arith)
]

once_counted : (l : List ℕ) → ((n : ℕ) → count n l ≤ 1) → AreDistinct same_number l
once_counted [] few = tt
once_counted (m ∷ l) few = (
  none_counted m l (let e = count_here m m l refl in let f = few m in omega arith),
  once_counted l (λ n. elim (cases_eq m n) [
    | inl same ↦ (let e = count_here n m l same in let f = few n in omega arith)
    | inr other ↦ (let e = count_other n m l other in let f = few n in omega arith)
  ]),
)

pub once_permuted : (l k : List ℕ) → IsPermutation l k → AreDistinct same_number l → AreDistinct same_number k
once_permuted l k moved once = once_counted k (λ n. (let e = sum_by-IsPermutation (one_at n) l k moved in let f = counted_once l once n in omega arith))
