-- What was read of the region of a number.
use Rattle.std.proofs.Common.{◌≡◌, ◌≢◌, ℕ, Bool, true, false, List, [], ◌∷◌, map, refl, sym, ap, subst, ◌∙◌, inl, inr}
use Rattle.std.specs.Prelude.{◌==◌, ◌||◌, if◌then◌else◌, IsPermutation}
use Rattle.std.specs.List.{All, AllByRecursion, list_any}
use Rattle.std.proofs.lemmas.Bool.{cases_Bool, cases_eq, eq-eqb, ne_eqb, false≢true}
use Rattle.std.proofs.lemmas.List.Elements.{All-from_recursion, recursion_from_All}
use Rattle.std.proofs.lemmas.List.Sorted.{All-permutation, IsPermutation-sym}
use Rattle.px_outside.specs.Parts.{AreDistinct, HasNone}
use Rattle.px_region.specs.Region.{RegionData, data_of}
use Rattle.px_region.specs.declared.region.Region.{Region}
use Rattle.px_recovery.specs.Folder.{IsNumberAmong, no_data}
use Rattle.px_folder.specs.Drawn.{same_number}
use Rattle.px_folder.specs.Read.{data_at, number_of_open_region}

pub at_here : (r : Region) (rs : List Region) (n : ℕ) → r.number ≡ n → data_at (r ∷ rs) n ≡ data_of r
unfolding data_at
at_here r rs n same = rw (eq-eqb r.number n same) refl

pub at_later : (r : Region) (rs : List Region) (n : ℕ) → r.number ≢ n → data_at (r ∷ rs) n ≡ data_at rs n
unfolding data_at
at_later r rs n other = rw (ne_eqb r.number n other) refl

-- what holds of all regions holds of the one that is found
pub at_all : (P : RegionData → Type 0) (rs : List Region) (n : ℕ) → AllByRecursion (λ r. r.number ≡ n → P (data_of r)) rs → IsNumberAmong n (map number_of_open_region rs) → P (data_at rs n)
at_all P [] n all is = absurd cc
at_all P (r ∷ rs) n all is = elim (cases_eq r.number n) [
  | inl same ↦ subst P (sym (at_here r rs n same)) (all.0 same)
  | inr other ↦ subst P (sym (at_later r rs n other)) (at_all P rs n all.1 (sym (ap (λ (b : Bool). b || list_any (λ m. m == n) (map number_of_open_region rs)) (ne_eqb r.number n other)) ∙ is))
]

pub at_none : (rs : List Region) (n : ℕ) → AllByRecursion (λ r. r.number ≢ n) rs → data_at rs n ≡ no_data
unfolding data_at
at_none [] n none = refl
at_none (r ∷ rs) n none = at_later r rs n none.0 ∙ at_none rs n none.1

none_here : (rs : List Region) (n : ℕ) → list_any (λ m. m == n) (map number_of_open_region rs) ≡ false → AllByRecursion (λ r. r.number ≢ n) rs
none_here [] n is = tt
none_here (r ∷ rs) n is = elim (cases_eq r.number n) [
  | inl same ↦ absurd (false≢true (sym is ∙ ap (λ (b : Bool). b || list_any (λ m. m == n) (map number_of_open_region rs)) (eq-eqb r.number n same)))
  | inr other ↦ (other, none_here rs n (sym (ap (λ (b : Bool). b || list_any (λ m. m == n) (map number_of_open_region rs)) (ne_eqb r.number n other)) ∙ is))
]

-- each region of a list without a number twice is the one of its number
else_where : (r : Region) (rs us : List Region) → HasNone number_of_open_region r.number us → AllByRecursion (λ u. data_at rs u.number ≡ data_of u) us → AllByRecursion (λ u. data_at (r ∷ rs) u.number ≡ data_of u) us
else_where r rs [] none all = tt
else_where r rs (u ∷ us) none all = (at_later r rs u.number (λ is. none.0 (sym is)) ∙ all.0, else_where r rs us none.1 all.1)

pub each_at : (rs : List Region) → AreDistinct number_of_open_region rs → AllByRecursion (λ u. data_at rs u.number ≡ data_of u) rs
each_at [] once = tt
each_at (r ∷ rs) once = (at_here r rs r.number refl, else_where r rs rs once.0 (each_at rs once.1))

by_number : (f : ℕ → RegionData) (n : ℕ) (rs : List Region) → AllByRecursion (λ u. f u.number ≡ data_of u) rs → AllByRecursion (λ r. r.number ≡ n → f n ≡ data_of r) rs
by_number f n [] all = tt
by_number f n (r ∷ rs) all = ((λ same. subst (λ (k : ℕ). f k ≡ data_of r) same all.0), by_number f n rs all.1)

-- and it is found in any order
pub at_permuted : (rs us : List Region) → IsPermutation rs us → AreDistinct number_of_open_region rs → (n : ℕ) → data_at us n ≡ data_at rs n
at_permuted rs us moved once n = elim (cases_Bool (list_any (λ m. m == n) (map number_of_open_region us))) [
  | inl there ↦ sym (at_all (λ s. data_at rs n ≡ s) us n (by_number (data_at rs) n us (there_too (λ u. data_at rs u.number ≡ data_of u) (each_at rs once))) there)
  | inr not ↦
      let none = none_here us n not in
      at_none us n none ∙ sym (at_none rs n (recursion_from_All (λ r. r.number ≢ n) rs (All-permutation (λ r. r.number ≢ n) us rs (IsPermutation-sym rs us moved) (All-from_recursion (λ r. r.number ≢ n) us none))))
]
  where
    there_too : (P : Region → Type 0) → AllByRecursion P rs → AllByRecursion P us
    there_too P all = recursion_from_All P us (All-permutation P rs us moved (All-from_recursion P rs all))

-- regions without a number twice
none_mapped : (n : ℕ) (rs : List Region) → HasNone same_number n (map number_of_open_region rs) → HasNone number_of_open_region n rs
none_mapped n [] none = tt
none_mapped n (r ∷ rs) none = (none.0, none_mapped n rs none.1)

pub once_mapped : (rs : List Region) → AreDistinct same_number (map number_of_open_region rs) → AreDistinct number_of_open_region rs
once_mapped [] once = tt
once_mapped (r ∷ rs) once = (none_mapped r.number rs once.0, once_mapped rs once.1)
