-- Lists in the order of their numbers, from their ends.
use Rattle.std.proofs.Common.{◌≡◌, ◌<◌, ◌≤◌, ◌-◌, ℕ, Bool, List, [], ◌∷◌, length, take, drop, get_or, sym, ap, subst, arith}
use Rattle.std.specs.Prelude.{IsTrue, ◌↔◌}
use Rattle.std.specs.List.{AllByRecursion}
use Rattle.std.proofs.lemmas.List.{take_all}
use Rattle.px_standing.specs.Agrees.{AreRisingBy}
use Rattle.px_opening.proofs.Lists.{all_weaker}

-- the slice behind the first element
abbrev behind : {X : Type 0} → List X → List X
behind xs = take (length xs - 1) (drop 1 xs)

behind_is : {X : Type 0} (x : X) (xs : List X) → behind (x ∷ xs) ≡ xs
behind_is x xs = take_all (length (x ∷ xs) - 1) xs (omega arith)

abbrev RiseAbove : {A : Type 0} → (A → ℕ) → ℕ → List A → Type 0
RiseAbove num n xs = AllByRecursion (λ y. n < num y) xs × AreRisingBy num xs

-- the first one is greater than n, and those behind it are greater than it
above_first : {A : Type 0} (num : A → ℕ) (n m : ℕ) (y : A) (ys : List A) → m ≡ num y → n < m → RiseAbove num m ys → RiseAbove num n (y ∷ ys)
above_first num n m y ys is low up = (
  ((omega (arith, is, low)), all_weaker (λ z. m < num z) (λ z. n < num z) (λ z l. omega (arith, l, low)) ys up.0),
  (all_weaker (λ z. m < num z) (λ z. num y < num z) (λ z l. omega (arith, l, is)) ys up.0, up.1),
)

first_above : {A : Type 0} (num : A → ℕ) (m : ℕ) (y : A) (ys : List A) → m ≡ num y → AreRisingBy num (y ∷ ys) → RiseAbove num m ys
first_above num m y ys is up = (all_weaker (λ z. num y < num z) (λ z. m < num z) (λ z l. omega (arith, l, is)) ys up.0, up.1)

pub above_more : {A : Type 0} (num : A → ℕ) (n : ℕ) (xs : List A) (x : A) (r : Bool) → 1 ≤ length xs → x ≡ get_or xs 0 x → n < num x → IsTrue r ↔ RiseAbove num (num x) (behind xs) → IsTrue r ↔ RiseAbove num n xs
above_more num n [] x r l is low h = absurd (omega (arith, l))
above_more num n (y ∷ ys) x r l is low h = (
  λ t. above_first num n (num x) y ys (ap num is) low (subst (RiseAbove num (num x)) (behind_is y ys) (h.0 t)),
  λ up. h.1 (subst (RiseAbove num (num x)) (sym (behind_is y ys)) (first_above num (num x) y ys (ap num is) up.1)),
)

pub rising_more : {A : Type 0} (num : A → ℕ) (xs : List A) (x : A) (r : Bool) → 1 ≤ length xs → x ≡ get_or xs 0 x → IsTrue r ↔ RiseAbove num (num x) (behind xs) → IsTrue r ↔ AreRisingBy num xs
rising_more num [] x r l is h = absurd (omega (arith, l))
rising_more num (y ∷ ys) x r l is h = (
  λ t. (let up = subst (RiseAbove num (num x)) (behind_is y ys) (h.0 t) in (all_weaker (λ z. num x < num z) (λ z. num y < num z) (λ z l. (let e : num x ≡ num y = ap num is in omega (arith, l, e))) ys up.0, up.1)),
  λ up. h.1 (subst (RiseAbove num (num x)) (sym (behind_is y ys)) (first_above num (num x) y ys (ap num is) up)),
)
