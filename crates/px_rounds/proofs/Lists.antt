-- Elements of lists.
use Rattle.std.proofs.Common.{◌≡◌, ◌≢◌, ◌⊎◌, ℕ, zero, suc, ◌+◌, ◌<◌, ◌==◌, true, false, take, drop, List, [], ◌∷◌, ◌++◌, length, Some, refl, sym, ap, ◌∙◌, inl, inr, ⊎_elim, subst, arith}
use Rattle.std.specs.List.{All}
use Rattle.std.specs.Prelude.{get_or, slice_get, slice_index_or}
use Rattle.std.proofs.lemmas.List.{take_more}
use Rattle.std.proofs.lemmas.List.Elements.{All-append, All-cons, All-nil}
use Rattle.std.proofs.lemmas.Bool.Decides.{Decides-eqb}
use Rattle.std.proofs.Math.ListN.{set}

get_nil : {A : Type 0} (k : ℕ) (x : A) → slice_get [] k ≡ Some x → ⊥
get_nil k x e = cc

pub some_same : {A : Type 0} (x y : A) → Some x ≡ Some y → x ≡ y
some_same x y e = cc

pub same_or_not : (m n : ℕ) → (m ≡ n) ⊎ (m ≢ n)
same_or_not m n = elim (m == n) as (λ v. (m == n) ≡ v → (m ≡ n) ⊎ (m ≢ n)) [
  | true ↦ λ h. inl ((Decides-eqb m n).0 h)
  | false ↦ λ h. inr (λ e. (let t : (m == n) ≡ true = (Decides-eqb m n).1 e in cc))
] refl

-- 1. An element that is set

pub get_set_same : {A : Type 0} (xs : List A) (n : ℕ) (x y : A) → slice_get (set xs n x) n ≡ Some y → y ≡ x
get_set_same [] n x y e = absurd (get_nil n y e)
get_set_same (z ∷ zs) zero x y e = cc
get_set_same (z ∷ zs) (suc n) x y e = get_set_same zs n x y e

pub get_set_other : {A : Type 0} (xs : List A) (n m : ℕ) (x : A) → m ≢ n → slice_get (set xs n x) m ≡ slice_get xs m
get_set_other [] n m x ne = refl
get_set_other (z ∷ zs) zero zero x ne = absurd (ne refl)
get_set_other (z ∷ zs) zero (suc m) x ne = refl
get_set_other (z ∷ zs) (suc n) zero x ne = refl
get_set_other (z ∷ zs) (suc n) (suc m) x ne = get_set_other zs n m x (λ e. ne (ap suc e))

-- 2. An element at a place

pub get_snoc : {A : Type 0} (xs : List A) (x y : A) (k : ℕ) → slice_get (xs ++ x ∷ []) k ≡ Some y → (slice_get xs k ≡ Some y) ⊎ ((k ≡ length xs) × (x ≡ y))
get_snoc [] x y zero e = inr (refl, cc)
get_snoc [] x y (suc k) e = absurd (get_nil k y e)
get_snoc (z ∷ zs) x y zero e = inl e
get_snoc (z ∷ zs) x y (suc k) e = ⊎_elim (λ t. inl t) (λ t. inr (ap suc t.0, t.1)) (get_snoc zs x y k e)

pub get_lt : {A : Type 0} (xs : List A) (y : A) (k : ℕ) → slice_get xs k ≡ Some y → k < length xs
get_lt [] y k e = absurd (get_nil k y e)
get_lt (x ∷ xs) y zero e = omega arith
get_lt (x ∷ xs) y (suc k) e = let h = get_lt xs y k e in omega arith

pub get_some : {A : Type 0} (xs : List A) (k : ℕ) → k < length xs → (a : A) × (slice_get xs k ≡ Some a)
get_some [] k h = absurd (omega arith)
get_some (x ∷ xs) zero h = (x, refl)
get_some (x ∷ xs) (suc k) h = get_some xs k (omega arith)

get_drop : {A : Type 0} (xs : List A) (n : ℕ) → slice_get xs n ≡ slice_get (drop n xs) 0
get_drop [] zero = refl
get_drop [] (suc n) = refl
get_drop (x ∷ xs) zero = refl
get_drop (x ∷ xs) (suc n) = get_drop xs n

pub drop_one : {A : Type 0} (xs : List A) (n : ℕ) → drop 1 (drop n xs) ≡ drop (n + 1) xs
drop_one xs n = let up : suc n ≡ n + 1 = omega arith in step xs n ∙ ap (λ k. drop k xs) up
  where
    step : {A : Type 0} (xs : List A) (n : ℕ) → drop 1 (drop n xs) ≡ drop (suc n) xs
    step [] zero = refl
    step [] (suc n) = refl
    step (x ∷ xs) zero = refl
    step (x ∷ xs) (suc n) = step xs n

-- what was taken from the front of those that are left
pub front_is : {A : Type 0} (all left : List A) (n : ℕ) (x : A) → left ≡ drop n all → 0 < length left → x ≡ slice_index_or left 0 x → slice_get all n ≡ Some x
front_is all left n x e some_left is = get_drop all n ∙ ap (λ l. slice_get l 0) (sym e) ∙ head left x some_left is
  where
    head : {A : Type 0} (l : List A) (x : A) → 0 < length l → x ≡ slice_index_or l 0 x → slice_get l 0 ≡ Some x
    head [] x h is = absurd (omega arith)
    head (y ∷ ys) x h is = ap Some (sym is)

-- 3. A whole list written back

dropped : {A : Type 0} (ns xs : List A) → length ns ≡ length xs → drop (length ns) xs ≡ []
dropped [] [] h = refl
dropped [] (x ∷ xs) h = absurd (omega arith)
dropped (n ∷ ns) [] h = absurd (omega arith)
dropped (n ∷ ns) (x ∷ xs) h = dropped ns xs (omega arith)

pub restored : {A : Type 0} (ns xs : List A) (len : ℕ) → length ns ≡ length xs → len ≡ length xs → take len (ns ++ drop (length ns) xs) ≡ ns
restored ns xs len h l =
    ap (λ n. take n (ns ++ drop (length ns) xs)) (l ∙ sym h) ∙ (ap (λ r. take (length ns) (ns ++ r)) (dropped ns xs h) ∙ (ap (λ r. take (length ns) r) (append_nil ns) ∙ take_all ns))
  where
    append_nil : {A : Type 0} (xs : List A) → xs ++ [] ≡ xs
    append_nil [] = refl
    append_nil (x ∷ xs) = ap (λ l. x ∷ l) (append_nil xs)

    take_all : {A : Type 0} (xs : List A) → take (length xs) xs ≡ xs
    take_all [] = refl
    take_all (x ∷ xs) = ap (λ l. x ∷ l) (take_all xs)

-- 4. What holds of each

-- one more, where what held of the others still does
pub all_more : {A : Type 0} (P Q : A → Type 0) (xs : List A) (i : ℕ) (x : A) → ((y : A) → P y → Q y) → i < length xs → x ≡ get_or xs i x → All P (take i xs) → Q x → All Q (take (i + 1) xs)
all_more P Q xs i x up low is h q =
    let before : All Q (take i xs) = λ k d l. up (slice_index_or (take i xs) k d) (h k d l) in
    let one = All-cons Q x [] q (All-nil Q) in
    let e = take_more xs i x low ∙ ap (λ y. take i xs ++ y ∷ []) (sym is) in
    subst (λ l. All Q l) (sym e) (All-append Q (take i xs) (x ∷ []) before one)
