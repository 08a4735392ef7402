-- The element at a place.
use Rattle.std.proofs.Common.{◌≡◌, ℕ, zero, suc, ◌+◌, Some, List, [], ◌∷◌, ◌++◌, length, drop, refl, ap, ◌∙◌, arith}
use Rattle.std.specs.Prelude.{slice_get, slice_index_or}

get_nil : {A : Type 0} (k : ℕ) (x : A) → slice_get [] k ≡ Some x → ⊥
get_nil k x e = cc

-- by the list and by a default
pub get_or_is : {A : Type 0} (xs : List A) (k : ℕ) (d x : A) → slice_get xs k ≡ Some x → slice_index_or xs k d ≡ x
get_or_is [] k d x e = absurd (get_nil k x e)
get_or_is (y ∷ ys) zero d x e = cc
get_or_is (y ∷ ys) (suc k) d x e = get_or_is ys k d x e

-- the one behind these
pub get_at : {A : Type 0} (xs : List A) (x : A) (ys : List A) → slice_get (xs ++ x ∷ ys) (length xs) ≡ Some x
get_at [] x ys = refl
get_at (z ∷ zs) x ys = get_at zs x ys

-- where more come behind these
pub get_before : {A : Type 0} (xs ys : List A) (k : ℕ) (x : A) → slice_get xs k ≡ Some x → slice_get (xs ++ ys) k ≡ Some x
get_before [] ys k x e = absurd (get_nil k x e)
get_before (z ∷ zs) ys zero x e = e
get_before (z ∷ zs) ys (suc k) x e = get_before zs ys k x e

-- all but the first
pub get_rest : {A : Type 0} (xs : List A) (k : ℕ) → slice_get (drop 1 xs) k ≡ slice_get xs (k + 1)
get_rest xs k = let up : suc k ≡ k + 1 = omega arith in step xs k ∙ ap (slice_get xs) up
  where
    step : {A : Type 0} (xs : List A) (k : ℕ) → slice_get (drop 1 xs) k ≡ slice_get xs (suc k)
    step [] zero = refl
    step [] (suc k) = refl
    step (x ∷ xs) k = refl
