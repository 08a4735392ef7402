-- The greatest of numbers, one number more.
use Rattle.std.proofs.Common.{◌≡◌, ℕ, ◌+◌, ◌<◌, max, get_or, length, take, List, [], ◌∷◌, ◌++◌, ap, ◌∙◌, arith, add-one}
use Rattle.std.proofs.Math.Seq.{take-suc}
use Rattle.px_turns.specs.Turns.{greatest}

max_assoc : (a b c : ℕ) → max a (max b c) ≡ max (max a b) c
max_assoc a b c = omega arith

pub greatest-append : (xs : List ℕ) (x : ℕ) → greatest (xs ++ x ∷ []) ≡ max (greatest xs) x
greatest-append [] x = omega arith
greatest-append (y ∷ xs) x = ap (λ (n : ℕ). max y n) (greatest-append xs x) ∙ max_assoc y (greatest xs) x

take_one : (xs : List ℕ) (i : ℕ) → i < length xs → take (i + 1) xs ≡ take i xs ++ get_or xs i 0 ∷ []
take_one xs i l = ap (λ n. take n xs) (add-one i) ∙ take-suc xs i 0 l

pub greatest-more : (xs : List ℕ) (i : ℕ) → i < length xs → greatest (take (i + 1) xs) ≡ max (greatest (take i xs)) (get_or xs i 0)
greatest-more xs i l = ap greatest (take_one xs i l) ∙ greatest-append (take i xs) (get_or xs i 0)
