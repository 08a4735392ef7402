-- Numbers by their bytes.
use Rattle.std.proofs.Common.{◌≡◌, ℕ, suc, zero, ◌<◌, ◌≤◌, ◌+◌, ◌*◌, List, [], ◌∷◌, ◌++◌, length, take, get_or, take_all, min, inl, inr, refl, ap, sym, ◌∙◌, arith}
use Rattle.std.proofs.lemmas.List.{take_more, get_or-take}
use Rattle.std.proofs.lemmas.Bool.{cases_lt}
use Rattle.px_rows.specs.Stored.{number_of_bytes}

number_append : (n b : ℕ) (xs : List ℕ) → number_of_bytes n (xs ++ b ∷ []) ≡ number_of_bytes n xs * 256 + b
unfolding number_of_bytes
number_append n b [] = refl
number_append n b (x ∷ xs) = number_append (n * 256 + x) b xs

-- one byte more
pub number_more : (xs : List ℕ) (i n : ℕ) → i < length xs → n ≡ number_of_bytes 0 (take i xs) → n * 256 + get_or xs i 0 ≡ number_of_bytes 0 (take (i + 1) xs)
number_more xs i n l e = sym (ap (number_of_bytes 0) (take_more xs i 0 l) ∙ number_append 0 (get_or xs i 0) (take i xs) ∙ ap (λ (m : ℕ). m * 256 + get_or xs i 0) (sym e))

-- a byte of the first ones
pub byte_in : (xs : List ℕ) (m i b : ℕ) → get_or xs i 0 < 256 → i < length (take m xs) → b ≡ get_or (take m xs) i 0 → b < 256
byte_in xs m i b h l e = elim (cases_lt i m) [
  | inl k ↦ (let z : get_or (take m xs) i 0 ≡ get_or xs i 0 = get_or-take m xs i 0 k in omega arith)
  | inr k ↦ absurd (short_take xs m i l k)
]
  where
    short_take : (xs : List ℕ) (m i : ℕ) → i < length (take m xs) → m ≤ i → ⊥
    short_take [] zero i l k = omega arith
    short_take [] (suc m) i l k = omega arith
    short_take (x ∷ xs) zero i l k = omega arith
    short_take (x ∷ xs) (suc m) zero l k = omega arith
    short_take (x ∷ xs) (suc m) (suc i) l k = short_take xs m i (omega arith) (omega arith)

-- as many as there are
pub taken : (xs : List ℕ) (w m : ℕ) → m ≡ min w (length xs) → take m xs ≡ take w xs
taken xs w m e = elim (cases_lt w (length xs)) [
  | inl l ↦ ap (λ (n : ℕ). take n xs) (let z : m ≡ w = omega arith in z)
  | inr l ↦ take_all m xs (omega arith) ∙ sym (take_all w xs l)
]
