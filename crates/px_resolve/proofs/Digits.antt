-- What digits write, where the sum stops at a bound.
use Rattle.std.proofs.Common.{drop, get_or, length, sym, ◌∙◌, ◌≡◌, ◌<◌, ◌≤◌, ◌+◌, ◌*◌, ◌⊎◌, inl, inr, ℕ, List, [], ◌∷◌, min, ap, arith}
use Rattle.std.specs.Char.{digit_value}
use Rattle.std.specs.Str.Parse.{digits_value_after}
use Rattle.std.proofs.lemmas.Bool.{cases_lt}
use Rattle.px_resolve.proofs.Walks.{rest_at}

pub grows : (n : ℕ) (ds : List ℕ) → n ≤ digits_value_after 10 n ds
grows n [] = omega arith
grows n (d ∷ ds) = let more : n * 10 + digit_value d ≤ digits_value_after 10 (n * 10 + digit_value d) ds = grows (n * 10 + digit_value d) ds in omega arith

-- up to a smaller number nothing is lost
pub capped : (most bound n d : ℕ) (ds : List ℕ) → most ≤ bound → min (digits_value_after 10 (min (min (n * 10) bound + d) bound) ds) most ≡ min (digits_value_after 10 (n * 10 + d) ds) most
capped most bound n d ds le = by (cases_lt bound (n * 10 + d))
  where
    by : (bound < n * 10 + d) ⊎ (n * 10 + d ≤ bound) → min (digits_value_after 10 (min (min (n * 10) bound + d) bound) ds) most ≡ min (digits_value_after 10 (n * 10 + d) ds) most
    by (inr small) = let same : min (min (n * 10) bound + d) bound ≡ n * 10 + d = omega arith in ap (λ (m : ℕ). min (digits_value_after 10 m ds) most) same
    by (inl large) =
        let a : min (min (n * 10) bound + d) bound ≤ digits_value_after 10 (min (min (n * 10) bound + d) bound) ds = grows (min (min (n * 10) bound + d) bound) ds in
        let b : n * 10 + d ≤ digits_value_after 10 (n * 10 + d) ds = grows (n * 10 + d) ds in omega arith

-- one more digit is read
pub one_more : (most bound n i d product new value : ℕ) (ds : List ℕ) → most ≤ bound → i < length ds → d ≡ digit_value (get_or ds i 0) → product ≡ min (n * 10) bound → new ≡ min (product + d) bound
    → min (digits_value_after 10 n (drop i ds)) most ≡ value → min (digits_value_after 10 new (drop (i + 1) ds)) most ≡ value
one_more most bound n i d product new value ds le l is times sum left =
    let made : new ≡ min (min (n * 10) bound + digit_value (get_or ds i 0)) bound =
    sum ∙ ap (λ (p : ℕ). min (p + d) bound) times ∙ ap (λ (p : ℕ). min (min (n * 10) bound + p) bound) is in
    ap (λ (m : ℕ). min (digits_value_after 10 m (drop (i + 1) ds)) most) made ∙ capped most bound n (digit_value (get_or ds i 0)) (drop (i + 1) ds) le
    ∙ sym (ap (λ (l : List ℕ). min (digits_value_after 10 n l) most) (rest_at ds i l)) ∙ left
