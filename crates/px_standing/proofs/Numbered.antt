-- Regions that take the next numbers.
use Rattle.std.proofs.Common.{◌≡◌, ◌<◌, ◌≤◌, ◌+◌, max, ℕ, zero, suc, List, [], ◌∷◌, ◌++◌, length, map, get_or, take, refl, sym, ap, ◌∙◌, arith}
use Rattle.std.specs.List.{AllByRecursion}
use Rattle.px_tables.specs.declared.table.TableRegion.{TableRegion}
use Rattle.px_schema.specs.Stands.{above}
use Rattle.px_trail.specs.Trail.{numbered_regions}

-- the least number above those that a table takes, and its own
pub above_drawn : (n m k : ℕ) (keys : List (List ℕ)) → m ≤ n → k ≡ n + length keys → above m (map (λ (r : TableRegion). r.number) (numbered_regions n keys) ++ k ∷ []) ≡ n + length keys + 1
unfolding numbered_regions
above_drawn n m k [] le is = omega arith
above_drawn n m k (x ∷ keys) le is = above_drawn (n + 1) (max m (n + 1)) k keys (omega arith) (omega arith) ∙ (let e : (n + 1) + length keys + 1 ≡ n + length (x ∷ keys) + 1 = omega arith in e)

pub all_last : (P : ℕ → Type 0) (xs : List ℕ) (y : ℕ) → AllByRecursion P (xs ++ y ∷ []) → P y
all_last P [] y all = all.0
all_last P (x ∷ xs) y all = all_last P xs y all.1

pub numbered_none : (n : ℕ) → [] ≡ numbered_regions n []
unfolding numbered_regions
numbered_none n = refl

-- one more region
numbered_taken : (n : ℕ) (keys : List (List ℕ)) (i : ℕ) (k : List ℕ) → i < length keys → k ≡ get_or keys i k → numbered_regions n (take (suc i) keys) ≡ numbered_regions n (take i keys) ++ record { number = n + i; least_key = k } ∷ []
unfolding numbered_regions
numbered_taken n [] i k l at = absurd (omega (arith, l))
numbered_taken n (x ∷ keys) zero k l at = λ j. record { number = (let e : n ≡ n + 0 = omega arith in e) j; least_key = sym at j } ∷ []
numbered_taken n (x ∷ keys) (suc i) k l at =
    ap (λ (rs : List TableRegion). record { number = n; least_key = x } ∷ rs) (numbered_taken (n + 1) keys i k (omega (arith, l)) at ∙ ap (λ (j : ℕ). numbered_regions (n + 1) (take i keys) ++ record { number = j; least_key = k } ∷ []) (let e : n + 1 + i ≡ n + suc i = omega arith in e))

pub numbered_next : (n : ℕ) (keys : List (List ℕ)) (i : ℕ) (k : List ℕ) → i < length keys → k ≡ get_or keys i k → numbered_regions n (take i keys) ++ record { number = n + i; least_key = k } ∷ [] ≡ numbered_regions n (take (i + 1) keys)
numbered_next n keys i k l at = sym (numbered_taken n keys i k l at) ∙ ap (λ (m : ℕ). numbered_regions n (take m keys)) (let e : suc i ≡ i + 1 = omega arith in e)

-- the same after a push
pub numbered_pushed : (n : ℕ) (keys : List (List ℕ)) (i : ℕ) (r k : List ℕ) (rs ys : List TableRegion) → i < length keys → r ≡ get_or keys i r → k ≡ r → rs ≡ numbered_regions n (take i keys) → ys ≡ rs ++ record { number = n + i; least_key = k } ∷ [] → ys ≡ numbered_regions n (take (i + 1) keys)
numbered_pushed n keys i r k rs ys l at same before is = is ∙ ((λ j. before j ++ record { number = n + i; least_key = same j } ∷ []) ∙ numbered_next n keys i r l at)
