-- A list of indexes in which one stands with a number that none of them had.
use Rattle.std.proofs.Common.{◌≡◌, ◌≢◌, inl, inr, ℕ, List, [], ◌∷◌, refl, sym, ap, subst, ◌∙◌}
use Rattle.px_outside.specs.Parts.{AreDistinct, HasNone}
use Rattle.px_tables.specs.declared.index.Index.{Index}
use Rattle.px_recovery.specs.Tables.{number_of_index}
use Rattle.px_recovery.proofs.Swaps.{AreSwapped, IsSwapped}

-- z stands, and y is defined in its place
module _ (z y : Index) (same : z.id.0 ≡ y.id.0) (table : z.table.0 ≡ y.table.0) where
  same_rest : (ls cs : List Index) → AreSwapped z y same table ls cs → HasNone number_of_index y.id.0 ls → cs ≡ ls
  same_rest [] [] s none = refl
  same_rest [] (c ∷ cs) s none = absurd s
  same_rest (a ∷ ls) [] s none = absurd s
  same_rest (a ∷ ls) (c ∷ cs) s none = by s.0 (same_rest ls cs s.1 none.1)
    where
      by : IsSwapped z y same table a c → cs ≡ ls → (c ∷ cs) ≡ (a ∷ ls)
      by (inl k) rest = λ j. k.0 j ∷ rest j
      by (inr k) rest = absurd (none.0 (ap number_of_index k.0 ∙ same))

  module _ (num : Index → ℕ) where
    one_fresh : (n : ℕ) (a c : Index) → IsSwapped z y same table a c → num y ≢ n → num a ≢ n → num c ≢ n
    one_fresh n a c (inl k) other none = λ is. none (ap num (sym k.0) ∙ is)
    one_fresh n a c (inr k) other none = λ is. other (ap num (sym k.1) ∙ is)

    pub none_fresh : (n : ℕ) (ls cs : List Index) → AreSwapped z y same table ls cs → num y ≢ n → HasNone num n ls → HasNone num n cs
    none_fresh n [] [] s other none = tt
    none_fresh n [] (c ∷ cs) s other none = absurd s
    none_fresh n (a ∷ ls) [] s other none = absurd s
    none_fresh n (a ∷ ls) (c ∷ cs) s other none = (one_fresh n a c s.0 other none.0, none_fresh n ls cs s.1 other none.1)

    first_fresh : (a c : Index) (ls cs : List Index) → IsSwapped z y same table a c → AreSwapped z y same table ls cs → num a ≢ num y → HasNone num (num y) ls → HasNone num (num a) ls → HasNone number_of_index (number_of_index a) ls → HasNone num (num c) cs
    first_fresh a c ls cs (inl k) s other none once ids = subst (λ (m : ℕ). HasNone num m cs) (ap num (sym k.0)) (none_fresh (num a) ls cs s (λ is. other (sym is)) once)
    first_fresh a c ls cs (inr k) s other none once ids =
        let rest = same_rest ls cs s (subst (λ (m : ℕ). HasNone number_of_index m ls) (ap number_of_index k.0 ∙ same) ids) in
        subst (λ (m : ℕ). HasNone num m cs) (ap num (sym k.1)) (subst (λ (l : List Index). HasNone num (num y) l) (sym rest) none)

    pub distinct_fresh : (ls cs : List Index) → AreSwapped z y same table ls cs → HasNone num (num y) ls → AreDistinct num ls → AreDistinct number_of_index ls → AreDistinct num cs
    distinct_fresh [] [] s none once ids = tt
    distinct_fresh [] (c ∷ cs) s none once ids = absurd s
    distinct_fresh (a ∷ ls) [] s none once ids = absurd s
    distinct_fresh (a ∷ ls) (c ∷ cs) s none once ids = (first_fresh a c ls cs s.0 s.1 none.0 none.1 once.0 ids.0, distinct_fresh ls cs s.1 none.1 once.1 ids.1)
