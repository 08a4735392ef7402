-- A list of indexes in which one stands with another state.
use Rattle.std.proofs.Common.{◌≡◌, ◌≢◌, ◌<◌, ◌⊎◌, inl, inr, ℕ, zero, suc, Bool, true, false, Some, List, [], ◌∷◌, length, get_or, refl, sym, ap, subst, ◌∙◌, arith}
use Rattle.std.specs.Prelude.{if◌then◌else◌, ◌==◌}
use Rattle.std.proofs.lemmas.Bool.{cases_eq, eq-eqb, ne_eqb}
use Rattle.px_outside.specs.Parts.{AreDistinct, HasNone}
use Rattle.px_tables.specs.declared.index.Index.{Index}
use Rattle.px_schema.specs.Stands.{put_index}
use Rattle.px_recovery.specs.Tables.{index_in, indexes_of, number_of_index}
use Rattle.px_recovery.proofs.Lookups.{index_first, index_later}

-- z stands, and y is defined in its place
module _ (z y : Index) (same : z.id.0 ≡ y.id.0) (table : z.table.0 ≡ y.table.0) where
  -- the same index, of another number; or the one for the other
  abbrev pub IsSwapped : Index → Index → Type 0
  IsSwapped a c = ((c ≡ a) × (a.id.0 ≢ y.id.0)) ⊎ ((a ≡ z) × (c ≡ y))

  abbrev pub AreSwapped : List Index → List Index → Type 0
  AreSwapped [] [] = Unit {0}
  AreSwapped [] (c ∷ cs) = ⊥
  AreSwapped (a ∷ ls) [] = ⊥
  AreSwapped (a ∷ ls) (c ∷ cs) = IsSwapped a c × AreSwapped ls cs

  none_swapped : (xs : List Index) → HasNone number_of_index y.id.0 xs → AreSwapped xs xs
  none_swapped [] none = tt
  none_swapped (x ∷ xs) none = (inl (refl, none.0), none_swapped xs none.1)

  put_is : (x : Index) (xs : List Index) (c : Bool) → (x.id.0 == y.id.0) ≡ c → put_index (x ∷ xs) y ≡ (if c then y ∷ xs else x ∷ put_index xs y)
  put_is x xs c is = ap (λ (k : Bool). if k then y ∷ xs else x ∷ put_index xs y) is

  pub put_swapped : (xs : List Index) → index_in xs y.id.0 ≡ Some z → AreDistinct number_of_index xs → AreSwapped xs (put_index xs y)
  unfolding index_in
  put_swapped [] found once = absurd cc
  put_swapped (x ∷ xs) found once = elim (cases_eq x.id.0 y.id.0) [
    | inl e ↦
        let is : x ≡ z = (let k : Some x ≡ Some z = sym (index_first x xs y.id.0 e) ∙ found in cc) in
        subst (λ (l : List Index). AreSwapped (x ∷ xs) l) (sym (put_is x xs true (eq-eqb x.id.0 y.id.0 e))) (inr (is, refl), none_swapped xs (subst (λ (n : ℕ). HasNone number_of_index n xs) e once.0))
    | inr e ↦
        subst (λ (l : List Index). AreSwapped (x ∷ xs) l) (sym (put_is x xs false (ne_eqb x.id.0 y.id.0 e))) (inl (refl, e), put_swapped xs (sym (index_later x xs y.id.0 e) ∙ found) once.1)
  ]

  pub put_here : (xs : List Index) (q : ℕ) → y.id.0 ≡ q → index_in (put_index xs y) q ≡ Some y
  put_here [] q at = index_first y [] q at
  put_here (x ∷ xs) q at = elim (cases_eq x.id.0 y.id.0) [
    | inl e ↦ ap (λ (l : List Index). index_in l q) (put_is x xs true (eq-eqb x.id.0 y.id.0 e)) ∙ index_first y xs q at
    | inr e ↦ ap (λ (l : List Index). index_in l q) (put_is x xs false (ne_eqb x.id.0 y.id.0 e)) ∙ (index_later x (put_index xs y) q (λ is. e (is ∙ sym at)) ∙ put_here xs q at)
  ]

  pub put_other : (xs : List Index) (q : ℕ) → y.id.0 ≢ q → index_in (put_index xs y) q ≡ index_in xs q
  put_other [] q other = index_later y [] q other
  put_other (x ∷ xs) q other = elim (cases_eq x.id.0 y.id.0) [
    | inl e ↦ ap (λ (l : List Index). index_in l q) (put_is x xs true (eq-eqb x.id.0 y.id.0 e)) ∙ (index_later y xs q other ∙ sym (index_later x xs q (λ is. other (sym e ∙ is))))
    | inr e ↦ ap (λ (l : List Index). index_in l q) (put_is x xs false (ne_eqb x.id.0 y.id.0 e)) ∙ (elim (cases_eq x.id.0 q) [
      | inl here ↦ index_first x (put_index xs y) q here ∙ sym (index_first x xs q here)
      | inr there ↦ index_later x (put_index xs y) q there ∙ (put_other xs q other ∙ sym (index_later x xs q there))
    ])
  ]

  -- ---- what such lists have in common

  swapped_num : (num : Index → ℕ) → num z ≡ num y → (a c : Index) → IsSwapped a c → num c ≡ num a
  swapped_num num alike a c (inl s) = ap num s.0
  swapped_num num alike a c (inr s) = ap num s.1 ∙ (sym alike ∙ ap num (sym s.0))

  pub none_kept : (num : Index → ℕ) → num z ≡ num y → (n : ℕ) (ls cs : List Index) → AreSwapped ls cs → HasNone num n ls → HasNone num n cs
  none_kept num alike n [] [] s none = tt
  none_kept num alike n [] (c ∷ cs) s none = absurd s
  none_kept num alike n (a ∷ ls) [] s none = absurd s
  none_kept num alike n (a ∷ ls) (c ∷ cs) s none = ((λ is. none.0 (sym (swapped_num num alike a c s.0) ∙ is)), none_kept num alike n ls cs s.1 none.1)

  pub distinct_kept : (num : Index → ℕ) → num z ≡ num y → (ls cs : List Index) → AreSwapped ls cs → AreDistinct num ls → AreDistinct num cs
  distinct_kept num alike [] [] s once = tt
  distinct_kept num alike [] (c ∷ cs) s once = absurd s
  distinct_kept num alike (a ∷ ls) [] s once = absurd s
  distinct_kept num alike (a ∷ ls) (c ∷ cs) s once =
      (subst (λ (n : ℕ). HasNone num n cs) (sym (swapped_num num alike a c s.0)) (none_kept num alike (num a) ls cs s.1 once.0), distinct_kept num alike ls cs s.1 once.1)

  if_swapped : (a c : Index) (ls cs : List Index) (k m : Bool) → k ≡ m → IsSwapped a c → AreSwapped ls cs → AreSwapped (if k then a ∷ ls else ls) (if m then c ∷ cs else cs)
  if_swapped a c ls cs true true e s rest = (s, rest)
  if_swapped a c ls cs false false e s rest = rest
  if_swapped a c ls cs true false e s rest = absurd cc
  if_swapped a c ls cs false true e s rest = absurd cc

  pub swapped_of : (t : ℕ) (ls cs : List Index) → AreSwapped ls cs → AreSwapped (indexes_of t ls) (indexes_of t cs)
  swapped_of t [] [] s = tt
  swapped_of t [] (c ∷ cs) s = absurd s
  swapped_of t (a ∷ ls) [] s = absurd s
  swapped_of t (a ∷ ls) (c ∷ cs) s =
      if_swapped a c (indexes_of t ls) (indexes_of t cs) (a.table.0 == t) (c.table.0 == t) (ap (λ (n : ℕ). n == t) (sym (swapped_num (λ (i : Index). i.table.0) table a c s.0))) s.0 (swapped_of t ls cs s.1)

  pub swapped_long : (ls cs : List Index) → AreSwapped ls cs → length cs ≡ length ls
  swapped_long [] [] s = refl
  swapped_long [] (c ∷ cs) s = absurd s
  swapped_long (a ∷ ls) [] s = absurd s
  swapped_long (a ∷ ls) (c ∷ cs) s = let rest = swapped_long ls cs s.1 in omega arith

  pub swapped_at : (ls cs : List Index) (q : ℕ) (d : Index) → AreSwapped ls cs → q < length ls → IsSwapped (get_or ls q d) (get_or cs q d)
  swapped_at [] cs q d s l = absurd (omega arith)
  swapped_at (a ∷ ls) [] q d s l = absurd s
  swapped_at (a ∷ ls) (c ∷ cs) zero d s l = s.0
  swapped_at (a ∷ ls) (c ∷ cs) (suc q) d s l = swapped_at ls cs q d s.1 (omega arith)

  one_same : (q : ℕ) (a c : Index) (ls cs : List Index) → q ≢ y.table.0 → IsSwapped a c → cs ≡ ls → (if c.table.0 == q then c ∷ cs else cs) ≡ (if a.table.0 == q then a ∷ ls else ls)
  one_same q a c ls cs other (inl s) rest = ap (λ (k : Index). if k.table.0 == q then k ∷ cs else cs) s.0 ∙ ap (λ (l : List Index). if a.table.0 == q then a ∷ l else l) rest
  one_same q a c ls cs other (inr s) rest =
      ap (λ (k : Bool). if k then c ∷ cs else cs) (ne_eqb c.table.0 q (λ is. other (sym is ∙ ap (λ (i : Index). i.table.0) s.1)))
      ∙ (rest ∙ sym (ap (λ (k : Bool). if k then a ∷ ls else ls) (ne_eqb a.table.0 q (λ is. other (sym is ∙ (ap (λ (i : Index). i.table.0) s.0 ∙ table))))))

  -- where it isn't among them nothing changes
  pub same_of : (q : ℕ) (ls cs : List Index) → q ≢ y.table.0 → AreSwapped ls cs → indexes_of q cs ≡ indexes_of q ls
  same_of q [] [] other s = refl
  same_of q [] (c ∷ cs) other s = absurd s
  same_of q (a ∷ ls) [] other s = absurd s
  same_of q (a ∷ ls) (c ∷ cs) other s = one_same q a c (indexes_of q ls) (indexes_of q cs) other s.0 (same_of q ls cs other s.1)
