-- The first of the candidates than which none is better, as a value.
use Rattle.std.proofs.Common.{◌≡◌, Bool, true, false, not, ◌&&◌, cond, List, [], ◌∷◌, ◌++◌, get_or, refl, sym, ap, subst, ◌∙◌, Option, Some, None, append_assoc, append-nil}
use Rattle.std.specs.Bool.{Decides, beq}
use Rattle.std.specs.List.{All, filter, list_all}
use Rattle.std.proofs.lemmas.Bool.Decides.{Decides-and, Decides-eqb, Decides-ltb, Decides-or}
use Rattle.std.proofs.lemmas.List.Elements.{All-cons, All-head, All-nil, All-tail}
use Rattle.px_tables.specs.declared.index.Index.{Index}
use Rattle.px_plan.specs.Choice.{IsBest, IsBetter, OnlyTheFirst}
use Rattle.px_plan.specs.declared.rank.Rank.{Rank}
use Rattle.px_plan.proofs.Ranked.{best_alone, best_better, best_stays}
use Rattle.px_planned.specs.Queries.{first_best, outranks}

-- ---- ranks

itself : (b : Bool) → Decides b (b ≡ true)
itself b = (λ h. h, λ h. h)

not_is : (b : Bool) → Decides (not b) (b ≡ false)
not_is true = (λ h. absurd (let z : ◌≡◌ {A = Bool} false true = h in cc), λ h. absurd (let z : ◌≡◌ {A = Bool} true false = h in cc))
not_is false = (λ h. refl, λ h. refl)

same_is : (a b : Bool) → Decides (beq a b) (a ≡ b)
same_is true true = (λ h. refl, λ h. refl)
same_is true false = (λ h. absurd (let z : ◌≡◌ {A = Bool} false true = h in cc), λ h. absurd (let z : ◌≡◌ {A = Bool} true false = h in cc))
same_is false true = (λ h. absurd (let z : ◌≡◌ {A = Bool} false true = h in cc), λ h. absurd (let z : ◌≡◌ {A = Bool} false true = h in cc))
same_is false false = (λ h. refl, λ h. refl)

alone_is : (a b : Bool) → Decides (a && not b) (OnlyTheFirst a b)
alone_is a b = Decides-and a (not b) (itself a) (not_is b)

better_is : (a b : Rank) → Decides (outranks a b) (IsBetter a b)
unfolding outranks
better_is a b =
    Decides-or _ _ (Decides-ltb b.equal a.equal) (Decides-and _ _ (Decides-eqb a.equal b.equal) (Decides-or _ _ (alone_is a.bounded b.bounded) (Decides-and _ _ (same_is a.bounded b.bounded) (alone_is a.ordered b.ordered))))

not_if : {P : Type 0} (b : Bool) → Decides b P → (P → ⊥) → b ≡ false
not_if true d n = absurd (n (d.0 refl))
not_if false d n = refl

never : (b : Bool) → b ≡ false → b ≡ true → ⊥
never true h k = let z : ◌≡◌ {A = Bool} true false = h in cc
never false h k = let z : ◌≡◌ {A = Bool} false true = k in cc

and_false : (a b : Bool) → b ≡ false → (a && b) ≡ false
and_false true b h = h
and_false false b h = refl

-- ---- the first than which none is better

module _ (rank : Option Index → Rank) where
  abbrev is_unbeaten : List (Option Index) → Option Index → Bool
  is_unbeaten choices i = list_all (λ c. not (outranks (rank c) (rank i))) choices

  unbeaten : (choices : List (Option Index)) (i : Option Index) → All (λ c. IsBetter (rank c) (rank i) → ⊥) choices → is_unbeaten choices i ≡ true
  unbeaten [] i h = refl
  unbeaten (c ∷ choices) i h =
      ap (λ (b : Bool). not b && is_unbeaten choices i) (not_if (outranks (rank c) (rank i)) (better_is (rank c) (rank i)) (All-head (λ c. IsBetter (rank c) (rank i) → ⊥) c choices h))
      ∙ unbeaten choices i (All-tail (λ c. IsBetter (rank c) (rank i) → ⊥) c choices h)

  beaten : (before behind : List (Option Index)) (by i : Option Index) → IsBetter (rank by) (rank i) → is_unbeaten (before ++ by ∷ behind) i ≡ false
  beaten [] behind by i h = ap (λ (b : Bool). not b && is_unbeaten behind i) ((better_is (rank by) (rank i)).1 h)
  beaten (c ∷ before) behind by i h = and_false (not (outranks (rank c) (rank i))) (is_unbeaten (before ++ by ∷ behind) i) (beaten before behind by i h)

  first_is : (test : Option Index → Bool) (before behind : List (Option Index)) (by : Option Index) → All (λ c. IsBetter (rank by) (rank c)) before → ((c : Option Index) → IsBetter (rank by) (rank c) → test c ≡ false) → test by ≡ true → get_or (filter test (before ++ by ∷ behind)) 0 None ≡ by
  first_is test [] behind by a out h = ap (λ (b : Bool). get_or (cond b (by ∷ filter test behind) (filter test behind)) 0 None) h
  first_is test (c ∷ before) behind by a out h =
      let rest = filter test (before ++ by ∷ behind) in
      ap (λ (b : Bool). get_or (cond b (c ∷ rest) rest) 0 None) (out c (All-head (λ c. IsBetter (rank by) (rank c)) c before a)) ∙ first_is test before behind by (All-tail (λ c. IsBetter (rank by) (rank c)) c before a) out h

  pub best_is : (choices : List (Option Index)) (by : Option Index) → IsBest rank choices by → first_best rank choices ≡ by
  best_is choices by h =
      ap (λ (xs : List (Option Index)). get_or (filter (is_unbeaten choices) xs) 0 None) h.stands
      ∙ first_is (is_unbeaten choices) h.before h.behind by h.first (λ c b. ap (λ (xs : List (Option Index)). is_unbeaten xs c) h.stands ∙ beaten h.before h.behind by c b) (unbeaten choices by h.best)

  -- there is one
  some_best : (done rest : List (Option Index)) (by : Option Index) → IsBest rank done by → (i : Option Index) × IsBest rank (done ++ rest) i
  some_best done [] by h = (by, subst (λ (xs : List (Option Index)). IsBest rank xs by) (sym (append-nil done)) h)
  some_best done (c ∷ rest) by h = by_test (λ i k. some_best (done ++ c ∷ []) rest i k) (outranks (rank c) (rank by)) refl
    where
      grouped : (i : Option Index) × IsBest rank ((done ++ c ∷ []) ++ rest) i → (i : Option Index) × IsBest rank (done ++ c ∷ rest) i
      grouped m = (m.0, subst (λ (xs : List (Option Index)). IsBest rank xs m.0) (append_assoc done (c ∷ []) rest) m.1)

      by_test : ((i : Option Index) → IsBest rank (done ++ c ∷ []) i → (j : Option Index) × IsBest rank ((done ++ c ∷ []) ++ rest) j) → (b : Bool) → outranks (rank c) (rank by) ≡ b → (i : Option Index) × IsBest rank (done ++ c ∷ rest) i
      by_test more true e = grouped (more c (best_better rank done by c h ((better_is (rank c) (rank by)).0 e)))
      by_test more false e = grouped (more by (best_stays rank done by c h (λ b. never (outranks (rank c) (rank by)) e ((better_is (rank c) (rank by)).1 b))))

  pub is_best : (first : Option Index) (rest : List (Option Index)) → IsBest rank (first ∷ rest) (first_best rank (first ∷ rest))
  is_best first rest =
      let m = some_best (first ∷ []) rest first (best_alone rank first) in
      subst (λ (i : Option Index). IsBest rank (first ∷ rest) i) (sym (best_is (first ∷ rest) m.0 m.1)) m.1
