-- Whether rows may be written: one row more.
use Rattle.std.proofs.Common.{◌≡◌, ℕ, zero, suc, ◌<◌, ◌≤◌, Option, None, Some, List, [], ◌∷◌, length, get_or, drop, refl, sym, ap, subst, arith, ◌⊎◌, inl, inr}
use Rattle.std.specs.Prelude.{nat_lt, if◌then◌else◌, slice_index, slice_get}
use Rattle.std.proofs.lemmas.Bool.{cases_lt, cond-true, cond-false, lt-ltb, le-ltb}
use Rattle.px_turns.specs.Turns.{IsBlockedBy, IsFree, IsIn, IsVerdict, NeverFalls, earliest_of}

in_index : (s : ℕ) (xs : List ℕ) → IsIn s xs → (i : ℕ) × ((i < length xs) × (slice_index xs i ≡ s))
unfolding IsIn
in_index s [] h = absurd h
in_index s (x ∷ xs) (inl e) = (0, (omega arith, e))
in_index s (x ∷ xs) (inr h) = (let z = in_index s xs h in (suc z.0, ((let l = z.1.0 in omega arith), z.1.1)))

-- the first is the least
first_least : (a : ℕ) (xs : List ℕ) → NeverFalls (a ∷ xs) → (s : ℕ) → IsIn s (a ∷ xs) → a ≤ s
first_least a xs asc s h = by (in_index s (a ∷ xs) h)
  where
    by : (i : ℕ) × ((i < length (a ∷ xs)) × (slice_index (a ∷ xs) i ≡ s)) → a ≤ s
    by (zero, (l, e)) = (let q : a ≡ s = e in omega arith)
    by (suc i, (l, e)) = (let q = asc 0 (suc i) (omega arith) l in let r : a ≤ slice_index (a ∷ xs) (suc i) = q in omega arith)

module _ (f : List ℕ → List ℕ) (stamp : ℕ) (x : List ℕ) (xs : List (List ℕ)) where
  -- the row has no stamp
  none_here : (o : Option ℕ) → f x ≡ [] → IsVerdict f stamp xs o → IsVerdict f stamp (x ∷ xs) o
  unfolding IsIn
  none_here None e v = record { each = λ k h s i. by k h s i }
    where
      by : (k : List ℕ) → (x ≡ k) ⊎ IsIn k xs → (s : ℕ) → IsIn s (f k) → stamp ≤ s
      by k (inl q) s i = absurd (subst (λ (l : List ℕ). IsIn s l) e (subst (λ (y : List ℕ). IsIn s (f y)) (sym q) i))
      by k (inr h) s i = v.each k h s i
  none_here (Some b) e v = record { earlier = v.earlier; key = v.key; among = inr v.among; there = v.there; least = λ k h s i. by k h s i }
    where
      by : (k : List ℕ) → (x ≡ k) ⊎ IsIn k xs → (s : ℕ) → IsIn s (f k) → b ≤ s
      by k (inl q) s i = absurd (subst (λ (l : List ℕ). IsIn s l) e (subst (λ (y : List ℕ). IsIn s (f y)) (sym q) i))
      by k (inr h) s i = v.least k h s i

  -- it has: the first of them is the least
  module _ (a : ℕ) (is_in : IsIn a (f x)) (least : (s : ℕ) → IsIn s (f x) → a ≤ s) where
    here_least : (k : List ℕ) → x ≡ k → (s : ℕ) → IsIn s (f k) → a ≤ s
    here_least k q s i = least s (subst (λ (y : List ℕ). IsIn s (f y)) (sym q) i)

    some_none : IsFree f stamp xs → IsVerdict f stamp (x ∷ xs) (if nat_lt a stamp then Some a else None)
    unfolding IsIn
    some_none v = elim (cases_lt a stamp) [
      | inl l ↦ subst (λ (o : Option ℕ). IsVerdict f stamp (x ∷ xs) o) (sym (cond-true (nat_lt a stamp) (Some a) None (lt-ltb a stamp l)))
          (record { earlier = l; key = x; among = inl refl; there = is_in; least = λ k h s i. (elim h [ inl q ↦ here_least k q s i | inr m ↦ (let z = v.each k m s i in omega arith) ]) })
      | inr l ↦ subst (λ (o : Option ℕ). IsVerdict f stamp (x ∷ xs) o) (sym (cond-false (nat_lt a stamp) (Some a) None (le-ltb a stamp l)))
          (record { each = λ k h s i. (elim h [ inl q ↦ (let z = here_least k q s i in omega arith) | inr m ↦ v.each k m s i ]) })
    ]

    some_some : (b : ℕ) → IsBlockedBy f stamp xs b → IsVerdict f stamp (x ∷ xs) (if nat_lt a b then Some a else Some b)
    unfolding IsIn
    some_some b v = elim (cases_lt a b) [
      | inl l ↦ subst (λ (o : Option ℕ). IsVerdict f stamp (x ∷ xs) o) (sym (cond-true (nat_lt a b) (Some a) (Some b) (lt-ltb a b l)))
          (record { earlier = (let z = v.earlier in omega arith); key = x; among = inl refl; there = is_in; least = λ k h s i. (elim h [ inl q ↦ here_least k q s i | inr m ↦ (let z = v.least k m s i in omega arith) ]) })
      | inr l ↦ subst (λ (o : Option ℕ). IsVerdict f stamp (x ∷ xs) o) (sym (cond-false (nat_lt a b) (Some a) (Some b) (le-ltb a b l)))
          (record { earlier = v.earlier; key = v.key; among = inr v.among; there = v.there; least = λ k h s i. (elim h [ inl q ↦ (let z = here_least k q s i in omega arith) | inr m ↦ v.least k m s i ]) })
    ]

  some_here : (a : ℕ) → IsIn a (f x) → ((s : ℕ) → IsIn s (f x) → a ≤ s) → (o : Option ℕ) → IsVerdict f stamp xs o → IsVerdict f stamp (x ∷ xs) (earliest_of (Some a) o stamp)
  some_here a i l None v = some_none a i l v
  some_here a i l (Some b) v = some_some a i l b v

  verdict_more : (ys : List ℕ) → f x ≡ ys → NeverFalls ys → (o : Option ℕ) → IsVerdict f stamp xs o → IsVerdict f stamp (x ∷ xs) (earliest_of (slice_get ys 0) o stamp)
  unfolding IsIn
  verdict_more [] e asc o v = none_here o e v
  verdict_more (a ∷ ys) e asc o v = some_here a (subst (λ (l : List ℕ). IsIn a l) (sym e) (inl refl)) (λ s i. first_least a ys asc s (subst (λ (l : List ℕ). IsIn s l) e i)) o v

pub verdict_cons : (f : List ℕ → List ℕ) (stamp : ℕ) (keys : List (List ℕ)) (key : List ℕ) (o : Option ℕ) → 1 ≤ length keys → key ≡ get_or keys 0 key → NeverFalls (f key) → IsVerdict f stamp (drop 1 keys) o → IsVerdict f stamp keys (earliest_of (slice_get (f key) 0) o stamp)
verdict_cons f stamp [] key o l e asc v = absurd (omega arith)
verdict_cons f stamp (x ∷ xs) key o l e asc v = verdict_more f stamp x xs (f key) (ap f (sym e)) asc o v

pub verdict_none : (f : List ℕ → List ℕ) (stamp : ℕ) (keys : List (List ℕ)) → length keys < 1 → IsFree f stamp keys
unfolding IsIn
verdict_none f stamp [] l = record { each = λ k h s i. absurd h }
verdict_none f stamp (x ∷ xs) l = absurd (omega arith)
