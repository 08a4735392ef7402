-- The batches that have begun and not ended.
use Rattle.std.proofs.Common.{◌≡◌, ◌≢◌, ℕ, zero, suc, ◌<◌, ◌+◌, Bool, true, false, not, ◌||◌, ◌&&◌, List, [], ◌∷◌, ◌++◌, filter, length, get_or, refl, ap, sym, ◌∙◌, subst, inl, inr, arith}
use Rattle.std.specs.Prelude.{nat_eq, nat_le, nat_lt}
use Rattle.std.specs.List.{list_any, AllByRecursion}
use Rattle.std.proofs.Math.ListN.{set}
use Rattle.std.proofs.lemmas.List.Folds.{list_any-append}
use Rattle.std.proofs.lemmas.Bool.{cases_Bool, cases_eq, ne_eqb, eq-eqb, lt-ltb, false≢true}
use Rattle.std.proofs.lemmas.Bool.Decides.{nat_tests}
use Rattle.px_world.specs.Events.{set_stamp}
use Rattle.px_world.proofs.Steps.{set_stamp-same, set_stamp-other}
use Rattle.px_groupworld.specs.Group.{is_waiting, waits_in, no_open, AreApart, OpenBatch}

and_false_left : (a c : Bool) → a ≡ false → (a && c) ≡ false
and_false_left true c h = absurd (false≢true (sym h))
and_false_left false c h = refl

-- ---- lists

pub all_at : (P : OpenBatch → Type 0) (os : List OpenBatch) (m : ℕ) → AllByRecursion P os → m < length os → P (get_or os m no_open)
all_at P [] m a l = absurd (omega arith)
all_at P (o ∷ os) zero a l = a.0
all_at P (o ∷ os) (suc m) a l = all_at P os m a.1 (omega arith)

pub all_set : (P : OpenBatch → Type 0) (os : List OpenBatch) (m : ℕ) (o' : OpenBatch) → AllByRecursion P os → P o' → AllByRecursion P (set os m o')
all_set P [] m o' a p = tt
all_set P (o ∷ os) zero o' a p = (p, a.1)
all_set P (o ∷ os) (suc m) o' a p = (a.0, all_set P os m o' a.1 p)

pub all_more : (P Q : OpenBatch → Type 0) (os : List OpenBatch) → ((o : OpenBatch) → P o → Q o) → AllByRecursion P os → AllByRecursion Q os
all_more P Q [] f a = tt
all_more P Q (o ∷ os) f a = (f o a.0, all_more P Q os f a.1)

pub all_filter : (P : OpenBatch → Type 0) (q : OpenBatch → Bool) (os : List OpenBatch) → AllByRecursion P os → AllByRecursion P (filter q os)
all_filter P q [] a = tt
all_filter P q (o ∷ os) a = (let r = all_filter P q os a.1 in elim (cases_Bool (q o)) [ inl e ↦ rw e (a.0, r) | inr e ↦ rw e r ])

pub all_end : (P : OpenBatch → Type 0) (os : List OpenBatch) (o : OpenBatch) → AllByRecursion P os → P o → AllByRecursion P (os ++ o ∷ [])
all_end P [] o a p = (p, tt)
all_end P (x ∷ os) o a p = (a.0, all_end P os o a.1 p)

pub apart_end : (os : List OpenBatch) (o : OpenBatch) → AreApart os → AllByRecursion (λ p. p.stamp ≢ o.stamp) os → AreApart (os ++ o ∷ [])
apart_end [] o a n = (tt, tt)
apart_end (x ∷ os) o a n = (all_end (λ p. x.stamp ≢ p.stamp) os o a.0 n.0, apart_end os o a.1 n.1)

pub apart_filter : (q : OpenBatch → Bool) (os : List OpenBatch) → AreApart os → AreApart (filter q os)
apart_filter q [] a = tt
apart_filter q (o ∷ os) a = (let r = apart_filter q os a.1 in let s = all_filter (λ p. o.stamp ≢ p.stamp) q os a.0 in elim (cases_Bool (q o)) [ inl e ↦ rw e (s, r) | inr e ↦ rw e r ])

pub apart_set : (os : List OpenBatch) (m : ℕ) (o' : OpenBatch) → AreApart os → m < length os → o'.stamp ≡ (get_or os m no_open).stamp → AreApart (set os m o')
apart_set [] m o' a l e = tt
apart_set (o ∷ os) zero o' a l e = (subst (λ (s : ℕ). AllByRecursion (λ p. s ≢ p.stamp) os) (sym e) a.0, a.1)
apart_set (o ∷ os) (suc m) o' a l e = (
  all_set (λ p. o.stamp ≢ p.stamp) os m o' a.0 (λ q. all_at (λ p. o.stamp ≢ p.stamp) os m a.0 (omega arith) (q ∙ e)),
  apart_set os m o' a.1 (omega arith) e,
)

any_set_same : (p : OpenBatch → Bool) (os : List OpenBatch) (m : ℕ) (o' : OpenBatch) → m < length os → p o' ≡ p (get_or os m no_open) → list_any p (set os m o') ≡ list_any p os
any_set_same p [] m o' l e = absurd (omega arith)
any_set_same p (o ∷ os) zero o' l e = ap (λ v. v || list_any p os) e
any_set_same p (o ∷ os) (suc m) o' l e = ap (λ v. p o || v) (any_set_same p os m o' (omega arith) e)

any_none : (p : OpenBatch → Bool) (os : List OpenBatch) → AllByRecursion (λ o. p o ≡ false) os → list_any p os ≡ false
any_none p [] a = refl
any_none p (o ∷ os) a = (let x = a.0 in let r = any_none p os a.1 in rw (x, r) refl)

any_set_none : (p : OpenBatch → Bool) (os : List OpenBatch) (m : ℕ) (o' : OpenBatch) → AreApart os → m < length os → p o' ≡ false → ((o : OpenBatch) → (get_or os m no_open).stamp ≢ o.stamp → p o ≡ false) → list_any p (set os m o') ≡ false
any_set_none p [] m o' a l e n = absurd (omega arith)
any_set_none p (o ∷ os) zero o' a l e n = (let r = any_none p os (all_more (λ q. o.stamp ≢ q.stamp) (λ q. p q ≡ false) os n a.0) in rw (e, r) refl)
any_set_none p (o ∷ os) (suc m) o' a l e n = (let x = n o (λ q. all_at (λ q. o.stamp ≢ q.stamp) os m a.0 (omega arith) (sym q)) in let r = any_set_none p os m o' a.1 (omega arith) e n in rw (x, r) refl)

any_filter_same : (p q : OpenBatch → Bool) (os : List OpenBatch) → AllByRecursion (λ o. q o ≡ false → p o ≡ false) os → list_any p (filter q os) ≡ list_any p os
any_filter_same p q [] a = refl
any_filter_same p q (o ∷ os) a = (let r = any_filter_same p q os a.1 in elim (cases_Bool (q o)) [
  | inl e ↦ rw e (ap (λ v. p o || v) r)
  | inr e ↦ (let x = a.0 e in rw (e, x) r)
])

-- ---- what the indexes wait for

-- a batch that begins
pub waits_begun : (os : List OpenBatch) (s count i : ℕ) → i < count → (u : ℕ) → waits_in (os ++ record { stamp = s; done = 0; count = count } ∷ []) i u ≡ set_stamp s true (waits_in os i) u
waits_begun os s count i l u = list_any-append (is_waiting i u) os (record { stamp = s; done = 0; count = count } ∷ []) ∙ elim (cases_eq s u) [
  | inl e ↦ subst (λ (z : ℕ). (waits_in os i z || (is_waiting i z (record { stamp = s; done = 0; count = count }) || false)) ≡ set_stamp s true (waits_in os i) z) e (here ∙ sym (set_stamp-same s true (waits_in os i)))
  | inr e ↦ ap (λ v. waits_in os i u || (v || false)) (and_false_left (nat_eq s u) (nat_le 0 i && nat_lt i count) (ne_eqb s u e)) ∙ (or_false (waits_in os i u) ∙ sym (set_stamp-other s true (waits_in os i) u e))
]
  where
    or_false : (v : Bool) → (v || (false || false)) ≡ v
    or_false true = refl
    or_false false = refl

    or_true : (v : Bool) → (v || (true || false)) ≡ true
    or_true true = refl
    or_true false = refl

    waiting : is_waiting i s (record { stamp = s; done = 0; count = count }) ≡ true
    waiting = (let a = eq-eqb s s refl in let b : nat_le 0 i ≡ true = grind (arith, nat_tests) in let c = lt-ltb i count l in rw (a, b, c) refl)

    here : (waits_in os i s || (is_waiting i s (record { stamp = s; done = 0; count = count }) || false)) ≡ true
    here = ap (λ v. waits_in os i s || (v || false)) waiting ∙ or_true (waits_in os i s)

-- a batch that has marked its next index
module _ (os : List OpenBatch) (m : ℕ) (apart : AreApart os) (l : m < length os) where
  abbrev o : OpenBatch
  o = get_or os m no_open

  abbrev pub gone_on : OpenBatch
  gone_on = record o { done = o.done + 1 }

  other_stamp : (i u : ℕ) (p : OpenBatch) → (p.stamp ≡ u → ⊥) → is_waiting i u p ≡ false
  other_stamp i u p n = and_false_left (nat_eq p.stamp u) (nat_le p.done i && nat_lt i p.count) (ne_eqb p.stamp u n)

  pub waits_marked : (u : ℕ) → waits_in (set os m gone_on) o.done u ≡ set_stamp o.stamp false (waits_in os o.done) u
  waits_marked u = elim (cases_eq o.stamp u) [
    | inl e ↦ subst (λ (z : ℕ). waits_in (set os m gone_on) o.done z ≡ set_stamp o.stamp false (waits_in os o.done) z) e
        (any_set_none (is_waiting o.done o.stamp) os m gone_on apart l done (λ p n. other_stamp o.done o.stamp p (λ q. n (sym q))) ∙ sym (set_stamp-same o.stamp false (waits_in os o.done)))
    | inr e ↦ any_set_same (is_waiting o.done u) os m gone_on l (other_stamp o.done u gone_on e ∙ sym (other_stamp o.done u o e)) ∙ sym (set_stamp-other o.stamp false (waits_in os o.done) u e)
  ]
    where
      done : is_waiting o.done o.stamp gone_on ≡ false
      done = (let b : nat_le (o.done + 1) o.done ≡ false = grind (arith, nat_tests) in rw b (and_nothing (nat_eq o.stamp o.stamp)))
        where
          and_nothing : (a : Bool) → (a && false) ≡ false
          and_nothing true = refl
          and_nothing false = refl

  pub waits_others : (i : ℕ) → (o.done ≡ i → ⊥) → (u : ℕ) → waits_in (set os m gone_on) i u ≡ waits_in os i u
  waits_others i n u = any_set_same (is_waiting i u) os m gone_on l (ap (λ v. nat_eq o.stamp u && (v && nat_lt i o.count)) (same i n))
    where
      same : (i : ℕ) → (o.done ≡ i → ⊥) → nat_le (o.done + 1) i ≡ nat_le o.done i
      same i n = grind (arith, nat_tests)

-- a batch that has marked all its indexes is waited for by none
pub all_marked : (o : OpenBatch) (i u : ℕ) → o.done ≡ o.count → is_waiting i u o ≡ false
all_marked o i u e = ap (λ v. nat_eq o.stamp u && v) (none o.done o.count i e) ∙ and_nothing (nat_eq o.stamp u)
  where
    and_nothing : (a : Bool) → (a && false) ≡ false
    and_nothing true = refl
    and_nothing false = refl

    none : (d c i : ℕ) → d ≡ c → (nat_le d i && nat_lt i c) ≡ false
    none d c i e = elim (cases_Bool (nat_le d i)) [
      | inl k ↦ (let z : nat_lt i c ≡ false = grind (arith, nat_tests) in rw (k, z) refl)
      | inr k ↦ rw k refl
    ]

waits_if : (p : OpenBatch → Bool) (os : List OpenBatch) (m : ℕ) → AreApart os → m < length os → p (get_or os m no_open) ≡ false → ((o : OpenBatch) → (get_or os m no_open).stamp ≢ o.stamp → p o ≡ false) → list_any p os ≡ false
waits_if p [] m a l e n = absurd (omega arith)
waits_if p (o ∷ os) zero a l e n = (let r = any_none p os (all_more (λ q. o.stamp ≢ q.stamp) (λ q. p q ≡ false) os n a.0) in rw (e, r) refl)
waits_if p (o ∷ os) (suc m) a l e n = (let x = n o (λ q. all_at (λ q. o.stamp ≢ q.stamp) os m a.0 (omega arith) (sym q)) in let r = waits_if p os m a.1 (omega arith) e n in rw (x, r) refl)

pub waits_none : (os : List OpenBatch) (m : ℕ) → AreApart os → m < length os → (get_or os m no_open).done ≡ (get_or os m no_open).count → (i : ℕ) → waits_in os i (get_or os m no_open).stamp ≡ false
waits_none os m a l e i = waits_if (is_waiting i (get_or os m no_open).stamp) os m a l (all_marked (get_or os m no_open) i (get_or os m no_open).stamp e) (λ p n. and_false_left (nat_eq p.stamp (get_or os m no_open).stamp) (nat_le p.done i && nat_lt i p.count) (ne_eqb p.stamp (get_or os m no_open).stamp (λ q. n (sym q))))

-- and can be let go
gone_same : (os : List OpenBatch) (m : ℕ) → AreApart os → m < length os → (get_or os m no_open).done ≡ (get_or os m no_open).count → (i u : ℕ) → AllByRecursion (λ o. not (nat_eq o.stamp (get_or os m no_open).stamp) ≡ false → is_waiting i u o ≡ false) os
gone_same [] m a l e i u = tt
gone_same (o ∷ os) zero a l e i u = (
  λ h. all_marked o i u e,
  all_more (λ q. o.stamp ≢ q.stamp) (λ q. not (nat_eq q.stamp o.stamp) ≡ false → is_waiting i u q ≡ false) os (λ q n h. absurd (false≢true (sym h ∙ ap not (ne_eqb q.stamp o.stamp (λ z. n (sym z)))))) a.0,
)
gone_same (o ∷ os) (suc m) a l e i u = (
  λ h. absurd (false≢true (sym h ∙ ap not (ne_eqb o.stamp (get_or os m no_open).stamp (all_at (λ q. o.stamp ≢ q.stamp) os m a.0 (omega arith))))),
  gone_same os m a.1 (omega arith) e i u,
)

pub waits_gone : (os : List OpenBatch) (m : ℕ) → AreApart os → m < length os → (get_or os m no_open).done ≡ (get_or os m no_open).count → (i u : ℕ) → waits_in (filter (λ o. not (nat_eq o.stamp (get_or os m no_open).stamp)) os) i u ≡ waits_in os i u
waits_gone os m a l e i u = any_filter_same (is_waiting i u) (λ o. not (nat_eq o.stamp (get_or os m no_open).stamp)) os (gone_same os m a l e i u)

-- an open batch waits to mark its next index
pub is_next : (o : OpenBatch) → o.done < o.count → is_waiting o.done o.stamp o ≡ true
is_next o l = (let a = eq-eqb o.stamp o.stamp refl in let b : nat_le o.done o.done ≡ true = grind (arith, nat_tests) in let c = lt-ltb o.done o.count l in rw (a, b, c) refl)

any_true : (p : OpenBatch → Bool) (os : List OpenBatch) (m : ℕ) → m < length os → p (get_or os m no_open) ≡ true → list_any p os ≡ true
any_true p [] m l e = absurd (omega arith)
any_true p (o ∷ os) zero l e = rw e refl
any_true p (o ∷ os) (suc m) l e = (let r = any_true p os m (omega arith) e in rw r (or_true (p o)))
  where
    or_true : (v : Bool) → (v || true) ≡ true
    or_true true = refl
    or_true false = refl

pub waits_true : (os : List OpenBatch) (m : ℕ) → m < length os → is_waiting (get_or os m no_open).done (get_or os m no_open).stamp (get_or os m no_open) ≡ true → waits_in os (get_or os m no_open).done (get_or os m no_open).stamp ≡ true
waits_true os m l e = any_true (is_waiting (get_or os m no_open).done (get_or os m no_open).stamp) os m l e
