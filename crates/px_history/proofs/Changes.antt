-- Histories, lists of changes and rows of a batch, one step more.
use Rattle.std.proofs.Common.{◌≡◌, ℕ, zero, suc, ◌<◌, ◌≤◌, Bool, true, false, cond, ◌&&◌, ◌||◌, ◌==◌, filter, Some, List, [], ◌∷◌, ◌++◌, refl, ap, sym, ◌∙◌, subst, inl, inr, arith}
use Rattle.std.specs.Prelude.{nat_eq}
use Rattle.std.specs.List.{AllByRecursion}
use Rattle.std.proofs.lemmas.Bool.{cases_Bool, cases_eq, ne_eqb, eq-eqb, false≢true}
use Rattle.px_values.specs.declared.row.Value.{Value}
use Rattle.px_values.specs.declared.change.Change.{Change}
use Rattle.px_values.specs.declared.change.What.{What}
use Rattle.px_values.specs.States.{RowState, Shape}
use Rattle.px_values.specs.Order.{row_order}
use Rattle.std.specs.Ordering.{is_eq}
use Rattle.px_trail.specs.declared.entry.Entry.{Entry}
use Rattle.px_trail.specs.Batches.{change_of, has, rows_of}
use Rattle.px_trail.specs.Trail.{Base}
use Rattle.px_trail.specs.States.{Dated, IsRising}
use Rattle.px_world.specs.World.{Fate, Unbegun, Written, is_written as counts, is_expected, is_undecided, state_at}
use Rattle.px_world.proofs.States.{state_at-counted, state_at-skipped}
use Rattle.px_world.proofs.Told.{expected-decided}
use Rattle.px_history.specs.History.{History, written_state, expected_state}
use Rattle.px_history.specs.Rows.{base_history, history_step, history_from, IsListed}
use Rattle.px_history.proofs.UpTo.{AreUpTo}

-- ---- one act more

pub from-append : (sh : Shape) (t : ℕ) (r : List Value) (h : History RowState) (xs ys : List Entry) → history_from sh t r h (xs ++ ys) ≡ history_from sh t r (history_from sh t r h xs) ys
unfolding history_from
from-append sh t r h [] ys = refl
from-append sh t r h (x ∷ xs) ys = from-append sh t r (history_step sh t r h x.act) xs ys

pub from-snoc : (sh : Shape) (b : Base) (es : List Entry) (e : Entry) (t : ℕ) (r : List Value) → history_from sh t r (base_history b t r) (es ++ e ∷ []) ≡ history_step sh t r (history_from sh t r (base_history b t r) es) e.act
unfolding history_from
from-snoc sh b es e t r = from-append sh t r (base_history b t r) es (e ∷ [])

-- ---- states

-- the state depends on the changes that count alone
pub state_at-alike : {S : Type 0} (base : S) (cs cs' : ℕ → Bool) (new new' : ℕ → S) (p : ℕ) → ((s : ℕ) → s ≤ p → cs' s ≡ cs s) → ((s : ℕ) → s ≤ p → cs s ≡ true → new' s ≡ new s) → state_at base cs' new' p ≡ state_at base cs new p
unfolding state_at
state_at-alike base cs cs' new new' zero a b = refl
state_at-alike base cs cs' new new' (suc p) a b =
    let r = state_at-alike base cs cs' new new' p (λ s l. a s (omega arith)) (λ s l. b s (omega arith)) in
    elim (cases_Bool (cs (suc p))) [
      | inl e ↦ (let a0 = a (suc p) (omega arith) ∙ e in let b0 = b (suc p) (omega arith) e in rw (a0, e, b0) refl)
      | inr e ↦ (let a0 = a (suc p) (omega arith) ∙ e in rw (a0, e, r) refl)
    ]

-- with nothing that counts above q, the state at p is that at q
pub state_at-down : {S : Type 0} (base : S) (cs : ℕ → Bool) (new : ℕ → S) (p q : ℕ) → q ≤ p → ((s : ℕ) → q < s → s ≤ p → cs s ≡ false) → state_at base cs new p ≡ state_at base cs new q
state_at-down base cs new zero q l a = ap (state_at base cs new) (let e : zero ≡ q = omega arith in e)
state_at-down base cs new (suc p) q l a = elim (cases_eq q (suc p)) [
  | inl e ↦ ap (state_at base cs new) (sym e)
  | inr e ↦ state_at-skipped base cs new p (a (suc p) (omega arith) (omega arith)) ∙ state_at-down base cs new p q (omega arith) (λ s c d. a s c (omega arith))
]

pub cond_fate : (b : Bool) → counts (cond b Written Unbegun) ≡ b
cond_fate true = refl
cond_fate false = refl

pub written-counted : {S : Type 0} (h : History S) (p : ℕ) → counts (h.fate (suc p)) ≡ true → written_state h (suc p) ≡ h.new (suc p)
written-counted h p e = state_at-counted h.base (λ s. counts (h.fate s)) h.new p e

pub written-skipped : {S : Type 0} (h : History S) (p : ℕ) → counts (h.fate (suc p)) ≡ false → written_state h (suc p) ≡ written_state h p
written-skipped h p e = state_at-skipped h.base (λ s. counts (h.fate s)) h.new p e

pub written-down : {S : Type 0} (h : History S) (p q : ℕ) → q ≤ p → ((s : ℕ) → q < s → s ≤ p → counts (h.fate s) ≡ false) → written_state h p ≡ written_state h q
written-down h p q l a = state_at-down h.base (λ s. counts (h.fate s)) h.new p q l a

pub expected_counts : (f : Fate) → is_undecided f ≡ false → is_expected f ≡ counts f
expected_counts f h = expected-decided f h

pub expected_written : {S : Type 0} (h : History S) (p : ℕ) → ((s : ℕ) → s ≤ p → is_undecided (h.fate s) ≡ false) → expected_state h p ≡ written_state h p
expected_written h p d = state_at-alike h.base (λ s. counts (h.fate s)) (λ s. is_expected (h.fate s)) h.new h.new p (λ s l. expected_counts (h.fate s) (d s l)) (λ s l k. refl)

pub written-zero : {S : Type 0} (h : History S) → written_state h 0 ≡ h.base
unfolding state_at
written-zero h = refl

pub number_same : (n : ℕ) → (n == n) ≡ true
number_same n = eq-eqb n n refl

pub both_same : (n m : ℕ) → ((n == n) && (m == m)) ≡ true
both_same n m = rw (number_same n, number_same m) refl

-- ---- lists of changes

pub below_last : (n : ℕ) (d : Dated) (ds : List Dated) → n < d.stamp → AreUpTo n ds → AllByRecursion (λ x. x.stamp < d.stamp) ds
below_last n d [] l a = tt
below_last n d (x ∷ ds) l a = ((let i = a.0 in omega arith), below_last n d ds l a.1)

pub listed_left : (d : Dated) (xs ys : List Dated) → IsListed d xs → IsListed d (xs ++ ys)
unfolding IsListed
listed_left d [] ys h = absurd h
listed_left d (x ∷ xs) ys h = by (nat_eq x.stamp d.stamp) (listed_left d xs ys) h
  where
    by : (v : Bool) → (IsListed d xs → IsListed d (xs ++ ys)) → cond v (x ≡ d) (IsListed d xs) → cond v (x ≡ d) (IsListed d (xs ++ ys))
    by true f q = q
    by false f q = f q

pub listed_here : (d : Dated) (xs ys : List Dated) (x : Dated) → x.stamp ≡ d.stamp → x ≡ d → IsListed d (x ∷ xs)
unfolding IsListed
listed_here d xs ys x e q = by (nat_eq x.stamp d.stamp) (eq-eqb _ _ e)
  where
    by : (v : Bool) → v ≡ true → cond v (x ≡ d) (IsListed d xs)
    by true h = q
    by false h = absurd (false≢true h)

pub listed_end : (d : Dated) (xs : List Dated) → AllByRecursion (λ x. x.stamp < d.stamp) xs → IsListed d (xs ++ d ∷ [])
unfolding IsListed
listed_end d [] a = listed_here d [] [] d refl refl
listed_end d (x ∷ xs) a = by (nat_eq x.stamp d.stamp) (listed_end d xs a.1) (ne_eqb _ _ (λ e. absurd (let i = a.0 in omega arith)))
  where
    by : (v : Bool) → IsListed d (xs ++ d ∷ []) → v ≡ false → cond v (x ≡ d) (IsListed d (xs ++ d ∷ []))
    by true f h = absurd (false≢true (sym h))
    by false f h = f

pub all_listed : (P : Dated → Type 0) (d : Dated) (ds : List Dated) → AllByRecursion P ds → IsListed d ds → P d
unfolding IsListed
all_listed P d [] a h = absurd h
all_listed P d (x ∷ ds) a h = by (nat_eq x.stamp d.stamp) (all_listed P d ds a.1) h
  where
    by : (v : Bool) → (IsListed d ds → P d) → cond v (x ≡ d) (IsListed d ds) → P d
    by true f q = subst P q a.0
    by false f q = f q

pub listed_none : (d : Dated) (n : ℕ) (ds : List Dated) → d.stamp ≤ n → AllByRecursion (λ x. n < x.stamp) ds → IsListed d ds → ⊥
unfolding IsListed
listed_none d n [] l a h = h
listed_none d n (x ∷ ds) l a h = by (nat_eq x.stamp d.stamp) (listed_none d n ds l a.1) (ne_eqb _ _ (λ e. absurd (let i = a.0 in omega arith))) h
  where
    by : (v : Bool) → (IsListed d ds → ⊥) → v ≡ false → cond v (x ≡ d) (IsListed d ds) → ⊥
    by true f e q = false≢true (sym e)
    by false f e q = f q

pub listed_later : (d x : Dated) (ds : List Dated) → (x.stamp ≡ d.stamp → ⊥) → IsListed d (x ∷ ds) → IsListed d ds
unfolding IsListed
listed_later d x ds n h = by (nat_eq x.stamp d.stamp) (ne_eqb _ _ n) h
  where
    by : (v : Bool) → v ≡ false → cond v (x ≡ d) (IsListed d ds) → IsListed d ds
    by true e q = absurd (false≢true (sym e))
    by false e q = q

pub listed_first : (d x : Dated) (ds : List Dated) → x.stamp ≡ d.stamp → IsListed d (x ∷ ds) → x ≡ d
unfolding IsListed
listed_first d x ds n h = by (nat_eq x.stamp d.stamp) (eq-eqb _ _ n) h
  where
    by : (v : Bool) → v ≡ true → cond v (x ≡ d) (IsListed d ds) → x ≡ d
    by true e q = q
    by false e q = absurd (false≢true e)

pub filter_none : (q : ℕ → Bool) (n : ℕ) (ds : List Dated) → AllByRecursion (λ x. n < x.stamp) ds → ((u : ℕ) → n < u → q u ≡ false) → filter (λ d. q d.stamp) ds ≡ []
filter_none q n [] a f = refl
filter_none q n (d ∷ ds) a f = (let e = f d.stamp a.0 in let g = filter_none q n ds a.1 f in rw (e, g) refl)

pub all_above : (n m : ℕ) (ds : List Dated) → n ≤ m → AllByRecursion (λ x. m < x.stamp) ds → AllByRecursion (λ x. n < x.stamp) ds
all_above n m [] l a = tt
all_above n m (d ∷ ds) l a = ((let i = a.0 in omega arith), all_above n m ds l a.1)

-- where one change more is written, after all that were, it is the last of the written ones
pub filter_more : (q q' : ℕ → Bool) (d : Dated) → ((u : ℕ) → (d.stamp ≡ u → ⊥) → q' u ≡ q u) → q' d.stamp ≡ true → q d.stamp ≡ false → ((u : ℕ) → d.stamp < u → q u ≡ false) → (ds : List Dated) → IsRising ds → IsListed d ds → filter (λ x. q' x.stamp) ds ≡ filter (λ x. q x.stamp) ds ++ d ∷ []
filter_more q q' d same here not_here up [] r h = absurd (nothing h)
  where
    nothing : IsListed d [] → ⊥
    nothing x = listed_none d d.stamp [] (omega arith) tt x
filter_more q q' d same here not_here up (x ∷ ds) r h = elim (cases_eq x.stamp d.stamp) [
  | inl e ↦
      (let is : x ≡ d = listed_first d x ds e h in
      let above : AllByRecursion (λ y. d.stamp < y.stamp) ds = all_above d.stamp x.stamp ds (omega arith) r.0 in
      let none = filter_none q d.stamp ds above up in
      let none' = filter_none q' d.stamp ds above (λ u l. same u (λ z. absurd (omega arith)) ∙ up u l) in
      let a : q' x.stamp ≡ true = ap q' e ∙ here in
      let c : q x.stamp ≡ false = ap q e ∙ not_here in
      rw (a, c, none, none') (ap (λ (y : Dated). y ∷ []) is))
  | inr e ↦
      (let f = filter_more q q' d same here not_here up ds r.1 (listed_later d x ds e h) in
      let a : q' x.stamp ≡ q x.stamp = same x.stamp (λ z. e (sym z)) in
      goes x ds a f)
]
  where
    goes : (x : Dated) (ds : List Dated) → q' x.stamp ≡ q x.stamp → filter (λ y. q' y.stamp) ds ≡ filter (λ y. q y.stamp) ds ++ d ∷ [] → filter (λ y. q' y.stamp) (x ∷ ds) ≡ filter (λ y. q y.stamp) (x ∷ ds) ++ d ∷ []
    goes x ds a f = elim (cases_Bool (q x.stamp)) [
      | inl v ↦ (let v' : q' x.stamp ≡ true = a ∙ v in rw (v, v') (ap (λ (l : List Dated). x ∷ l) f))
      | inr v ↦ (let v' : q' x.stamp ≡ false = a ∙ v in rw (v, v') f)
    ]

-- ---- rows of a batch

pub change-has : (cs : List Change) (r : List Value) → has (rows_of cs) r ≡ true → (w : What) × (change_of cs r ≡ Some w)
unfolding has change_of
change-has [] r h = absurd (false≢true h)
change-has (c ∷ cs) r h = elim (cases_Bool (is_eq (row_order c.row r))) [
  | inl e ↦ (c.what, rw e refl)
  | inr e ↦ (let z = change-has cs r (rw e at h) in (z.0, rw e z.1))
]
