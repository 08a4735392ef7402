-- What the bounds of a horizon are.
use Rattle.std.proofs.Common.{◌≡◌, ◌⊎◌, inl, inr, ℕ, ◌+◌, ◌-◌, ◌<◌, ◌≤◌, ◌==◌, ◌||◌, Bool, true, false, min, max, List, [], ◌∷◌, length, drop, get_or, refl, sym, ap, subst, ◌∙◌, arith}
use Rattle.std.proofs.lemmas.Bool.{cases_lt, eq-eqb, eqb-true, false≢true}
use Rattle.std.proofs.lemmas.List.{at_drop_all, at_drop_more}
use Rattle.std.proofs.lemmas.List.Sums.{sum_by-cons}
use Rattle.px_group.specs.Group.{one_if}
use Rattle.px_group.specs.declared.group.Begun.{Begun}
use Rattle.px_group.specs.declared.group.Group.{Group}
use Rattle.px_group.specs.declared.group.OpenPoint.{OpenPoint}
use Rattle.px_turns.specs.Turns.{IsAllowedHorizon, IsRaise}
use Rattle.px_raising.specs.Turning.{below_batches, has_batch, points_at, to_points, turning_of_group}

-- ---- batches

batch_here : (m : Begun) (ms : List Begun) → has_batch (m ∷ ms) m.batch.stamp ≡ true
batch_here m ms = ap (λ v. v || has_batch ms m.batch.stamp) (eq-eqb m.batch.stamp m.batch.stamp refl)

or_right : (u v : Bool) → v ≡ true → (u || v) ≡ true
or_right true v h = refl
or_right false v h = h

or_cases : (u v : Bool) → (u || v) ≡ true → (u ≡ true) ⊎ (v ≡ true)
or_cases true v h = inl refl
or_cases false v h = inr h

batch_later : (m : Begun) (ms : List Begun) (s : ℕ) → has_batch ms s ≡ true → has_batch (m ∷ ms) s ≡ true
batch_later m ms s h = or_right (m.batch.stamp == s) (has_batch ms s) h

pub below_most : (ms : List Begun) (most : ℕ) → below_batches ms most ≤ most
unfolding below_batches
below_most [] most = omega arith
below_most (m ∷ ms) most = let k = below_most ms (min most (m.batch.stamp - 1)) in omega (arith, k)

pub below_each : (ms : List Begun) (most s : ℕ) → has_batch ms s ≡ true → below_batches ms most ≤ s - 1
unfolding below_batches
below_each [] most s h = absurd (false≢true h)
below_each (m ∷ ms) most s h = elim (or_cases (m.batch.stamp == s) (has_batch ms s) h) [
  | inl here ↦
      let k = below_most ms (min most (m.batch.stamp - 1)) in
      let e : m.batch.stamp ≡ s = eqb-true m.batch.stamp s here in
      omega (arith, k, e)
  | inr later ↦ below_each ms (min most (m.batch.stamp - 1)) s later
]

pub below_greatest : (ms : List Begun) (most h : ℕ) → h ≤ most → ((s : ℕ) → has_batch ms s ≡ true → h < s) → h ≤ below_batches ms most
unfolding below_batches
below_greatest [] most h low each = low
below_greatest (m ∷ ms) most h low each =
    let here : h < m.batch.stamp = each m.batch.stamp (batch_here m ms) in
    below_greatest ms (min most (m.batch.stamp - 1)) h (omega (arith, low, here)) (λ s k. each s (batch_later m ms s k))

-- one batch more, and all
pub below_next : (ms : List Begun) (i : ℕ) (m : Begun) (least next : ℕ) → i < length ms → m ≡ get_or ms i m → next ≡ min least (m.batch.stamp - 1) → below_batches (drop (i + 1) ms) next ≡ below_batches (drop i ms) least
unfolding below_batches
below_next ms i m least next lt is now =
    ap (below_batches (drop (i + 1) ms)) now ∙ (ap (λ (x : Begun). below_batches (x ∷ drop (i + 1) ms) least) is ∙ sym (at_drop_more (λ (xs : List Begun). below_batches xs least) ms i m lt))

pub below_all : (ms : List Begun) (i least : ℕ) → length ms ≤ i → below_batches (drop i ms) least ≡ least
unfolding below_batches
below_all ms i least le = at_drop_all (λ (xs : List Begun). below_batches xs least) ms i le

-- ---- points

at_cons : (p : OpenPoint) (ps : List OpenPoint) (s : ℕ) → points_at (p ∷ ps) s ≡ one_if (p.stamp == s) + points_at ps s
at_cons p ps s = sum_by-cons (λ (q : OpenPoint). one_if (q.stamp == s)) p ps

one_true : (v : Bool) (n : ℕ) → v ≡ true → 0 < one_if v + n
one_true true n e = omega arith
one_true false n e = absurd (false≢true e)

one_cases : (v : Bool) (n : ℕ) → 0 < one_if v + n → (v ≡ true) ⊎ (0 < n)
one_cases true n h = inl refl
one_cases false n h = inr (omega (arith, h))

point_here : (p : OpenPoint) (ps : List OpenPoint) → 0 < points_at (p ∷ ps) p.stamp
point_here p ps = subst (λ (n : ℕ). 0 < n) (sym (at_cons p ps p.stamp)) (one_true (p.stamp == p.stamp) (points_at ps p.stamp) (eq-eqb p.stamp p.stamp refl))

point_later : (p : OpenPoint) (ps : List OpenPoint) (s : ℕ) → 0 < points_at ps s → 0 < points_at (p ∷ ps) s
point_later p ps s h = let e = at_cons p ps s in omega (arith, h, e)

point_cases : (p : OpenPoint) (ps : List OpenPoint) (s : ℕ) → 0 < points_at (p ∷ ps) s → (p.stamp ≡ s) ⊎ (0 < points_at ps s)
point_cases p ps s h = elim (one_cases (p.stamp == s) (points_at ps s) (subst (λ (n : ℕ). 0 < n) (at_cons p ps s) h)) [
  | inl e ↦ inl (eqb-true p.stamp s e)
  | inr k ↦ inr k
]

pub to_most : (ps : List OpenPoint) (most : ℕ) → to_points ps most ≤ most
unfolding to_points
to_most [] most = omega arith
to_most (p ∷ ps) most = let k = to_most ps (min most p.stamp) in omega (arith, k)

pub to_each : (ps : List OpenPoint) (most s : ℕ) → 0 < points_at ps s → to_points ps most ≤ s
unfolding to_points
to_each [] most s h = absurd (omega (arith, h))
to_each (p ∷ ps) most s h = elim (point_cases p ps s h) [
  | inl e ↦ (let k = to_most ps (min most p.stamp) in omega (arith, k, e))
  | inr later ↦ to_each ps (min most p.stamp) s later
]

pub to_greatest : (ps : List OpenPoint) (most h : ℕ) → h ≤ most → ((s : ℕ) → 0 < points_at ps s → h ≤ s) → h ≤ to_points ps most
unfolding to_points
to_greatest [] most h low each = low
to_greatest (p ∷ ps) most h low each =
    let here : h ≤ p.stamp = each p.stamp (point_here p ps) in
    to_greatest ps (min most p.stamp) h (omega (arith, low, here)) (λ s k. each s (point_later p ps s k))

-- one point more, and all
pub to_next : (ps : List OpenPoint) (i : ℕ) (none : OpenPoint) (least next : ℕ) → i < length ps → next ≡ min least (get_or ps i none).stamp → to_points (drop (i + 1) ps) next ≡ to_points (drop i ps) least
unfolding to_points
to_next ps i none least next lt now = ap (to_points (drop (i + 1) ps)) now ∙ sym (at_drop_more (λ (xs : List OpenPoint). to_points xs least) ps i none lt)

pub to_all : (ps : List OpenPoint) (i least : ℕ) → length ps ≤ i → to_points (drop i ps) least ≡ least
unfolding to_points
to_all ps i least le = at_drop_all (λ (xs : List OpenPoint). to_points xs least) ps i le

-- ---- the horizon

-- the greatest number within the bounds is the one that is allowed, unless it isn't above the horizon
module _ (g : Group) (lookback : ℕ) where
  abbrev back : ℕ
  back = g.last - lookback

  abbrev unclosed : ℕ
  unclosed = below_batches g.batches.items back

  abbrev within : ℕ
  within = to_points g.points.items unclosed

  within_allowed : g.horizon < within → IsAllowedHorizon (turning_of_group g) lookback within
  within_allowed above = record {
    back = (let k = to_most g.points.items unclosed in let n = below_most g.batches.items back in omega (arith, k, n));
    unclosed = λ s has. (let k = to_most g.points.items unclosed in let n = below_each g.batches.items back s has in omega (arith, k, n, above));
    points = λ s open_. to_each g.points.items unclosed s open_;
  }

  pub is_raise : (r : ℕ) → r ≡ max within g.horizon → IsRaise (turning_of_group g) lookback r
  is_raise r is = record {
    stays = omega (arith, is);
    allowed = elim (cases_lt g.horizon within) [
      | inl above ↦ (let e : r ≡ within = omega (arith, is, above) in inr (subst (IsAllowedHorizon (turning_of_group g) lookback) (sym e) (within_allowed above)))
      | inr low ↦ inl (omega (arith, is, low))
    ];
    greatest = λ h a. (let k = to_greatest g.points.items unclosed h (below_greatest g.batches.items back h a.back a.unclosed) a.points in omega (arith, is, k));
  }
