-- How many points and batches of a table are open: as many as its group has.
use Rattle.std.proofs.Common.{◌≡◌, ◌≢◌, ◌<◌, ◌≤◌, ◌+◌, ◌-◌, inl, inr, ℕ, suc, Bool, true, false, ◌&&◌, ◌||◌, ◌==◌, if◌then◌else◌, Option, Some, None, List, [], ◌∷◌, ◌++◌, length, map, refl, sym, ap, subst, ◌∙◌, arith}
use Rattle.std.specs.Prelude.{not, sum_by}
use Rattle.std.specs.List.{AllByRecursion}
use Rattle.std.proofs.lemmas.Bool.{cases_Bool, cases_eq, eq-eqb, eqb-true, false≢true, ne_eqb}
use Rattle.std.proofs.lemmas.List.{length-map}
use Rattle.std.proofs.lemmas.List.Sums.{sum_by-cons}
use Rattle.px_values.specs.declared.name.TableId.{TableId}
use Rattle.px_trail.specs.Batches.{Batch, batch_from, batch_of, batch_step, begun_batch}
use Rattle.px_trail.specs.Legal.{Follows, IsEndable, IsLegal, IsQuiet, MayCome}
use Rattle.px_trail.specs.Trail.{Base, open_points, points_from, points_step}
use Rattle.px_trail.specs.declared.entry.Act.{Act}
use Rattle.px_trail.specs.declared.entry.Act.TheVariants.{Made, IndexMade, IndexState, Dropped, Begun, Phase, Wrote, Ended, Opened, Released, Raised, Fixed, Based, Missed, Shut}
use Rattle.px_trail.specs.declared.entry.Entry.{Entry}
use Rattle.px_trail.proofs.Batches.{batch-none, in_closing, in_verifying}
use Rattle.px_trail.proofs.Growth.{batch_of-snoc, legal-induct, points-snoc}
use Rattle.px_calls.specs.Causes.{uses_from, uses_of, uses_step}
use Rattle.px_openbatches.specs.Pending.{AreStampsRisingFrom, HeldBatch, IsHeldBatch, is_in}
use Rattle.px_phases.specs.Batch.{AreHeldAs}
use Rattle.px_group.specs.Group.{IsTallied, batch_in, one_if, points_in}
use Rattle.px_group.specs.declared.group.Begun.{Begun as OpenBatch}
use Rattle.px_group.specs.declared.group.Group.{Group}
use Rattle.px_group.specs.declared.group.OpenPoint.{OpenPoint}
use Rattle.px_noting.proofs.Others.{apart_points}

-- ---- lists with the same elements, each as often, are equally long

module _ {A : Type 0} (same : A → A → Bool) (self : (x : A) → same x x ≡ true) (is_same : (x y : A) → same x y ≡ true → x ≡ y) where
  abbrev count : A → List A → ℕ
  count a xs = sum_by (λ x. one_if (same x a)) xs

  count_more : (a x : A) (xs : List A) → count a (x ∷ xs) ≡ one_if (same x a) + count a xs
  count_more a x xs = sum_by-cons (λ y. one_if (same y a)) x xs

  record IsLess (x : A) (ys zs : List A) : Type 0 where
    counts : (a : A) → count a ys ≡ count a zs + one_if (same x a)
    long : length ys ≡ suc (length zs)

  take_out : (x : A) (ys : List A) → 0 < count x ys → (zs : List A) × IsLess x ys zs
  take_out x [] some = absurd (omega (arith, some))
  take_out x (y ∷ ys) some = elim (cases_Bool (same y x)) [
    | inl e ↦ (ys, record { counts = λ a. (let m = count_more a y ys in let own : one_if (same y a) ≡ one_if (same x a) = ap (λ (z : A). one_if (same z a)) (is_same y x e) in omega (arith, m, own)); long = refl })
    | inr e ↦
        let m = count_more x y ys in
        let none : one_if (same y x) ≡ 0 = ap one_if e in
        let rest = take_out x ys (omega (arith, m, none, some)) in
        (y ∷ rest.0, record { counts = λ a. (let n = count_more a y ys in let k = count_more a y rest.0 in let c = rest.1.counts a in omega (arith, n, k, c)); long = ap suc rest.1.long })
  ]

  pub same_length : (xs ys : List A) → ((a : A) → count a xs ≡ count a ys) → length xs ≡ length ys
  same_length [] [] alike = refl
  same_length [] (y ∷ ys) alike = absurd (let m = count_more y y ys in let one : one_if (same y y) ≡ 1 = ap one_if (self y) in let none = alike y in omega (arith, m, one, none))
  same_length (x ∷ xs) ys alike = (let
      m = count_more x x xs
      in let
      one : one_if (same x x) ≡ 1 = ap one_if (self x)
      in let
      out = take_out x ys (let here = alike x in omega (arith, m, one, here))
      in let
      rest = same_length xs out.0 (λ a. (let n = count_more a x xs in let c = out.1.counts a in let both = alike a in omega (arith, n, c, both)))
      in ap suc rest ∙ sym out.1.long)

-- ---- points, and stamps of batches

abbrev point_same : OpenPoint → OpenPoint → Bool
point_same p q = (p.seat == q.seat) && (p.stamp == q.stamp)

both : (v w : Bool) → v ≡ true → w ≡ true → (v && w) ≡ true
both true w a c = c
both false w a c = absurd (false≢true a)

parts : (v w : Bool) → (v && w) ≡ true → (v ≡ true) × (w ≡ true)
parts true w is = (refl, is)
parts false w is = absurd (false≢true is)

point_self : (p : OpenPoint) → point_same p p ≡ true
point_self p = both (p.seat == p.seat) (p.stamp == p.stamp) (eq-eqb p.seat p.seat refl) (eq-eqb p.stamp p.stamp refl)

point_is : (p q : OpenPoint) → point_same p q ≡ true → p ≡ q
point_is p q is = (let
    w = parts (p.seat == q.seat) (p.stamp == q.stamp) is
    in let
    seat = eqb-true p.seat q.seat w.0
    in let
    stamp = eqb-true p.stamp q.stamp w.1
    in λ i. record { seat = seat i; stamp = stamp i })

abbrev stamp_same : ℕ → ℕ → Bool
stamp_same x y = x == y

abbrev stamps_in : ℕ → List ℕ → ℕ
stamps_in = count stamp_same (λ x. eq-eqb x x refl) eqb-true

-- 1 for a batch that has begun and not ended
abbrev open_in : Option Batch → ℕ
open_in None = 0
open_in (Some x) = one_if (not x.ended)

and_right : (u w : Bool) → u ≡ true → (u && w) ≡ w
and_right true w is = refl
and_right false w is = absurd (false≢true is)

and_middle : (u v w : Bool) → v ≡ true → (u && (v && w)) ≡ (u && w)
and_middle u true w is = refl
and_middle u false w is = absurd (false≢true is)

and_not : (v w : Bool) → v ≡ false → (v && w) ≡ false
and_not true w is = absurd (false≢true (sym is))
and_not false w is = refl

plus_if : (v : Bool) (n : ℕ) → (if v then n + 1 else n) ≡ one_if v + n
plus_if true n = omega arith
plus_if false n = omega arith

minus_if : (v : Bool) (n m : ℕ) → n ≡ m + one_if v → (if v then n - 1 else n) ≡ m
minus_if true n m is = omega (arith, is)
minus_if false n m is = omega (arith, is)

if_no : {B : Type 0} (v : Bool) (x y : B) → v ≡ false → (if v then x else y) ≡ y
if_no true x y is = absurd (false≢true (sym is))
if_no false x y is = refl

module _ (t : ℕ) where
  -- the trail has these points and these batches of the table open
  record IsOpenIn (es : List Entry) (ps : List OpenPoint) (ss : List ℕ) : Type 0 where
    points : (seat s : ℕ) → open_points seat t s es ≡ points_in seat s ps
    batches : (s : ℕ) → open_in (batch_of t s es) ≡ stamps_in s ss
    total : uses_of t es ≡ length ps + length ss

  abbrev Has : List Entry → Type 0
  Has es = (ps : List OpenPoint) × ((ss : List ℕ) × IsOpenIn es ps ss)

  uses_from-append : (n : ℕ) (xs ys : List Entry) → uses_from t n (xs ++ ys) ≡ uses_from t (uses_from t n xs) ys
  unfolding uses_from
  uses_from-append n [] ys = refl
  uses_from-append n (x ∷ xs) ys = uses_from-append (uses_step t n x.act) xs ys

  uses-snoc : (es : List Entry) (e : Entry) → uses_of t (es ++ e ∷ []) ≡ uses_step t (uses_of t es) e.act
  unfolding uses_from
  uses-snoc es e = uses_from-append 0 es (e ∷ [])

  -- the act opens and closes nothing of the table
  record IsQuietAct (act_seat : ℕ) (act : Act) : Type 0 where
    points : (seat s n : ℕ) → points_step seat t s n act_seat act ≡ n
    batches : (s : ℕ) (o : Option Batch) → open_in (batch_step t s o act_seat act) ≡ open_in o
    total : (n : ℕ) → uses_step t n act ≡ n

  if_open : (v : Bool) (x y : Batch) → x.ended ≡ y.ended → open_in (if v then Some x else Some y) ≡ open_in (Some y)
  if_open true x y same = ap (λ (d : Bool). one_if (not d)) same
  if_open false x y same = refl

  no_batch : (act_seat : ℕ) (act : Act) → ((s : ℕ) (o : Option Batch) → batch_step t s o act_seat act ≡ o) → ((seat s n : ℕ) → points_step seat t s n act_seat act ≡ n) → ((n : ℕ) → uses_step t n act ≡ n) → IsQuietAct act_seat act
  no_batch act_seat act batches points total = record { points = points; batches = λ s o. ap open_in (batches s o); total = total }

  test_no : (u : TableId) (w : Bool) → u.0 ≢ t → ((u.0 == t) && w) ≡ false
  test_no u w other = and_not (u.0 == t) w (ne_eqb u.0 t other)

  -- another table's
  begun_other : (u : TableId) (s' act_seat s : ℕ) (cs : List _) (o : Option Batch) → u.0 ≢ t → batch_step t s o act_seat (Begun u s' cs) ≡ o
  unfolding batch_step
  begun_other u s' act_seat s cs None other = if_no ((u.0 == t) && (s' == s)) (Some (begun_batch act_seat cs)) None (test_no u (s' == s) other)
  begun_other u s' act_seat s cs (Some x) other = refl

  ended_other : (u : TableId) (s' act_seat s : ℕ) (o : Option Batch) → u.0 ≢ t → batch_step t s o act_seat (Ended u s') ≡ o
  unfolding batch_step
  ended_other u s' act_seat s None other = refl
  ended_other u s' act_seat s (Some x) other = if_no ((u.0 == t) && (s' == s)) (Some (record x { ended = true })) (Some x) (test_no u (s' == s) other)

  phase_open : (u : TableId) (s' p act_seat s : ℕ) (o : Option Batch) → open_in (batch_step t s o act_seat (Phase u s' p)) ≡ open_in o
  unfolding batch_step
  phase_open u s' p act_seat s None = refl
  phase_open u s' p act_seat s (Some x) = if_open ((u.0 == t) && (s' == s)) (record x { phase = p }) x refl

  wrote_open : (u : TableId) (s' act_seat s : ℕ) (rows : List _) (o : Option Batch) → open_in (batch_step t s o act_seat (Wrote u s' rows)) ≡ open_in o
  unfolding batch_step
  wrote_open u s' act_seat s rows None = refl
  wrote_open u s' act_seat s rows (Some x) = if_open ((u.0 == t) && (s' == s)) (record x { written = x.written ++ rows }) x refl

  still : (act : Act) (act_seat s : ℕ) (o : Option Batch) → ((b : Batch) → batch_step t s (Some b) act_seat act ≡ Some b) → batch_step t s None act_seat act ≡ None → batch_step t s o act_seat act ≡ o
  still act act_seat s None some none = none
  still act act_seat s (Some x) some none = some x

  step : (es : List Entry) (e : Entry) (ps : List OpenPoint) (ss : List ℕ) → IsQuietAct e.seat e.act → IsOpenIn es ps ss → IsOpenIn (es ++ e ∷ []) ps ss
  step es e ps ss quiet k = record {
    points = λ seat s. points-snoc seat t s es e ∙ (quiet.points seat s (open_points seat t s es) ∙ k.points seat s);
    batches = λ s. ap open_in (batch_of-snoc t s es e) ∙ (quiet.batches s (batch_of t s es) ∙ k.batches s);
    total = uses-snoc es e ∙ (quiet.total (uses_of t es) ∙ k.total);
  }

  -- a batch begins
  begins : (u : TableId) (s' act_seat s : ℕ) (cs : List _) (o : Option Batch) → u.0 ≡ t → (s' ≡ s → o ≡ None) → open_in (batch_step t s o act_seat (Begun u s' cs)) ≡ one_if (s' == s) + open_in o
  unfolding batch_step
  begins u s' act_seat s cs None own new = by ((u.0 == t) && (s' == s)) (s' == s) (and_right (u.0 == t) (s' == s) (eq-eqb u.0 t own))
    where
      by : (v w : Bool) → v ≡ w → open_in (if v then Some (begun_batch act_seat cs) else None) ≡ one_if w + 0
      by true true is = refl
      by false false is = refl
      by true false is = absurd (false≢true (sym is))
      by false true is = absurd (false≢true is)
  begins u s' act_seat s cs (Some x) own new = elim (cases_eq s' s) [
    | inl e ↦ absurd (let none : Some x ≡ None = new e in cc)
    | inr e ↦ (let none : one_if (s' == s) ≡ 0 = ap one_if (ne_eqb s' s e) in omega (arith, none))
  ]

  -- and ends
  ends : (u : TableId) (s' act_seat s : ℕ) (o : Option Batch) → u.0 ≡ t → (s' ≡ s → (x : Batch) × ((o ≡ Some x) × (x.ended ≡ false))) → open_in o ≡ open_in (batch_step t s o act_seat (Ended u s')) + one_if (s' == s)
  unfolding batch_step
  ends u s' act_seat s None own open_ = elim (cases_eq s' s) [
    | inl e ↦ absurd (let is = (open_ e).1.0 in cc)
    | inr e ↦ ap (λ (v : Bool). 0 + one_if v) (sym (ne_eqb s' s e))
  ]
  ends u s' act_seat s (Some x) own open_ = elim (cases_eq s' s) [
    | inl e ↦ (let
        w = open_ e
        in let
        same : x ≡ w.0 = some_is x w.0 w.1.0
        in let
        running : x.ended ≡ false = ap (λ (y : Batch). y.ended) same ∙ w.1.1
        in by x ((u.0 == t) && (s' == s)) (s' == s) running (both (u.0 == t) (s' == s) (eq-eqb u.0 t own) (eq-eqb s' s e)) (eq-eqb s' s e))
    | inr e ↦ no x ((u.0 == t) && (s' == s)) (s' == s) (and_right (u.0 == t) (s' == s) (eq-eqb u.0 t own) ∙ ne_eqb s' s e) (ne_eqb s' s e)
  ]
    where
      some_is : (x y : Batch) → Some x ≡ Some y → x ≡ y
      some_is x y is = cc

      by : (x : Batch) (v w : Bool) → x.ended ≡ false → v ≡ true → w ≡ true → open_in (Some x) ≡ open_in (if v then Some (record x { ended = true }) else Some x) + one_if w
      by x true true running a c = ap (λ (d : Bool). one_if (not d)) running
      by x true false running a c = absurd (false≢true c)
      by x false w running a c = absurd (false≢true a)

      no : (x : Batch) (v w : Bool) → v ≡ false → w ≡ false → open_in (Some x) ≡ open_in (if v then Some (record x { ended = true }) else Some x) + one_if w
      no x false false a c = (let n : one_if (not x.ended) ≡ one_if (not x.ended) + 0 = omega arith in n)
      no x false true a c = absurd (false≢true (sym c))
      no x true w a c = absurd (false≢true (sym a))

  running_of : (es : List Entry) (seat s : ℕ) → IsEndable es seat t s → (x : Batch) × ((batch_of t s es ≡ Some x) × (x.ended ≡ false))
  running_of es seat s (inl w) = (w.batch, (w.is, (in_closing w.batch w.phase).0))
  running_of es seat s (inr w) = (w.1.batch, (w.1.is, (in_verifying w.1.batch w.1.phase).0))

  module _ (b : Base) (es : List Entry) (e : Entry) (may : MayCome b es e) (ps : List OpenPoint) (ss : List ℕ) (k : IsOpenIn es ps ss) where
    quiet_then : IsQuietAct e.seat e.act → Has (es ++ e ∷ [])
    quiet_then quiet = (ps, (ss, step es e ps ss quiet k))

    opens_then : (u : TableId) (s' : ℕ) (scn : Bool) → e.act ≡ Opened u s' scn → u.0 ≡ t → Has (es ++ e ∷ [])
    unfolding points_step batch_step
    opens_then u s' scn is own = (
      record { seat = e.seat; stamp = s' } ∷ ps,
      (
        ss,
        record {
          points = λ seat s. points-snoc seat t s es e ∙ (ap (points_step seat t s (open_points seat t s es) e.seat) is
              ∙ (plus_if ((e.seat == seat) && ((u.0 == t) && (s' == s))) (open_points seat t s es)
              ∙ (ap (λ (v : Bool). one_if v + open_points seat t s es) (and_middle (e.seat == seat) (u.0 == t) (s' == s) (eq-eqb u.0 t own))
              ∙ (ap (λ (n : ℕ). one_if ((e.seat == seat) && (s' == s)) + n) (k.points seat s) ∙ sym (sum_by-cons (λ p. one_if ((p.seat == seat) && (p.stamp == s))) (record { seat = e.seat; stamp = s' }) ps)))));
          batches = λ s. ap open_in (batch_of-snoc t s es e ∙ ap (batch_step t s (batch_of t s es) e.seat) is ∙ still (Opened u s' scn) e.seat s (batch_of t s es) (λ x. refl) refl) ∙ k.batches s;
          total = uses-snoc es e ∙ (ap (uses_step t (uses_of t es)) is ∙ (ap (λ (v : Bool). if v then uses_of t es + 1 else uses_of t es) (eq-eqb u.0 t own) ∙ (let n = k.total in omega (arith, n))));
        },
      ),
    )

    releases_then : (u : TableId) (s' : ℕ) → e.act ≡ Released u s' → u.0 ≡ t → Has (es ++ e ∷ [])
    unfolding points_step batch_step Follows
    releases_then u s' is own = (let
        open_ : 0 < open_points e.seat u.0 s' es = subst (λ (a : Act). Follows b es e.seat e.calls a) is may.follows
        in let
        here : 0 < points_in e.seat s' ps = subst (λ (n : ℕ). 0 < n) (ap (λ (q : ℕ). open_points e.seat q s' es) own ∙ k.points e.seat s') open_
        in let
        out = take_out point_same point_self point_is (record { seat = e.seat; stamp = s' }) ps here
        in (
          out.0,
          (
            ss,
            record {
              points = λ seat s. points-snoc seat t s es e ∙ (ap (points_step seat t s (open_points seat t s es) e.seat) is
                  ∙ (ap (λ (v : Bool). if v then open_points seat t s es - 1 else open_points seat t s es) (and_middle (e.seat == seat) (u.0 == t) (s' == s) (eq-eqb u.0 t own))
                  ∙ minus_if ((e.seat == seat) && (s' == s)) (open_points seat t s es) (points_in seat s out.0) (k.points seat s ∙ out.1.counts (record { seat = seat; stamp = s }))));
              batches = λ s. ap open_in (batch_of-snoc t s es e ∙ ap (batch_step t s (batch_of t s es) e.seat) is ∙ still (Released u s') e.seat s (batch_of t s es) (λ x. refl) refl) ∙ k.batches s;
              total = uses-snoc es e ∙ (ap (uses_step t (uses_of t es)) is ∙ (ap (λ (v : Bool). if v then uses_of t es - 1 else uses_of t es) (eq-eqb u.0 t own) ∙ (let n = k.total in let m = out.1.long in omega (arith, n, m))));
            },
          ),
        ))

    begins_then : (u : TableId) (s' : ℕ) (cs : List _) → e.act ≡ Begun u s' cs → u.0 ≡ t → Has (es ++ e ∷ [])
    unfolding points_step Follows
    begins_then u s' cs is own = (let
        f = subst (λ (a : Act). Follows b es e.seat e.calls a) is may.follows
        in let
        none : (s : ℕ) → s' ≡ s → batch_of t s es ≡ None = λ s same. ap (λ (q : ℕ). batch_of q s es) (sym own) ∙ (ap (λ (n : ℕ). batch_of u.0 n es) (sym same) ∙ batch-none b u.0 s' es f.0)
        in (
          ps,
          (
            s' ∷ ss,
            record {
              points = λ seat s. points-snoc seat t s es e ∙ (ap (points_step seat t s (open_points seat t s es) e.seat) is ∙ k.points seat s);
              batches = λ s. ap open_in (batch_of-snoc t s es e ∙ ap (batch_step t s (batch_of t s es) e.seat) is)
                  ∙ (begins u s' e.seat s cs (batch_of t s es) own (none s) ∙ (ap (λ (n : ℕ). one_if (s' == s) + n) (k.batches s) ∙ sym (sum_by-cons (λ x. one_if (x == s)) s' ss)));
              total = uses-snoc es e ∙ (ap (uses_step t (uses_of t es)) is ∙ (ap (λ (v : Bool). if v then uses_of t es + 1 else uses_of t es) (eq-eqb u.0 t own) ∙ (let n = k.total in omega (arith, n))));
            },
          ),
        ))

    ends_then : (u : TableId) (s' : ℕ) → e.act ≡ Ended u s' → u.0 ≡ t → Has (es ++ e ∷ [])
    unfolding points_step Follows
    ends_then u s' is own = (let
        f : IsEndable es e.seat t s' = subst (λ (q : ℕ). IsEndable es e.seat q s') own (subst (λ (a : Act). Follows b es e.seat e.calls a) is may.follows)
        in let
        x = running_of es e.seat s' f
        in let
        one : open_in (batch_of t s' es) ≡ 1 = ap open_in x.1.0 ∙ ap (λ (d : Bool). one_if (not d)) x.1.1
        in let
        here : 0 < stamps_in s' ss = (let n = k.batches s' in omega (arith, n, one))
        in let
        out = take_out stamp_same (λ y. eq-eqb y y refl) eqb-true s' ss here
        in let
        running : (s : ℕ) → s' ≡ s → (y : Batch) × ((batch_of t s es ≡ Some y) × (y.ended ≡ false)) = λ s same. subst (λ (n : ℕ). (y : Batch) × ((batch_of t n es ≡ Some y) × (y.ended ≡ false))) same x
        in (
          ps,
          (
            out.0,
            record {
              points = λ seat s. points-snoc seat t s es e ∙ (ap (points_step seat t s (open_points seat t s es) e.seat) is ∙ k.points seat s);
              batches = λ s. ap open_in (batch_of-snoc t s es e ∙ ap (batch_step t s (batch_of t s es) e.seat) is)
                  ∙ (let n = ends u s' e.seat s (batch_of t s es) own (running s) in let m = k.batches s in let c = out.1.counts s in omega (arith, n, m, c));
              total = uses-snoc es e ∙ (ap (uses_step t (uses_of t es)) is ∙ (ap (λ (v : Bool). if v then uses_of t es - 1 else uses_of t es) (eq-eqb u.0 t own) ∙ (let n = k.total in let m = out.1.long in omega (arith, n, m))));
            },
          ),
        ))

    quiet_by : (a : Act) → e.act ≡ a → IsQuietAct e.seat a → Has (es ++ e ∷ [])
    quiet_by a is quiet = quiet_then (subst (λ (x : Act). IsQuietAct e.seat x) (sym is) quiet)

    -- another table's
    uses_no : (u : TableId) (x y : ℕ) → u.0 ≢ t → (if u.0 == t then x else y) ≡ y
    uses_no u x y other = if_no (u.0 == t) x y (ne_eqb u.0 t other)

    abbrev tid : TableId
    tid = record { 0 = t }

    goes : (a : Act) → e.act ≡ a → Has (es ++ e ∷ [])
    unfolding points_step batch_step
    goes (Opened u s' scn) is = elim (cases_eq u.0 t) [
      | inl own ↦ opens_then u s' scn is own
      | inr other ↦ quiet_by (Opened u s' scn) is (no_batch e.seat (Opened u s' scn) (λ s o. still (Opened u s' scn) e.seat s o (λ x. refl) refl) (λ seat s n. apart_points tid seat s n e.seat (Opened u s' scn) other) (λ n. uses_no u (n + 1) n other))
    ]
    goes (Released u s') is = elim (cases_eq u.0 t) [
      | inl own ↦ releases_then u s' is own
      | inr other ↦ quiet_by (Released u s') is (no_batch e.seat (Released u s') (λ s o. still (Released u s') e.seat s o (λ x. refl) refl) (λ seat s n. apart_points tid seat s n e.seat (Released u s') other) (λ n. uses_no u (n - 1) n other))
    ]
    goes (Begun u s' cs) is = elim (cases_eq u.0 t) [
      | inl own ↦ begins_then u s' cs is own
      | inr other ↦ quiet_by (Begun u s' cs) is (no_batch e.seat (Begun u s' cs) (λ s o. begun_other u s' e.seat s cs o other) (λ seat s n. refl) (λ n. uses_no u (n + 1) n other))
    ]
    goes (Ended u s') is = elim (cases_eq u.0 t) [
      | inl own ↦ ends_then u s' is own
      | inr other ↦ quiet_by (Ended u s') is (no_batch e.seat (Ended u s') (λ s o. ended_other u s' e.seat s o other) (λ seat s n. refl) (λ n. uses_no u (n - 1) n other))
    ]
    goes (Phase u s' p) is = quiet_by (Phase u s' p) is (record { points = λ seat s n. refl; batches = λ s o. phase_open u s' p e.seat s o; total = λ n. refl })
    goes (Wrote u s' rows) is = quiet_by (Wrote u s' rows) is (record { points = λ seat s n. refl; batches = λ s o. wrote_open u s' e.seat s rows o; total = λ n. refl })
    goes (Made u what) is = quiet_by (Made u what) is (no_batch e.seat (Made u what) (λ s o. still (Made u what) e.seat s o (λ x. refl) refl) (λ seat s n. refl) (λ n. refl))
    goes (IndexMade u i s' what) is = quiet_by (IndexMade u i s' what) is (no_batch e.seat (IndexMade u i s' what) (λ s o. still (IndexMade u i s' what) e.seat s o (λ x. refl) refl) (λ seat s n. refl) (λ n. refl))
    goes (IndexState u i state s') is = quiet_by (IndexState u i state s') is (no_batch e.seat (IndexState u i state s') (λ s o. still (IndexState u i state s') e.seat s o (λ x. refl) refl) (λ seat s n. refl) (λ n. refl))
    goes (Dropped u i) is = quiet_by (Dropped u i) is (no_batch e.seat (Dropped u i) (λ s o. still (Dropped u i) e.seat s o (λ x. refl) refl) (λ seat s n. refl) (λ n. refl))
    goes (Raised u h) is = quiet_by (Raised u h) is (no_batch e.seat (Raised u h) (λ s o. still (Raised u h) e.seat s o (λ x. refl) refl) (λ seat s n. refl) (λ n. refl))
    goes (Fixed i key) is = quiet_by (Fixed i key) is (no_batch e.seat (Fixed i key) (λ s o. still (Fixed i key) e.seat s o (λ x. refl) refl) (λ seat s n. refl) (λ n. refl))
    goes (Based i rows) is = quiet_by (Based i rows) is (no_batch e.seat (Based i rows) (λ s o. still (Based i rows) e.seat s o (λ x. refl) refl) (λ seat s n. refl) (λ n. refl))
    goes (Missed call) is = quiet_by (Missed call) is (no_batch e.seat (Missed call) (λ s o. still (Missed call) e.seat s o (λ x. refl) refl) (λ seat s n. refl) (λ n. refl))
    goes (Shut call) is = quiet_by (Shut call) is (no_batch e.seat (Shut call) (λ s o. still (Shut call) e.seat s o (λ x. refl) refl) (λ seat s n. refl) (λ n. refl))

  nothing : IsOpenIn [] [] []
  unfolding points_from batch_from uses_from
  nothing = record { points = λ seat s. refl; batches = λ s. refl; total = refl }

  has_open : (b : Base) (es : List Entry) → IsLegal b es → Has es
  has_open b es legal = legal-induct b Has (λ xs e l may k. goes b xs e may k.0 k.1.0 k.1.1 e.act refl) [] es legal ([], ([], nothing))

-- ---- those of a group

abbrev stamp_of : HeldBatch → ℕ
stamp_of h = h.stamp

abbrev stamps_of : List HeldBatch → List ℕ
stamps_of hs = map stamp_of hs

none_above : (u q : ℕ) (hs : List HeldBatch) → u ≤ q → AreStampsRisingFrom q hs → stamps_in u (stamps_of hs) ≡ 0
none_above u q [] le up = refl
none_above u q (h ∷ hs) le up = (let
    m : stamps_in u (stamps_of (h ∷ hs)) ≡ one_if (h.stamp == u) + stamps_in u (stamps_of hs) = sum_by-cons (λ x. one_if (x == u)) h.stamp (stamps_of hs)
    in let
    low = up.0
    in let
    own : one_if (h.stamp == u) ≡ 0 = ap one_if (ne_eqb h.stamp u (λ same. omega (arith, same, le, low)))
    in let
    more = none_above u h.stamp hs (omega (arith, le, low)) up.1
    in omega (arith, m, own, more))

-- stamps rise, so each comes once
once_rising : (u q : ℕ) (hs : List HeldBatch) → AreStampsRisingFrom q hs → stamps_in u (stamps_of hs) ≡ one_if (is_in u hs)
once_rising u q [] up = refl
once_rising u q (h ∷ hs) up = elim (cases_eq h.stamp u) [
  | inl e ↦ (let
      m : stamps_in u (stamps_of (h ∷ hs)) ≡ one_if (h.stamp == u) + stamps_in u (stamps_of hs) = sum_by-cons (λ x. one_if (x == u)) h.stamp (stamps_of hs)
      in let
      own : one_if (h.stamp == u) ≡ 1 = ap one_if (eq-eqb h.stamp u e)
      in let
      more = none_above u h.stamp hs (omega (arith, e)) up.1
      in let
      there : one_if (is_in u (h ∷ hs)) ≡ 1 = ap (λ (v : Bool). one_if (v || is_in u hs)) (eq-eqb h.stamp u e)
      in omega (arith, m, own, more, there))
  | inr e ↦ (let
      m : stamps_in u (stamps_of (h ∷ hs)) ≡ one_if (h.stamp == u) + stamps_in u (stamps_of hs) = sum_by-cons (λ x. one_if (x == u)) h.stamp (stamps_of hs)
      in let
      own : one_if (h.stamp == u) ≡ 0 = ap one_if (ne_eqb h.stamp u e)
      in let
      more = once_rising u h.stamp hs up.1
      in let
      there : one_if (is_in u (h ∷ hs)) ≡ one_if (is_in u hs) = ap (λ (v : Bool). one_if (v || is_in u hs)) (ne_eqb h.stamp u e)
      in omega (arith, m, own, more, there))
]

held_open : (es : List Entry) (t u : ℕ) (hs : List HeldBatch) → AllByRecursion (IsHeldBatch es t) hs → is_in u hs ≡ true → open_in (batch_of t u es) ≡ 1
held_open es t u [] each is = absurd (false≢true is)
held_open es t u (h ∷ hs) each is = elim (cases_eq h.stamp u) [
  | inl e ↦ ap (λ (n : ℕ). open_in (batch_of t n es)) (sym e) ∙ (ap open_in each.0.is ∙ ap (λ (d : Bool). one_if (not d)) each.0.running)
  | inr e ↦ held_open es t u hs each.1 (sym (ap (λ (v : Bool). v || is_in u hs) (ne_eqb h.stamp u e)) ∙ is)
]

alike_long : (ms : List OpenBatch) (hs : List HeldBatch) → AreHeldAs (map batch_in ms) hs → length hs ≡ length ms
alike_long [] [] alike = refl
alike_long [] (h ∷ hs) alike = absurd alike
alike_long (m ∷ ms) [] alike = absurd alike
alike_long (m ∷ ms) (h ∷ hs) alike = ap suc (alike_long ms hs alike.1)

module _ (b : Base) (es : List Entry) (g : Group) (hs : List HeldBatch) (k : IsTallied b es g hs) where
  abbrev own : ℕ
  own = g.table.id.0

  not_held : (u : ℕ) (o : Option Batch) → batch_of own u es ≡ o → is_in u hs ≡ false → open_in o ≡ 0
  not_held u None is not_in = refl
  not_held u (Some x) is not_in = by x.ended refl
    where
      by : (v : Bool) → x.ended ≡ v → one_if (not x.ended) ≡ 0
      by true over = ap (λ (d : Bool). one_if (not d)) over
      by false running = absurd (false≢true (sym not_in ∙ k.held.all u x is running))

  open_held : (u : ℕ) → open_in (batch_of own u es) ≡ stamps_in u (stamps_of hs)
  open_held u = elim (cases_Bool (is_in u hs)) [
    | inl e ↦ held_open es own u hs k.held.each e ∙ (ap one_if (sym e) ∙ sym (once_rising u (b.last own) hs k.held.rising))
    | inr e ↦ not_held u (batch_of own u es) refl e ∙ (ap one_if (sym e) ∙ sym (once_rising u (b.last own) hs k.held.rising))
  ]

  -- the trail counts what the group has
  pub uses_are : IsLegal b es → uses_of g.table.id.0 es ≡ length g.points.items + length g.batches.items
  uses_are legal = (let
      told = has_open own b es legal
      in let
      total = told.1.1.total
      in let
      points : length told.0 ≡ length g.points.items = same_length point_same point_self point_is told.0 g.points.items (λ p. sym (told.1.1.points p.seat p.stamp) ∙ k.points p.seat p.stamp)
      in let
      stamps : length told.1.0 ≡ length (stamps_of hs) = same_length stamp_same (λ x. eq-eqb x x refl) eqb-true told.1.0 (stamps_of hs) (λ u. sym (told.1.1.batches u) ∙ open_held u)
      in let
      long : length (stamps_of hs) ≡ length hs = length-map hs stamp_of
      in let
      alike = alike_long g.batches.items hs k.batches
      in omega (arith, total, points, stamps, long, alike))

  -- where it has nothing, all is quiet
  pub is_quiet : length g.points.items + length g.batches.items ≡ 0 → IsQuiet es g.table.id.0
  is_quiet none = record {
    points = λ seat s. k.points seat s ∙ no_points g.points.items seat s (omega (arith, none));
    batches = λ s x is. all_over s x is x.ended refl;
  }
    where
      no_points : (ps : List OpenPoint) (seat s : ℕ) → length ps ≡ 0 → points_in seat s ps ≡ 0
      no_points [] seat s zero_long = refl
      no_points (p ∷ ps) seat s zero_long = absurd (omega (arith, zero_long))

      none_in : (xs : List HeldBatch) (s : ℕ) → length xs ≡ 0 → is_in s xs ≡ false
      none_in [] s zero_long = refl
      none_in (x ∷ xs) s zero_long = absurd (omega (arith, zero_long))

      all_over : (s : ℕ) (x : Batch) → batch_of own s es ≡ Some x → (v : Bool) → x.ended ≡ v → x.ended ≡ true
      all_over s x is true over = over
      all_over s x is false running = absurd (false≢true (sym (none_in hs s (let alike = alike_long g.batches.items hs k.batches in omega (arith, none, alike))) ∙ k.held.all s x is running))
