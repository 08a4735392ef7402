-- A row's changes are begun, and written, in the order of their stamps.
use Rattle.std.proofs.Common.{ℕ, ◌≡◌, ◌≢◌, ◌<◌, ◌≤◌, max, not, filter, ◌==◌, ◌&&◌, ◌||◌, if◌then◌else◌, Bool, true, false, Option, None, Some, List, [], ◌∷◌, ◌++◌, refl, sym, ◌∙◌, ap, subst, arith, ◌⊎◌, inl, inr}
use Rattle.std.specs.List.{AllByRecursion}
use Rattle.std.specs.Ordering.{is_eq}
use Rattle.std.proofs.lemmas.Bool.{cases_Bool, cases_eq, cases_lt, ne_eqb, eq-eqb, false≢true}
use Rattle.std.proofs.lemmas.List.{append-nil}
use Rattle.px_values.specs.declared.row.Value.{Value}
use Rattle.px_values.specs.declared.change.Change.{Change}
use Rattle.px_values.specs.declared.change.What.{What}
use Rattle.px_values.specs.declared.name.TableId.{TableId}
use Rattle.px_values.proofs.Equal.{row_order-Decides}
use Rattle.px_values.specs.Order.{row_order}
use Rattle.px_trail.specs.declared.entry.Act.{Act}
use Rattle.px_trail.specs.declared.entry.Act.TheVariants.{Begun, Phase, Wrote, Ended}
use Rattle.px_trail.specs.declared.entry.Entry.{Entry}
use Rattle.px_trail.specs.Batches.{Batch, IsPending, batch_from, batch_of, batch_step, begun_batch, change_of, has, rows_of, unwritten}
use Rattle.px_trail.specs.Trail.{Base, last_of, last_step}
use Rattle.px_trail.specs.Legal.{Follows, IsLegal, IsWritable, MayCome}
use Rattle.px_trail.specs.States.{Dated, IsRising, begun, begun_by, dated, is_row_written, is_written_in, written}
use Rattle.px_trail.proofs.Growth.{batch_of-snoc, begun-snoc, last-snoc, legal-induct}
use Rattle.px_trail.proofs.Batches.{batch-none, last_step-le}

-- 1. Rows of a batch

pub has-append : (xs ys : List (List Value)) (r : List Value) → has (xs ++ ys) r ≡ (has xs r || has ys r)
unfolding has
has-append [] ys r = refl
has-append (x ∷ xs) ys r = ap (λ (v : Bool). is_eq (row_order x r) || v) (has-append xs ys r) ∙ or_assoc (is_eq (row_order x r)) (has xs r) (has ys r)
  where
    or_assoc : (a c d : Bool) → (a || (c || d)) ≡ ((a || c) || d)
    or_assoc true c d = refl
    or_assoc false c d = refl

pub has-filter : (p : List Value → Bool) (xs : List (List Value)) (r : List Value) → has (filter p xs) r ≡ true → (has xs r ≡ true) × (p r ≡ true)
unfolding has
has-filter p [] r h = absurd (false≢true h)
has-filter p (x ∷ xs) r h = elim (cases_Bool (p x)) [
  | inl e ↦ elim (cases_Bool (is_eq (row_order x r))) [
    | inl k ↦ (rw k refl, subst (λ (y : List Value). p y ≡ true) ((row_order-Decides x r).0 k) e)
    | inr k ↦ (let z = has-filter p xs r (rw (e, k) at h) in (rw (k, z.0) refl, z.1))
  ]
  | inr e ↦ (let z = has-filter p xs r (rw e at h) in (let z0 = z.0 in rw z0 (or_true (is_eq (row_order x r))), z.1))
]
  where
    or_true : (a : Bool) → (a || true) ≡ true
    or_true true = refl
    or_true false = refl

pub filter-has : (p : List Value → Bool) (xs : List (List Value)) (r : List Value) → has xs r ≡ true → p r ≡ true → has (filter p xs) r ≡ true
unfolding has
filter-has p [] r h k = absurd (false≢true h)
filter-has p (x ∷ xs) r h k = elim (cases_Bool (is_eq (row_order x r))) [
  | inl e ↦ (let px : p x ≡ true = subst (λ (y : List Value). p y ≡ true) (sym ((row_order-Decides x r).0 e)) k in rw (px, e) refl)
  | inr e ↦ (let z = filter-has p xs r (rw e at h) k in elim (cases_Bool (p x)) [ inl u ↦ rw (u, e, z) refl | inr u ↦ rw (u, z) refl ])
]

pub has-change : (cs : List Change) (r : List Value) (w : What) → change_of cs r ≡ Some w → has (rows_of cs) r ≡ true
unfolding has change_of
has-change [] r w h = cc
has-change (c ∷ cs) r w h = elim (cases_Bool (is_eq (row_order c.row r))) [
  | inl e ↦ rw e refl
  | inr e ↦ (let z = has-change cs r w (rw e at h) in rw (e, z) refl)
]

-- 2. Lists of changes

pub all_push : (P : Dated → Type 0) (ds : List Dated) (d : Dated) → AllByRecursion P ds → P d → AllByRecursion P (ds ++ d ∷ [])
all_push P [] d a p = (p, tt)
all_push P (x ∷ ds) d a p = (a.0, all_push P ds d a.1 p)

pub all_map : (P Q : Dated → Type 0) (ds : List Dated) → ((d : Dated) → P d → Q d) → AllByRecursion P ds → AllByRecursion Q ds
all_map P Q [] f a = tt
all_map P Q (x ∷ ds) f a = (f x a.0, all_map P Q ds f a.1)

pub rising_push : (ds : List Dated) (d : Dated) → IsRising ds → AllByRecursion (λ x. x.stamp < d.stamp) ds → IsRising (ds ++ d ∷ [])
rising_push [] d r a = (tt, tt)
rising_push (x ∷ ds) d r a = (all_push (λ y. x.stamp < y.stamp) ds d r.0 a.0, rising_push ds d r.1 a.1)

-- those that pass the test stand before the others
abbrev pub IsFront : (ℕ → Bool) → List Dated → Type 0
IsFront q [] = Unit {0}
IsFront q (d ∷ ds) = ((q d.stamp ≡ true) × IsFront q ds) ⊎ ((q d.stamp ≡ false) × AllByRecursion (λ x. q x.stamp ≡ false) ds)

none_front : (q : ℕ → Bool) (ds : List Dated) → AllByRecursion (λ x. q x.stamp ≡ false) ds → IsFront q ds
none_front q [] a = tt
none_front q (d ∷ ds) a = inr (a.0, a.1)

front_push : (q : ℕ → Bool) (ds : List Dated) (d : Dated) → IsFront q ds → q d.stamp ≡ false → IsFront q (ds ++ d ∷ [])
front_push q [] d f h = inr (h, tt)
front_push q (x ∷ ds) d (inl f) h = inl (f.0, front_push q ds d f.1 h)
front_push q (x ∷ ds) d (inr f) h = inr (f.0, all_push (λ y. q y.stamp ≡ false) ds d f.1 h)

-- the list is those that pass, and then the others
pub filter_none : (q : ℕ → Bool) (ds : List Dated) → AllByRecursion (λ x. q x.stamp ≡ false) ds → filter (λ d. q d.stamp) ds ≡ []
filter_none q [] a = refl
filter_none q (d ∷ ds) a = (let e = a.0 in let n = filter_none q ds a.1 in rw (e, n) refl)

pub front-splits : (q : ℕ → Bool) (ds : List Dated) → IsFront q ds → (rest : List Dated) × (ds ≡ filter (λ d. q d.stamp) ds ++ rest)
front-splits q [] f = ([], refl)
front-splits q (d ∷ ds) (inl f) = (let z = front-splits q ds f.1 in let e = f.0 in (z.0, rw e (ap (λ (l : List Dated). d ∷ l) z.1)))
front-splits q (d ∷ ds) (inr f) = (let e = f.0 in let n = filter_none q ds f.1 in (d ∷ ds, rw (e, n) refl))

all_above : (n m : ℕ) (ds : List Dated) → n ≤ m → AllByRecursion (λ x. m < x.stamp) ds → AllByRecursion (λ x. n < x.stamp) ds
all_above n m [] l a = tt
all_above n m (d ∷ ds) l a = ((let i = a.0 in omega arith), all_above n m ds l a.1)

module _ (q q' : ℕ → Bool) (s : ℕ) (here : q' s ≡ true) (before : q s ≡ false) (others : (u : ℕ) → (s ≡ u → ⊥) → q' u ≡ q u) where
  above_same : (ds : List Dated) → AllByRecursion (λ x. s < x.stamp) ds → AllByRecursion (λ x. q x.stamp ≡ false) ds → AllByRecursion (λ x. q' x.stamp ≡ false) ds
  above_same [] up a = tt
  above_same (d ∷ ds) up a = (others d.stamp (λ e. absurd (let l = up.0 in omega arith)) ∙ a.0, above_same ds up.1 a.1)

  above_front : (ds : List Dated) → AllByRecursion (λ x. s < x.stamp) ds → IsFront q ds → IsFront q' ds
  above_front [] up f = tt
  above_front (d ∷ ds) up (inl f) = inl (others d.stamp (λ e. absurd (let l = up.0 in omega arith)) ∙ f.0, above_front ds up.1 f.1)
  above_front (d ∷ ds) up (inr f) = inr (others d.stamp (λ e. absurd (let l = up.0 in omega arith)) ∙ f.0, above_same ds up.1 f.1)

  -- one more passes, and all before it did
  front_more : (ds : List Dated) → IsRising ds → AllByRecursion (λ x. x.stamp < s → q x.stamp ≡ true) ds → IsFront q ds → IsFront q' ds
  front_more [] rising low f = tt
  front_more (d ∷ ds) rising low f = elim (cases_eq s d.stamp) [
    | inl e ↦ inl (ap q' (sym e) ∙ here, none_front q' ds (above_same ds (all_above s d.stamp ds (omega arith) rising.0) (rest e f)))
    | inr e ↦ elim (cases_lt d.stamp s) [
      | inl l ↦ inl (others d.stamp e ∙ low.0 l, front_more ds rising.1 low.1 (tail (low.0 l) f))
      | inr l ↦ above_front (d ∷ ds) ((omega arith), all_above s d.stamp ds (omega arith) rising.0) f
    ]
  ]
    where
      rest : s ≡ d.stamp → IsFront q (d ∷ ds) → AllByRecursion (λ x. q x.stamp ≡ false) ds
      rest e (inl g) = absurd (false≢true (sym before ∙ (ap q e ∙ g.0)))
      rest e (inr g) = g.1

      tail : q d.stamp ≡ true → IsFront q (d ∷ ds) → IsFront q ds
      tail h (inl g) = g.1
      tail h (inr g) = absurd (false≢true (sym g.0 ∙ h))

-- 3. What every entry keeps

-- the batch changes the row so
abbrev pub IsChange : Option Batch → List Value → What → Type 0
IsChange None r w = ⊥
IsChange (Some x) r w = change_of x.changes r ≡ Some w

pub record Ordered (b : Base) (es : List Entry) (t : ℕ) (r : List Value) : Type 0 where
  pub up : AllByRecursion (λ d. d.stamp ≤ last_of b t es) (begun t r es)
  pub rising : IsRising (begun t r es)
  pub front : IsFront (λ s. is_row_written es t r s) (begun t r es)
  pub known : AllByRecursion (λ d. IsChange (batch_of t d.stamp es) r d.what) (begun t r es)

if_change : (v : Bool) (x y : Batch) (r : List Value) (w : What) → IsChange (Some x) r w → IsChange (Some y) r w → IsChange (if v then Some y else Some x) r w
if_change true x y r w h g = g
if_change false x y r w h g = h

pub change_kept : (t s seat : ℕ) (o : Option Batch) (act : Act) (r : List Value) (w : What) → IsChange o r w → IsChange (batch_step t s o seat act) r w
unfolding batch_step
change_kept t s seat None act r w h = absurd h
change_kept t s seat (Some x) (Phase t' s' p) r w h = if_change ((t'.0 == t) && (s' == s)) x (record x { phase = p }) r w h h
change_kept t s seat (Some x) (Wrote t' s' rows) r w h = if_change ((t'.0 == t) && (s' == s)) x (record x { written = x.written ++ rows }) r w h h
change_kept t s seat (Some x) (Ended t' s') r w h = if_change ((t'.0 == t) && (s' == s)) x (record x { ended = true }) r w h h
change_kept t s seat (Some x) act r w h = h

-- the act writes no row
abbrev pub WritesNone : Act → Type 0
WritesNone (Wrote t s rows) = ⊥
WritesNone act = Unit {0}

if_written : (v : Bool) (x y : Batch) (r : List Value) → has y.written r ≡ has x.written r → is_written_in (if v then Some y else Some x) r ≡ has x.written r
if_written true x y r h = h
if_written false x y r h = refl

pub none_written : (v : Bool) (seat : ℕ) (cs : List Change) (r : List Value) → is_written_in (if v then Some (begun_batch seat cs) else None) r ≡ false
unfolding has
none_written true seat cs r = refl
none_written false seat cs r = refl

pub written_kept : (t s seat : ℕ) (o : Option Batch) (act : Act) (r : List Value) → WritesNone act → is_written_in (batch_step t s o seat act) r ≡ is_written_in o r
unfolding batch_step
written_kept t s seat None (Begun t' s' cs) r n = none_written ((t'.0 == t) && (s' == s)) seat cs r
written_kept t s seat (Some x) (Phase t' s' p) r n = if_written ((t'.0 == t) && (s' == s)) x (record x { phase = p }) r refl
written_kept t s seat o (Wrote t' s' rows) r n = absurd n
written_kept t s seat (Some x) (Ended t' s') r n = if_written ((t'.0 == t) && (s' == s)) x (record x { ended = true }) r refl
written_kept t s seat o act r n = refl

module _ (b : Base) (es : List Entry) (e : Entry) (t : ℕ) (r : List Value) (k : Ordered b es t r) where
  abbrev next : List Entry
  next = es ++ e ∷ []

  known_next : AllByRecursion (λ d. IsChange (batch_of t d.stamp next) r d.what) (begun t r es)
  known_next = all_map (λ d. IsChange (batch_of t d.stamp es) r d.what) (λ d. IsChange (batch_of t d.stamp next) r d.what) (begun t r es)
      (λ d h. subst (λ (o : Option Batch). IsChange o r d.what) (sym (batch_of-snoc t d.stamp es e)) (change_kept t d.stamp e.seat (batch_of t d.stamp es) e.act r d.what h)) k.known

  up_next : AllByRecursion (λ d. d.stamp ≤ last_of b t next) (begun t r es)
  up_next = (let q = last-snoc b t es e in let l = last_step-le t (last_of b t es) e.act in all_map (λ d. d.stamp ≤ last_of b t es) (λ d. d.stamp ≤ last_of b t next) (begun t r es) (λ d h. omega arith) k.up)

  -- nothing of the row is begun
  still : begun_by t r e.act ≡ [] → IsFront (λ s. is_row_written next t r s) (begun t r es) → Ordered b next t r
  still none front =
      let q : begun t r next ≡ begun t r es = begun-snoc t r es e ∙ (ap (λ l. begun t r es ++ l) none ∙ append-nil (begun t r es)) in
      record {
        up = subst (AllByRecursion (λ d. d.stamp ≤ last_of b t next)) (sym q) up_next;
        rising = subst IsRising (sym q) k.rising;
        front = subst (IsFront (λ s. is_row_written next t r s)) (sym q) front;
        known = subst (AllByRecursion (λ d. IsChange (batch_of t d.stamp next) r d.what)) (sym q) known_next;
      }

  -- nothing is written
  same_front : ((s : ℕ) → is_written_in (batch_step t s (batch_of t s es) e.seat e.act) r ≡ is_row_written es t r s) → IsFront (λ s. is_row_written next t r s) (begun t r es)
  same_front same = subst (λ (q : ℕ → Bool). IsFront q (begun t r es)) (λ i s. sym (ap (λ (o : Option Batch). is_written_in o r) (batch_of-snoc t s es e) ∙ same s) i) k.front

  quiet : begun_by t r e.act ≡ [] → WritesNone e.act → Ordered b next t r
  quiet none writes = still none (same_front (λ s. written_kept t s e.seat (batch_of t s es) e.act r writes))

-- ---- a batch begins

pub begins_by : (t s : ℕ) (r : List Value) (tid : TableId) (cs : List Change) → tid.0 ≡ t → begun_by t r (Begun tid s cs) ≡ dated s (change_of cs r)
unfolding begun_by
begins_by t s r tid cs same = ap (λ (v : Bool). if v then dated s (change_of cs r) else []) (eq-eqb tid.0 t same)

pub begins_else : (t s : ℕ) (r : List Value) (tid : TableId) (cs : List Change) → (tid.0 ≡ t → ⊥) → begun_by t r (Begun tid s cs) ≡ []
unfolding begun_by
begins_else t s r tid cs apart = ap (λ (v : Bool). if v then dated s (change_of cs r) else []) (ne_eqb tid.0 t apart)

pub both_same : (t s : ℕ) (tid : TableId) → tid.0 ≡ t → ((tid.0 == t) && (s == s)) ≡ true
both_same t s tid same = (let a = eq-eqb tid.0 t same in let c = eq-eqb s s refl in rw (a, c) refl)

pub batch_begins : (t s seat : ℕ) (tid : TableId) (cs : List Change) → tid.0 ≡ t → batch_step t s None seat (Begun tid s cs) ≡ Some (begun_batch seat cs)
unfolding batch_step
batch_begins t s seat tid cs same = ap (λ (v : Bool). if v then Some (begun_batch seat cs) else None) (both_same t s tid same)

last_begins : (t l s : ℕ) (tid : TableId) (cs : List Change) → tid.0 ≡ t → s ≤ last_step t l (Begun tid s cs)
last_begins t l s tid cs same = (let a = eq-eqb tid.0 t same in rw a (omega arith))

below_last : (n s : ℕ) (ds : List Dated) → n < s → AllByRecursion (λ d. d.stamp ≤ n) ds → AllByRecursion (λ x. x.stamp < s) ds
below_last n s [] l a = tt
below_last n s (x ∷ ds) l a = ((let i = a.0 in omega arith), below_last n s ds l a.1)

module _ (b : Base) (es : List Entry) (e : Entry) (t : ℕ) (r : List Value) (k : Ordered b es t r) (tid : TableId) (s : ℕ) (cs : List Change) (is : e.act ≡ Begun tid s cs) where
  abbrev later : List Entry
  later = es ++ e ∷ []

  no_write : WritesNone e.act
  no_write = subst WritesNone (sym is) tt

  begins_other : (tid.0 ≡ t → ⊥) → Ordered b later t r
  begins_other apart = quiet b es e t r k (ap (begun_by t r) is ∙ begins_else t s r tid cs apart) no_write

  module _ (same : tid.0 ≡ t) (new : last_of b t es < s) where
    begins_none : change_of cs r ≡ None → Ordered b later t r
    begins_none none = quiet b es e t r k (ap (begun_by t r) is ∙ (begins_by t s r tid cs same ∙ ap (dated s) none)) no_write

    batch_here : batch_of t s later ≡ Some (begun_batch e.seat cs)
    batch_here = batch_of-snoc t s es e ∙ (ap (λ (a : Act). batch_step t s (batch_of t s es) e.seat a) is ∙ (ap (λ (o : Option Batch). batch_step t s o e.seat (Begun tid s cs)) (batch-none b t s es new) ∙ batch_begins t s e.seat tid cs same))

    written_here : is_row_written later t r s ≡ false
    unfolding has
    written_here = ap (λ (o : Option Batch). is_written_in o r) batch_here

    begins_some : (w : What) → change_of cs r ≡ Some w → Ordered b later t r
    begins_some w some =
        let this : Dated = record { stamp = s; what = w } in
        let q : begun t r later ≡ begun t r es ++ this ∷ [] = begun-snoc t r es e ∙ ap (λ l. begun t r es ++ l) (ap (begun_by t r) is ∙ (begins_by t s r tid cs same ∙ ap (dated s) some)) in
        let low : s ≤ last_of b t later = (let l = last-snoc b t es e in let m = last_begins t (last_of b t es) s tid cs same in let n = ap (last_step t (last_of b t es)) is in omega arith) in
        let change : IsChange (batch_of t s later) r w = subst (λ (o : Option Batch). IsChange o r w) (sym batch_here) some in
        let front = same_front b es e t r k (λ u. written_kept t u e.seat (batch_of t u es) e.act r no_write) in
        record {
          up = subst (AllByRecursion (λ d. d.stamp ≤ last_of b t later)) (sym q) (all_push (λ d. d.stamp ≤ last_of b t later) (begun t r es) this (up_next b es e t r k) low);
          rising = subst IsRising (sym q) (rising_push (begun t r es) this k.rising (below_last (last_of b t es) s (begun t r es) new k.up));
          front = subst (IsFront (λ u. is_row_written later t r u)) (sym q) (front_push (λ u. is_row_written later t r u) (begun t r es) this front written_here);
          known = subst (AllByRecursion (λ d. IsChange (batch_of t d.stamp later) r d.what)) (sym q) (all_push (λ d. IsChange (batch_of t d.stamp later) r d.what) (begun t r es) this (known_next b es e t r k) change);
        }

    begins_next : Ordered b later t r
    begins_next = elim (change_of cs r) as (λ o. change_of cs r ≡ o → Ordered b later t r) [ None ↦ λ h. begins_none h | Some w ↦ λ h. begins_some w h ] refl

-- ---- rows are written

pub some_change : (o : Option Batch) (r : List Value) (w : What) → IsChange o r w → (x : Batch) × (o ≡ Some x) × (change_of x.changes r ≡ Some w)
some_change None r w h = absurd h
some_change (Some x) r w h = (x, refl, h)

pub not_true : (v : Bool) → not v ≡ true → v ≡ false
not_true true h = absurd (false≢true h)
not_true false h = refl

pub or_true : (a c : Bool) → c ≡ true → (a || c) ≡ true
or_true true c h = refl
or_true false c h = h

pub or_none : (a c : Bool) → c ≡ false → (a || c) ≡ a
or_none true c h = refl
or_none false c h = h

pub and_false : (a c : Bool) → c ≡ false → (a && c) ≡ false
and_false true c h = h
and_false false c h = refl

module _ (b : Base) (es : List Entry) (e : Entry) (t : ℕ) (r : List Value) (k : Ordered b es t r) (tid : TableId) (s : ℕ) (rows : List (List Value)) (is : e.act ≡ Wrote tid s rows) where
  abbrev pub wrote : List Entry
  wrote = es ++ e ∷ []

  pub none_begun : begun_by t r e.act ≡ []
  unfolding begun_by
  none_begun = ap (begun_by t r) is

  pub step_at : (u : ℕ) → batch_of t u wrote ≡ batch_step t u (batch_of t u es) e.seat (Wrote tid s rows)
  step_at u = batch_of-snoc t u es e ∙ ap (λ (a : Act). batch_step t u (batch_of t u es) e.seat a) is

  pub step_else : (u : ℕ) → ((tid.0 == t) && (s == u)) ≡ false → (o : Option Batch) → batch_step t u o e.seat (Wrote tid s rows) ≡ o
  unfolding batch_step
  step_else u off None = refl
  step_else u off (Some x) = ap (λ (v : Bool). if v then Some (record x { written = x.written ++ rows }) else Some x) off

  pub written_else : (u : ℕ) → ((tid.0 == t) && (s == u)) ≡ false → is_row_written wrote t r u ≡ is_row_written es t r u
  written_else u off = ap (λ (o : Option Batch). is_written_in o r) (step_at u ∙ step_else u off (batch_of t u es))

  front_by : ((u : ℕ) → is_row_written wrote t r u ≡ is_row_written es t r u) → IsFront (λ u. is_row_written wrote t r u) (begun t r es)
  front_by same = subst (λ (q : ℕ → Bool). IsFront q (begun t r es)) (λ i u. sym (same u) i) k.front

  wrote_other : (tid.0 ≡ t → ⊥) → Ordered b wrote t r
  wrote_other apart = still b es e t r k none_begun (front_by (λ u. written_else u (ap (λ (v : Bool). v && (s == u)) (ne_eqb tid.0 t apart))))

  module _ (same : tid.0 ≡ t) (f : IsWritable es e.seat t s rows) where
    pub wrote_is : batch_of t s wrote ≡ Some (record f.batch { written = f.batch.written ++ rows })
    unfolding batch_step
    wrote_is = step_at s ∙ (ap (λ (o : Option Batch). batch_step t s o e.seat (Wrote tid s rows)) f.is ∙ ap (λ (v : Bool). if v then Some (record f.batch { written = f.batch.written ++ rows }) else Some f.batch) (both_same t s tid same))

    written_at : is_row_written wrote t r s ≡ (has f.batch.written r || has rows r)
    written_at = ap (λ (o : Option Batch). is_written_in o r) wrote_is ∙ has-append f.batch.written rows r

    written_was : is_row_written es t r s ≡ has f.batch.written r
    written_was = ap (λ (o : Option Batch). is_written_in o r) f.is

    pub others : (u : ℕ) → (s ≡ u → ⊥) → is_row_written wrote t r u ≡ is_row_written es t r u
    others u apart = written_else u (and_false (tid.0 == t) (s == u) (ne_eqb s u apart))

    pub unnamed : has rows r ≡ false → is_row_written wrote t r s ≡ is_row_written es t r s
    unnamed off = written_at ∙ (or_none (has f.batch.written r) (has rows r) off ∙ sym written_was)

    not_here : has rows r ≡ false → Ordered b wrote t r
    not_here off = still b es e t r k none_begun (front_by (λ u. elim (cases_eq s u) [
      | inl q ↦ subst (λ (v : ℕ). is_row_written wrote t r v ≡ is_row_written es t r v) q (unnamed off)
      | inr q ↦ others u q
    ]))

    module _ (here : has rows r ≡ true) where
      pub before : is_row_written es t r s ≡ false
      before = written_was ∙ not_true (has f.batch.written r) (has-filter (λ y. not (has f.batch.written y)) (rows_of f.batch.changes) r (f.left r here)).1

      pub now : is_row_written wrote t r s ≡ true
      now = written_at ∙ or_true (has f.batch.written r) (has rows r) here

      -- an earlier change that isn't written would be pending
      pub earlier : (d : Dated) → IsChange (batch_of t d.stamp es) r d.what → d.stamp < s → is_row_written es t r d.stamp ≡ true
      earlier d c l =
          let z = some_change (batch_of t d.stamp es) r d.what c in
          elim (cases_Bool (is_row_written es t r d.stamp)) [
            | inl h ↦ h
            | inr h ↦
                (let off : has z.0.written r ≡ false = sym (ap (λ (o : Option Batch). is_written_in o r) z.1) ∙ h in
                absurd (f.first r here (record { stamp = d.stamp; smaller = l; batch = z.0; is = z.1; left = filter-has (λ y. not (has z.0.written y)) (rows_of z.0.changes) r (has-change z.0.changes r d.what z.2) (ap not off) })))
          ]

      is_here : Ordered b wrote t r
      is_here = still b es e t r k none_begun
          (front_more (λ u. is_row_written es t r u) (λ u. is_row_written wrote t r u) s now before others (begun t r es) k.rising
          (all_map (λ d. IsChange (batch_of t d.stamp es) r d.what) (λ d. d.stamp < s → is_row_written es t r d.stamp ≡ true) (begun t r es) earlier k.known) k.front)

    wrote_next : Ordered b wrote t r
    wrote_next = elim (cases_Bool (has rows r)) [ inl h ↦ is_here h | inr h ↦ not_here h ]

-- ---- any entry

ordered_by : (b : Base) (es : List Entry) (e : Entry) (t : ℕ) (r : List Value) (k : Ordered b es t r) (act : Act) → e.act ≡ act → Follows b es e.seat e.calls act → Ordered b (es ++ e ∷ []) t r
unfolding begun_by Follows
ordered_by b es e t r k (Begun tid s cs) is f = elim (cases_eq tid.0 t) [
  | inl q ↦ begins_next b es e t r k tid s cs is q (subst (λ (u : ℕ). last_of b u es < s) q f.0)
  | inr q ↦ begins_other b es e t r k tid s cs is q
]
ordered_by b es e t r k (Wrote tid s rows) is f = elim (cases_eq tid.0 t) [
  | inl q ↦ wrote_next b es e t r k tid s rows is q (subst (λ (u : ℕ). IsWritable es e.seat u s rows) q f)
  | inr q ↦ wrote_other b es e t r k tid s rows is q
]
ordered_by b es e t r k act is f = quiet b es e t r k (ap (begun_by t r) is) (subst WritesNone (sym is) tt)

pub ordered : (b : Base) (es : List Entry) (t : ℕ) (r : List Value) → IsLegal b es → Ordered b es t r
unfolding begun
ordered b es t r legal =
    legal-induct b (λ l. Ordered b l t r) (λ l e _ may h. ordered_by b l e t r h e.act refl may.follows) [] es legal (record { up = tt; rising = tt; front = tt; known = tt })

-- a row's changes are begun in the order of their stamps
pub begun-rising : (b : Base) (es : List Entry) (t : ℕ) (r : List Value) → IsLegal b es → IsRising (begun t r es)
begun-rising b es t r legal = (ordered b es t r legal).rising

-- and the written ones are the first of them
pub written-first : (b : Base) (es : List Entry) (t : ℕ) (r : List Value) → IsLegal b es → (rest : List Dated) × (begun t r es ≡ written es t r ++ rest)
written-first b es t r legal = front-splits (λ s. is_row_written es t r s) (begun t r es) (ordered b es t r legal).front
