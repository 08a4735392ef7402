-- The open batches of a trail, after an entry of one of them. Nothing is asked of the trail's base.
use Rattle.std.proofs.Common.{◌≡◌, ℕ, ◌≤◌, Bool, true, false, cond, not, ◌&&◌, ◌||◌, ◌==◌, if◌then◌else◌, filter, Option, Some, None, List, [], ◌∷◌, ◌++◌, refl, ap, sym, ◌∙◌, subst, inl, inr, arith}
use Rattle.std.specs.Prelude.{nat_eq}
use Rattle.std.specs.List.{AllByRecursion, list_any}
use Rattle.std.proofs.lemmas.Bool.{cases_Bool, cases_eq, ne_eqb, eq-eqb, eqb-true, false≢true}
use Rattle.px_values.specs.declared.name.TableId.{TableId}
use Rattle.px_values.specs.declared.row.Value.{Value}
use Rattle.px_values.specs.declared.change.Change.{Change}
use Rattle.px_values.specs.declared.change.What.{What}
use Rattle.px_trail.specs.declared.entry.Act.{Act}
use Rattle.px_trail.specs.declared.entry.Act.TheVariants.{Ended, Phase, Wrote}
use Rattle.px_trail.specs.declared.entry.Entry.{Entry}
use Rattle.px_trail.specs.Batches.{Batch, batch_of, batch_step, change_of, has}
use Rattle.px_trail.specs.Trail.{Base}
use Rattle.px_trail.proofs.Growth.{batch_of-snoc}
use Rattle.px_trail.proofs.Orders.{has-append}
use Rattle.px_openbatches.specs.Pending.{AreStampsRisingFrom, HeldBatch, HeldKept, IsHeldBatch, IsPendingOn, held_ended, held_wrote, is_in, is_left, left_as, writes_rows}
use Rattle.px_openbatches.proofs.Helds.{held_on, same_batch}

some_none : {A : Type 0} {x : A} → Some x ≡ None → ⊥
some_none q = cc

-- 1. The batch of an entry

same_test : {A : Type 0} (n s : ℕ) (a b : A) → (if (n == n) && (s == s) then a else b) ≡ a
same_test n s a b = λ i. if (eq-eqb n n refl i) && (eq-eqb s s refl i) then a else b

other_test : {A : Type 0} (n s u : ℕ) (a b : A) → (s ≡ u → ⊥) → (if (n == n) && (s == u) then a else b) ≡ b
other_test n s u a b e = λ i. if (eq-eqb n n refl i) && (ne_eqb s u e i) then a else b

-- An entry takes the batch of one stamp from x to y, and no other. The changes stay, and what is written stays so.
pub record TakesOn (es : List Entry) (e : Entry) (t s : ℕ) (x y : Batch) : Type 0 where
  pub here : batch_of t s es ≡ Some x
  pub now : batch_of t s (es ++ e ∷ []) ≡ Some y
  pub there : (u : ℕ) → (s ≡ u → ⊥) → batch_of t u (es ++ e ∷ []) ≡ batch_of t u es
  pub changes : y.changes ≡ x.changes
  pub more : (r : List Value) → has x.written r ≡ true → has y.written r ≡ true

module _ (tid : TableId) (s : ℕ) (es : List Entry) (e : Entry) (x : Batch) (here : batch_of tid.0 s es ≡ Some x) where
  abbrev t : ℕ
  t = tid.0

  step_by : (act : Act) (y : Batch) → e.act ≡ act → ((seat : ℕ) → batch_step t s (Some x) seat act ≡ Some y) → batch_of t s (es ++ e ∷ []) ≡ Some y
  step_by act y a f = batch_of-snoc t s es e ∙ ((λ i. batch_step t s (here i) e.seat (a i)) ∙ f e.seat)

  there_by : (act : Act) → e.act ≡ act → ((u : ℕ) → (s ≡ u → ⊥) → (o : Option Batch) (seat : ℕ) → batch_step t u o seat act ≡ o) → (u : ℕ) → (s ≡ u → ⊥) → batch_of t u (es ++ e ∷ []) ≡ batch_of t u es
  there_by act a f u n = batch_of-snoc t u es e ∙ ((λ i. batch_step t u (batch_of t u es) e.seat (a i)) ∙ f u n (batch_of t u es) e.seat)

  pub takes_phase : (p : ℕ) → e.act ≡ Phase tid s p → TakesOn es e t s x (record x { phase = p })
  unfolding batch_step
  takes_phase p a = record {
    here = here;
    now = step_by (Phase tid s p) (record x { phase = p }) a stepped;
    there = there_by (Phase tid s p) a others;
    changes = refl;
    more = λ r h. h;
  }
    where
      stepped : (seat : ℕ) → batch_step t s (Some x) seat (Phase tid s p) ≡ Some (record x { phase = p })
      stepped seat = same_test t s (Some (record x { phase = p })) (Some x)

      others : (u : ℕ) → (s ≡ u → ⊥) → (o : Option Batch) (seat : ℕ) → batch_step t u o seat (Phase tid s p) ≡ o
      others u n None seat = refl
      others u n (Some z) seat = other_test t s u (Some (record z { phase = p })) (Some z) n

  pub takes_wrote : (rows : List (List Value)) → e.act ≡ Wrote tid s rows → TakesOn es e t s x (record x { written = x.written ++ rows })
  unfolding batch_step
  takes_wrote rows a = record {
    here = here;
    now = step_by (Wrote tid s rows) (record x { written = x.written ++ rows }) a stepped;
    there = there_by (Wrote tid s rows) a others;
    changes = refl;
    more = λ r h. has-append x.written rows r ∙ ap (λ v. v || has rows r) h;
  }
    where
      stepped : (seat : ℕ) → batch_step t s (Some x) seat (Wrote tid s rows) ≡ Some (record x { written = x.written ++ rows })
      stepped seat = same_test t s (Some (record x { written = x.written ++ rows })) (Some x)

      others : (u : ℕ) → (s ≡ u → ⊥) → (o : Option Batch) (seat : ℕ) → batch_step t u o seat (Wrote tid s rows) ≡ o
      others u n None seat = refl
      others u n (Some z) seat = other_test t s u (Some (record z { written = z.written ++ rows })) (Some z) n

  pub takes_ended : e.act ≡ Ended tid s → TakesOn es e t s x (record x { ended = true })
  unfolding batch_step
  takes_ended a = record {
    here = here;
    now = step_by (Ended tid s) (record x { ended = true }) a stepped;
    there = there_by (Ended tid s) a others;
    changes = refl;
    more = λ r h. h;
  }
    where
      stepped : (seat : ℕ) → batch_step t s (Some x) seat (Ended tid s) ≡ Some (record x { ended = true })
      stepped seat = same_test t s (Some (record x { ended = true })) (Some x)

      others : (u : ℕ) → (s ≡ u → ⊥) → (o : Option Batch) (seat : ℕ) → batch_step t u o seat (Ended tid s) ≡ o
      others u n None seat = refl
      others u n (Some z) seat = other_test t s u (Some (record z { ended = true })) (Some z) n

-- 2. Open batches after it

left_fewer : (o : Option What) (v v' : Bool) (w : What) → (v ≡ true → v' ≡ true) → left_as o v' ≡ Some w → left_as o v ≡ Some w
left_fewer None v v' w f q = absurd (some_none (sym q))
left_fewer (Some x) true true w f q = absurd (some_none (sym q))
left_fewer (Some x) true false w f q = absurd (false≢true (f refl))
left_fewer (Some x) false true w f q = absurd (some_none (sym q))
left_fewer (Some x) false false w f q = q

module _ (es : List Entry) (e : Entry) (t s : ℕ) (x y : Batch) (k : TakesOn es e t s x y) where
  pub pending_before : (u : ℕ) (r : List Value) → IsPendingOn (es ++ e ∷ []) t u r → IsPendingOn es t u r
  pending_before u r p = elim (cases_eq s u) [
    | inl z ↦
        (let same : y ≡ p.batch = same_batch (sym k.now ∙ (ap (λ (v : ℕ). batch_of t v (es ++ e ∷ [])) z ∙ p.is)) in
        record {
          batch = x;
          is = subst (λ (v : ℕ). batch_of t v es ≡ Some x) z k.here;
          what = p.what;
          left = left_fewer (change_of x.changes r) (has x.written r) (has y.written r) p.what (k.more r) ((λ i. left_as (change_of (sym k.changes i) r) (has y.written r)) ∙ ((λ i. left_as (change_of (same i).changes r) (has (same i).written r)) ∙ p.left));
        })
    | inr z ↦ record { batch = p.batch; is = sym (k.there u z) ∙ p.is; what = p.what; left = p.left }
  ]

  pub held_other : (h : HeldBatch) → (s ≡ h.stamp → ⊥) → IsHeldBatch es t h → IsHeldBatch (es ++ e ∷ []) t h
  held_other h n q = held_on es t h q e pending_before h.written (λ l. l) q.batch (k.there h.stamp n ∙ q.is) q.changes q.written q.running

  pub held_here : (h : HeldBatch) → s ≡ h.stamp → IsHeldBatch es t h → (written : List (List Value)) → (list_any (λ c. not (has written c.row)) h.changes ≡ true → is_left h ≡ true) → ((r : List Value) → has y.written r ≡ has written r) → y.ended ≡ false → IsHeldBatch (es ++ e ∷ []) t (record h { written = written })
  held_here h z q written fewer writes running =
      let same : x ≡ q.batch = same_batch (sym k.here ∙ (ap (λ (v : ℕ). batch_of t v es) z ∙ q.is)) in
      held_on es t h q e pending_before written fewer y (ap (λ (v : ℕ). batch_of t v (es ++ e ∷ [])) (sym z) ∙ k.now) (k.changes ∙ (ap (λ (w : Batch). w.changes) same ∙ q.changes)) writes running

  -- the batch of the stamp is the one that is held
  pub held_same : (h : HeldBatch) → s ≡ h.stamp → (q : IsHeldBatch es t h) → x ≡ q.batch
  held_same h z q = same_batch (sym k.here ∙ (ap (λ (v : ℕ). batch_of t v es) z ∙ q.is))

-- 3. All of them

left_more : (cs : List Change) (ws more : List (List Value)) → list_any (λ c. not (has (ws ++ more) c.row)) cs ≡ true → list_any (λ c. not (has ws c.row)) cs ≡ true
left_more [] ws more h = h
left_more (c ∷ cs) ws more h = elim (cases_Bool (has ws c.row)) [
  | inl e ↦ (let w : has (ws ++ more) c.row ≡ true = has-append ws more c.row ∙ ap (λ v. v || has more c.row) e in let z = left_more cs ws more (rw w at h) in rw (e, z) refl)
  | inr e ↦ rw e refl
]

pub rising_less : (q q' : ℕ) → q' ≤ q → (hs : List HeldBatch) → AreStampsRisingFrom q hs → AreStampsRisingFrom q' hs
rising_less q q' l [] r = tt
rising_less q q' l (h ∷ hs) r = ((let m = r.0 in omega arith), r.1)

rising_wrote : (s : ℕ) (rows : List (List Value)) (q : ℕ) (hs : List HeldBatch) → AreStampsRisingFrom q hs → AreStampsRisingFrom q (held_wrote s rows hs)
rising_wrote s rows q [] r = tt
rising_wrote s rows q (h ∷ hs) r = (r.0, rising_wrote s rows h.stamp hs r.1)

rising_filter : (p : HeldBatch → Bool) (q : ℕ) (hs : List HeldBatch) → AreStampsRisingFrom q hs → AreStampsRisingFrom q (filter p hs)
rising_filter p q [] r = tt
rising_filter p q (h ∷ hs) r = elim (cases_Bool (p h)) [
  | inl e ↦ (let z = rising_filter p h.stamp hs r.1 in rw e (r.0, z))
  | inr e ↦ (let z = rising_less h.stamp q (let m = r.0 in omega arith) (filter p hs) (rising_filter p h.stamp hs r.1) in rw e z)
]

in_wrote : (s : ℕ) (rows : List (List Value)) (u : ℕ) (hs : List HeldBatch) → is_in u (held_wrote s rows hs) ≡ is_in u hs
in_wrote s rows u [] = refl
in_wrote s rows u (h ∷ hs) = ap (λ c. nat_eq h.stamp u || c) (in_wrote s rows u hs)

in_ended : (s u : ℕ) → (s ≡ u → ⊥) → (hs : List HeldBatch) → is_in u (held_ended s hs) ≡ is_in u hs
in_ended s u n [] = refl
in_ended s u n (x ∷ xs) = (let z = in_ended s u n xs in elim (cases_eq x.stamp s) [
  | inl m ↦ (let v : not (nat_eq x.stamp s) ≡ false = ap not (eq-eqb x.stamp s m) in let w : nat_eq x.stamp u ≡ false = ne_eqb x.stamp u (λ a. n (sym m ∙ a)) in rw (v, w) z)
  | inr m ↦ (let v : not (nat_eq x.stamp s) ≡ true = ap not (ne_eqb x.stamp s m) in rw v (ap (λ c. nat_eq x.stamp u || c) z))
])

module _ (b : Base) (es : List Entry) (e : Entry) (t s : ℕ) (x y : Batch) (k : TakesOn es e t s x y) (running : x.ended ≡ false) where
  each_phase : ((r : List Value) → has y.written r ≡ has x.written r) → y.ended ≡ false → (hs : List HeldBatch) → AllByRecursion (IsHeldBatch es t) hs → AllByRecursion (IsHeldBatch (es ++ e ∷ []) t) hs
  each_phase w r [] a = tt
  each_phase w r (h ∷ hs) a = (one, each_phase w r hs a.1)
    where
      one : IsHeldBatch (es ++ e ∷ []) t h
      one = elim (cases_eq s h.stamp) [
        | inl z ↦ held_here es e t s x y k h z a.0 h.written (λ l. l) (λ q. w q ∙ (ap (λ (o : Batch). has o.written q) (held_same es e t s x y k h z a.0) ∙ a.0.written q)) r
        | inr z ↦ held_other es e t s x y k h z a.0
      ]

  -- a phase is done
  pub held_after_phase : ((r : List Value) → has y.written r ≡ has x.written r) → y.ended ≡ false → (hs : List HeldBatch) → HeldKept b es t hs → HeldKept b (es ++ e ∷ []) t hs
  held_after_phase w r hs h = record {
    rising = h.rising;
    each = each_phase w r hs h.each;
    all = λ u z q n. elim (cases_eq s u) [
      | inl i ↦ subst (λ (v : ℕ). is_in v hs ≡ true) i (h.all s x k.here running)
      | inr i ↦ h.all u z (sym (k.there u i) ∙ q) n
    ];
  }

  each_wrote : (rows : List (List Value)) → y.written ≡ x.written ++ rows → y.ended ≡ false → (hs : List HeldBatch) → AllByRecursion (IsHeldBatch es t) hs → AllByRecursion (IsHeldBatch (es ++ e ∷ []) t) (held_wrote s rows hs)
  each_wrote rows w r [] a = tt
  each_wrote rows w r (h ∷ hs) a = (one, each_wrote rows w r hs a.1)
    where
      by : (v : Bool) → nat_eq h.stamp s ≡ v → IsHeldBatch (es ++ e ∷ []) t (record h { written = cond v (h.written ++ rows) h.written })
      by true z =
          (let at : s ≡ h.stamp = sym (eqb-true h.stamp s z) in
          held_here es e t s x y k h at a.0 (h.written ++ rows) (left_more h.changes h.written rows)
          (λ q. ap (λ (l : List (List Value)). has l q) w ∙ (has-append x.written rows q ∙ (ap (λ v. v || has rows q) (ap (λ (o : Batch). has o.written q) (held_same es e t s x y k h at a.0) ∙ a.0.written q) ∙ sym (has-append h.written rows q))))
          r)
      by false z = held_other es e t s x y k h (λ i. false≢true (sym z ∙ eq-eqb h.stamp s (sym i))) a.0

      one : IsHeldBatch (es ++ e ∷ []) t (writes_rows s rows h)
      one = by (nat_eq h.stamp s) refl

  -- rows are written
  pub held_after_wrote : (rows : List (List Value)) → y.written ≡ x.written ++ rows → y.ended ≡ false → (hs : List HeldBatch) → HeldKept b es t hs → HeldKept b (es ++ e ∷ []) t (held_wrote s rows hs)
  held_after_wrote rows w r hs h = record {
    rising = rising_wrote s rows (b.last t) hs h.rising;
    each = each_wrote rows w r hs h.each;
    all = λ u z q n. in_wrote s rows u hs ∙ elim (cases_eq s u) [
      | inl i ↦ subst (λ (v : ℕ). is_in v hs ≡ true) i (h.all s x k.here running)
      | inr i ↦ h.all u z (sym (k.there u i) ∙ q) n
    ];
  }

  each_ended : (hs : List HeldBatch) → AllByRecursion (IsHeldBatch es t) hs → AllByRecursion (IsHeldBatch (es ++ e ∷ []) t) (held_ended s hs)
  each_ended [] a = tt
  each_ended (h ∷ hs) a = (let z = each_ended hs a.1 in elim (cases_eq h.stamp s) [
    | inl u ↦ (let v : not (nat_eq h.stamp s) ≡ false = ap not (eq-eqb h.stamp s u) in rw v z)
    | inr u ↦ (let v : not (nat_eq h.stamp s) ≡ true = ap not (ne_eqb h.stamp s u) in rw v (held_other es e t s x y k h (λ m. u (sym m)) a.0, z))
  ])

  -- a batch ends
  pub held_after_ended : y.ended ≡ true → (hs : List HeldBatch) → HeldKept b es t hs → HeldKept b (es ++ e ∷ []) t (held_ended s hs)
  held_after_ended r hs h = record {
    rising = rising_filter (λ h. not (nat_eq h.stamp s)) (b.last t) hs h.rising;
    each = each_ended hs h.each;
    all = λ u z q n. elim (cases_eq s u) [
      | inl i ↦ absurd (false≢true (sym n ∙ (ap (λ (o : Batch). o.ended) (same_batch (sym q ∙ (ap (λ (v : ℕ). batch_of t v (es ++ e ∷ [])) (sym i) ∙ k.now))) ∙ r)))
      | inr i ↦ in_ended s u i hs ∙ h.all u z (sym (k.there u i) ∙ q) n
    ];
  }
