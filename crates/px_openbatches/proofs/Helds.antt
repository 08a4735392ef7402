-- The open batches with their changes, and the rows on which each met another batch.
use Rattle.std.proofs.Common.{◌≡◌, ℕ, ◌<◌, ◌≤◌, Bool, true, false, cond, not, ◌||◌, filter, map, ◌⊎◌, Option, Some, None, List, [], ◌∷◌, ◌++◌, refl, ap, sym, ◌∙◌, subst, inl, inr, arith, append_assoc}
use Rattle.std.specs.Prelude.{nat_eq, is_some}
use Rattle.std.specs.List.{list_any, AllByRecursion}
use Rattle.std.proofs.lemmas.List.Folds.{list_any-append}
use Rattle.std.proofs.lemmas.Bool.{cases_Bool, cases_eq, cases_lt, ne_eqb, eq-eqb, eqb-true, false≢true, not-true}
use Rattle.px_values.specs.declared.row.Value.{Value}
use Rattle.px_values.specs.declared.change.Change.{Change}
use Rattle.px_values.specs.declared.change.What.{What}
use Rattle.px_values.specs.declared.name.TableId.{TableId}
use Rattle.px_trail.specs.declared.entry.Act.TheVariants.{Begun, Wrote, Ended, Phase}
use Rattle.px_trail.specs.declared.entry.Entry.{Entry}
use Rattle.px_trail.specs.Trail.{Base, last_of, last_from}
use Rattle.px_trail.specs.Batches.{Batch, batch_from, batch_of, begun_batch, change_of, has, rows_of, unwritten}
use Rattle.px_trail.specs.Legal.{IsWritable}
use Rattle.px_trail.proofs.Batches.{batch-none, last_from-le}
use Rattle.px_trail.proofs.Growth.{batch_of-snoc, last_from-append}
use Rattle.px_indexed.specs.Kept.{RowsKept}
use Rattle.px_openbatches.specs.Made.{RowCells}
use Rattle.px_openbatches.specs.Pending.{left_as, change_left, is_left, is_in, IsPendingOn, IsWithin, AreStampsRisingFrom, IsHeldBatch, HeldKept, with_met, is_pending_in, fresh_held, held_begun, writes_rows, held_wrote, held_ended, HeldBatch, IsMet}
use Rattle.px_history.proofs.Ties.{batch_here, batch_there}
use Rattle.px_history.proofs.Changes.{change-has}
use Rattle.px_trail.proofs.Orders.{has-append, has-filter, filter-has, has-change}
use Rattle.px_indexed.proofs.EntrySteps.{there_wrote, here_wrote, there_ended, here_ended, there_phase, here_phase}
use Rattle.px_openbatches.proofs.Pendings.{some_none, whole_written}
use Rattle.px_values.specs.States.{Shape as RowShape}
use Rattle.px_indexed.specs.Worlds.{history_at}
use Rattle.px_indexed.proofs.Rows.{IsEnding, IsPhase}
use Rattle.px_indexed.proofs.Idle.{IsStill}
use Rattle.px_trail.proofs.Batches.{in_writing}

pub same_batch : {x y : Batch} → Some x ≡ Some y → x ≡ y
same_batch q = cc

no_middle : {A : Type 0} (x : A) (ys zs : List A) → [] ≡ ys ++ x ∷ zs → ⊥
no_middle x [] zs h = cc
no_middle x (y ∷ ys) zs h = cc

split_last : {A : Type 0} (es before after : List A) (e e' : A) → es ++ e ∷ [] ≡ before ++ e' ∷ after → ((es ≡ before) × (e ≡ e')) ⊎ ((rest : List A) × (es ≡ before ++ e' ∷ rest))
split_last [] [] after e e' h = inl (refl, cc)
split_last [] (y ∷ ys) after e e' h = let t : [] ≡ ys ++ e' ∷ after = cc in absurd (no_middle e' ys after t)
split_last (x ∷ xs) [] after e e' h = let t : x ≡ e' = cc in inr (xs, ap (λ z. z ∷ xs) t)
split_last (x ∷ xs) (y ∷ ys) after e e' h =
    let head : x ≡ y = cc in
    let tail : xs ++ e ∷ [] ≡ ys ++ e' ∷ after = cc in
    elim (split_last xs ys after e e' tail) [
      | inl s ↦ inl (ap (λ z. z ∷ xs) head ∙ ap (λ l. y ∷ l) s.0, s.1)
      | inr s ↦ inr (s.0, ap (λ z. z ∷ xs) head ∙ ap (λ l. y ∷ l) s.1)
    ]

-- ---- concurrent rows, one entry more

pub concurrent_more : (es : List Entry) (e : Entry) (t s : ℕ) (r : List Value) → IsMet es t s r → IsMet (es ++ e ∷ []) t s r
concurrent_more es e t s r c = record {
  before = c.before;
  entry = c.entry;
  after = c.after ++ e ∷ [];
  parts = ap (λ l. l ++ e ∷ []) c.parts ∙ append_assoc c.before (c.entry ∷ c.after) (e ∷ []);
  within = c.within;
  other = c.other;
  differs = c.differs;
  pending = c.pending;
}

pub concurrent_now : (es : List Entry) (e : Entry) (t s u : ℕ) (r : List Value) → IsWithin es e t s → (u ≡ s → ⊥) → IsPendingOn (es ++ e ∷ []) t u r → IsMet (es ++ e ∷ []) t s r
concurrent_now es e t s u r w n p = record { before = es; entry = e; after = []; parts = refl; within = w; other = u; differs = n; pending = p }

-- another batch was pending after the newest entry
pub record IsNow (es : List Entry) (e : Entry) (t s : ℕ) (r : List Value) : Type 0 where
  pub within : IsWithin es e t s
  pub other : ℕ
  pub differs : other ≡ s → ⊥
  pub pending : IsPendingOn (es ++ e ∷ []) t other r

pub concurrent_last : (es : List Entry) (e : Entry) (t s : ℕ) (r : List Value) → IsMet (es ++ e ∷ []) t s r → IsMet es t s r ⊎ IsNow es e t s r
concurrent_last es e t s r c = elim (split_last es c.before c.after e c.entry c.parts) [
  | inl q ↦ (let a = q.0 in let z = q.1 in inr (record {
    within = subst (λ (l : List Entry). IsWithin l e t s) (sym a) (subst (λ (x : Entry). IsWithin c.before x t s) (sym z) c.within);
    other = c.other;
    differs = c.differs;
    pending = subst (λ (l : List Entry). IsPendingOn (l ++ e ∷ []) t c.other r) (sym a) (subst (λ (x : Entry). IsPendingOn (c.before ++ x ∷ []) t c.other r) (sym z) c.pending);
  }))
  | inr q ↦ inl (record { before = c.before; entry = c.entry; after = q.0; parts = q.1; within = c.within; other = c.other; differs = c.differs; pending = c.pending })
]

-- ---- what is left

-- pending, in the words of the trail: a row that the batch is still to write
pub pending_unwritten : (es : List Entry) (t s : ℕ) (r : List Value) → (p : IsPendingOn es t s r) → has (unwritten p.batch) r ≡ true
pending_unwritten es t s r p = by (change_of p.batch.changes r) (has p.batch.written r) refl refl p.left
  where
    by : (o : Option What) (v : Bool) → change_of p.batch.changes r ≡ o → has p.batch.written r ≡ v → left_as o v ≡ Some p.what → has (unwritten p.batch) r ≡ true
    by None v c n q = absurd (some_none q)
    by (Some w) true c n q = absurd (some_none q)
    by (Some w) false c n q = filter-has (λ y. not (has p.batch.written y)) (rows_of p.batch.changes) r (has-change p.batch.changes r w c) (ap not n)

pub unwritten_pending : (es : List Entry) (t s : ℕ) (r : List Value) (y : Batch) → batch_of t s es ≡ Some y → has (unwritten y) r ≡ true → IsPendingOn es t s r
unwritten_pending es t s r y is h =
    let z = has-filter (λ x. not (has y.written x)) (rows_of y.changes) r h in
    let c = change-has y.changes r z.0 in
    record { batch = y; is = is; what = c.0; left = (λ i. left_as (c.1 i) (not-true (has y.written r) z.1 i)) }

left_some : (cs : List Change) (ws : List (List Value)) → (filter (λ r. not (has ws r)) (rows_of cs) ≡ [] → ⊥) → list_any (λ c. not (has ws c.row)) cs ≡ true
left_some [] ws n = absurd (n refl)
left_some (c ∷ cs) ws n = elim (cases_Bool (not (has ws c.row))) [
  | inl e ↦ rw e refl
  | inr e ↦ (let z = left_some cs ws (λ q. n (rw e q)) in rw (e, z) refl)
]

pub left_not_none : (cs : List Change) (ws : List (List Value)) → list_any (λ c. not (has ws c.row)) cs ≡ true → filter (λ r. not (has ws r)) (rows_of cs) ≡ [] → ⊥
left_not_none [] ws h q = false≢true h
left_not_none (c ∷ cs) ws h q = elim (cases_Bool (not (has ws c.row))) [
  | inl e ↦ absurd (cons_nil (rw e at q))
  | inr e ↦ left_not_none cs ws (rw e at h) (rw e at q)
]
  where
    cons_nil : {A : Type 0} {x : A} {xs : List A} → x ∷ xs ≡ [] → ⊥
    cons_nil q = cc

-- fewer are left where more are written
left_more : (cs : List Change) (ws more : List (List Value)) → list_any (λ c. not (has (ws ++ more) c.row)) cs ≡ true → list_any (λ c. not (has ws c.row)) cs ≡ true
left_more [] ws more h = h
left_more (c ∷ cs) ws more h = elim (cases_Bool (has ws c.row)) [
  | inl e ↦ (let w : has (ws ++ more) c.row ≡ true = has-append ws more c.row ∙ ap (λ v. v || has more c.row) e in let z = left_more cs ws more (rw w at h) in rw (e, z) refl)
  | inr e ↦ rw e refl
]

module _ (es : List Entry) (t : ℕ) (h : HeldBatch) (k : IsHeldBatch es t h) where
  -- an open batch is one that began before
  pub left_within : (e : Entry) → IsWithin es e t h.stamp → is_left h ≡ true
  left_within e w = elim w.which [
    | inl n ↦ absurd (some_none (sym n ∙ k.is))
    | inr x ↦
        (let same : x.0 ≡ k.batch = same_batch (sym x.1.0 ∙ k.is) in
        left_some h.changes h.written (λ q. x.1.1 ((λ i. filter (λ r. not (has (same i).written r)) (rows_of (same i).changes)) ∙ ((λ i. filter (λ r. not (k.written r i)) (rows_of (k.changes i))) ∙ q))))
  ]

  pub within_left : (e : Entry) (y : Batch) → batch_of t h.stamp (es ++ e ∷ []) ≡ Some y → is_left h ≡ true → IsWithin es e t h.stamp
  within_left e y is l = record {
    batch = y;
    is = is;
    which = inr (k.batch, (k.is, λ q. left_not_none h.changes h.written l ((λ i. filter (λ r. not (sym (k.written r) i)) (rows_of (sym k.changes i))) ∙ q)));
  }

  pub left_pending : (r : List Value) → is_some (change_left h r) ≡ true → IsPendingOn es t h.stamp r
  left_pending r l = by (change_left h r) refl l
    where
      by : (o : Option What) → change_left h r ≡ o → is_some o ≡ true → IsPendingOn es t h.stamp r
      by None q l = absurd (false≢true l)
      by (Some w) q l = record { batch = k.batch; is = k.is; what = w; left = (λ i. left_as (change_of (k.changes i) r) (k.written r i)) ∙ q }

  pub pending_left : (r : List Value) → IsPendingOn es t h.stamp r → is_some (change_left h r) ≡ true
  pending_left r p =
      let same : k.batch ≡ p.batch = same_batch (sym k.is ∙ p.is) in
      ap is_some ((λ i. left_as (change_of (sym k.changes i) r) (sym (k.written r) i)) ∙ ((λ i. left_as (change_of (same i).changes r) (has (same i).written r)) ∙ p.left))

  -- an entry with which no batch comes to be pending
  module _ (e : Entry) (none : (u : ℕ) (r : List Value) → IsPendingOn (es ++ e ∷ []) t u r → IsPendingOn es t u r) (written : List (List Value)) (fewer : list_any (λ c. not (has written c.row)) h.changes ≡ true → is_left h ≡ true)
      (y : Batch) (is : batch_of t h.stamp (es ++ e ∷ []) ≡ Some y) (changes : y.changes ≡ h.changes) (writes : (r : List Value) → has y.written r ≡ has written r) (running : y.ended ≡ false) where
    pub held_on : IsHeldBatch (es ++ e ∷ []) t (record h { written = written })
    held_on = record {
      batch = y;
      is = is;
      changes = changes;
      written = writes;
      running = running;
      met_from = λ r m. (let z = k.met_from r m in (z.0, concurrent_more es e t h.stamp r z.1));
      met_to = λ r c q. elim (concurrent_last es e t h.stamp r q) [
        | inl old ↦ k.met_to r c old
        | inr now ↦ k.met_to r c (k.counted r now.other (left_within e now.within) now.differs (none now.other r now.pending))
      ];
      counted = λ r u l n p. concurrent_more es e t h.stamp r (k.counted r u (fewer l) n (none u r p));
    }

-- ---- a batch begins

list_any_map : {A C : Type 0} (p : C → Bool) (f : A → C) (xs : List A) → list_any p (map f xs) ≡ list_any (λ x. p (f x)) xs
list_any_map p f [] = refl
list_any_map p f (x ∷ xs) = ap (λ v. p (f x) || v) (list_any_map p f xs)

or_cases : (a c : Bool) → (a || c) ≡ true → (a ≡ true) ⊎ (c ≡ true)
or_cases true c h = inl refl
or_cases false c h = inr h

or_left : (a c : Bool) → a ≡ true → (a || c) ≡ true
or_left true c h = refl
or_left false c h = absurd (false≢true h)

or_right : (a c : Bool) → c ≡ true → (a || c) ≡ true
or_right true c h = refl
or_right false c h = h

-- a batch of these is pending on the row
any_pending : (es : List Entry) (t : ℕ) (r : List Value) (hs : List HeldBatch) → AllByRecursion (IsHeldBatch es t) hs → is_pending_in hs r ≡ true → (u : ℕ) × IsPendingOn es t u r
any_pending es t r [] a q = absurd (false≢true q)
any_pending es t r (h ∷ hs) a q = elim (or_cases (is_some (change_left h r)) (is_pending_in hs r) q) [
  | inl z ↦ (h.stamp, left_pending es t h a.0 r z)
  | inr z ↦ any_pending es t r hs a.1 z
]

pending_any : (es : List Entry) (t u : ℕ) (r : List Value) (hs : List HeldBatch) → AllByRecursion (IsHeldBatch es t) hs → is_in u hs ≡ true → IsPendingOn es t u r → is_pending_in hs r ≡ true
pending_any es t u r [] a i p = absurd (false≢true i)
pending_any es t u r (h ∷ hs) a i p = elim (cases_eq h.stamp u) [
  | inl z ↦ or_left (is_some (change_left h r)) (is_pending_in hs r) (pending_left es t h a.0 r (subst (λ (v : ℕ). IsPendingOn es t v r) (sym z) p))
  | inr z ↦ or_right (is_some (change_left h r)) (is_pending_in hs r) (pending_any es t u r hs a.1 (sym (ap (λ v. v || is_in u hs) (ne_eqb h.stamp u z)) ∙ i) p)
]

rising_end : (q : ℕ) (hs : List HeldBatch) (n : HeldBatch) → q < n.stamp → AllByRecursion (λ h. h.stamp < n.stamp) hs → AreStampsRisingFrom q hs → AreStampsRisingFrom q (hs ++ n ∷ [])
rising_end q [] n l a r = (l, tt)
rising_end q (h ∷ hs) n l a r = (r.0, rising_end h.stamp hs n a.0 a.1 r.1)

rising_map : (f : HeldBatch → HeldBatch) → ((h : HeldBatch) → (f h).stamp ≡ h.stamp) → (q q' : ℕ) → q' ≡ q → (hs : List HeldBatch) → AreStampsRisingFrom q hs → AreStampsRisingFrom q' (map f hs)
rising_map f e q q' z [] r = tt
rising_map f e q q' z (h ∷ hs) r = ((let m = r.0 in let n = e h in omega arith), rising_map f e h.stamp (f h).stamp (e h) hs r.1)

rising_less : (q q' : ℕ) → q' ≤ q → (hs : List HeldBatch) → AreStampsRisingFrom q hs → AreStampsRisingFrom q' hs
rising_less q q' l [] r = tt
rising_less q q' l (h ∷ hs) r = ((let m = r.0 in omega arith), r.1)

rising_filter : (p : HeldBatch → Bool) (q : ℕ) (hs : List HeldBatch) → AreStampsRisingFrom q hs → AreStampsRisingFrom q (filter p hs)
rising_filter p q [] r = tt
rising_filter p q (h ∷ hs) r = elim (cases_Bool (p h)) [
  | inl e ↦ (let z = rising_filter p h.stamp hs r.1 in rw e (r.0, z))
  | inr e ↦ (let z = rising_less h.stamp q (let m = r.0 in omega arith) (filter p hs) (rising_filter p h.stamp hs r.1) in rw e z)
]

pub all_map : (P Q : HeldBatch → Type 0) (f : HeldBatch → HeldBatch) → ((h : HeldBatch) → P h → Q (f h)) → (hs : List HeldBatch) → AllByRecursion P hs → AllByRecursion Q (map f hs)
all_map P Q f g [] a = tt
all_map P Q f g (h ∷ hs) a = (g h a.0, all_map P Q f g hs a.1)

pub all_more : (P Q : HeldBatch → Type 0) → ((h : HeldBatch) → P h → Q h) → (hs : List HeldBatch) → AllByRecursion P hs → AllByRecursion Q hs
all_more P Q g [] a = tt
all_more P Q g (h ∷ hs) a = (g h a.0, all_more P Q g hs a.1)

pub all_end : (P : HeldBatch → Type 0) (hs : List HeldBatch) (n : HeldBatch) → AllByRecursion P hs → P n → AllByRecursion P (hs ++ n ∷ [])
all_end P [] n a p = (p, tt)
all_end P (h ∷ hs) n a p = (a.0, all_end P hs n a.1 p)

module _ (sh : RowShape) (b : Base) (es : List Entry) (tid : TableId) (raised : ℕ) (k : RowsKept sh b es tid.0 raised) (hs : List HeldBatch) (held : HeldKept b es tid.0 hs) where
  abbrev t : ℕ
  t = tid.0

  below : (h : HeldBatch) → IsHeldBatch es t h → h.stamp ≤ last_of b t es
  below h q = elim (cases_lt (last_of b t es) h.stamp) [ inl l ↦ absurd (some_none (sym (batch-none b t h.stamp es l) ∙ q.is)) | inr l ↦ omega arith ]

  pending_in : (u : ℕ) (r : List Value) → IsPendingOn es t u r → is_in u hs ≡ true
  pending_in u r p = held.all u p.batch p.is (elim (cases_Bool p.batch.ended) [
    | inl z ↦ (let d = k.done u p.batch p.is z in absurd (whole r p.batch p.what d p.left))
    | inr z ↦ z
  ])
    where
      whole : (r : List Value) (y : Batch) (w : What) → unwritten y ≡ [] → left_as (change_of y.changes r) (has y.written r) ≡ Some w → ⊥
      whole r y w d l = by (change_of y.changes r) (has y.written r) refl refl l
        where
          by : (o : Option What) (v : Bool) → change_of y.changes r ≡ o → has y.written r ≡ v → left_as o v ≡ Some w → ⊥
          by None v c n l = some_none l
          by (Some x) true c n l = some_none l
          by (Some x) false c n l = whole_written r y x d c n

  module _ (e : Entry) (s : ℕ) (cs : List Change) (is : e.act ≡ Begun tid s cs) (new : last_of b t es < s) (count : ℕ) (cells : List RowCells) where
    abbrev after : List Entry
    after = es ++ e ∷ []

    here : batch_of t s after ≡ Some (begun_batch e.seat cs)
    here = batch_here sh b tid [] (k.base []) es (history_at sh b es t []) (k.tied []) e s cs is new

    there : (u : ℕ) → (s ≡ u → ⊥) → batch_of t u after ≡ batch_of t u es
    there u z = batch_there sh b tid [] (k.base []) es (history_at sh b es t []) (k.tied []) e s cs is new u z

    apart : (h : HeldBatch) → IsHeldBatch es t h → s ≡ h.stamp → ⊥
    apart h q z = (let m = below h q in omega arith)

    -- the new batch is pending on its rows
    new_pending : (r : List Value) (w : What) → change_of cs r ≡ Some w → IsPendingOn after t s r
    unfolding has
    new_pending r w c = record { batch = begun_batch e.seat cs; is = here; what = w; left = ap (λ o. left_as o false) c }

    old_pending : (u : ℕ) (r : List Value) → (s ≡ u → ⊥) → IsPendingOn after t u r → IsPendingOn es t u r
    old_pending u r z p = record { batch = p.batch; is = sym (there u z) ∙ p.is; what = p.what; left = p.left }

    still_pending : (u : ℕ) (r : List Value) → (s ≡ u → ⊥) → IsPendingOn es t u r → IsPendingOn after t u r
    still_pending u r z p = record { batch = p.batch; is = there u z ∙ p.is; what = p.what; left = p.left }

    pending_changes : (r : List Value) → IsPendingOn after t s r → is_some (change_of cs r) ≡ true
    unfolding has
    pending_changes r p =
        let same : begun_batch e.seat cs ≡ p.batch = same_batch (sym here ∙ p.is) in
        by (change_of cs r) ((λ i. left_as (change_of (same i).changes r) (has (same i).written r)) ∙ p.left)
      where
        by : (o : Option What) → left_as o false ≡ Some p.what → is_some o ≡ true
        by None q = absurd (some_none q)
        by (Some w) q = refl

    some_change : (xs : List Change) (r : List Value) → is_some (change_of xs r) ≡ true → (w : What) × (change_of xs r ≡ Some w)
    some_change xs r h = by (change_of xs r) refl h
      where
        by : (o : Option What) → change_of xs r ≡ o → is_some o ≡ true → (w : What) × (change_of xs r ≡ Some w)
        by None q h = absurd (false≢true h)
        by (Some w) q h = (w, q)

    -- an open batch when another begins
    module _ (h : HeldBatch) (q : IsHeldBatch es t h) where
      abbrev both : List (List Value)
      both = filter (λ r. is_some (change_of h.changes r)) (rows_of cs)

      now_is : batch_of t h.stamp after ≡ Some q.batch
      now_is = there h.stamp (apart h q) ∙ q.is

      met_old : (r : List Value) (v : Bool) → has h.met r ≡ true → has (cond v (h.met ++ both) h.met) r ≡ true
      met_old r true m = has-append h.met both r ∙ or_left (has h.met r) (has both r) m
      met_old r false m = m

      held_meets : IsHeldBatch after t (with_met cs h)
      held_meets = record {
        batch = q.batch;
        is = now_is;
        changes = q.changes;
        written = q.written;
        running = q.running;
        met_from = λ r m. from r (is_left h) refl m;
        met_to = λ r c conc. elim (concurrent_last es e t h.stamp r conc) [
          | inl old ↦ met_old r (is_left h) (q.met_to r c old)
          | inr now ↦
              (let l = left_within es t h q e now.within in
              elim (cases_eq s now.other) [
                | inl z ↦
                    (let x = some_change cs r (pending_changes r (subst (λ (v : ℕ). IsPendingOn after t v r) (sym z) now.pending)) in
                    let m : has both r ≡ true = filter-has (λ y. is_some (change_of h.changes y)) (rows_of cs) r (has-change cs r x.0 x.1) c in
                    ap (λ v. has (cond v (h.met ++ both) h.met) r) l ∙ (has-append h.met both r ∙ or_right (has h.met r) (has both r) m))
                | inr z ↦ met_old r (is_left h) (q.met_to r c (q.counted r now.other l now.differs (old_pending now.other r z now.pending)))
              ])
        ];
        counted = λ r u l n p. concurrent_now es e t h.stamp u r (within_left es t h q e q.batch now_is l) n p;
      }
        where
          old : (r : List Value) → has h.met r ≡ true → (is_some (change_of h.changes r) ≡ true) × IsMet after t h.stamp r
          old r m = (let z = q.met_from r m in (z.0, concurrent_more es e t h.stamp r z.1))

          from : (r : List Value) (v : Bool) → is_left h ≡ v → has (cond v (h.met ++ both) h.met) r ≡ true → (is_some (change_of h.changes r) ≡ true) × IsMet after t h.stamp r
          from r false l m = old r m
          from r true l m = elim (or_cases (has h.met r) (has both r) (sym (has-append h.met both r) ∙ m)) [
            | inl z ↦ old r z
            | inr z ↦
                (let x = has-filter (λ y. is_some (change_of h.changes y)) (rows_of cs) r z in
                let w = change-has cs r x.0 in
                (x.1, concurrent_now es e t h.stamp s r (within_left es t h q e q.batch now_is l) (apart h q) (new_pending r w.0 w.1)))
          ]

    -- the batch that begins
    begins_now : IsWithin es e t s
    begins_now = record { batch = begun_batch e.seat cs; is = here; which = inl (batch-none b t s es new) }

    none_before : (r : List Value) → IsMet es t s r → ⊥
    none_before r c =
        let upto : List Entry = c.before ++ c.entry ∷ [] in
        let e1 : es ≡ upto ++ c.after = c.parts ∙ sym (append_assoc c.before (c.entry ∷ []) c.after) in
        let e2 : last_of b t es ≡ last_from t (last_of b t upto) c.after = ap (last_of b t) e1 ∙ last_from-append t (b.last t) upto c.after in
        let e3 = last_from-le t (last_of b t upto) c.after in
        some_none (sym (batch-none b t s upto (omega arith)) ∙ c.within.is)

    held_fresh : IsHeldBatch after t (fresh_held s cs count cells hs)
    held_fresh = record {
      batch = begun_batch e.seat cs;
      is = here;
      changes = refl;
      written = λ r. refl;
      running = refl;
      met_from = λ r m.
          (let x = has-filter (is_pending_in hs) (rows_of cs) r m in
          let w = change-has cs r x.0 in
          let p = any_pending es t r hs held.each x.1 in
          let a = differs p.0 r p.1 in
          (ap is_some w.1, concurrent_now es e t s p.0 r begins_now (λ z. a (sym z)) (still_pending p.0 r a p.1)));
      met_to = λ r c conc. elim (concurrent_last es e t s r conc) [
        | inl old ↦ absurd (none_before r old)
        | inr now ↦
            (let x = some_change cs r c in
            let p = old_pending now.other r (λ z. now.differs (sym z)) now.pending in
            filter-has (is_pending_in hs) (rows_of cs) r (has-change cs r x.0 x.1) (pending_any es t now.other r hs held.each (pending_in now.other r p) p))
      ];
      counted = λ r u l n p. concurrent_now es e t s u r begins_now n p;
    }
      where
        differs : (u : ℕ) (r : List Value) → IsPendingOn es t u r → s ≡ u → ⊥
        differs u r p z = some_none (sym (batch-none b t s es new) ∙ (ap (λ (v : ℕ). batch_of t v es) z ∙ p.is))

    is_in_begun : (u : ℕ) → is_in u (held_begun s cs count cells hs) ≡ (is_in u hs || nat_eq s u)
    is_in_begun u = list_any-append (λ h. nat_eq h.stamp u) (map (with_met cs) hs) (fresh_held s cs count cells hs ∷ []) ∙ ((λ i. list_any_map (λ (h : HeldBatch). nat_eq h.stamp u) (with_met cs) hs i || (or_none (nat_eq s u) i)))
      where
        or_none : (v : Bool) → (v || false) ≡ v
        or_none true = refl
        or_none false = refl

    pub held_after_begun : HeldKept b after t (held_begun s cs count cells hs)
    held_after_begun = record {
      rising = rising_end (b.last t) (map (with_met cs) hs) (fresh_held s cs count cells hs) (let m = last_from-le t (b.last t) es in omega arith)
          (all_map (IsHeldBatch es t) (λ h. h.stamp < s) (with_met cs) (λ h q. (let m = below h q in omega arith)) hs held.each)
          (rising_map (with_met cs) (λ h. refl) (b.last t) (b.last t) refl hs held.rising);
      each = all_end (IsHeldBatch after t) (map (with_met cs) hs) (fresh_held s cs count cells hs) (all_map (IsHeldBatch es t) (IsHeldBatch after t) (with_met cs) held_meets hs held.each) held_fresh;
      all = λ u y q n. is_in_begun u ∙ elim (cases_eq s u) [
        | inl z ↦ or_right (is_in u hs) (nat_eq s u) (eq-eqb s u z)
        | inr z ↦ or_left (is_in u hs) (nat_eq s u) (held.all u y (sym (there u z) ∙ q) n)
      ];
    }

  -- ---- rows are written

  left_fewer : (o : Option What) (v v' : Bool) (w : What) → (v ≡ true → v' ≡ true) → left_as o v' ≡ Some w → left_as o v ≡ Some w
  left_fewer None v v' w f q = absurd (some_none q)
  left_fewer (Some x) true true w f q = absurd (some_none q)
  left_fewer (Some x) true false w f q = absurd (false≢true (f refl))
  left_fewer (Some x) false true w f q = absurd (some_none q)
  left_fewer (Some x) false false w f q = q

  module _ (e : Entry) (s : ℕ) (rows : List (List Value)) (is : e.act ≡ Wrote tid s rows) (f : IsWritable es e.seat t s rows) where
    pending_wrote : (u : ℕ) (r : List Value) → IsPendingOn (es ++ e ∷ []) t u r → IsPendingOn es t u r
    pending_wrote u r p = elim (cases_eq s u) [
      | inl z ↦
          (let same : record f.batch { written = f.batch.written ++ rows } ≡ p.batch = same_batch (sym (here_wrote sh b es tid raised k e s rows is f u z) ∙ p.is) in
          record {
            batch = f.batch;
            is = subst (λ (v : ℕ). batch_of t v es ≡ Some f.batch) z f.is;
            what = p.what;
            left = left_fewer (change_of f.batch.changes r) (has f.batch.written r) (has (f.batch.written ++ rows) r) p.what
                (λ w. has-append f.batch.written rows r ∙ or_left (has f.batch.written r) (has rows r) w)
                ((λ i. left_as (change_of (same i).changes r) (has (same i).written r)) ∙ p.left);
          })
      | inr z ↦ record { batch = p.batch; is = sym (there_wrote sh b es tid raised k e s rows is f u z) ∙ p.is; what = p.what; left = p.left }
    ]

    held_writes : (h : HeldBatch) → IsHeldBatch es t h → IsHeldBatch (es ++ e ∷ []) t (writes_rows s rows h)
    held_writes h q = by (nat_eq h.stamp s) refl
      where
        by : (v : Bool) → nat_eq h.stamp s ≡ v → IsHeldBatch (es ++ e ∷ []) t (record h { written = cond v (h.written ++ rows) h.written })
        by true z =
            let at : h.stamp ≡ s = eqb-true h.stamp s z in
            let same : f.batch ≡ q.batch = same_batch (sym f.is ∙ (ap (λ (v : ℕ). batch_of t v es) (sym at) ∙ q.is)) in
            held_on es t h q e pending_wrote (h.written ++ rows) (left_more h.changes h.written rows)
            (record f.batch { written = f.batch.written ++ rows })
            (here_wrote sh b es tid raised k e s rows is f h.stamp (sym at))
            (ap (λ (y : Batch). y.changes) same ∙ q.changes)
            (λ r. has-append f.batch.written rows r ∙ ((λ i. has (same i).written r || has rows r) ∙ (ap (λ v. v || has rows r) (q.written r) ∙ sym (has-append h.written rows r))))
            (ap (λ (y : Batch). y.ended) same ∙ q.running)
        by false z = held_on es t h q e pending_wrote h.written (λ l. l) q.batch
            (there_wrote sh b es tid raised k e s rows is f h.stamp (λ a. false≢true (sym z ∙ eq-eqb h.stamp s (sym a))) ∙ q.is)
            q.changes q.written q.running

    pub held_after_wrote : HeldKept b (es ++ e ∷ []) t (held_wrote s rows hs)
    held_after_wrote = record {
      rising = rising_map (writes_rows s rows) (λ h. refl) (b.last t) (b.last t) refl hs held.rising;
      each = all_map (IsHeldBatch es t) (IsHeldBatch (es ++ e ∷ []) t) (writes_rows s rows) held_writes hs held.each;
      all = λ u y q n. list_any_map (λ (h : HeldBatch). nat_eq h.stamp u) (writes_rows s rows) hs ∙ elim (cases_eq s u) [
        | inl z ↦ held.all u f.batch (subst (λ (v : ℕ). batch_of t v es ≡ Some f.batch) z f.is) (in_writing f.batch f.phase).0
        | inr z ↦ held.all u y (sym (there_wrote sh b es tid raised k e s rows is f u z) ∙ q) n
      ];
    }

  -- ---- a batch ends

  module _ (e : Entry) (s : ℕ) (is : e.act ≡ Ended tid s) (f : IsEnding es e.seat t s) where
    pending_ended : (u : ℕ) (r : List Value) → IsPendingOn (es ++ e ∷ []) t u r → IsPendingOn es t u r
    pending_ended u r p = elim (cases_eq s u) [
      | inl z ↦
          (let same : record f.batch { ended = true } ≡ p.batch = same_batch (sym (here_ended sh b es tid raised k e s is f u z) ∙ p.is) in
          record { batch = f.batch; is = subst (λ (v : ℕ). batch_of t v es ≡ Some f.batch) z f.is; what = p.what; left = (λ i. left_as (change_of (same i).changes r) (has (same i).written r)) ∙ p.left })
      | inr z ↦ record { batch = p.batch; is = sym (there_ended sh b es tid raised k e s is f u z) ∙ p.is; what = p.what; left = p.left }
    ]

    others_on : (h : HeldBatch) → (s ≡ h.stamp → ⊥) → IsHeldBatch es t h → IsHeldBatch (es ++ e ∷ []) t h
    others_on h n q = held_on es t h q e pending_ended h.written (λ l. l) q.batch (there_ended sh b es tid raised k e s is f h.stamp n ∙ q.is) q.changes q.written q.running

    others_filter : (xs : List HeldBatch) → AllByRecursion (IsHeldBatch es t) xs → AllByRecursion (IsHeldBatch (es ++ e ∷ []) t) (held_ended s xs)
    others_filter [] a = tt
    others_filter (x ∷ xs) a = (let z = others_filter xs a.1 in elim (cases_eq x.stamp s) [
      | inl u ↦ (let v : not (nat_eq x.stamp s) ≡ false = ap not (eq-eqb x.stamp s u) in rw v z)
      | inr u ↦ (let v : not (nat_eq x.stamp s) ≡ true = ap not (ne_eqb x.stamp s u) in rw v (others_on x (λ m. u (sym m)) a.0, z))
    ])

    in_filter : (u : ℕ) → (s ≡ u → ⊥) → (xs : List HeldBatch) → is_in u (held_ended s xs) ≡ is_in u xs
    in_filter u n [] = refl
    in_filter u n (x ∷ xs) = (let z = in_filter u n xs in elim (cases_eq x.stamp s) [
      | inl m ↦ (let v : not (nat_eq x.stamp s) ≡ false = ap not (eq-eqb x.stamp s m) in let w : nat_eq x.stamp u ≡ false = ne_eqb x.stamp u (λ a. n (sym m ∙ a)) in rw (v, w) z)
      | inr m ↦ (let v : not (nat_eq x.stamp s) ≡ true = ap not (ne_eqb x.stamp s m) in rw v (ap (λ c. nat_eq x.stamp u || c) z))
    ])

    pub held_after_ended : HeldKept b (es ++ e ∷ []) t (held_ended s hs)
    held_after_ended = record {
      rising = rising_filter (λ h. not (nat_eq h.stamp s)) (b.last t) hs held.rising;
      each = others_filter hs held.each;
      all = λ u y q n. elim (cases_eq s u) [
        | inl z ↦ absurd (false≢true (sym n ∙ ap (λ (y : Batch). y.ended) (sym (same_batch (sym (here_ended sh b es tid raised k e s is f u z) ∙ q)))))
        | inr z ↦ in_filter u z hs ∙ held.all u y (sym (there_ended sh b es tid raised k e s is f u z) ∙ q) n
      ];
    }

    -- what the receipt tells: the rows that the batch met are exactly its concurrent ones
    pub receipt : (h : HeldBatch) → IsHeldBatch es t h → (r : List Value) → (has h.met r ≡ true → (is_some (change_of h.changes r) ≡ true) × IsMet (es ++ e ∷ []) t h.stamp r) × (is_some (change_of h.changes r) ≡ true → IsMet (es ++ e ∷ []) t h.stamp r → has h.met r ≡ true)
    receipt h q r = (
      λ m. (let z = q.met_from r m in (z.0, concurrent_more es e t h.stamp r z.1)),
      λ c conc. elim (concurrent_last es e t h.stamp r conc) [
        | inl old ↦ q.met_to r c old
        | inr now ↦ q.met_to r c (q.counted r now.other (left_within es t h q e now.within) now.differs (pending_ended now.other r now.pending))
      ],
    )

  -- ---- a phase is done

  module _ (e : Entry) (s phase : ℕ) (is : e.act ≡ Phase tid s phase) (f : IsPhase es t s phase) where
    pending_phase : (u : ℕ) (r : List Value) → IsPendingOn (es ++ e ∷ []) t u r → IsPendingOn es t u r
    pending_phase u r p = elim (cases_eq s u) [
      | inl z ↦
          (let same : record f.batch { phase = phase } ≡ p.batch = same_batch (sym (here_phase sh b es tid raised k e s phase is f u z) ∙ p.is) in
          record { batch = f.batch; is = subst (λ (v : ℕ). batch_of t v es ≡ Some f.batch) z f.is; what = p.what; left = (λ i. left_as (change_of (same i).changes r) (has (same i).written r)) ∙ p.left })
      | inr z ↦ record { batch = p.batch; is = sym (there_phase sh b es tid raised k e s phase is f u z) ∙ p.is; what = p.what; left = p.left }
    ]

    held_phased : (h : HeldBatch) → IsHeldBatch es t h → IsHeldBatch (es ++ e ∷ []) t h
    held_phased h q = elim (cases_eq s h.stamp) [
      | inl z ↦
          (let same : f.batch ≡ q.batch = same_batch (sym f.is ∙ (ap (λ (v : ℕ). batch_of t v es) z ∙ q.is)) in
          held_on es t h q e pending_phase h.written (λ l. l) (record f.batch { phase = phase }) (here_phase sh b es tid raised k e s phase is f h.stamp z) (ap (λ (y : Batch). y.changes) same ∙ q.changes) (λ r. ap (λ (y : Batch). has y.written r) same ∙ q.written r) (ap (λ (y : Batch). y.ended) same ∙ q.running))
      | inr z ↦ held_on es t h q e pending_phase h.written (λ l. l) q.batch (there_phase sh b es tid raised k e s phase is f h.stamp z ∙ q.is) q.changes q.written q.running
    ]

    pub held_after_phase : HeldKept b (es ++ e ∷ []) t hs
    held_after_phase = record {
      rising = held.rising;
      each = all_more (IsHeldBatch es t) (IsHeldBatch (es ++ e ∷ []) t) held_phased hs held.each;
      all = λ u y q n. elim (cases_eq s u) [
        | inl z ↦ held.all u f.batch (subst (λ (v : ℕ). batch_of t v es ≡ Some f.batch) z f.is) f.running
        | inr z ↦ held.all u y (sym (there_phase sh b es tid raised k e s phase is f u z) ∙ q) n
      ];
    }

  -- ---- an entry of another table, or a repair

  module _ (e : Entry) (idle : IsStill tid e) where
    still_idle : (u : ℕ) → batch_of t u (es ++ e ∷ []) ≡ batch_of t u es
    still_idle u = batch_of-snoc t u es e ∙ idle.batches u (batch_of t u es)

    pub held_after_idle : HeldKept b (es ++ e ∷ []) t hs
    held_after_idle = record {
      rising = held.rising;
      each = all_more (IsHeldBatch es t) (IsHeldBatch (es ++ e ∷ []) t) (λ h q. held_on es t h q e (λ u r p. record { batch = p.batch; is = sym (still_idle u) ∙ p.is; what = p.what; left = p.left }) h.written (λ l. l) q.batch (still_idle h.stamp ∙ q.is) q.changes q.written q.running) hs held.each;
      all = λ u y q n. held.all u y (sym (still_idle u) ∙ q) n;
    }

-- a table just opened has none
pub held_none : (b : Base) (t : ℕ) → HeldKept b [] t []
unfolding batch_from
held_none b t = record { rising = tt; each = tt; all = λ s y q n. absurd (some_none q) }
