-- What the end of a batch needs of it, whatever became of the regions.
use Rattle.std.proofs.Common.{◌≡◌, ◌≢◌, ℕ, zero, suc, ◌≤◌, Bool, true, false, not, ◌&&◌, ◌||◌, length, set, remove, slice_get, Option, Some, None, List, [], ◌∷◌, ◌++◌, ◌↔◌, refl, ap, sym, ◌∙◌, subst, inl, inr, arith}
use Rattle.std.specs.Prelude.{is_some}
use Rattle.std.specs.List.{AllByRecursion}
use Rattle.std.specs.Ordering.{is_eq}
use Rattle.std.proofs.lemmas.Bool.{cases_Bool, false≢true}
use Rattle.std.proofs.lemmas.List.{length-map}
use Rattle.px_tables.specs.declared.table.Table.{Table}
use Rattle.px_values.specs.Order.{row_order}
use Rattle.px_values.specs.declared.name.TableId.{TableId}
use Rattle.px_values.specs.declared.row.Value.{Value}
use Rattle.px_values.specs.declared.change.Change.{Change}
use Rattle.px_values.specs.declared.change.What.{What}
use Rattle.px_trail.specs.declared.entry.Act.TheVariants.{Ended}
use Rattle.px_trail.specs.declared.entry.Entry.{Entry}
use Rattle.px_trail.specs.Batches.{Batch, IsConcurrent, batch_of, change_of, has, is_distinct, rows_of}
use Rattle.px_trail.specs.Trail.{Base}
use Rattle.px_trail.proofs.Growth.{batch_of-snoc}
use Rattle.px_trail.proofs.Orders.{has-change}
use Rattle.px_history.proofs.Changes.{change-has}
use Rattle.px_indexed.specs.Idle.{IsElsewhere}
use Rattle.px_indexed.proofs.Idle.{act_idle}
use Rattle.px_openbatches.specs.Pending.{AreStampsRisingFrom, HeldBatch, IsHeldBatch, flagged}
use Rattle.px_openbatches.proofs.Helds.{concurrent_last, concurrent_more, held_on, left_within}
use Rattle.px_openbatches.proofs.Meetings.{concurrent_met, met_concurrent}
use Rattle.px_group.specs.Group.{AreTraced, HaveOwnStamps, IsRightBatch, IsRightGroup, IsTallied, IsTraced}
use Rattle.px_group.specs.declared.group.Begun.{Begun}
use Rattle.px_group.specs.declared.group.Group.{Group}
use Rattle.px_batching.specs.Receipts.{IsReceiptOf}
use Rattle.px_outside.specs.declared.disk.Disk.{Ghosts}
use Rattle.px_group.specs.declared.group.Phase.{Phase}
use Rattle.px_batching.specs.Steps.{Ends, HandsCloses, HandsMarks, HandsPuts, IsBatchStep, LetsGo}
use Rattle.px_batching.specs.declared.ending.Told.{Told}
use Rattle.px_batching.proofs.Pairs.{AreTied, to_tied}
use Rattle.px_batching.proofs.Places.{all_at, all_set}
use Rattle.px_batching.proofs.Trails.{TakesOn, held_other, pending_before, takes_ended}

-- 1. Of a table that the trail tells

trace_all : (g : Group) (es : List Entry) (t : ℕ) (xs : List Begun) (hs : List HeldBatch) → AllByRecursion (IsRightBatch g) xs → AreTied es t xs hs → AllByRecursion (IsHeldBatch es t) hs → AllByRecursion (IsTraced es t) xs
trace_all g es t [] hs r a h = tt
trace_all g es t (x ∷ xs) [] r a h = absurd a
trace_all g es t (x ∷ xs) (k ∷ hs) r a h = (
  record {
    held = k;
    is = h.0;
    stamp = a.0.0.stamp;
    changes = a.0.0.changes;
    distinct = a.0.0.distinct;
    flags = a.0.0.flags;
    met = a.0.0.met;
    receipt = r.0.receipt;
    few = r.0.few;
  },
  trace_all g es t xs hs r.1 a.1 h.1,
)

stamps_above : (es : List Entry) (t q : ℕ) (xs : List Begun) (hs : List HeldBatch) → AreTied es t xs hs → AreStampsRisingFrom q hs → (p : ℕ) → p ≤ q → AllByRecursion (λ (x : Begun). p ≢ x.batch.stamp) xs
stamps_above es t q [] hs a r p l = tt
stamps_above es t q (x ∷ xs) [] a r p l = absurd a
stamps_above es t q (x ∷ xs) (h ∷ hs) a r p l = ((λ e. (let m = r.0 in let s = a.0.0.stamp in omega arith)), stamps_above es t h.stamp xs hs a.1 r.1 p (let m = r.0 in omega arith))

once_all : (es : List Entry) (t q : ℕ) (xs : List Begun) (hs : List HeldBatch) → AreTied es t xs hs → AreStampsRisingFrom q hs → HaveOwnStamps xs
once_all es t q [] hs a r = tt
once_all es t q (x ∷ xs) [] a r = absurd a
once_all es t q (x ∷ xs) (h ∷ hs) a r = (stamps_above es t h.stamp xs hs a.1 r.1 x.batch.stamp (let s = a.0.0.stamp in omega arith), once_all es t h.stamp xs hs a.1 r.1)

pub traced_of : (b : Base) (es : List Entry) (g : Group) (hs : List HeldBatch) → IsRightGroup g → IsTallied b es g hs → AreTraced es g
traced_of b es g hs r k =
    (let a = to_tied es g.table.id.0 g.batches.items hs k.batches k.phases in
    record {
      each = trace_all g es g.table.id.0 g.batches.items hs r.batches a k.held.each;
      once = once_all es g.table.id.0 (b.last g.table.id.0) g.batches.items hs a k.held.rising;
    })

-- 2. Steps

-- the batch is the same but for what it keeps
pub record IsSameBatch (x x' : Begun) : Type 0 where
  pub stamp : x'.batch.stamp ≡ x.batch.stamp
  pub changes : x'.batch.changes ≡ x.batch.changes
  pub met : x'.batch.met ≡ x.batch.met
  pub receipt : x'.receipt ≡ x.receipt

trace_same : (es : List Entry) (t : ℕ) (x x' : Begun) → IsSameBatch x x' → IsTraced es t x → IsTraced es t x'
trace_same es t x x' s r = record {
  held = r.held;
  is = r.is;
  stamp = r.stamp ∙ sym s.stamp;
  changes = r.changes ∙ sym s.changes;
  distinct = ap (λ (cs : List Change). is_distinct (rows_of cs)) s.changes ∙ r.distinct;
  flags = ap (λ (v : List Bool). length v) s.met ∙ (r.flags ∙ ap (λ (cs : List Change). length (rows_of cs)) (sym s.changes));
  met = λ q. r.met q ∙ (λ i. has (flagged (sym s.met i) (rows_of (sym s.changes i))) q);
  receipt = s.receipt ∙ (r.receipt ∙ ap (λ (cs : List Change). rows_of cs) (sym s.changes));
  few = subst (λ (cs : List Change). length cs ≤ 1000) (sym s.changes) r.few;
}

differs_set : (s : ℕ) (xs : List Begun) (m : ℕ) (x x' : Begun) → slice_get xs m ≡ Some x → x'.batch.stamp ≡ x.batch.stamp → AllByRecursion (λ (y : Begun). s ≢ y.batch.stamp) xs → AllByRecursion (λ (y : Begun). s ≢ y.batch.stamp) (set xs m x')
differs_set s xs m x x' at e a = all_set (λ (y : Begun). s ≢ y.batch.stamp) xs m x' (λ q. all_at (λ (y : Begun). s ≢ y.batch.stamp) xs m x at a (q ∙ e)) a

once_set : (xs : List Begun) (m : ℕ) (x x' : Begun) → slice_get xs m ≡ Some x → x'.batch.stamp ≡ x.batch.stamp → HaveOwnStamps xs → HaveOwnStamps (set xs m x')
once_set [] m x x' at e a = tt
once_set (y ∷ xs) zero x x' at e a = ((let q : y ≡ x = cc in subst (λ (n : ℕ). AllByRecursion (λ (z : Begun). n ≢ z.batch.stamp) xs) (ap (λ (z : Begun). z.batch.stamp) q ∙ sym e) a.0), a.1)
once_set (y ∷ xs) (suc m) x x' at e a = (differs_set y.batch.stamp xs m x x' at e a.0, once_set xs m x x' at e a.1)

pub traced_step : (es : List Entry) (g g' : Group) (m : ℕ) (x x' : Begun) → IsBatchStep g g' m x x' → IsSameBatch x x' → AreTraced es g → AreTraced es g'
traced_step es g g' m x x' s same r = record {
  each = subst (λ (t : Table). AllByRecursion (IsTraced es t.id.0) g'.batches.items) (sym s.table)
      (subst (λ (l : List Begun). AllByRecursion (IsTraced es g.table.id.0) l) (sym s.batches)
      (all_set (IsTraced es g.table.id.0) g.batches.items m x' (trace_same es g.table.id.0 x x' same (all_at (IsTraced es g.table.id.0) g.batches.items m x s.batch r.each)) r.each));
  once = subst HaveOwnStamps (sym s.batches) (once_set g.batches.items m x x' s.batch same.stamp r.once);
}

-- a batch is let go
module _ {A : Type 0} (P : A → Type 0) where
  pub all_remove : (xs : List A) (m : ℕ) → AllByRecursion P xs → AllByRecursion P (remove xs m)
  all_remove [] zero a = tt
  all_remove [] (suc m) a = tt
  all_remove (x ∷ xs) zero a = a.1
  all_remove (x ∷ xs) (suc m) a = (a.0, all_remove xs m a.1)

once_remove : (xs : List Begun) (m : ℕ) → HaveOwnStamps xs → HaveOwnStamps (remove xs m)
once_remove [] zero a = tt
once_remove [] (suc m) a = tt
once_remove (x ∷ xs) zero a = a.1
once_remove (x ∷ xs) (suc m) a = (all_remove (λ (y : Begun). x.batch.stamp ≢ y.batch.stamp) xs m a.0, once_remove xs m a.1)

pub traced_gone : (es : List Entry) (g g' : Group) (m : ℕ) (x : Begun) → LetsGo g g' m x → AreTraced es g → AreTraced es g'
traced_gone es g g' m x l r = record {
  each = subst (λ (t : Table). AllByRecursion (IsTraced es t.id.0) g'.batches.items) (sym l.table)
      (subst (λ (xs : List Begun). AllByRecursion (IsTraced es g.table.id.0) xs) (sym l.batches) (all_remove (IsTraced es g.table.id.0) g.batches.items m r.each));
  once = subst HaveOwnStamps (sym l.batches) (once_remove g.batches.items m r.once);
}

-- 3. Entries

with_held : (es es' : List Entry) (t : ℕ) (x : Begun) (r : IsTraced es t x) → IsHeldBatch es' t r.held → IsTraced es' t x
with_held es es' t x r k = record { held = r.held; is = k; stamp = r.stamp; changes = r.changes; distinct = r.distinct; flags = r.flags; met = r.met; receipt = r.receipt; few = r.few }

-- an entry of others
module _ (es : List Entry) (e : Entry) (tid : TableId) (away : IsElsewhere tid e.act) where
  still : (u : ℕ) → batch_of tid.0 u (es ++ e ∷ []) ≡ batch_of tid.0 u es
  still u = batch_of-snoc tid.0 u es e ∙ (act_idle tid e away).still.batches u (batch_of tid.0 u es)

  trace_idle : (x : Begun) → IsTraced es tid.0 x → IsTraced (es ++ e ∷ []) tid.0 x
  trace_idle x r = with_held es (es ++ e ∷ []) tid.0 x r
      (held_on es tid.0 r.held r.is e (λ u q p. record { batch = p.batch; is = sym (still u) ∙ p.is; what = p.what; left = p.left }) r.held.written (λ l. l) r.is.batch (still r.held.stamp ∙ r.is.is) r.is.changes r.is.written r.is.running)

  trace_idle_all : (xs : List Begun) → AllByRecursion (IsTraced es tid.0) xs → AllByRecursion (IsTraced (es ++ e ∷ []) tid.0) xs
  trace_idle_all [] a = tt
  trace_idle_all (x ∷ xs) a = (trace_idle x a.0, trace_idle_all xs a.1)

pub traced_idle : (es : List Entry) (e : Entry) (g : Group) → IsElsewhere g.table.id e.act → AreTraced es g → AreTraced (es ++ e ∷ []) g
traced_idle es e g away r = record { each = trace_idle_all es e g.table.id away g.batches.items r.each; once = r.once }

-- the end of one of them
module _ (es : List Entry) (e : Entry) (tid : TableId) (s : ℕ) (y : Batch) (k : TakesOn es e tid.0 s y (record y { ended = true })) where
  trace_other : (x : Begun) → s ≢ x.batch.stamp → IsTraced es tid.0 x → IsTraced (es ++ e ∷ []) tid.0 x
  trace_other x n r = with_held es (es ++ e ∷ []) tid.0 x r (held_other es e tid.0 s y (record y { ended = true }) k r.held (λ z. n (z ∙ r.stamp)) r.is)

  trace_others : (xs : List Begun) → AllByRecursion (λ (x : Begun). s ≢ x.batch.stamp) xs → AllByRecursion (IsTraced es tid.0) xs → AllByRecursion (IsTraced (es ++ e ∷ []) tid.0) xs
  trace_others [] n a = tt
  trace_others (x ∷ xs) n a = (trace_other x n.0 a.0, trace_others xs n.1 a.1)

  trace_without : (xs : List Begun) (m : ℕ) (x : Begun) → slice_get xs m ≡ Some x → x.batch.stamp ≡ s → HaveOwnStamps xs → AllByRecursion (IsTraced es tid.0) xs → AllByRecursion (IsTraced (es ++ e ∷ []) tid.0) (remove xs m)
  trace_without [] zero x at z o a = tt
  trace_without [] (suc m) x at z o a = tt
  trace_without (w ∷ xs) zero x at z o a = (let q : w ≡ x = cc in trace_others xs (subst (λ (n : ℕ). AllByRecursion (λ (v : Begun). n ≢ v.batch.stamp) xs) (ap (λ (v : Begun). v.batch.stamp) q ∙ z) o.0) a.1)
  trace_without (w ∷ xs) (suc m) x at z o a = (trace_other w (λ q. all_at (λ (v : Begun). w.batch.stamp ≢ v.batch.stamp) xs m x at o.0 (sym q ∙ sym z)) a.0, trace_without xs m x at z o.1 a.1)

pub traced_ended : (es : List Entry) (e : Entry) (g g' : Group) (m : ℕ) (x : Begun) → LetsGo g g' m x → e.act ≡ Ended g.table.id x.batch.stamp → AreTraced es g → AreTraced (es ++ e ∷ []) g'
traced_ended es e g g' m x l a r =
    (let own = all_at (IsTraced es g.table.id.0) g.batches.items m x l.batch r.each in
    let here : batch_of g.table.id.0 x.batch.stamp es ≡ Some own.is.batch = ap (λ (n : ℕ). batch_of g.table.id.0 n es) (sym own.stamp) ∙ own.is.is in
    let k = takes_ended g.table.id x.batch.stamp es e own.is.batch here a in
    record {
      each = subst (λ (t : Table). AllByRecursion (IsTraced (es ++ e ∷ []) t.id.0) g'.batches.items) (sym l.table)
          (subst (λ (xs : List Begun). AllByRecursion (IsTraced (es ++ e ∷ []) g.table.id.0) xs) (sym l.batches) (trace_without es e g.table.id x.batch.stamp own.is.batch k g.batches.items m x l.batch refl r.once r.each));
      once = subst HaveOwnStamps (sym l.batches) (once_remove g.batches.items m r.once);
    })

-- 4. The receipt

or_right : (b v : Bool) → v ≡ true → (b || v) ≡ true
or_right true v e = refl
or_right false v e = e

flagged_has : (vs : List Bool) (rows : List (List Value)) (q : List Value) → has (flagged vs rows) q ≡ true → has rows q ≡ true
unfolding has flagged
flagged_has [] rows q h = absurd (false≢true h)
flagged_has (v ∷ vs) [] q h = absurd (false≢true h)
flagged_has (false ∷ vs) (r ∷ rows) q h = or_right (is_eq (row_order r q)) (has rows q) (flagged_has vs rows q h)
flagged_has (true ∷ vs) (r ∷ rows) q h = elim (cases_Bool (is_eq (row_order r q))) [
  | inl e ↦ ap (λ (b : Bool). b || has rows q) e
  | inr e ↦ or_right (is_eq (row_order r q)) (has rows q) (flagged_has vs rows q (sym (ap (λ (b : Bool). b || has (flagged vs rows) q) e) ∙ h))
]

flagged_once : (vs : List Bool) (rows : List (List Value)) → is_distinct rows ≡ true → is_distinct (flagged vs rows) ≡ true
unfolding is_distinct flagged
flagged_once [] rows d = refl
flagged_once (v ∷ vs) [] d = refl
flagged_once (false ∷ vs) (r ∷ rows) d = flagged_once vs rows (second (has rows r) (is_distinct rows) d)
  where
    second : (h v : Bool) → (not h && v) ≡ true → v ≡ true
    second true v e = absurd (false≢true e)
    second false v e = e
flagged_once (true ∷ vs) (r ∷ rows) d =
    both (has (flagged vs rows) r) (is_distinct (flagged vs rows)) (elim (cases_Bool (has (flagged vs rows) r)) [ inl e ↦ absurd (false≢true (sym (first (has rows r) (is_distinct rows) d) ∙ flagged_has vs rows r e)) | inr e ↦ e ])
    (flagged_once vs rows (second (has rows r) (is_distinct rows) d))
  where
    first : (h v : Bool) → (not h && v) ≡ true → h ≡ false
    first true v e = absurd (false≢true e)
    first false v e = refl

    second : (h v : Bool) → (not h && v) ≡ true → v ≡ true
    second true v e = absurd (false≢true e)
    second false v e = e

    both : (h v : Bool) → h ≡ false → v ≡ true → (not h && v) ≡ true
    both true v e f = absurd (false≢true (sym e))
    both false v e f = f

some_change : (xs : List Change) (r : List Value) → is_some (change_of xs r) ≡ true → has (rows_of xs) r ≡ true
some_change xs r h = by (change_of xs r) refl h
  where
    by : (o : Option What) → change_of xs r ≡ o → is_some o ≡ true → has (rows_of xs) r ≡ true
    by None q h = absurd (false≢true h)
    by (Some w) q h = has-change xs r w q

module _ (es : List Entry) (e : Entry) (tid : TableId) (x : Begun) (r : IsTraced es tid.0 x) (a : e.act ≡ Ended tid r.held.stamp) where
  abbrev after : List Entry
  after = es ++ e ∷ []

  abbrev h : HeldBatch
  h = r.held

  takes : TakesOn es e tid.0 h.stamp r.is.batch (record r.is.batch { ended = true })
  takes = takes_ended tid h.stamp es e r.is.batch r.is.is a

  changes_are : r.is.batch.changes ≡ x.batch.changes
  changes_are = r.is.changes ∙ r.changes

  met_after : (q : List Value) → (has h.met q ≡ true) ↔ ((has (rows_of x.batch.changes) q ≡ true) × IsConcurrent after tid.0 h.stamp q)
  met_after q = (
    λ m. (let z = r.is.met_from q m in (ap (λ (cs : List Change). has (rows_of cs) q) (sym r.changes) ∙ some_change h.changes q z.0, met_concurrent after tid.0 h.stamp q (concurrent_more es e tid.0 h.stamp q z.1))),
    λ z.
        (let w = change-has h.changes q (ap (λ (cs : List Change). has (rows_of cs) q) r.changes ∙ z.0) in
        let c : is_some (change_of h.changes q) ≡ true = ap is_some w.1 in
        elim (concurrent_last es e tid.0 h.stamp q (concurrent_met after tid.0 h.stamp q z.1)) [
          | inl old ↦ r.is.met_to q c old
          | inr now ↦ r.is.met_to q c (r.is.counted q now.other (left_within es tid.0 h r.is e now.within) now.differs (pending_before es e tid.0 h.stamp r.is.batch (record r.is.batch { ended = true }) takes now.other q now.pending))
        ]),
  )

  pub receipt_of : (told : Told) → told.rows ≡ length x.receipt → told.concurrent ≡ flagged x.batch.met x.receipt → IsReceiptOf after tid.0 x.batch.stamp told
  receipt_of told n c =
      (let met : (q : List Value) → has told.concurrent q ≡ has h.met q = λ q. ap (λ (l : List (List Value)). has l q) c ∙ (ap (λ (l : List (List Value)). has (flagged x.batch.met l) q) r.receipt ∙ sym (r.met q)) in
      subst (λ (s : ℕ). IsReceiptOf after tid.0 s told) r.stamp record {
        batch = record r.is.batch { ended = true };
        is = takes.now;
        rows = n ∙ (ap (λ (l : List (List Value)). length l) r.receipt ∙ (length-map x.batch.changes (λ (y : Change). y.row) ∙ ap (λ (cs : List Change). length cs) (sym changes_are)));
        once = ap is_distinct c ∙ (ap (λ (l : List (List Value)). is_distinct (flagged x.batch.met l)) r.receipt ∙ flagged_once x.batch.met (rows_of x.batch.changes) r.distinct);
        concurrent = λ q. (
          λ w. (let z = (met_after q).0 (sym (met q) ∙ w) in (ap (λ (cs : List Change). has (rows_of cs) q) changes_are ∙ z.0, z.1)),
          λ z. met q ∙ (met_after q).1 (ap (λ (cs : List Change). has (rows_of cs) q) (sym changes_are) ∙ z.0, z.1),
        );
      })

pub same_batches : (x : Begun) (x' : Begun) → x'.batch.stamp ≡ x.batch.stamp → x'.batch.changes ≡ x.batch.changes → x'.batch.met ≡ x.batch.met → x'.receipt ≡ x.receipt → IsSameBatch x x'
same_batches x x' s c m r = record { stamp = s; changes = c; met = m; receipt = r }

module _ {D : Type 0} (d : Ghosts D) (g g' : Group) (disk disk' : D) (m : ℕ) (es : List Entry) (r : AreTraced es g) where
  pub traced_marks : HandsMarks d g g' disk disk' m → AreTraced es g'
  traced_marks h = traced_step es g g' m h.batch (record h.batch { batch = record h.batch.batch { marks = h.rest } }) h.step.step (same_batches h.batch (record h.batch { batch = record h.batch.batch { marks = h.rest } }) refl refl refl refl) r

  pub traced_closes : HandsCloses d g g' disk disk' m → AreTraced es g'
  traced_closes h = traced_step es g g' m h.batch (record h.batch { batch = record h.batch.batch { closes = h.rest } }) h.step.step (same_batches h.batch (record h.batch { batch = record h.batch.batch { closes = h.rest } }) refl refl refl refl) r

  pub traced_puts : (p : Phase) → HandsPuts d g g' disk disk' m p → AreTraced es g'
  traced_puts p h = traced_step es g g' m h.batch (record h.batch { phase = p; batch = record h.batch.batch { puts = None }; rows = None }) h.step.step (same_batches h.batch (record h.batch { phase = p; batch = record h.batch.batch { puts = None }; rows = None }) refl refl refl refl) r

-- what an end tells is the receipt
pub receipt_ends : (g g' : Group) (m : ℕ) (es : List Entry) → AreTraced es g → (told : Told) (x : Ends g g' m told) (e : Entry) → e.act ≡ Ended g.table.id x.batch.batch.stamp → IsReceiptOf (es ++ e ∷ []) g.table.id.0 x.batch.batch.stamp told
receipt_ends g g' m es r told x e a =
    (let own = all_at (IsTraced es g.table.id.0) g.batches.items m x.batch x.goes.batch r.each in
    let n = own.few in
    let count = ap (λ (l : List (List Value)). length l) own.receipt ∙ length-map x.batch.batch.changes (λ (y : Change). y.row) in
    receipt_of es e g.table.id x.batch own (a ∙ ap (λ (s : ℕ). Ended g.table.id s) (sym own.stamp)) told (x.rows (omega arith)) x.concurrent)
