-- The state before a new change: what is written, then the pending changes of the open batches, in the order of their stamps.
use Rattle.std.proofs.Common.{◌≡◌, ℕ, zero, suc, ◌<◌, ◌≤◌, ◌-◌, Bool, true, false, cond, not, ◌||◌, Option, Some, None, List, [], ◌∷◌, ◌++◌, refl, ap, sym, ◌∙◌, subst, inl, inr, arith}
use Rattle.std.specs.Prelude.{nat_eq}
use Rattle.std.specs.List.{AllByRecursion}
use Rattle.std.proofs.lemmas.Bool.{cases_Bool, cases_eq, cases_lt, cond-false, ne_eqb, false≢true}
use Rattle.px_values.specs.declared.row.Value.{Value}
use Rattle.px_values.specs.declared.change.What.{What}
use Rattle.px_values.specs.declared.change.Change.{Change}
use Rattle.px_values.specs.declared.name.TableId.{TableId}
use Rattle.px_trail.specs.declared.entry.Act.TheVariants.{Begun}
use Rattle.px_trail.specs.declared.entry.Entry.{Entry}
use Rattle.px_values.specs.States.{RowState, Shape as RowShape, apply}
use Rattle.px_cells.specs.CellData.{CellData}
use Rattle.px_trail.specs.Trail.{Base, last_of}
use Rattle.px_trail.specs.Batches.{Batch, batch_of, change_of, has, rows_of, unwritten}
use Rattle.px_trail.proofs.Batches.{batch-none, last_from-le}
use Rattle.px_world.specs.World.{Fate, Unbegun, Undecided, Written, Lost, is_written as counts, is_expected, is_begun, is_undecided}
use Rattle.px_world.proofs.States.{state_at-counted}
use Rattle.px_world.proofs.Steps.{set_stamp-same}
use Rattle.px_world.proofs.Told.{is_written-is}
use Rattle.px_history.specs.History.{History, written_state, expected_state, begin_change}
use Rattle.px_history.specs.Rows.{begun_as, RowBatch, row_as, row_in, fate_by, Tied, state_by}
use Rattle.px_indexed.specs.Kept.{RowsKept, DataKept}
use Rattle.px_cells.specs.Contents.{value_at}
use Rattle.px_forms.specs.Rows.{DataForm}
use Rattle.px_openbatches.specs.Pending.{left_as, change_left, applied_if, after_pending, is_in, AreStampsRisingFrom, IsHeldBatch, HeldKept, HeldBatch}
use Rattle.px_history.proofs.Changes.{state_at-down, expected_written, written-down, from-snoc}
use Rattle.px_trail.proofs.Orders.{filter-has, has-change}
use Rattle.px_history.proofs.Ties.{above, step_is}
use Rattle.px_indexed.specs.Worlds.{history_at}

pub some_none : {A : Type 0} {x : A} → None ≡ Some x → ⊥
some_none e = cc

pred_of : (n : ℕ) → 0 < n → (q : ℕ) × (n ≡ suc q)
pred_of zero l = absurd (omega arith)
pred_of (suc q) l = (q, refl)

either : (f : Fate) → is_undecided f ≡ false → counts f ≡ false → is_expected f ≡ false
either Unbegun a c = refl
either Undecided a c = absurd (false≢true (sym a))
either Written a c = absurd (false≢true (sym c))
either Lost a c = refl

-- a stamp among those that come later is later
pub in_later : (s q : ℕ) (hs : List HeldBatch) → AreStampsRisingFrom q hs → s ≤ q → is_in s hs ≡ true → ⊥
in_later s q [] r l h = false≢true h
in_later s q (h ∷ hs) r l i = by (nat_eq h.stamp s) (ne_eqb h.stamp s (λ e. absurd (let k = r.0 in omega arith))) (in_later s h.stamp hs r.1 (let k = r.0 in omega arith)) i
  where
    by : (v : Bool) → v ≡ false → (is_in s hs ≡ true → ⊥) → (v || is_in s hs) ≡ true → ⊥
    by true e f i = false≢true (sym e)
    by false e f i = f i

pub in_rest : (s : ℕ) (h : HeldBatch) (hs : List HeldBatch) → (h.stamp ≡ s → ⊥) → is_in s (h ∷ hs) ≡ true → is_in s hs ≡ true
in_rest s h hs n i = sym (ap (λ v. v || is_in s hs) (ne_eqb h.stamp s n)) ∙ i

module _ (sh : RowShape) (b : Base) (es : List Entry) (t : ℕ) (r : List Value) (g : History RowState) (tie : Tied sh b es t r g) where
  row_of : (h : HeldBatch) (k : IsHeldBatch es t h) → row_in (batch_of t h.stamp es) r ≡ row_as (change_of h.changes r) (has h.written r) false
  row_of h k = ap (λ (o : Option Batch). row_in o r) k.is ∙ (λ i. row_as (change_of (k.changes i) r) (k.written r i) (k.running i))

  -- nothing of it is left
  pub not_left : (h : HeldBatch) → IsHeldBatch es t h → change_left h r ≡ None → is_undecided (g.fate h.stamp) ≡ false
  not_left h k n = ap is_undecided (tie.fates h.stamp ∙ ap (λ o. cond (b.changed t r h.stamp) Written (fate_by o)) (row_of h k)) ∙ by (b.changed t r h.stamp) (change_of h.changes r) (has h.written r) n
    where
      by : (c : Bool) (o : Option What) (v : Bool) → left_as o v ≡ None → is_undecided (cond c Written (fate_by (row_as o v false))) ≡ false
      by true o v n = refl
      by false None v n = refl
      by false (Some w) true n = refl
      by false (Some w) false n = absurd (some_none (sym n))

  left_row : (h : HeldBatch) → IsHeldBatch es t h → (w : What) → change_left h r ≡ Some w → row_in (batch_of t h.stamp es) r ≡ Some (record { what = w; written = false; ended = false })
  left_row h k w n = row_of h k ∙ by (change_of h.changes r) (has h.written r) n
    where
      same : (x : What) → Some x ≡ Some w → x ≡ w
      same x e = cc

      by : (o : Option What) (v : Bool) → left_as o v ≡ Some w → row_as o v false ≡ Some (record { what = w; written = false; ended = false })
      by None v n = absurd (some_none n)
      by (Some x) true n = absurd (some_none n)
      by (Some x) false n = ap (λ y. Some (record { what = y; written = false; ended = false })) (same x n)

  pub left_undecided : (h : HeldBatch) → IsHeldBatch es t h → (w : What) → change_left h r ≡ Some w → g.fate h.stamp ≡ Undecided
  left_undecided h k w n = (let q = left_row h k w n in tie.fates h.stamp ∙ (cond-false _ _ _ (tie.fresh h.stamp _ q).1 ∙ ap fate_by q))

  -- the state after a pending change
  left_state : (h : HeldBatch) → IsHeldBatch es t h → (w : What) → change_left h r ≡ Some w → expected_state g h.stamp ≡ apply sh r (expected_state g (h.stamp - 1)) w
  left_state h k w n =
      let q = left_row h k w n in
      let u = left_undecided h k w n in
      let m = pred_of h.stamp (tie.fresh h.stamp _ q).0 in
      subst (λ (z : ℕ). expected_state g z ≡ apply sh r (expected_state g (z - 1)) w) (sym m.1)
      (let e : is_expected (g.fate (suc m.0)) ≡ true = subst (λ (z : ℕ). is_expected (g.fate z) ≡ true) m.1 (ap is_expected u) in
      let z : suc m.0 - 1 ≡ m.0 = omega arith in
      state_at-counted g.base (λ s. is_expected (g.fate s)) g.new m.0 e
      ∙ (subst (λ (z : ℕ). g.new z ≡ apply sh r (g.old z) w) m.1 (tie.news h.stamp _ q)
      ∙ (ap (λ o. apply sh r o w) (tie.chained m.0 (subst (λ (z : ℕ). is_begun (g.fate z) ≡ true) m.1 (ap is_begun u)))
      ∙ ap (λ (v : ℕ). apply sh r (expected_state g v) w) (sym z))))

  expected-down : (p q : ℕ) → q ≤ p → ((s : ℕ) → q < s → s ≤ p → is_expected (g.fate s) ≡ false) → expected_state g p ≡ expected_state g q
  expected-down p q l a = state_at-down g.base (λ s. is_expected (g.fate s)) g.new p q l a

  -- the undecided changes above q are among these
  abbrev AreIn : ℕ → List HeldBatch → Type 0
  AreIn q hs = (s : ℕ) → q < s → is_undecided (g.fate s) ≡ true → is_in s hs ≡ true

  abbrev AreUnder : ℕ → List HeldBatch → Type 0
  AreUnder p hs = AllByRecursion (λ h. h.stamp ≤ p) hs

  -- none is undecided between q and the next
  between : (q : ℕ) (h : HeldBatch) (hs : List HeldBatch) → AreStampsRisingFrom q (h ∷ hs) → AreIn q (h ∷ hs) → (s : ℕ) → q < s → s < h.stamp → is_undecided (g.fate s) ≡ false
  between q h hs up all s l m = elim (cases_Bool (is_undecided (g.fate s))) [
    | inl u ↦ absurd (in_later s h.stamp hs up.1 (omega arith) (in_rest s h hs (λ e. absurd (omega arith)) (all s l u)))
    | inr u ↦ u
  ]

  above_in : (q : ℕ) (h : HeldBatch) (hs : List HeldBatch) → AreStampsRisingFrom q (h ∷ hs) → AreIn q (h ∷ hs) → AreIn h.stamp hs
  above_in q h hs up all s l u = in_rest s h hs (λ e. absurd (omega arith)) (all s (let k = up.0 in omega arith) u)

  -- where nothing is written above q
  abbrev NoneWritten : ℕ → Type 0
  NoneWritten q = (s : ℕ) → q < s → counts (g.fate s) ≡ false

  pendings : (p q : ℕ) (hs : List HeldBatch) → q ≤ p → AreUnder p hs → AreStampsRisingFrom q hs → AllByRecursion (IsHeldBatch es t) hs → AreIn q hs → NoneWritten q → expected_state g p ≡ after_pending sh r (expected_state g q) hs
  unfolding after_pending
  pendings p q [] l under up is all none = expected-down p q l (λ s a c. either (g.fate s) (elim (cases_Bool (is_undecided (g.fate s))) [ inl u ↦ absurd (false≢true (all s a u)) | inr u ↦ u ]) (none s a))
  pendings p q (h ∷ hs) l under up is all none = by (pendings p h.stamp hs under.0 under.1 up.1 is.1 (above_in q h hs up all) (λ s a. none s (let k = up.0 in omega arith))) (change_left h r) refl
    where
      down : (v : ℕ) → q ≤ v → v < h.stamp → expected_state g v ≡ expected_state g q
      down v a m = expected-down v q a (λ s c d. either (g.fate s) (between q h hs up all s c (omega arith)) (none s c))

      by : expected_state g p ≡ after_pending sh r (expected_state g h.stamp) hs → (o : Option What) → change_left h r ≡ o → expected_state g p ≡ after_pending sh r (applied_if sh r (expected_state g q) o) hs
      by rest None e = rest ∙ ap (λ o. after_pending sh r o hs) (expected-down h.stamp q (let k = up.0 in omega arith) (λ s c d. either (g.fate s) (elim (cases_eq s h.stamp) [ inl z ↦ subst (λ (v : ℕ). is_undecided (g.fate v) ≡ false) (sym z) (not_left h is.0 e) | inr z ↦ between q h hs up all s c (omega arith) ]) (none s c)))
      by rest (Some w) e = rest ∙ ap (λ o. after_pending sh r o hs) (left_state h is.0 w e ∙ ap (λ o. apply sh r o w) (down (h.stamp - 1) (let k = up.0 in omega arith) (let k = up.0 in omega arith)))

  -- where nothing is undecided up to q
  pub expected_pending : (p q : ℕ) (hs : List HeldBatch) → q ≤ p → AreUnder p hs → AreStampsRisingFrom q hs → AllByRecursion (IsHeldBatch es t) hs → AreIn q hs → ((s : ℕ) → s ≤ q → is_undecided (g.fate s) ≡ false) → expected_state g p ≡ after_pending sh r (written_state g p) hs
  unfolding after_pending
  expected_pending p q [] l under up is all decided = expected_written g p (λ s m. elim (cases_Bool (is_undecided (g.fate s))) [
    | inl u ↦ elim (cases_lt q s) [ inl a ↦ absurd (false≢true (all s a u)) | inr a ↦ decided s (omega arith) ]
    | inr u ↦ u
  ])
  expected_pending p q (h ∷ hs) l under up is all decided = by (λ d. expected_pending p h.stamp hs under.0 under.1 up.1 is.1 (above_in q h hs up all) d) (change_left h r) refl
    where
      early : (s : ℕ) → s < h.stamp → is_undecided (g.fate s) ≡ false
      early s m = elim (cases_lt q s) [ inl a ↦ between q h hs up all s a m | inr a ↦ decided s (omega arith) ]

      -- nothing is written above a pending change
      none : (w : What) → change_left h r ≡ Some w → (s : ℕ) → h.stamp ≤ s → counts (g.fate s) ≡ false
      none w e s m = elim (cases_eq h.stamp s) [
        | inl z ↦ subst (λ (v : ℕ). counts (g.fate v) ≡ false) z (ap counts (left_undecided h is.0 w e))
        | inr z ↦ elim (cases_Bool (counts (g.fate s))) [
          | inl u ↦ absurd (false≢true (sym (tie.in_order h.stamp s (is_written-is (g.fate s) u) (omega arith)) ∙ ap is_undecided (left_undecided h is.0 w e)))
          | inr u ↦ u
        ]
      ]

      by : (((s : ℕ) → s ≤ h.stamp → is_undecided (g.fate s) ≡ false) → expected_state g p ≡ after_pending sh r (written_state g p) hs) → (o : Option What) → change_left h r ≡ o → expected_state g p ≡ after_pending sh r (applied_if sh r (written_state g p) o) hs
      by rest None e = rest (λ s m. elim (cases_eq s h.stamp) [ inl z ↦ subst (λ (v : ℕ). is_undecided (g.fate v) ≡ false) (sym z) (not_left h is.0 e) | inr z ↦ early s (omega arith) ])
      by rest (Some w) e =
          let k = up.0 in let m = under.0 in
          pendings p h.stamp hs under.0 under.1 up.1 is.1 (above_in q h hs up all) (λ s a. none w e s (omega arith))
          ∙ ap (λ o. after_pending sh r o hs) (left_state h is.0 w e
          ∙ ap (λ o. apply sh r o w) (expected_written g (h.stamp - 1) (λ s a. early s (omega arith))
          ∙ sym (written-down g p (h.stamp - 1) (omega arith) (λ s a c. none w e s (omega arith)))))

undecided_row : (c : Bool) (o : Option RowBatch) → is_undecided (cond c Written (fate_by o)) ≡ true → (x : RowBatch) × ((o ≡ Some x) × (x.written ≡ false))
undecided_row true o e = absurd (false≢true e)
undecided_row false None e = absurd (false≢true e)
undecided_row false (Some x) e = (x, (refl, by x.written e))
  where
    by : (v : Bool) → is_undecided (cond v Written Undecided) ≡ true → v ≡ false
    by true e = absurd (false≢true e)
    by false e = refl

row_batch : (o : Option Batch) (r : List Value) (x : RowBatch) → row_in o r ≡ Some x → (y : Batch) × ((o ≡ Some y) × ((w : What) × ((change_of y.changes r ≡ Some w) × (x ≡ record { what = w; written = has y.written r; ended = y.ended }))))
row_batch None r x e = absurd (some_none e)
row_batch (Some y) r x e = by (change_of y.changes r) refl e
  where
    by : (o : Option What) → change_of y.changes r ≡ o → row_as o (has y.written r) y.ended ≡ Some x → (z : Batch) × ((Some y ≡ Some z) × ((w : What) × ((change_of z.changes r ≡ Some w) × (x ≡ record { what = w; written = has z.written r; ended = z.ended }))))
    by None q e = absurd (some_none e)
    by (Some w) q e = (y, (refl, (w, (q, (let z : record { what = w; written = has y.written r; ended = y.ended } ≡ x = cc in sym z)))))

-- a batch that is wholly written has written each row that it changes
pub whole_written : (r : List Value) (y : Batch) (w : What) → unwritten y ≡ [] → change_of y.changes r ≡ Some w → has y.written r ≡ false → ⊥
unfolding has
whole_written r y w none c n =
    let l : has (unwritten y) r ≡ true = filter-has (λ z. not (has y.written z)) (rows_of y.changes) r (has-change y.changes r w c) (ap not n) in
    false≢true (subst (λ (x : List (List Value)). has x r ≡ true) none l)

-- ---- what a batch that begins reads

module _ (f : DataForm) (b : Base) (es : List Entry) (tid : TableId) (raised : ℕ) (k : RowsKept f.shape b es tid.0 raised) (hs : List HeldBatch) (held : HeldKept b es tid.0 hs) where
  abbrev sh : RowShape
  sh = f.shape

  abbrev t : ℕ
  t = tid.0

  abbrev hist : List Value → History RowState
  hist r = history_at sh b es t r

  held_below : (h : HeldBatch) → IsHeldBatch es t h → h.stamp ≤ last_of b t es
  held_below h q = elim (cases_lt (last_of b t es) h.stamp) [ inl l ↦ absurd (some_none (sym (batch-none b t h.stamp es l) ∙ q.is)) | inr l ↦ omega arith ]

  all_below : (p : ℕ) (xs : List HeldBatch) → last_of b t es ≤ p → AllByRecursion (IsHeldBatch es t) xs → AllByRecursion (λ h. h.stamp ≤ p) xs
  all_below p [] l a = tt
  all_below p (x ∷ xs) l a = ((let m = held_below x a.0 in omega arith), all_below p xs l a.1)

  -- an undecided change is one of an open batch, above the base's
  pub open_of : (r : List Value) (s : ℕ) → is_undecided ((hist r).fate s) ≡ true → (b.last t < s) × (is_in s hs ≡ true)
  open_of r s u =
      let x = undecided_row (b.changed t r s) (row_in (batch_of t s es) r) (sym (ap is_undecided ((k.tied r).fates s)) ∙ u) in
      let y = row_batch (batch_of t s es) r x.0 x.1.0 in
      (k.later s y.0 y.1.0, held.all s y.0 y.1.0 (running s x.0 y.0 y.1.0 y.1.1.0 y.1.1.1.0 y.1.1.1.1 x.1.1))
    where
      running : (s : ℕ) (x : RowBatch) (y : Batch) → batch_of t s es ≡ Some y → (w : What) → change_of y.changes r ≡ Some w → x ≡ record { what = w; written = has y.written r; ended = y.ended } → x.written ≡ false → y.ended ≡ false
      running s x y is w c e n = elim (cases_Bool y.ended) [
        | inl z ↦ absurd (whole_written r y w (k.done s y is z) c (sym (ap (λ (q : RowBatch). q.written) e) ∙ n))
        | inr z ↦ z
      ]

  -- the state that a new change begins with: what stands written, then the pending changes of the open batches
  pub expected_is : (r : List Value) (p : ℕ) → last_of b t es ≤ p → expected_state (hist r) p ≡ after_pending sh r (state_by sh b es t r p) hs
  expected_is r p l =
      let m = last_from-le t (b.last t) es in
      expected_pending sh b es t r (hist r) (k.tied r) p (b.last t) hs (omega arith) (all_below p hs l held.each) held.rising held.each (λ s a u. (open_of r s u).1)
      (λ s a. elim (cases_Bool (is_undecided ((hist r).fate s))) [ inl u ↦ absurd (let z = (open_of r s u).0 in omega arith) | inr u ↦ u ])
      ∙ ap (λ o. after_pending sh r o hs) ((k.tied r).states p)

  -- from the last stamp on all points tell the same
  pub state_still : (r : List Value) (p q : ℕ) → last_of b t es ≤ q → q ≤ p → state_by sh b es t r p ≡ state_by sh b es t r q
  state_still r p q l m = sym ((k.tied r).states p) ∙ (written-down (hist r) p q m (λ s a c. ap counts (above sh b tid r (k.base r) es (hist r) (k.tied r) s (omega arith))) ∙ (k.tied r).states q)

  module _ (low : ℕ) (cells : List CellData) (told : DataKept b es t f low cells) where
    -- what begin computes, from what the row's cells spell at a newest point
    abbrev pub read_old : ℕ → List Value → RowState
    read_old p r = after_pending sh r (f.spelled (value_at cells) r p) hs

    module _ (e : Entry) (s : ℕ) (cs : List Change) (is : e.act ≡ Begun tid s cs) (new : last_of b t es < s) (p : ℕ) (newest : last_of b t es ≤ p) (within : low ≤ p) where
      old_read : (r : List Value) → expected_state (hist r) (s - 1) ≡ read_old p r
      old_read r = expected_is r (s - 1) (omega arith) ∙ ap (λ o. after_pending sh r o hs) (same r ∙ sym (told.spells r p within))
        where
          same : (r : List Value) → state_by sh b es t r (s - 1) ≡ state_by sh b es t r p
          same r = elim (cases_lt p (s - 1)) [ inl l ↦ state_still r (s - 1) p newest (omega arith) | inr l ↦ sym (state_still r p (s - 1) (omega arith) (omega arith)) ]

      history_is : (r : List Value) (w : What) → change_of cs r ≡ Some w → history_at sh b (es ++ e ∷ []) t r ≡ begin_change (apply sh r) s w (hist r)
      history_is r w c = from-snoc sh b es e t r ∙ (step_is sh b tid r (k.base r) es (hist r) (k.tied r) e s cs is new ∙ ap (λ o. begun_as sh r s o (hist r)) c)

      -- the states of the row's history before and after the new change
      pub begun_old : (r : List Value) (w : What) → change_of cs r ≡ Some w → (history_at sh b (es ++ e ∷ []) t r).old s ≡ read_old p r
      begun_old r w c = ap (λ (g : History RowState). g.old s) (history_is r w c) ∙ (set_stamp-same s (expected_state (hist r) (s - 1)) (hist r).old ∙ old_read r)

      pub begun_new : (r : List Value) (w : What) → change_of cs r ≡ Some w → (history_at sh b (es ++ e ∷ []) t r).new s ≡ apply sh r (read_old p r) w
      begun_new r w c = ap (λ (g : History RowState). g.new s) (history_is r w c) ∙ (set_stamp-same s (apply sh r (expected_state (hist r) (s - 1)) w) (hist r).new ∙ ap (λ o. apply sh r o w) (old_read r))
