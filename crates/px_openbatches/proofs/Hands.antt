-- What an open batch hands to the regions is what Mark, Write and Verify ask for.
use Rattle.std.proofs.Common.{◌≡◌, ℕ, ◌<◌, ◌≤◌, Bool, true, false, not, filter, length, get_or, Some, List, [], ◌∷◌, refl, ap, sym, ◌∙◌, subst, inl, inr, arith}
use Rattle.std.specs.Prelude.{is_some}
use Rattle.std.proofs.lemmas.Bool.{cases_Bool, cases_lt, false≢true, and_parts, not-true}
use Rattle.px_values.specs.declared.row.Value.{Value}
use Rattle.px_cells.specs.CellData.{CellData}
use Rattle.px_cells.specs.Order.{ReadsSame}
use Rattle.px_trail.specs.Batches.{Batch, batch_of, change_of, has, is_distinct, rows_of, unwritten}
use Rattle.px_trail.specs.Legal.{IsWritable}
use Rattle.px_trail.specs.Trail.{last_of}
use Rattle.px_trail.proofs.Batches.{batch-none}
use Rattle.px_world.specs.IndexCells.{mark_cells}
use Rattle.px_forms.specs.Indexes.{IsIndexForm, view_at, shape_at, cells_if}
use Rattle.px_forms.specs.Several.{cells_for}
use Rattle.px_openbatches.specs.Made.{picked_cells}
use Rattle.px_groupworld.specs.Group.{TableForm, GroupData, no_open}
use Rattle.px_groupworld.specs.Asks.{CanMark, CanVerify}
use Rattle.px_openbatches.specs.Pending.{IsHeldBatch, to_verify, HeldBatch, IsMet}
use Rattle.px_openbatches.specs.Opens.{IsBatchReady, form_in}
use Rattle.px_history.proofs.Changes.{change-has}
use Rattle.px_trail.proofs.Orders.{has-filter, filter-has}
use Rattle.px_openbatches.proofs.Flags.{has_is_some}
use Rattle.px_openbatches.proofs.Mades.{reads_marks, reads_closes, reads_writes, marks_below, closes_below}
use Rattle.px_openbatches.proofs.Pendings.{some_none}
use Rattle.px_openbatches.proofs.Helds.{same_batch}
use Rattle.px_indexed.specs.Worlds.{history_at}
use Rattle.px_trail.specs.declared.entry.Entry.{Entry}
use Rattle.px_indexed.specs.Kept.{AreIndexCells, ReadsWrites}
use Rattle.px_groupworld.specs.Group.{GroupKept, OpenBatch, no_part}

-- a row that isn't in a list isn't in a part of it
filter_none : (p : List Value → Bool) (xs : List (List Value)) (r : List Value) → has xs r ≡ false → has (filter p xs) r ≡ false
filter_none p xs r h = elim (cases_Bool (has (filter p xs) r)) [
  | inl e ↦ absurd (false≢true (sym h ∙ (has-filter p xs r e).0))
  | inr e ↦ e
]

filter_distinct : (p : List Value → Bool) (xs : List (List Value)) → is_distinct xs ≡ true → is_distinct (filter p xs) ≡ true
unfolding is_distinct
filter_distinct p [] d = refl
filter_distinct p (x ∷ xs) d =
    let parts = and_parts (not (has xs x)) (is_distinct xs) d in
    let rest = filter_distinct p xs parts.1 in
    elim (cases_Bool (p x)) [
      | inl e ↦ (let n = filter_none p xs x (not-true (has xs x) parts.0) in rw e (rw (n, rest) refl))
      | inr e ↦ rw e rest
    ]

module _ (f : TableForm) (es : List Entry) (v : GroupData) (kept : GroupKept f es v) (h : HeldBatch) (is : IsHeldBatch es f.id.0 h) (ready : IsBatchReady f es v.indexes h) where
  abbrev t : ℕ
  t = f.id.0

  stamp_last : h.stamp ≤ last_of f.base t es
  stamp_last = elim (cases_lt (last_of f.base t es) h.stamp) [ inl l ↦ absurd (some_none (sym (batch-none f.base t h.stamp es l) ∙ is.is)) | inr l ↦ omega arith ]

  form_there : (i : ℕ) → i < h.count → IsIndexForm (form_in f v.indexes i)
  form_there i l = (kept.indexes i (let z = ready.inside in omega arith)).form

  changes_of : (r : List Value) → has (rows_of h.changes) r ≡ is_some (change_of is.batch.changes r)
  changes_of r = has_is_some h.changes r ∙ ap (λ l. is_some (change_of l r)) (sym is.changes)

  -- Phase 1, where the next index is done
  pub can_mark : (m done : ℕ) → m < length v.opens → record { stamp = h.stamp; done = done; count = h.count } ≡ get_or v.opens m no_open → done < h.count → is.batch.phase ≡ 0
      → (batch : List CellData) → ReadsSame batch (cells_for (picked_cells (λ x. get_or x.marks done []) h.cells) (rows_of h.changes)) → CanMark f es v m batch
  can_mark m done among at next first batch same = record {
    among = among;
    next = subst (λ (o : OpenBatch). o.done < o.count) at next;
    batch = is.batch;
    is = subst (λ (o : OpenBatch). batch_of t o.stamp es ≡ Some is.batch) at is.is;
    first = first;
    born = subst (λ (o : OpenBatch). (get_or v.indexes o.done no_part).birth < o.stamp) at (ready.born done next);
    reads = subst (λ (o : OpenBatch). (r : List Value) → view_at (f.index (get_or v.indexes o.done no_part).id) r batch ≡ cells_if (is_some (change_of is.batch.changes r)) (mark_cells (shape_at f.rows.shape (f.index (get_or v.indexes o.done no_part).id) r) o.stamp ((history_at f.rows.shape f.base es t r).old o.stamp) ((history_at f.rows.shape f.base es t r).new o.stamp))) at
        (λ r. reads_marks f es (form_in f v.indexes) h.count h.stamp h.changes h.cells ready.made done next (form_there done next) (rows_of h.changes) ready.distinct (λ r x. x) batch same r
        ∙ ap (λ w. cells_if w (mark_cells (shape_at f.rows.shape (form_in f v.indexes done) r) h.stamp ((history_at f.rows.shape f.base es t r).old h.stamp) ((history_at f.rows.shape f.base es t r).new h.stamp))) (changes_of r));
    low = subst (λ (o : OpenBatch). AreIndexCells (f.index (get_or v.indexes o.done no_part).id) (last_of f.base t es) batch) at (marks_below f es (form_in f v.indexes) h.count h.stamp h.changes h.cells ready.made done next (form_there done next) (rows_of h.changes) ready.distinct (λ r x. x) batch same (last_of f.base t es) stamp_last);
  }

  -- Phase 2, for rows that may be written
  pub can_write : (seat : ℕ) (rows : List (List Value)) (may : IsWritable es seat t h.stamp rows) (batch : List CellData) → ReadsSame batch (cells_for (picked_cells (λ x. x.puts) h.cells) rows) → ReadsWrites f.rows may.batch h.stamp rows batch
  can_write seat rows may batch same = reads_writes f es (form_in f v.indexes) h.count h.stamp h.changes h.cells ready.made kept.told.form.apart may.batch changes rows may.distinct inside batch same
    where
      batches : may.batch ≡ is.batch
      batches = same_batch (sym may.is ∙ is.is)

      changes : may.batch.changes ≡ h.changes
      changes = ap (λ (y : Batch). y.changes) batches ∙ is.changes

      inside : (r : List Value) → has rows r ≡ true → has (rows_of h.changes) r ≡ true
      inside r x = ap (λ l. has (rows_of l) r) (sym changes) ∙ (has-filter (λ z. not (has may.batch.written z)) (rows_of may.batch.changes) r (may.left r x)).0

  -- Phase 3, for the rows on which no other batch was pending
  pub can_verify : (i : ℕ) → i < h.count → unwritten is.batch ≡ [] → (batch : List CellData) → ReadsSame batch (cells_for (picked_cells (λ x. get_or x.closes i []) h.cells) (to_verify h)) → CanVerify f es v i h.stamp (to_verify h) batch
  can_verify i l whole batch same = record {
    there = (let z = ready.inside in omega arith);
    batch = is.batch;
    is = is.is;
    some = λ r x. (let c = change-has h.changes r (inside r x) in (c.0, ap (λ l. change_of l r) is.changes ∙ c.1));
    whole = whole;
    running = is.running;
    born = ready.born i l;
    reads = reads_closes f es (form_in f v.indexes) h.count h.stamp h.changes h.cells ready.made i l (form_there i l) (to_verify h) distinct inside batch same;
    low = closes_below f es (form_in f v.indexes) h.count h.stamp h.changes h.cells ready.made i l (form_there i l) (to_verify h) distinct inside batch same (last_of f.base t es) stamp_last;
  }
    where
      inside : (r : List Value) → has (to_verify h) r ≡ true → has (rows_of h.changes) r ≡ true
      inside r x = (has-filter (λ z. not (has h.met z)) (rows_of h.changes) r x).0

      distinct : is_distinct (to_verify h) ≡ true
      distinct = filter_distinct (λ z. not (has h.met z)) (rows_of h.changes) ready.distinct

  -- a row of the batch is verified exactly where it isn't concurrent
  pub verifies : (r : List Value) → is_some (change_of h.changes r) ≡ true → (has (to_verify h) r ≡ false → IsMet es t h.stamp r) × (IsMet es t h.stamp r → has (to_verify h) r ≡ false)
  verifies r c = (
    λ n. elim (cases_Bool (has h.met r)) [
      | inl m ↦ (is.met_from r m).1
      | inr m ↦ absurd (false≢true (sym n ∙ filter-has (λ z. not (has h.met z)) (rows_of h.changes) r (has_is_some h.changes r ∙ c) (ap not m)))
    ],
    λ q. elim (cases_Bool (has (to_verify h) r)) [
      | inl x ↦ absurd (false≢true (sym (not-true (has h.met r) (has-filter (λ z. not (has h.met z)) (rows_of h.changes) r x).1) ∙ is.met_to r c q))
      | inr x ↦ x
    ],
  )
