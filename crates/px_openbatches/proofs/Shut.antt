-- What Phase 3 closed stays closed until the batch ends.
use Rattle.std.proofs.Common.{◌≡◌, ℕ, ◌<◌, ◌≤◌, ◌+◌, Bool, true, false, not, cond, length, get_or, Option, Some, None, List, [], ap, sym, ◌∙◌, subst, inl, inr, arith}
use Rattle.std.specs.Prelude.{nat_eq}
use Rattle.std.proofs.lemmas.Bool.{cases_Bool, cases_eq, cond-true, cond-false, eq-eqb}
use Rattle.px_values.specs.declared.row.Value.{Value}
use Rattle.px_values.specs.declared.change.What.{What}
use Rattle.px_values.specs.declared.change.Change.{Change}
use Rattle.px_values.specs.States.{RowState}
use Rattle.px_trail.specs.Batches.{Batch, batch_of, change_of, has, rows_of, unwritten}
use Rattle.px_world.specs.Shape.{WorldShape}
use Rattle.px_world.specs.World.{World, Written}
use Rattle.px_world.specs.Events.{Event, Verify}
use Rattle.px_world.specs.Facts.{Kept}
use Rattle.px_world.specs.Closed.{Closed}
use Rattle.px_world.proofs.Closed.{verify_closes, closed_stays}
use Rattle.px_world.specs.IndexCells.{Moves}
use Rattle.px_history.specs.Rows.{row_as, row_in, fate_by, ended_by}
use Rattle.px_indexed.specs.Worlds.{row_event, history_at}
use Rattle.px_forms.specs.Indexes.{shape_at}
use Rattle.px_groupworld.specs.Group.{TableForm, GroupData, shape_in, world_in}
use Rattle.px_groupworld.specs.Steps.{Does, at_index}
use Rattle.px_openbatches.specs.Pending.{IsHeldBatch, to_verify, with_met, is_left, HeldBatch}
use Rattle.px_history.proofs.Changes.{change-has}
use Rattle.px_trail.proofs.Orders.{has-filter}
use Rattle.px_openbatches.proofs.Pendings.{whole_written}
use Rattle.px_trail.specs.declared.entry.Entry.{Entry}
use Rattle.px_groupworld.specs.Group.{GroupKept, no_part}
use Rattle.px_groupworld.proofs.Entries.{rows_of_group}
use Rattle.px_openbatches.specs.Opens.{AreClosed, IsNoBirthOf}

-- once all its rows are written, a batch meets no more
pub meets_done : (cs : List Change) (h : HeldBatch) → is_left h ≡ false → (with_met cs h).met ≡ h.met
meets_done cs h e = cond-false _ _ _ e

closed_moves : {K S X A : Type 0} (n : WorldShape K S X A) (w w' : World K S X) (t : ℕ) (o : Option (Event K A)) → IsNoBirthOf o → Moves n o w w' → Kept n w → w.fate t ≡ Written → w.is_ended t ≡ false → Closed n w t → Closed n w' t
closed_moves n w w' t None b m g f r c = subst (λ x. Closed n x t) (sym m) c
closed_moves n w w' t (Some e) b m g f r c = subst (λ x. Closed n x t) (sym m.1) (closed_stays n w t g f r c e b m.0)

module _ (f : TableForm) (es es' : List Entry) (v v' : GroupData) (kept : GroupKept f es v) (h : HeldBatch) (is : IsHeldBatch es f.id.0 h) (whole : unwritten is.batch ≡ [])
    (ids : (i : ℕ) → i < length v.indexes → (get_or v'.indexes i no_part).id ≡ (get_or v.indexes i no_part).id) where
  row_is : (r : List Value) → has (to_verify h) r ≡ true → (w : What) × (row_in (batch_of f.id.0 h.stamp es) r ≡ Some (record { what = w; written = true; ended = false }))
  row_is r x =
      let a = has-filter (λ z. not (has h.met z)) (rows_of h.changes) r x in
      let c = change-has h.changes r a.0 in
      let q : change_of is.batch.changes r ≡ Some c.0 = ap (λ l. change_of l r) is.changes ∙ c.1 in
      let z : has is.batch.written r ≡ true = elim (cases_Bool (has is.batch.written r)) [ inl e ↦ e | inr e ↦ absurd (whole_written r is.batch c.0 whole q e) ] in
      (c.0, ap (λ (o : Option Batch). row_in o r) is.is ∙ (λ i. row_as (q i) (z i) (is.running i)))

  shape_same : (i : ℕ) → i < length v.indexes → (r : List Value) → shape_in f v' i r ≡ shape_in f v i r
  shape_same i l r = ap (λ (x : ℕ). shape_at f.rows.shape (f.index x) r) (ids i l)

  closed_written : (r : List Value) → has (to_verify h) r ≡ true → ((history_at f.rows.shape f.base es f.id.0 r).fate h.stamp ≡ Written) × ((history_at f.rows.shape f.base es f.id.0 r).is_ended h.stamp ≡ false)
  closed_written r x =
      let q = row_is r x in
      let tie = (rows_of_group f es v kept).tied r in
      let c = (tie.fresh h.stamp _ q.1).1 in
      (tie.fates h.stamp ∙ (cond-false _ _ _ c ∙ ap fate_by q.1), tie.ends h.stamp ∙ (cond-false _ _ _ c ∙ ap ended_by q.1))

  -- each step but a birth leaves it
  pub closed_does : (e : ℕ → List Value → Option (Event (List ℕ) What)) → ((i : ℕ) (r : List Value) → IsNoBirthOf (e i r)) → Does f e es v es' v' → (n : ℕ) → n ≤ length v.indexes → AreClosed f es v h n → AreClosed f es' v' h n
  closed_does e none d n inside c = record {
    each = λ i l r x.
        (let w = closed_written r x in
        let z = closed_moves (shape_in f v i r) (world_in f es v i r) (world_in f es' v' i r) h.stamp (e i r) (none i r) (d.each i (omega arith) r) ((kept.indexes i (omega arith)).kept r) w.0 w.1 (c.each i l r x) in
        subst (λ (s : WorldShape (List ℕ) RowState (List ℕ) What). Closed s (world_in f es' v' i r) h.stamp) (sym (shape_same i (omega arith) r)) z);
  }

  -- the verification of index n, for the rows that aren't concurrent, closes one index more
  pub closed_verified : (n : ℕ) → n < length v.indexes → Does f (λ i r. at_index n i (row_event (Verify h.stamp) (has (to_verify h) r))) es v es' v' → AreClosed f es v h n → AreClosed f es' v' h (n + 1)
  closed_verified n l d c = record {
    each = λ i m r x. elim (cases_eq n i) [
      | inl z ↦
          (let e : at_index n i (row_event (Verify h.stamp) (has (to_verify h) r)) ≡ Some (Verify h.stamp) = cond-true (nat_eq n i) (row_event (Verify h.stamp) (has (to_verify h) r)) None (eq-eqb n i z) ∙ ap (row_event (Verify h.stamp)) x in
          let moves : Moves (shape_in f v i r) (Some (Verify h.stamp)) (world_in f es v i r) (world_in f es' v' i r) = subst (λ (o : Option (Event (List ℕ) What)). Moves (shape_in f v i r) o (world_in f es v i r) (world_in f es' v' i r)) e (d.each i (omega arith) r) in
          let here : Closed (shape_in f v i r) (world_in f es' v' i r) h.stamp = subst (λ (y : World (List ℕ) RowState (List ℕ)). Closed (shape_in f v i r) y h.stamp) (sym moves.1) (verify_closes (shape_in f v i r) (world_in f es v i r) h.stamp) in
          subst (λ (s : WorldShape (List ℕ) RowState (List ℕ) What). Closed s (world_in f es' v' i r) h.stamp) (sym (shape_same i (omega arith) r)) here)
      | inr z ↦ (closed_does (λ i r. at_index n i (row_event (Verify h.stamp) (has (to_verify h) r))) (λ i r. no_birth (nat_eq n i) (has (to_verify h) r)) d n (omega arith) c).each i (omega arith) r x
    ];
  }
    where
      no_birth : (a x : Bool) → IsNoBirthOf (cond a (row_event (Verify h.stamp) x) None)
      no_birth true true = tt
      no_birth true false = tt
      no_birth false x = tt
