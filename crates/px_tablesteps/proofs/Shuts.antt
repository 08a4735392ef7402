-- What the third phase closed stays closed, of each open batch.
use Rattle.std.proofs.Common.{◌≡◌, ℕ, ◌<◌, Bool, true, false, cond, not, filter, ◌||◌, ◌++◌, ◌∷◌, length, get_or, Option, Some, None, List, [], inl, inr, ap, ◌∙◌, subst, arith}
use Rattle.std.specs.Prelude.{nat_eq}
use Rattle.std.specs.List.{list_any}
use Rattle.std.proofs.lemmas.Bool.{cases_Bool}
use Rattle.px_values.specs.declared.row.Value.{Value}
use Rattle.px_values.specs.declared.change.Change.{Change}
use Rattle.px_values.specs.declared.change.What.{What}
use Rattle.px_trail.specs.declared.entry.Entry.{Entry}
use Rattle.px_trail.specs.Batches.{has, rows_of, unwritten}
use Rattle.px_trail.proofs.Orders.{has-append}
use Rattle.px_world.specs.Events.{Event}
use Rattle.px_indexed.specs.Worlds.{begin_event, change_event, row_event}
use Rattle.px_world.specs.Closed.{IsNoBirth}
use Rattle.px_groupworld.specs.Group.{TableForm, GroupData, GroupKept, no_part}
use Rattle.px_groupworld.specs.Steps.{Events, Does, at_index}
use Rattle.px_openbatches.specs.Pending.{HeldBatch, IsHeldBatch, is_left, with_met, writes_rows}
use Rattle.px_openbatches.specs.Opens.{IsBatchReady, IsNoBirthOf}
use Rattle.px_openbatches.proofs.Shut.{closed_does, meets_done}
use Rattle.px_tablesteps.specs.Kept.{AreMarksClosed}
use Rattle.px_tablesteps.proofs.Lists.{none_left}

-- all its rows are written
pub whole_is : (es : List Entry) (t : ℕ) (h : HeldBatch) (is : IsHeldBatch es t h) → is_left h ≡ false → unwritten is.batch ≡ []
whole_is es t h is e = (λ i. filter (λ r. not (is.written r i)) (rows_of (is.changes i))) ∙ none_left h.changes h.written e

-- where more rows are written fewer are left
fewer : (cs : List Change) (ws more : List (List Value)) → ((r : List Value) → has ws r ≡ true → has more r ≡ true) → list_any (λ c. not (has ws c.row)) cs ≡ false → list_any (λ c. not (has more c.row)) cs ≡ false
fewer [] ws more g h = h
fewer (c ∷ cs) ws more g h = elim (cases_Bool (has ws c.row)) [
  | inl e ↦ (let z = rw e at h in let m = g c.row e in rw m (fewer cs ws more g z))
  | inr e ↦ (let z : true ≡ false = rw e at h in cc)
]

pub begin_none : (s : ℕ) (o : Option What) → IsNoBirthOf (begin_event s o)
begin_none s None = tt
begin_none s (Some w) = tt

pub change_none : (e : Event (List ℕ) What) (o : Option What) → IsNoBirth e → IsNoBirthOf (change_event e o)
change_none e None n = tt
change_none e (Some w) n = n

pub row_none : (e : Event (List ℕ) What) (v : Bool) → IsNoBirth e → IsNoBirthOf (row_event e v)
row_none e false n = tt
row_none e true n = n

pub at_none : (j i : ℕ) (o : Option (Event (List ℕ) What)) → IsNoBirthOf o → IsNoBirthOf (at_index j i o)
at_none j i o n = by (nat_eq j i)
  where
    by : (v : Bool) → IsNoBirthOf (cond v o None)
    by true = n
    by false = tt

module _ (f : TableForm) (es es' : List Entry) (v v' : GroupData) (kept : GroupKept f es v) (e : Events) (none : (i : ℕ) (r : List Value) → IsNoBirthOf (e i r)) (d : Does f e es v es' v')
    (ids : (i : ℕ) → i < length v.indexes → (get_or v'.indexes i no_part).id ≡ (get_or v.indexes i no_part).id)
    (h : HeldBatch) (is : IsHeldBatch es f.id.0 h) (ready : IsBatchReady f es v.indexes h) (q : AreMarksClosed f es v h) where
  pub shut_same : AreMarksClosed f es' v' h
  shut_same = record {
    whole = q.whole;
    inside = q.inside;
    closed = record {
      each = λ i l r x.
          (let whole = whole_is es f.id.0 h is (q.whole (λ z. absurd (omega arith))) in
          let in1 = q.inside in let in2 = ready.inside in
          (closed_does f es es' v v' kept h is whole ids e none d h.verified (omega arith) q.closed).each i l r x);
    };
  }

  -- where another batch begins
  pub shut_meets : (cs : List Change) → AreMarksClosed f es' v' (with_met cs h)
  shut_meets cs = record {
    whole = q.whole;
    inside = q.inside;
    closed = record {
      each = λ i l r x. shut_same.closed.each i l r (subst (λ (m : List (List Value)). has (filter (λ r. not (has m r)) (rows_of h.changes)) r ≡ true) (meets_done cs h (q.whole (λ z. absurd (omega arith)))) x);
    };
  }

  -- where rows are written
  pub shut_wrote : (s : ℕ) (rows : List (List Value)) → AreMarksClosed f es' v' (writes_rows s rows h)
  shut_wrote s rows = record {
    whole = λ n. fewer h.changes h.written (cond (nat_eq h.stamp s) (h.written ++ rows) h.written) (λ r m. more (nat_eq h.stamp s) r m) (q.whole n);
    inside = q.inside;
    closed = record { each = shut_same.closed.each };
  }
    where
      more : (b : Bool) (r : List Value) → has h.written r ≡ true → has (cond b (h.written ++ rows) h.written) r ≡ true
      more false r m = m
      more true r m = has-append h.written rows r ∙ ap (λ u. u || has rows r) m
