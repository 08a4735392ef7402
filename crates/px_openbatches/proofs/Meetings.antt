-- That a batch met another on a row is what the trail calls concurrent.
use Rattle.std.proofs.Common.{◌≡◌, ℕ, Option, Some, None, List, [], ◌∷◌, ◌++◌, refl, sym, subst, inl, inr}
use Rattle.px_values.specs.declared.row.Value.{Value}
use Rattle.px_trail.specs.declared.entry.Entry.{Entry}
use Rattle.px_trail.specs.Batches.{Batch, IsConcurrent, IsOngoing, batch_of}
use Rattle.px_openbatches.specs.Pending.{IsMet, IsWithin}
use Rattle.px_openbatches.proofs.Helds.{pending_unwritten, unwritten_pending}

within_ongoing : (es : List Entry) (e : Entry) (t s : ℕ) → IsWithin es e t s → IsOngoing (batch_of t s es) (batch_of t s (es ++ e ∷ []))
within_ongoing es e t s w = subst (λ (o : Option Batch). IsOngoing (batch_of t s es) o) (sym w.is) (elim w.which [
  | inl n ↦ subst (λ (o : Option Batch). IsOngoing o (Some w.batch)) (sym n) tt
  | inr x ↦ subst (λ (o : Option Batch). IsOngoing o (Some w.batch)) (sym x.1.0) x.1.1
])

ongoing_within : (es : List Entry) (e : Entry) (t s : ℕ) → IsOngoing (batch_of t s es) (batch_of t s (es ++ e ∷ [])) → IsWithin es e t s
ongoing_within es e t s h = by (batch_of t s es) (batch_of t s (es ++ e ∷ [])) refl refl h
  where
    by : (o p : Option Batch) → batch_of t s es ≡ o → batch_of t s (es ++ e ∷ []) ≡ p → IsOngoing o p → IsWithin es e t s
    by None None q z h = absurd h
    by (Some a) None q z h = absurd h
    by None (Some c) q z h = record { batch = c; is = z; which = inl q }
    by (Some a) (Some c) q z h = record { batch = c; is = z; which = inr (a, (q, h)) }

pub met_concurrent : (es : List Entry) (t s : ℕ) (r : List Value) → IsMet es t s r → IsConcurrent es t s r
met_concurrent es t s r c = record {
  before = c.before;
  entry = c.entry;
  after = c.after;
  splits = c.parts;
  ongoing = within_ongoing c.before c.entry t s c.within;
  stamp = c.other;
  other = c.differs;
  batch = c.pending.batch;
  is = c.pending.is;
  left = pending_unwritten (c.before ++ c.entry ∷ []) t c.other r c.pending;
}

pub concurrent_met : (es : List Entry) (t s : ℕ) (r : List Value) → IsConcurrent es t s r → IsMet es t s r
concurrent_met es t s r c = record {
  before = c.before;
  entry = c.entry;
  after = c.after;
  parts = c.splits;
  within = ongoing_within c.before c.entry t s c.ongoing;
  other = c.stamp;
  differs = c.other;
  pending = unwritten_pending (c.before ++ c.entry ∷ []) t c.stamp r c.batch c.is c.left;
}
