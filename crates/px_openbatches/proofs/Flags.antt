-- The rows that a batch met, kept as a truth value for each of its changes.
use Rattle.std.proofs.Common.{◌≡◌, ℕ, Bool, true, false, cond, ◌&&◌, ◌||◌, Option, Some, None, filter, length, List, [], ◌∷◌, ◌++◌, refl, ap, sym, ◌∙◌, inl, inr, arith}
use Rattle.std.specs.Prelude.{is_some}
use Rattle.std.specs.Ordering.{is_eq}
use Rattle.std.proofs.lemmas.Bool.{cases_Bool, false≢true}
use Rattle.px_values.specs.declared.row.Value.{Value}
use Rattle.px_values.specs.declared.change.Change.{Change}
use Rattle.px_trail.specs.declared.entry.Entry.{Entry}
use Rattle.px_values.proofs.Equal.{row_order-Decides}
use Rattle.px_values.specs.Order.{row_order}
use Rattle.px_trail.specs.Batches.{change_of, has, rows_of}
use Rattle.px_openbatches.specs.Pending.{IsHeldBatch, is_left, with_met, flagged, meet_flags, HeldBatch}
use Rattle.px_trail.proofs.Orders.{has-append, has-change, has-filter, filter-has}
use Rattle.px_values.specs.declared.change.What.{What}
use Rattle.px_history.proofs.Changes.{change-has}

-- a batch has the rows that it changes
pub has_is_some : (cs : List Change) (r : List Value) → has (rows_of cs) r ≡ is_some (change_of cs r)
has_is_some cs r = by (change_of cs r) refl
  where
    by : (o : Option What) → change_of cs r ≡ o → has (rows_of cs) r ≡ is_some (change_of cs r)
    by None e = elim (cases_Bool (has (rows_of cs) r)) [
      | inl h ↦ (let z = change-has cs r h in let q : None ≡ Some z.0 = sym e ∙ z.1 in cc)
      | inr h ↦ h ∙ sym (ap is_some e)
    ]
    by (Some w) e = has-change cs r w e ∙ sym (ap is_some e)

-- the flags of a batch when another begins
pub flags_meet : (others : List (List Value)) (vs : List Bool) (rows : List (List Value)) → length vs ≡ length rows → (r : List Value) → has (flagged (meet_flags others vs rows) rows) r ≡ (has (flagged vs rows) r || (has others r && has rows r))
unfolding has flagged meet_flags
flags_meet others [] [] n r = sym (and_no (has others r))
  where
    and_no : (v : Bool) → (v && false) ≡ false
    and_no true = refl
    and_no false = refl
flags_meet others [] (x ∷ rows) n r = absurd (omega arith)
flags_meet others (v ∷ vs) [] n r = absurd (omega arith)
flags_meet others (v ∷ vs) (x ∷ rows) n r =
    let rest = flags_meet others vs rows (omega arith) r in
    elim (cases_Bool (is_eq (row_order x r))) [
      | inl e ↦ (let same : has others x ≡ has others r = ap (has others) ((row_order-Decides x r).0 e) in one v (has others x) (has others r) same refl e rest)
      | inr e ↦ other v (has others x) e rest
    ]
  where
    one : (v o o' : Bool) → o ≡ o' → has others r ≡ o' → is_eq (row_order x r) ≡ true → has (flagged (meet_flags others vs rows) rows) r ≡ (has (flagged vs rows) r || (has others r && has rows r)) → has (cond (v || o) (x ∷ flagged (meet_flags others vs rows) rows) (flagged (meet_flags others vs rows) rows)) r ≡ (has (cond v (x ∷ flagged vs rows) (flagged vs rows)) r || (o' && (is_eq (row_order x r) || has rows r)))
    one true o o' q z e rest = rw e refl
    one false true o' q z e rest = (λ i. e i || has (flagged (meet_flags others vs rows) rows) r) ∙ (sym (or_true (has (flagged vs rows) r)) ∙ (λ i. has (flagged vs rows) r || (q i && (sym e i || has rows r))))
      where
        or_true : (v : Bool) → (v || (true && (true || has rows r))) ≡ true
        or_true true = refl
        or_true false = refl
    one false false o' q z e rest = rest ∙ ((λ i. has (flagged vs rows) r || ((z ∙ sym q) i && has rows r)) ∙ (λ i. has (flagged vs rows) r || (q i && (is_eq (row_order x r) || has rows r))))

    other : (v o : Bool) → is_eq (row_order x r) ≡ false → has (flagged (meet_flags others vs rows) rows) r ≡ (has (flagged vs rows) r || (has others r && has rows r)) → has (cond (v || o) (x ∷ flagged (meet_flags others vs rows) rows) (flagged (meet_flags others vs rows) rows)) r ≡ (has (cond v (x ∷ flagged vs rows) (flagged vs rows)) r || (has others r && (is_eq (row_order x r) || has rows r)))
    other true o e rest = rw e rest
    other false true e rest = rw e rest
    other false false e rest = rw e rest

-- what is read of a batch's flags is what its met rows are after another's begin
pub flags_are : (cs : List Change) (h : HeldBatch) (vs : List Bool) → length vs ≡ length (rows_of h.changes) → ((r : List Value) → has (flagged vs (rows_of h.changes)) r ≡ has h.met r) → is_left h ≡ true → (r : List Value) → has (flagged (meet_flags (rows_of cs) vs (rows_of h.changes)) (rows_of h.changes)) r ≡ has (with_met cs h).met r
flags_are cs h vs n same l r =
    flags_meet (rows_of cs) vs (rows_of h.changes) n r
    ∙ ((λ i. same r i || (has (rows_of cs) r && has_is_some h.changes r i))
    ∙ (sym (has-append h.met (filter (λ y. is_some (change_of h.changes y)) (rows_of cs)) r ∙ ap (λ v. has h.met r || v) (filtered (λ y. is_some (change_of h.changes y)) (rows_of cs) r))
    ∙ ap (λ v. has (cond v (h.met ++ filter (λ y. is_some (change_of h.changes y)) (rows_of cs)) h.met) r) (sym l)))
  where
    filtered : (p : List Value → Bool) (xs : List (List Value)) (r : List Value) → has (filter p xs) r ≡ (has xs r && p r)
    filtered p xs r = elim (cases_Bool (has (filter p xs) r)) [
      | inl e ↦ (let z = has-filter p xs r e in e ∙ sym (λ i. z.0 i && z.1 i))
      | inr e ↦ e ∙ sym (off (has xs r) (p r) (λ a c. false≢true (sym e ∙ filter-has p xs r a c)))
    ]
      where
        off : (a c : Bool) → (a ≡ true → c ≡ true → ⊥) → (a && c) ≡ false
        off true true n = absurd (n refl refl)
        off true false n = refl
        off false c n = refl

-- any set of rows with the same members serves as the met ones
pub held_same : (es : List Entry) (t : ℕ) (h : HeldBatch) (met : List (List Value)) → ((r : List Value) → has met r ≡ has h.met r) → IsHeldBatch es t h → IsHeldBatch es t (record h { met = met })
held_same es t h met same k = record {
  batch = k.batch;
  is = k.is;
  changes = k.changes;
  written = k.written;
  running = k.running;
  met_from = λ r m. k.met_from r (sym (same r) ∙ m);
  met_to = λ r c q. same r ∙ k.met_to r c q;
  counted = k.counted;
}
