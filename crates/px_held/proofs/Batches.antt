-- Held changes are so many, and of so different rows, as those of a batch have to be.
use Rattle.std.proofs.Common.{◌≡◌, ◌≢◌, ◌≤◌, ◌&&◌, ◌||◌, not, Bool, true, false, List, [], ◌∷◌, length, Result, Ok, Err, refl, sym, ◌∙◌, ap, subst, ⊎_elim, arith}
use Rattle.std.specs.Prelude.{OnErr, OnOk}
use Rattle.std.specs.Ordering.{is_eq}
use Rattle.std.proofs.lemmas.Bool.{cases_Bool, false≢true}
use Rattle.px_values.specs.declared.change.Change.{Change}
use Rattle.px_values.specs.declared.row.Value.{Value}
use Rattle.px_values.specs.Order.{row_order}
use Rattle.px_values.specs.States.{Shape}
use Rattle.px_values.proofs.Equal.{row_order-Decides}
use Rattle.px_trail.specs.Batches.{has, is_distinct, rows_of}
use Rattle.px_held.specs.Held.{with_change}
use Rattle.px_held.specs.HeldData.{IsBatch}

other-way : (a b : List Value) → is_eq (row_order a b) ≡ false → is_eq (row_order b a) ≡ false
other-way a b apart = ⊎_elim
    (λ yes. absurd (false≢true (sym apart ∙ (row_order-Decides a b).1 (sym ((row_order-Decides b a).0 yes)))))
    (λ none. none)
    (cases_Bool (is_eq (row_order b a)))

neither : (a b : Bool) → a ≡ false → b ≡ false → (a || b) ≡ false
neither a b e f = rw e f

both : (a b : Bool) → (a && b) ≡ true → (a ≡ true) × (b ≡ true)
both true b e = (refl, e)
both false b e = absurd (false≢true e)

is-false : (a : Bool) → not a ≡ true → a ≡ false
is-false true e = absurd (false≢true e)
is-false false e = refl

parts : (h : List Value) (rest : List (List Value)) (x : List Value) → has (h ∷ rest) x ≡ false → (is_eq (row_order h x) ≡ false) × (has rest x ≡ false)
unfolding has
parts h rest x none = apart (is_eq (row_order h x)) (has rest x) none
  where
    apart : (a b : Bool) → (a || b) ≡ false → (a ≡ false) × (b ≡ false)
    apart true b e = absurd (false≢true (sym e))
    apart false b e = (refl, e)

one-more : (h : List Value) (rest : List (List Value)) (x : List Value) → is_eq (row_order h x) ≡ false → has rest x ≡ false → has (h ∷ rest) x ≡ false
unfolding has
one-more h rest x e f = neither (is_eq (row_order h x)) (has rest x) e f

no-row : (x : List Value) → has [] x ≡ false
unfolding has
no-row x = refl

distinct-parts : (h : List Value) (rest : List (List Value)) → is_distinct (h ∷ rest) ≡ true → (has rest h ≡ false) × (is_distinct rest ≡ true)
unfolding is_distinct
distinct-parts h rest d = let e = both (not (has rest h)) (is_distinct rest) d in (is-false (has rest h) e.0, e.1)

distinct-more : (h : List Value) (rest : List (List Value)) → has rest h ≡ false → is_distinct rest ≡ true → is_distinct (h ∷ rest) ≡ true
unfolding is_distinct
distinct-more h rest none d = rw none d

pub one-distinct : (x : List Value) → is_distinct (x ∷ []) ≡ true
unfolding is_distinct has
one-distinct x = refl

-- a row that neither is there nor is the new one isn't there then
none-with : (shape : Shape) (held : List Change) (c : Change) (x : List Value) → has (rows_of held) x ≡ false → is_eq (row_order c.row x) ≡ false → has (rows_of (with_change shape held c)) x ≡ false
unfolding with_change
none-with shape [] c x none other = one-more c.row [] x other (no-row x)
none-with shape (h ∷ held) c x none other = ⊎_elim
    (λ same. rw same none)
    (λ apart. let p = parts h.row (rows_of held) x none in rw apart (one-more h.row (rows_of (with_change shape held c)) x p.0 (none-with shape held c x p.1 other)))
    (cases_Bool (is_eq (row_order h.row c.row)))

pub distinct-with : (shape : Shape) (held : List Change) (c : Change) → is_distinct (rows_of held) ≡ true → is_distinct (rows_of (with_change shape held c)) ≡ true
unfolding with_change
distinct-with shape [] c d = one-distinct c.row
distinct-with shape (h ∷ held) c d = ⊎_elim
    (λ same. rw same d)
    (λ apart.
    let p = distinct-parts h.row (rows_of held) d in
    rw apart (distinct-more h.row (rows_of (with_change shape held c)) (none-with shape held c h.row p.0 (other-way h.row c.row apart)) (distinct-with shape held c p.1)))
    (cases_Bool (is_eq (row_order h.row c.row)))

pub some-with : (shape : Shape) (held : List Change) (c : Change) → with_change shape held c ≢ []
unfolding with_change
some-with shape [] c e = cc
some-with shape (h ∷ held) c e = ⊎_elim
    (λ same. no-cons (rw same at e))
    (λ apart. no-cons (rw apart at e))
    (cases_Bool (is_eq (row_order h.row c.row)))
  where
    no-cons : {x : Change} {xs : List Change} → x ∷ xs ≡ [] → ⊥
    no-cons e = cc

-- held changes may be begun as a batch, also after one more was held, or wasn't
pub batch-after : {A E : Type 0} (shape : Shape) (old new : List Change) (c : Change) (r : Result A E) → IsBatch old → OnOk r (new ≡ with_change shape old c) → OnErr r (new ≡ old) → (length old ≤ 1000 → length new ≤ 1000) → IsBatch new
batch-after shape old new c (Ok u) b is none few = record {
  some = λ e. some-with shape old c (sym is ∙ e);
  rows = few b.rows;
  distinct = ap (λ (l : List Change). is_distinct (rows_of l)) is ∙ distinct-with shape old c b.distinct;
}
batch-after shape old new c (Err f) b is none few = subst IsBatch (sym none) b

pub one-batch : (cs : List Change) (c : Change) → cs ≡ c ∷ [] → IsBatch cs
one-batch cs c is = subst IsBatch (sym is) (record { some = λ e. cc; rows = omega arith; distinct = one-distinct c.row })
