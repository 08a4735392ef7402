-- What the open batches and the cells tell of the changes of a row.
use Rattle.std.proofs.Common.{◌≡◌, ℕ, zero, suc, ◌<◌, ◌≤◌, Bool, true, false, ◌&&◌, ◌||◌, ◌⊎◌, Option, Some, None, List, [], ◌∷◌, refl, ap, sym, ◌∙◌, subst, inl, inr, arith}
use Rattle.std.specs.Prelude.{is_some, nat_eq}
use Rattle.std.specs.List.{AllByRecursion}
use Rattle.std.proofs.lemmas.Bool.{cases_eq, eq-eqb, eqb-true, and_parts, false≢true}
use Rattle.px_cells.specs.Contents.{value_at}
use Rattle.px_values.specs.declared.row.Value.{Value}
use Rattle.px_values.specs.declared.change.What.{What}
use Rattle.px_values.specs.States.{RowState}
use Rattle.px_trail.specs.declared.entry.Entry.{Entry}
use Rattle.px_trail.specs.Trail.{Base}
use Rattle.px_world.specs.World.{Written, is_undecided, is_written, st}
use Rattle.px_history.specs.History.{History}
use Rattle.px_history.specs.Rows.{Tied}
use Rattle.px_history.proofs.Changes.{written-counted}
use Rattle.px_values.specs.States.{Shape as RowShape}
use Rattle.px_indexed.specs.Worlds.{history_at}
use Rattle.px_groupworld.specs.Group.{TableForm, GroupData, GroupKept, world_in}
use Rattle.px_groupworld.proofs.Entries.{rows_of_group}
use Rattle.px_openbatches.specs.Pending.{HeldBatch, HeldKept, IsHeldBatch, change_left, is_in}
use Rattle.px_openbatches.proofs.Pendings.{in_rest, left_undecided, not_left, open_of}
use Rattle.px_tablereads.specs.Pending.{is_left_among, is_left_at}

or_cases : (a c : Bool) → (a || c) ≡ true → (a ≡ true) ⊎ (c ≡ true)
or_cases true c h = inl refl
or_cases false c h = inr h

both_true : (a c : Bool) → a ≡ true → c ≡ true → (a && c) ≡ true
both_true true c h g = g
both_true false c h g = h

or_left : (a c : Bool) → a ≡ true → (a || c) ≡ true
or_left true c h = refl
or_left false c h = absurd (false≢true h)

or_right : (a c : Bool) → c ≡ true → (a || c) ≡ true
or_right true c h = refl
or_right false c h = h

same_truth : (a c : Bool) → (a ≡ true → c ≡ true) → (c ≡ true → a ≡ true) → a ≡ c
same_truth true c f g = sym (f refl)
same_truth false true f g = g refl
same_truth false false f g = refl

module _ (sh : RowShape) (b : Base) (es : List Entry) (t : ℕ) (r : List Value) (g : History RowState) (tie : Tied sh b es t r g) (s : ℕ) where
  left_in : (hs : List HeldBatch) → AllByRecursion (IsHeldBatch es t) hs → is_left_among hs s r ≡ true → is_undecided (g.fate s) ≡ true
  left_in [] a h = absurd (false≢true h)
  left_in (x ∷ hs) a h = elim (or_cases (is_left_at s r x) (is_left_among hs s r) h) [
    | inl q ↦
        (let p = and_parts (nat_eq x.stamp s) (is_some (change_left x r)) q in
        let e : x.stamp ≡ s = eqb-true x.stamp s p.0 in
        subst (λ (u : ℕ). is_undecided (g.fate u) ≡ true) e (by (change_left x r) refl p.1))
    | inr q ↦ left_in hs a.1 q
  ]
    where
      by : (o : Option What) → change_left x r ≡ o → is_some o ≡ true → is_undecided (g.fate x.stamp) ≡ true
      by None q n = absurd (false≢true n)
      by (Some w) q n = ap is_undecided (left_undecided sh b es t r g tie x a.0 w q)

  undecided_in : (hs : List HeldBatch) → AllByRecursion (IsHeldBatch es t) hs → is_in s hs ≡ true → is_undecided (g.fate s) ≡ true → is_left_among hs s r ≡ true
  undecided_in [] a i u = absurd (false≢true i)
  undecided_in (x ∷ hs) a i u = elim (cases_eq x.stamp s) [
    | inl e ↦ or_left (is_left_at s r x) (is_left_among hs s r) (both_true (nat_eq x.stamp s) (is_some (change_left x r)) (eq-eqb x.stamp s e) (by e (change_left x r) refl))
    | inr e ↦ or_right (is_left_at s r x) (is_left_among hs s r) (undecided_in hs a.1 (in_rest s x hs e i) u)
  ]
    where
      by : x.stamp ≡ s → (o : Option What) → change_left x r ≡ o → is_some o ≡ true
      by e None q = absurd (false≢true (sym (not_left sh b es t r g tie x a.0 q) ∙ subst (λ (z : ℕ). is_undecided (g.fate z) ≡ true) (sym e) u))
      by e (Some w) q = refl

module _ (f : TableForm) (es : List Entry) (v : GroupData) (k : GroupKept f es v) where
  abbrev t : ℕ
  t = f.id.0

  abbrev hist : List Value → History RowState
  hist r = history_at f.rows.shape f.base es t r

  -- a change is undecided exactly where an open batch of its stamp is still to write the row
  pub undecided_is : (hs : List HeldBatch) → HeldKept f.base es t hs → (i : ℕ) (r : List Value) (s : ℕ) → is_undecided ((world_in f es v i r).fate s) ≡ is_left_among hs s r
  undecided_is hs held i r s = same_truth (is_undecided ((hist r).fate s)) (is_left_among hs s r)
      (λ u. undecided_in f.rows.shape f.base es t r (hist r) ((rows_of_group f es v k).tied r) s hs held.each (open_of f.rows f.base es f.id v.high (rows_of_group f es v k) hs held r s u).1 u)
      (λ h. left_in f.rows.shape f.base es t r (hist r) ((rows_of_group f es v k).tied r) s hs held.each h)

  -- the state of a row at a point is what its cells spell there
  pub state_seen : (i : ℕ) (r : List Value) (p : ℕ) → v.low ≤ p → st (world_in f es v i r) p ≡ f.rows.spelled (value_at v.cells) r p
  state_seen i r p l = ((rows_of_group f es v k).tied r).states p ∙ sym (k.told.spells r p l)

  -- the state after a written change is what they spell at its stamp
  pub new_seen : (i : ℕ) (r : List Value) (s : ℕ) → v.low ≤ s → 0 < s → (world_in f es v i r).fate s ≡ Written → (world_in f es v i r).new s ≡ f.rows.spelled (value_at v.cells) r s
  new_seen i r zero l n w = absurd (omega arith)
  new_seen i r (suc p) l n w = sym (written-counted (hist r) p (ap is_written w)) ∙ state_seen i r (suc p) l
