-- What open batches are still to write of a row.
use Rattle.std.proofs.Common.{◌≡◌, ℕ, ◌+◌, ◌<◌, Bool, true, false, not, ◌&&◌, ◌||◌, Option, Some, None, List, [], ◌∷◌, ◌++◌, length, drop, take, get_or, inl, inr, ◌≤◌, refl, ap, sym, ◌∙◌, subst}
use Rattle.std.specs.Prelude.{is_some, if◌then◌else◌}
use Rattle.std.proofs.lemmas.Bool.{cases_Bool}
use Rattle.std.proofs.lemmas.List.{drop_more, take_more}
use Rattle.std.proofs.Math.ListN.{drop_of_length-le}
use Rattle.std.specs.Ordering.{is_eq}
use Rattle.px_cells.specs.CellData.{CellData}
use Rattle.px_openbatches.specs.Pending.{HeldBatch, after_pending, applied_if, change_left, is_pending_in, left_as}
use Rattle.px_openbatches.proofs.Flags.{has_is_some}
use Rattle.px_indexrow.proofs.StatesFit.{apply_fits}
use Rattle.px_indexrow.specs.Form.{FitsRowState}
use Rattle.px_rows.specs.Keys.{IsRightTable}
use Rattle.px_rows.specs.Spelled.{FitsTable}
use Rattle.px_tables.specs.declared.table.Table.{Table}
use Rattle.px_trail.specs.Trail.{table_shape}
use Rattle.px_values.proofs.Equal.{row_order-Decides}
use Rattle.px_values.specs.Order.{row_order}
use Rattle.px_trail.specs.Batches.{change_of, has}
use Rattle.px_values.specs.States.{RowState, Shape}
use Rattle.px_values.specs.declared.change.Change.{Change}
use Rattle.px_values.specs.declared.change.What.{What}
use Rattle.px_values.specs.declared.row.Value.{Value}
use Rattle.px_phases.specs.Batch.{AllFit, AreHeldAs, BatchData, IsHeldAs, is_left_in, left_in, pending_state}

pub left_same : (b : BatchData) (h : HeldBatch) → IsHeldAs b h → (r : List Value) → left_in b r ≡ change_left h r
left_same b h is r = by b.puts refl (change_of b.changes r) refl
  where
    written : (o : Option (List (List CellData))) → b.puts ≡ o → has h.written r ≡ (not (is_some o) && is_some (change_of b.changes r))
    written o e = is.written r ∙ (λ i. not (is_some (e i)) && has_is_some b.changes r i)

    by : (o : Option (List (List CellData))) → b.puts ≡ o → (w : Option What) → change_of b.changes r ≡ w → (if is_some b.puts then change_of b.changes r else None) ≡ left_as (change_of h.changes r) (has h.written r)
    by (Some p) e w q = (λ i. if is_some (e i) then q i else None) ∙ (kept w ∙ (λ i. left_as ((sym q ∙ ap (λ (cs : List Change). change_of cs r) (sym is.changes)) i) (sym (written (Some p) e) i)))
      where
        kept : (w : Option What) → w ≡ left_as w false
        kept None = refl
        kept (Some x) = refl
    by None e w q = (λ i. if is_some (e i) then q i else None) ∙ (gone w ∙ (λ i. left_as ((sym q ∙ ap (λ (cs : List Change). change_of cs r) (sym is.changes)) i) (sym (written None e ∙ ap is_some q) i)))
      where
        gone : (w : Option What) → None ≡ left_as w (is_some w)
        gone None = refl
        gone (Some x) = refl

pub states_same : (sh : Shape) (r : List Value) (o : RowState) (bs : List BatchData) (hs : List HeldBatch) → AreHeldAs bs hs → pending_state sh r o bs ≡ after_pending sh r o hs
unfolding after_pending
states_same sh r o [] [] a = refl
states_same sh r o [] (h ∷ hs) a = absurd a
states_same sh r o (b ∷ bs) [] a = absurd a
states_same sh r o (b ∷ bs) (h ∷ hs) a = ap (λ (w : Option What). pending_state sh r (applied_if sh r o w) bs) (left_same b h a.0 r) ∙ states_same sh r (applied_if sh r o (change_left h r)) bs hs a.1

pub rows_same : (r : List Value) (bs : List BatchData) (hs : List HeldBatch) → AreHeldAs bs hs → is_left_in bs r ≡ is_pending_in hs r
rows_same r [] [] a = refl
rows_same r [] (h ∷ hs) a = absurd a
rows_same r (b ∷ bs) [] a = absurd a
rows_same r (b ∷ bs) (h ∷ hs) a = λ i. is_some (left_same b h a.0 r i) || rows_same r bs hs a.1 i

-- one batch more
state_snoc : (sh : Shape) (r : List Value) (o : RowState) (bs : List BatchData) (b : BatchData) → pending_state sh r o (bs ++ b ∷ []) ≡ applied_if sh r (pending_state sh r o bs) (left_in b r)
state_snoc sh r o [] b = refl
state_snoc sh r o (x ∷ bs) b = state_snoc sh r (applied_if sh r o (left_in x r)) bs b

pub state_next : (sh : Shape) (r : List Value) (o : RowState) (bs : List BatchData) (i : ℕ) (b : BatchData) → i < length bs → b ≡ get_or bs i b → pending_state sh r o (take (i + 1) bs) ≡ applied_if sh r (pending_state sh r o (take i bs)) (left_in b r)
state_next sh r o bs i b l e = ap (pending_state sh r o) (take_more bs i b l) ∙ (state_snoc sh r o (take i bs) (get_or bs i b) ∙ ap (λ (x : BatchData). applied_if sh r (pending_state sh r o (take i bs)) (left_in x r)) (sym e))

-- 2. In lists of changes

change_here : (c : Change) (cs : List Change) (r : List Value) → is_eq (row_order c.row r) ≡ true → change_of (c ∷ cs) r ≡ Some c.what
unfolding change_of
change_here c cs r e = ap (λ (v : Bool). if v then Some c.what else change_of cs r) e

change_there : (c : Change) (cs : List Change) (r : List Value) → is_eq (row_order c.row r) ≡ false → change_of (c ∷ cs) r ≡ change_of cs r
unfolding change_of
change_there c cs r e = ap (λ (v : Bool). if v then Some c.what else change_of cs r) e

change_none : (r : List Value) → change_of [] r ≡ None
unfolding change_of
change_none r = refl

pub found_at : (cs : List Change) (r : List Value) (i : ℕ) (c : Change) → i < length cs → c ≡ get_or cs i c → is_eq (row_order c.row r) ≡ true → change_of (drop i cs) r ≡ Some c.what
found_at cs r i c l e q =
    ap (λ (l : List Change). change_of l r) (drop_more cs i c l)
    ∙ (change_here (get_or cs i c) (drop (i + 1) cs) r (ap (λ (x : Change). is_eq (row_order x.row r)) (sym e) ∙ q) ∙ ap (λ (x : Change). Some x.what) (sym e))

pub passed_at : (cs : List Change) (r : List Value) (i : ℕ) (c : Change) → i < length cs → c ≡ get_or cs i c → is_eq (row_order c.row r) ≡ false → change_of (drop i cs) r ≡ change_of (drop (i + 1) cs) r
passed_at cs r i c l e q =
    ap (λ (l : List Change). change_of l r) (drop_more cs i c l)
    ∙ change_there (get_or cs i c) (drop (i + 1) cs) r (ap (λ (x : Change). is_eq (row_order x.row r)) (sym e) ∙ q)

pub found_nowhere : (cs : List Change) (r : List Value) (i : ℕ) → length cs ≤ i → change_of (drop i cs) r ≡ None
found_nowhere cs r i l = ap (λ (x : List Change). change_of x r) (drop_of_length-le cs l) ∙ change_none r

-- a change that is left is one that the table lets in
pub change_fits : (t : Table) (cs : List Change) (r : List Value) (w : What) → AllFit t cs → change_of cs r ≡ Some w → FitsTable t r w
change_fits t [] r w a e = absurd (let z = sym (change_none r) ∙ e in cc)
change_fits t (c ∷ cs) r w a e = elim (cases_Bool (is_eq (row_order c.row r))) [
  | inl q ↦ (let z : Some c.what ≡ Some w = sym (change_here c cs r q) ∙ e in let same : c.what ≡ w = cc in subst (λ (x : List Value). FitsTable t x w) ((row_order-Decides c.row r).0 q) (subst (FitsTable t c.row) same a.0))
  | inr q ↦ change_fits t cs r w a.1 (sym (change_there c cs r q) ∙ e)
]

pub left_fits : (t : Table) (b : BatchData) (r : List Value) (w : What) → AllFit t b.changes → left_in b r ≡ Some w → FitsTable t r w
left_fits t b r w a e = by (is_some b.puts) e
  where
    by : (v : Bool) → (if v then change_of b.changes r else None) ≡ Some w → FitsTable t r w
    by true e = change_fits t b.changes r w a e
    by false e = cc

pub applied_fits : (t : Table) (r : List Value) (o : RowState) (b : BatchData) → IsRightTable t → AllFit t b.changes → FitsRowState t o → FitsRowState t (applied_if (table_shape t) r o (left_in b r))
applied_fits t r o b right a s = by (left_in b r) refl
  where
    by : (w : Option What) → left_in b r ≡ w → FitsRowState t (applied_if (table_shape t) r o w)
    by None e = s
    by (Some w) e = apply_fits t r o w right (left_fits t b r w a e) s
