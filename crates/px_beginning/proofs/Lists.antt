-- Lists of batches, indexes and rows, one more of them at a time.
use Rattle.std.proofs.Common.{◌≡◌, ℕ, zero, suc, ◌<◌, ◌+◌, ◌||◌, List, [], ◌∷◌, ◌++◌, map, length, get_or, take, drop, set, inl, inr, refl, ap, sym, ◌∙◌, subst, arith}
use Rattle.std.specs.Prelude.{is_some}
use Rattle.std.specs.List.{AllByRecursion, list_any}
use Rattle.std.proofs.lemmas.List.{map-append, take_more}
use Rattle.px_forms.specs.Indexes.{IndexForm}
use Rattle.px_openbatches.specs.Pending.{applied_if}
use Rattle.px_values.specs.States.{RowState, Shape}
use Rattle.px_values.specs.declared.change.Change.{Change}
use Rattle.px_values.specs.declared.row.Value.{Value}
use Rattle.px_tables.specs.declared.table.Table.{Table}
use Rattle.px_values.specs.Limits.{most_key}
use Rattle.px_rows.specs.Keys.{row_key}
use Rattle.px_trail.specs.Batches.{rows_of}
use Rattle.px_group.specs.Group.{batch_in}
use Rattle.px_group.specs.declared.group.Begun.{Begun}
use Rattle.px_group.specs.declared.group.IndexRegion.{IndexRegion}
use Rattle.px_phases.specs.Batch.{BatchData, is_left_in, left_in, pending_state}
use Rattle.px_phases.specs.Begun.{AreFrom}
use Rattle.px_phases.specs.Phases.{AreTransitions, HasLongIndexed, IsTransition}
use Rattle.px_phases.specs.declared.transition.Transition.{Transition}
use Rattle.px_beginning.specs.Admits.{met_by}
use Rattle.px_beginning.specs.Faults.{HasLongIn, HasLongRow}
use Rattle.px_beginning.specs.Reads.{form_at, index_forms}

-- 1. Batches

pub pending_any : (ms : List Begun) (r : List Value) → list_any (λ m. is_some (left_in m.batch r)) ms ≡ is_left_in (map batch_in ms) r
pending_any [] r = refl
pending_any (m ∷ ms) r = λ i. is_some (left_in m.batch r) || pending_any ms r i

state_snoc : (sh : Shape) (r : List Value) (o : RowState) (bs : List BatchData) (b : BatchData) → pending_state sh r o (bs ++ b ∷ []) ≡ applied_if sh r (pending_state sh r o bs) (left_in b r)
state_snoc sh r o [] b = refl
state_snoc sh r o (x ∷ bs) b = state_snoc sh r (applied_if sh r o (left_in x r)) bs b

pub state_more : (sh : Shape) (r : List Value) (o : RowState) (ms : List Begun) (i : ℕ) (m : Begun) → i < length ms → m ≡ get_or ms i m → pending_state sh r o (map batch_in (take (i + 1) ms)) ≡ applied_if sh r (pending_state sh r o (map batch_in (take i ms))) (left_in m.batch r)
state_more sh r o ms i m l e =
    ap (λ (xs : List Begun). pending_state sh r o (map batch_in xs)) (take_more ms i m l)
    ∙ (ap (pending_state sh r o) (map-append batch_in (take i ms) (get_or ms i m ∷ []))
    ∙ (state_snoc sh r o (map batch_in (take i ms)) (get_or ms i m).batch ∙ ap (λ (x : Begun). applied_if sh r (pending_state sh r o (map batch_in (take i ms))) (left_in x.batch r)) (sym e)))

pub met_next : (f : Begun → Begun) (xs : List Begun) (i : ℕ) (d : Begun) → i < length xs → set (map f (take i xs) ++ drop i xs) i (f (get_or xs i d)) ≡ map f (take (suc i) xs) ++ drop (suc i) xs
met_next f [] i d l = absurd (omega arith)
met_next f (x ∷ xs) zero d l = refl
met_next f (x ∷ xs) (suc i) d l = ap (λ (ys : List Begun). f x ∷ ys) (met_next f xs i d (omega arith))

pub met_here : (f : Begun → Begun) (xs : List Begun) (i : ℕ) (d : Begun) → i < length xs → get_or (map f (take i xs) ++ drop i xs) i d ≡ get_or xs i d
met_here f [] i d l = absurd (omega arith)
met_here f (x ∷ xs) zero d l = refl
met_here f (x ∷ xs) (suc i) d l = met_here f xs i d (omega arith)

pub met_is : (cs : List Change) (m : Begun) (b : BatchData) → b ≡ (met_by cs m).batch → record m { batch = b } ≡ met_by cs m
met_is cs m b e = λ j. record m { batch = e j }

-- 2. Indexes

pub kept_more : {A : Type 0} (g : IndexForm → A) (t : Table) (is : List IndexRegion) (i : ℕ) (x : IndexRegion) → i < length is → x ≡ get_or is i x → map g (index_forms t (take (i + 1) is)) ≡ map g (index_forms t (take i is)) ++ g (form_at t x) ∷ []
kept_more g t is i x l e =
    ap (λ (xs : List IndexRegion). map g (index_forms t xs)) (take_more is i x l)
    ∙ (ap (map g) (map-append (form_at t) (take i is) (get_or is i x ∷ []))
    ∙ (map-append g (index_forms t (take i is)) (form_at t (get_or is i x) ∷ []) ∙ ap (λ (y : IndexRegion). map g (index_forms t (take i is)) ++ g (form_at t y) ∷ []) (sym e)))

pub all_more : {A : Type 0} (P : A → Type 0) (xs : List A) (i : ℕ) (x : A) → i < length xs → x ≡ get_or xs i x → AllByRecursion P (take i xs) → P x → AllByRecursion P (take (i + 1) xs)
all_more {A = A} P xs i x l e a p = subst (AllByRecursion P) (sym (take_more xs i x l)) (end (take i xs) a (subst P e p))
  where
    end : (ys : List A) → AllByRecursion P ys → P (get_or xs i x) → AllByRecursion P (ys ++ get_or xs i x ∷ [])
    end [] a q = (q, tt)
    end (y ∷ ys) a q = (a.0, end ys a.1 q)

pub long_in_at : (t : Table) (is : List IndexRegion) (n : ℕ) (x : IndexRegion) (cs : List Change) (xs : List Transition) → n < length is → x ≡ get_or is n x → HasLongIndexed t x.index cs xs → HasLongIn t is cs xs
long_in_at t [] n x cs xs l e h = absurd (omega arith)
long_in_at t (y ∷ is) zero x cs xs l e h = inl (subst (λ (z : IndexRegion). HasLongIndexed t z.index cs xs) e h)
long_in_at t (y ∷ is) (suc n) x cs xs l e h = inr (long_in_at t is n x cs xs (omega arith) e h)

-- 3. Rows

pub rows_more : {A : Type 0} (f : List Value → A) (cs : List Change) (n : ℕ) (c : Change) → n < length cs → c ≡ get_or cs n c → map f (rows_of (take (n + 1) cs)) ≡ map f (rows_of (take n cs)) ++ f c.row ∷ []
rows_more f cs n c l e =
    ap (λ (xs : List Change). map f (rows_of xs)) (take_more cs n c l)
    ∙ (ap (map f) (map-append (λ (x : Change). x.row) (take n cs) (get_or cs n c ∷ []))
    ∙ (map-append f (rows_of (take n cs)) ((get_or cs n c).row ∷ []) ∙ ap (λ (x : Change). map f (rows_of (take n cs)) ++ f x.row ∷ []) (sym e)))

pub long_row_at : (t : Table) (cs : List Change) (n : ℕ) (c : Change) → n < length cs → c ≡ get_or cs n c → most_key < length (row_key t c.row) → HasLongRow t cs
long_row_at t [] n c l e h = absurd (omega arith)
long_row_at t (x ∷ cs) zero c l e h = inl (subst (λ (z : Change). most_key < length (row_key t z.row)) e h)
long_row_at t (x ∷ cs) (suc n) c l e h = inr (long_row_at t cs n c (omega arith) e h)

transitions_end : (t : Table) (cs : List Change) (xs : List Transition) (c : Change) (x : Transition) → AreTransitions t cs xs → IsTransition t c x → AreTransitions t (cs ++ c ∷ []) (xs ++ x ∷ [])
transitions_end t [] [] c x a p = (p, tt)
transitions_end t [] (y ∷ xs) c x a p = absurd a
transitions_end t (d ∷ cs) [] c x a p = absurd a
transitions_end t (d ∷ cs) (y ∷ xs) c x a p = (a.0, transitions_end t cs xs c x a.1 p)

from_end : (t : Table) (old : List Value → RowState) (cs : List Change) (xs : List Transition) (c : Change) (x : Transition) → AreTransitions t cs xs → AreFrom old cs xs → old c.row ≡ x.old → AreFrom old (cs ++ c ∷ []) (xs ++ x ∷ [])
from_end t old [] [] c x a f p = (p, tt)
from_end t old [] (y ∷ xs) c x a f p = absurd a
from_end t old (d ∷ cs) [] c x a f p = absurd a
from_end t old (d ∷ cs) (y ∷ xs) c x a f p = (f.0, from_end t old cs xs c x a.1 f.1 p)

pub transitions_more : (t : Table) (cs : List Change) (n : ℕ) (c : Change) (xs : List Transition) (x : Transition) → n < length cs → c ≡ get_or cs n c → AreTransitions t (take n cs) xs → IsTransition t c x → AreTransitions t (take (n + 1) cs) (xs ++ x ∷ [])
transitions_more t cs n c xs x l e a p = subst (λ (ds : List Change). AreTransitions t ds (xs ++ x ∷ [])) (ap (λ (d : Change). take n cs ++ d ∷ []) e ∙ sym (take_more cs n c l)) (transitions_end t (take n cs) xs c x a p)

pub from_more : (t : Table) (old : List Value → RowState) (cs : List Change) (n : ℕ) (c : Change) (xs : List Transition) (x : Transition) → n < length cs → c ≡ get_or cs n c → AreTransitions t (take n cs) xs → AreFrom old (take n cs) xs → old c.row ≡ x.old → AreFrom old (take (n + 1) cs) (xs ++ x ∷ [])
from_more t old cs n c xs x l e a f p = subst (λ (ds : List Change). AreFrom old ds (xs ++ x ∷ [])) (ap (λ (d : Change). take n cs ++ d ∷ []) e ∙ sym (take_more cs n c l)) (from_end t old (take n cs) xs c x a f p)
