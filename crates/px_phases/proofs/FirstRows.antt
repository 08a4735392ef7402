-- What is made of the first rows, and of one more.
use Rattle.std.proofs.Common.{◌≡◌, ℕ, zero, suc, ◌+◌, ◌<◌, ◌⊎◌, true, List, [], ◌∷◌, ◌++◌, length, take, get_or, refl, ap, sym, ◌∙◌, subst, inl, inr, arith}
use Rattle.std.specs.List.{AllByRecursion}
use Rattle.px_cells.specs.CellData.{CellData}
use Rattle.px_cells.specs.Order.{IsApart}
use Rattle.px_forms.specs.Indexes.{IndexForm, IsIndexForm, IsPlaced}
use Rattle.px_batchcells.proofs.RowsMade.{closes_made, marks_made}
use Rattle.px_indexrow.proofs.StatesFit.{apply_fits}
use Rattle.px_indexrow.specs.Form.{FitsRowState, IsLongInIndex, IsRightIndex, index_form}
use Rattle.px_indexrow.specs.Lists.{closes_of, marks_of}
use Rattle.px_keptcells.specs.Kept.{HaveOtherKeys, IsFitting, laid}
use Rattle.px_openbatches.specs.Made.{IsCellOfRow}
use Rattle.px_rows.specs.Keys.{IsRightTable}
use Rattle.px_tables.specs.declared.index.Index.{Index}
use Rattle.px_tables.specs.declared.table.Table.{Table}
use Rattle.px_trail.specs.Batches.{is_distinct, rows_of}
use Rattle.px_trail.specs.Trail.{table_shape}
use Rattle.px_values.specs.declared.change.Change.{Change}
use Rattle.px_values.specs.declared.row.Value.{Value}
use Rattle.px_phases.specs.declared.transition.Transition.{Transition}
use Rattle.px_phases.specs.Phases.{AreTransitions, HasLongIndexed, IsTransition, close_parts, mark_parts}
use Rattle.px_phases.proofs.Rows.{AreTheirs, new_at, other_keys}
use Rattle.px_phases.proofs.Small.{IsSmall, closes_small, fitting, index_small, key_short, marks_small}
use Rattle.px_phases.proofs.Spread.{closes_apart, marks_apart}

pub same_count : (t : Table) (cs : List Change) (xs : List Transition) → AreTransitions t cs xs → length xs ≡ length cs
same_count t [] [] a = refl
same_count t [] (x ∷ xs) a = absurd a
same_count t (c ∷ cs) [] a = absurd a
same_count t (c ∷ cs) (x ∷ xs) a = ap suc (same_count t cs xs a.1)

pub transition_at : (t : Table) (cs : List Change) (xs : List Transition) → AreTransitions t cs xs → (n : ℕ) (c : Change) (x : Transition) → n < length cs → c ≡ get_or cs n c → x ≡ get_or xs n x → IsTransition t c x
transition_at t [] xs a n c x l e q = absurd (omega arith)
transition_at t (y ∷ cs) [] a n c x l e q = absurd a
transition_at t (y ∷ cs) (z ∷ xs) a zero c x l e q = subst (λ (w : Change). IsTransition t w x) (sym e) (subst (IsTransition t y) (sym q) a.0)
transition_at t (y ∷ cs) (z ∷ xs) a (suc n) c x l e q = transition_at t cs xs a.1 n c x (omega arith) e q

pub new_fits : (t : Table) (c : Change) (x : Transition) → IsRightTable t → IsTransition t c x → FitsRowState t x.new
new_fits t c x right w = subst (FitsRowState t) (sym w.new) (apply_fits t c.row x.old c.what right w.fits w.old)

module _ (f : IndexForm) (s : ℕ) where
  pub marks_next : (cs : List Change) (xs : List Transition) (n : ℕ) (c : Change) (x : Transition) → n < length cs → n < length xs → c ≡ get_or cs n c → x ≡ get_or xs n x → mark_parts f s (take (n + 1) cs) (take (n + 1) xs) ≡ mark_parts f s (take n cs) (take n xs) ++ marks_of f c.row s x.old x.new ∷ []
  marks_next [] xs n c x l m e q = absurd (omega arith)
  marks_next (y ∷ cs) [] n c x l m e q = absurd (omega arith)
  marks_next (y ∷ cs) (z ∷ xs) zero c x l m e q = λ i. marks_of f (sym e i).row s (sym q i).old (sym q i).new ∷ []
  marks_next (y ∷ cs) (z ∷ xs) (suc n) c x l m e q = ap (λ (k : ℕ). mark_parts f s (take k (y ∷ cs)) (take k (z ∷ xs))) (next n) ∙ ap (λ (p : List (List CellData)). marks_of f y.row s z.old z.new ∷ p) (marks_next cs xs n c x (omega arith) (omega arith) e q)
    where
      next : (n : ℕ) → suc n + 1 ≡ suc (n + 1)
      next n = omega arith

  pub closes_next : (cs : List Change) (xs : List Transition) (n : ℕ) (c : Change) (x : Transition) → n < length cs → n < length xs → c ≡ get_or cs n c → x ≡ get_or xs n x → close_parts f s (take (n + 1) cs) (take (n + 1) xs) ≡ close_parts f s (take n cs) (take n xs) ++ closes_of f c.row s x.old x.new ∷ []
  closes_next [] xs n c x l m e q = absurd (omega arith)
  closes_next (y ∷ cs) [] n c x l m e q = absurd (omega arith)
  closes_next (y ∷ cs) (z ∷ xs) zero c x l m e q = λ i. closes_of f (sym e i).row s (sym q i).old (sym q i).new ∷ []
  closes_next (y ∷ cs) (z ∷ xs) (suc n) c x l m e q = ap (λ (k : ℕ). close_parts f s (take k (y ∷ cs)) (take k (z ∷ xs))) (next n) ∙ ap (λ (p : List (List CellData)). closes_of f y.row s z.old z.new ∷ p) (closes_next cs xs n c x (omega arith) (omega arith) e q)
    where
      next : (n : ℕ) → suc n + 1 ≡ suc (n + 1)
      next n = omega arith

abbrev pub Owns : IndexForm → List Value → List ℕ → Type 0
Owns f r k = f.owns r k ≡ true

owned_of : (f : IndexForm) (r : List Value) (s : ℕ) (cells : List CellData) → AllByRecursion (IsCellOfRow f r s) cells → AllByRecursion (λ c. Owns f r c.key) cells
owned_of f r s [] a = tt
owned_of f r s (c ∷ cells) a = (a.0.owned, owned_of f r s cells a.1)

all_fitting : (f : IndexForm) (r : List Value) (s : ℕ) → s < 18446744073709551616 → (cells : List CellData) → AllByRecursion (IsCellOfRow f r s) cells → AllByRecursion IsSmall cells → AllByRecursion IsFitting cells
all_fitting f r s l [] a b = tt
all_fitting f r s l (c ∷ cells) a b = (fitting c a.0.placed b.0 (let e = a.0.stamp in omega arith), all_fitting f r s l cells a.1 b.1)

-- what a row's marks are, and what closes them
pub record IsGood (f : IndexForm) (r : List Value) (cells : List CellData) : Type 0 where
  pub fits : AllByRecursion IsFitting cells
  pub apart : IsApart cells
  pub own : AllByRecursion (λ c. Owns f r c.key) cells

module _ (t : Table) (i : Index) (s : ℕ) (table : IsRightTable t) (index : IsRightIndex t i) (form : IsIndexForm (index_form t i)) (placed : IsPlaced (index_form t i)) (low : s < 18446744073709551616) (c : Change) (x : Transition) (w : IsTransition t c x)
    (new : IsLongInIndex t i c.row x.new → ⊥) (old : IsLongInIndex t i c.row x.old → ⊥) where
  pub marks_good : IsGood (index_form t i) c.row (marks_of (index_form t i) c.row s x.old x.new)
  marks_good =
      (let m = marks_made (table_shape t) (index_form t i) form placed c.row s x.old x.new in
      record {
        fits = all_fitting (index_form t i) c.row s low (marks_of (index_form t i) c.row s x.old x.new) m.each (marks_small (index_form t i) c.row s x.old x.new (index_small t i x.new table.columns index (new_fits t c x table w)) (key_short t i c.row x.old old) (key_short t i c.row x.new new));
        apart = marks_apart (index_form t i) placed c.row s x.old x.new;
        own = owned_of (index_form t i) c.row s (marks_of (index_form t i) c.row s x.old x.new) m.each;
      })

  pub closes_good : IsGood (index_form t i) c.row (closes_of (index_form t i) c.row s x.old x.new)
  closes_good =
      (let m = closes_made (table_shape t) (index_form t i) form placed c.row s x.old x.new in
      record {
        fits = all_fitting (index_form t i) c.row s low (closes_of (index_form t i) c.row s x.old x.new) m.each (closes_small (index_form t i) c.row s x.old x.new (key_short t i c.row x.old old) (key_short t i c.row x.new new));
        apart = closes_apart (index_form t i) c.row s x.old x.new;
        own = owned_of (index_form t i) c.row s (closes_of (index_form t i) c.row s x.old x.new) m.each;
      })

-- the first rows' cells are their own
marks_own : (f : IndexForm) (s : ℕ) → IsIndexForm f → IsPlaced f → (t : Table) (cs : List Change) (xs : List Transition) → AreTransitions t cs xs → (n : ℕ) → AreTheirs (Owns f) (rows_of (take n cs)) (mark_parts f s (take n cs) (take n xs))
marks_own f s g p t [] xs a zero = tt
marks_own f s g p t [] xs a (suc n) = tt
marks_own f s g p t (c ∷ cs) [] a n = absurd a
marks_own f s g p t (c ∷ cs) (x ∷ xs) a zero = tt
marks_own f s g p t (c ∷ cs) (x ∷ xs) a (suc n) = (owned_of f c.row s (marks_of f c.row s x.old x.new) (marks_made (table_shape t) f g p c.row s x.old x.new).each, marks_own f s g p t cs xs a.1 n)

closes_own : (f : IndexForm) (s : ℕ) → IsIndexForm f → IsPlaced f → (t : Table) (cs : List Change) (xs : List Transition) → AreTransitions t cs xs → (n : ℕ) → AreTheirs (Owns f) (rows_of (take n cs)) (close_parts f s (take n cs) (take n xs))
closes_own f s g p t [] xs a zero = tt
closes_own f s g p t [] xs a (suc n) = tt
closes_own f s g p t (c ∷ cs) [] a n = absurd a
closes_own f s g p t (c ∷ cs) (x ∷ xs) a zero = tt
closes_own f s g p t (c ∷ cs) (x ∷ xs) a (suc n) = (owned_of f c.row s (closes_of f c.row s x.old x.new) (closes_made (table_shape t) f g p c.row s x.old x.new).each, closes_own f s g p t cs xs a.1 n)

module _ (f : IndexForm) (s : ℕ) (g : IsIndexForm f) (p : IsPlaced f) (t : Table) (cs : List Change) (xs : List Transition) (d : is_distinct (rows_of cs) ≡ true) (a : AreTransitions t cs xs) (n : ℕ) (c : Change) (l : n < length cs) (e : c ≡ get_or cs n c) (cells : List CellData) (own : AllByRecursion (λ (z : CellData). Owns f c.row z.key) cells) where
  pub marks_elsewhere : HaveOtherKeys (laid (mark_parts f s (take n cs) (take n xs))) cells
  marks_elsewhere = other_keys (Owns f) g.apart (rows_of (take n cs)) (mark_parts f s (take n cs) (take n xs)) (marks_own f s g p t cs xs a n) c.row (new_at cs n c d l e) cells own

  pub closes_elsewhere : HaveOtherKeys (laid (close_parts f s (take n cs) (take n xs))) cells
  closes_elsewhere = other_keys (Owns f) g.apart (rows_of (take n cs)) (close_parts f s (take n cs) (take n xs)) (closes_own f s g p t cs xs a n) c.row (new_at cs n c d l e) cells own

-- keys that are too long
pub long_at : (t : Table) (i : Index) (cs : List Change) (xs : List Transition) (n : ℕ) (c : Change) (x : Transition) → n < length cs → n < length xs → c ≡ get_or cs n c → x ≡ get_or xs n x → IsLongInIndex t i c.row x.new ⊎ IsLongInIndex t i c.row x.old → HasLongIndexed t i cs xs
long_at t i [] xs n c x l m e q h = absurd (omega arith)
long_at t i (y ∷ cs) [] n c x l m e q h = absurd (omega arith)
long_at t i (y ∷ cs) (z ∷ xs) zero c x l m e q h = inl (subst (λ (w : Change). IsLongInIndex t i w.row z.new ⊎ IsLongInIndex t i w.row z.old) e (subst (λ (w : Transition). IsLongInIndex t i c.row w.new ⊎ IsLongInIndex t i c.row w.old) q h))
long_at t i (y ∷ cs) (z ∷ xs) (suc n) c x l m e q h = inr (long_at t i cs xs n c x (omega arith) (omega arith) e q h)

pub long_next : (t : Table) (i : Index) (cs : List Change) (xs : List Transition) (n : ℕ) (c : Change) (x : Transition) → n < length cs → n < length xs → c ≡ get_or cs n c → x ≡ get_or xs n x → HasLongIndexed t i (take (n + 1) cs) (take (n + 1) xs) → (HasLongIndexed t i (take n cs) (take n xs) → ⊥) → IsLongInIndex t i c.row x.new ⊎ IsLongInIndex t i c.row x.old
long_next t i [] xs n c x l m e q h none = absurd (omega arith)
long_next t i (y ∷ cs) [] n c x l m e q h none = absurd (omega arith)
long_next t i (y ∷ cs) (z ∷ xs) zero c x l m e q h none = by h
  where
    by : HasLongIndexed t i (take (0 + 1) (y ∷ cs)) (take (0 + 1) (z ∷ xs)) → IsLongInIndex t i c.row x.new ⊎ IsLongInIndex t i c.row x.old
    by (inl k) = subst (λ (w : Change). IsLongInIndex t i w.row x.new ⊎ IsLongInIndex t i w.row x.old) (sym e) (subst (λ (w : Transition). IsLongInIndex t i y.row w.new ⊎ IsLongInIndex t i y.row w.old) (sym q) k)
    by (inr k) = absurd k
long_next t i (y ∷ cs) (z ∷ xs) (suc n) c x l m e q h none = by (subst (λ (k : ℕ). HasLongIndexed t i (take k (y ∷ cs)) (take k (z ∷ xs))) (next n) h) (λ k. long_next t i cs xs n c x (omega arith) (omega arith) e q k (λ w. none (inr w))) (λ k. none (inl k))
  where
    next : (n : ℕ) → suc n + 1 ≡ suc (n + 1)
    next n = omega arith

    by : (IsLongInIndex t i y.row z.new ⊎ IsLongInIndex t i y.row z.old) ⊎ HasLongIndexed t i (take (n + 1) cs) (take (n + 1) xs) → (HasLongIndexed t i (take (n + 1) cs) (take (n + 1) xs) → IsLongInIndex t i c.row x.new ⊎ IsLongInIndex t i c.row x.old) → (IsLongInIndex t i y.row z.new ⊎ IsLongInIndex t i y.row z.old → ⊥) → IsLongInIndex t i c.row x.new ⊎ IsLongInIndex t i c.row x.old
    by (inl k) f g = absurd (g k)
    by (inr k) f g = f k
