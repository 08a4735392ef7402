-- Assignments one after another.
use Rattle.std.proofs.Common.{◌≡◌, ◌≢◌, ℕ, zero, suc, Bool, true, false, ◌==◌, ◌||◌, ◌++◌, List, [], ◌∷◌, set, refl, sym, ◌∙◌, ap}
use Rattle.std.proofs.lemmas.Bool.{eqb-true, eqb-false}
use Rattle.px_values.specs.declared.change.Assignment.{Assignment}
use Rattle.px_values.specs.declared.row.Value.{Value}
use Rattle.px_values.specs.States.{assigned}
use Rattle.px_held.specs.Merged.{assigns_column, joined_assignments, unnamed}

pub set-twice : {A : Type 0} (l : List A) (i : ℕ) (x y : A) → set (set l i x) i y ≡ set l i y
set-twice [] i x y = refl
set-twice (a ∷ l) zero x y = refl
set-twice (a ∷ l) (suc i) x y = ap (λ t. a ∷ t) (set-twice l i x y)

pub set-swap : {A : Type 0} (l : List A) (i j : ℕ) (x y : A) → i ≢ j → set (set l i x) j y ≡ set (set l j y) i x
set-swap [] i j x y other = refl
set-swap (a ∷ l) zero zero x y other = absurd (other refl)
set-swap (a ∷ l) zero (suc j) x y other = refl
set-swap (a ∷ l) (suc i) zero x y other = refl
set-swap (a ∷ l) (suc i) (suc j) x y other = ap (λ t. a ∷ t) (set-swap l i j x y (λ e. other (ap suc e)))

over-at : (row : List Value) (c : ℕ) (v : Value) (y : Assignment) (ys : List Assignment) (b : Bool) → (y.column == c) ≡ b → assigns_column (y ∷ ys) c ≡ true
    → (assigns_column ys c ≡ true → (r : List Value) → assigned (set r c v) ys ≡ assigned r ys) → assigned (set row c v) (y ∷ ys) ≡ assigned row (y ∷ ys)
over-at row c v y ys true e named rest = ap (λ i. assigned (set (set row i v) y.column y.value) ys) (sym (eqb-true y.column c e)) ∙ ap (λ r. assigned r ys) (set-twice row y.column v y.value)
over-at row c v y ys false e named rest =
    ap (λ r. assigned r ys) (set-swap row c y.column v y.value (λ q. eqb-false y.column c e (sym q))) ∙ rest (rw e at named) (set row y.column y.value)

-- what is assigned later to the same column stays
over : (c : ℕ) (v : Value) (ys : List Assignment) → assigns_column ys c ≡ true → (row : List Value) → assigned (set row c v) ys ≡ assigned row ys
over c v [] named row = absurd cc
over c v (y ∷ ys) named row = over-at row c v y ys (y.column == c) refl named (over c v ys)

names-behind : (xs ys : List Assignment) (c : ℕ) → assigns_column ys c ≡ true → assigns_column (xs ++ ys) c ≡ true
names-behind [] ys c named = named
names-behind (x ∷ xs) ys c named = either (x.column == c) (assigns_column (xs ++ ys) c) (names-behind xs ys c named)
  where
    either : (a b : Bool) → b ≡ true → (a || b) ≡ true
    either true b e = refl
    either false b e = e

joined-at : (row : List Value) (x : Assignment) (earlier later : List Assignment) (b : Bool) → assigns_column later x.column ≡ b → ((r : List Value) → assigned (assigned r earlier) later ≡ assigned r (joined_assignments earlier later))
    → assigned (assigned row (x ∷ earlier)) later ≡ assigned row (joined_assignments (x ∷ earlier) later)
joined-at row x earlier later true e rest =
    rest (set row x.column x.value) ∙ (over x.column x.value (joined_assignments earlier later) (names-behind (unnamed earlier later) later x.column e) row ∙ rw e refl)
joined-at row x earlier later false e rest = rest (set row x.column x.value) ∙ rw e refl

-- joined assignments do what they do one after another
pub joined-assigned : (earlier later : List Assignment) (row : List Value) → assigned (assigned row earlier) later ≡ assigned row (joined_assignments earlier later)
joined-assigned [] later row = refl
joined-assigned (x ∷ earlier) later row = joined-at row x earlier later (assigns_column later x.column) refl (joined-assigned earlier later)
