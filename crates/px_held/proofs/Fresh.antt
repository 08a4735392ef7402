-- A fresh row has NULL outside its key.
use Rattle.std.proofs.Common.{◌≡◌, ℕ, zero, suc, Bool, true, false, not, ◌==◌, ◌||◌, List, [], ◌∷◌, set, get_or, map, refl, sym, ◌∙◌, ap}
use Rattle.std.specs.Prelude.{filter, replicate}
use Rattle.std.specs.List.{list_any, range_with_len}
use Rattle.std.proofs.lemmas.Bool.{eq-eqb, eqb-false, eqb-true}
use Rattle.std.proofs.lemmas.List.{get_or-set_other, set-get_or}
use Rattle.px_values.specs.declared.row.Value.{Value}
use Rattle.px_values.specs.declared.row.Value.TheVariants.{Null}
use Rattle.px_values.specs.States.{Shape, assigned, fresh_row, with_values}
use Rattle.px_held.specs.Merged.{is_of_key, null, nulls}

null-at : (n i : ℕ) → get_or (replicate n Null) i Null ≡ Null
null-at zero i = refl
null-at (suc n) zero = refl
null-at (suc n) (suc i) = null-at n i

neither : (a b : Bool) → (a || b) ≡ false → (a ≡ false) × (b ≡ false)
neither true b e = absurd cc
neither false b e = (refl, e)

-- the values of a key stand in its columns alone
outside-key : (columns : List ℕ) (key row : List Value) (i : ℕ) → is_of_key columns i ≡ false → get_or row i Null ≡ Null → get_or (with_values columns key row) i Null ≡ Null
outside-key [] key row i out is = is
outside-key (c ∷ columns) [] row i out is = is
outside-key (c ∷ columns) (v ∷ key) row i out is =
    let both = neither (c == i) (is_of_key columns i) out in
    outside-key columns key (set row c v) i both.1 (get_or-set_other row c i v Null (λ e. eqb-false c i both.0 (sym e)) ∙ is)

either-left : (a b : Bool) → a ≡ true → (a || b) ≡ true
either-left a b e = rw e refl

either-right : (a b : Bool) → b ≡ true → (a || b) ≡ true
either-right true b e = refl
either-right false b e = e

-- NULL is put where it stands
null-over : (row : List Value) (columns : List ℕ) → ((i : ℕ) → list_any (λ c. c == i) columns ≡ true → get_or row i Null ≡ Null) → assigned row (map null columns) ≡ row
null-over row [] all = refl
null-over row (c ∷ columns) all =
    let here : set row c Null ≡ row = ap (set row c) (sym (all c (either-left (c == c) (list_any (λ d. d == c) columns) (eq-eqb c c refl)))) ∙ set-get_or row c Null in
    ap (λ r. assigned r (map null columns)) here ∙ null-over row columns (λ i named. all i (either-right (c == i) (list_any (λ d. d == i) columns) named))

-- what is left of columns passes the test
kept-at : (p : ℕ → Bool) (i c : ℕ) (columns : List ℕ) (v : Bool) → p c ≡ v → list_any (λ d. d == i) (filter p (c ∷ columns)) ≡ true
    → (list_any (λ d. d == i) (filter p columns) ≡ true → p i ≡ true) → p i ≡ true
kept-at p i c columns false e named rest = rest (rw e at named)
kept-at p i c columns true e named rest = here (c == i) refl (rw e at named)
  where
    here : (b : Bool) → (c == i) ≡ b → ((c == i) || list_any (λ d. d == i) (filter p columns)) ≡ true → p i ≡ true
    here true q n = ap p (sym (eqb-true c i q)) ∙ e
    here false q n = rest (rw q at n)

kept : (p : ℕ → Bool) (i : ℕ) (columns : List ℕ) → list_any (λ d. d == i) (filter p columns) ≡ true → p i ≡ true
kept p i [] named = absurd cc
kept p i (c ∷ columns) named = kept-at p i c columns (p c) refl named (kept p i columns)

negated : (b : Bool) → not b ≡ true → b ≡ false
negated true e = absurd cc
negated false e = refl

pub fresh-nulls : (shape : Shape) (key : List Value) → assigned (fresh_row shape key) (nulls shape) ≡ fresh_row shape key
fresh-nulls shape key = null-over (fresh_row shape key) (filter (λ c. not (is_of_key shape.key_columns c)) (range_with_len 0 shape.columns))
    (λ i named. outside-key shape.key_columns key (replicate shape.columns Null) i
    (negated (is_of_key shape.key_columns i) (kept (λ c. not (is_of_key shape.key_columns c)) i (range_with_len 0 shape.columns) named)) (null-at shape.columns i))
