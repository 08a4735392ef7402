-- What is read at each place.
use Rattle.std.proofs.Common.{◌≡◌, ℕ, Bool, true, false, cond, ◌&&◌, Option, Some, None, List, [], ◌∷◌, ◌++◌, inl, inr, refl, ap, sym, ◌∙◌}
use Rattle.std.proofs.lemmas.Slice.Eq.{bytes_eq-Decides}
use Rattle.std.proofs.lemmas.Bool.{cases_Bool, cond-true, cond-false, eqb-true, eq-eqb, and_parts, both_ways}
use Rattle.px_cells.specs.declared.kind.CellKind.{CellKind}
use Rattle.px_cells.specs.declared.kind.CellKind.TheVariants.{Put, Delete, DeleteFamilyVersion, DeleteColumn, DeleteFamily}
use Rattle.px_cells.specs.Kind.{code_of, kind_of_code}
use Rattle.px_cells.specs.CellData.{CellData}
use Rattle.px_cells.specs.Order.{SamePlace, Reads, ReadsSame}
use Rattle.px_cells.specs.Contents.{cell_of, stands_at, value_at, or_else, over_contents}

-- no two kinds have one code
pub kind_from_code : (a b : CellKind) → code_of a ≡ code_of b → a ≡ b
kind_from_code a b h = (let e : Some a ≡ Some b = sym (back a) ∙ (ap kind_of_code h ∙ back b) in cc)
  where
    back : (k : CellKind) → kind_of_code (code_of k) ≡ Some k
    back Put = refl
    back Delete = refl
    back DeleteFamilyVersion = refl
    back DeleteColumn = refl
    back DeleteFamily = refl

same_from_test : (k : List ℕ) (q s : ℕ) (d : CellKind) (v : List ℕ) (c : CellData) → stands_at k q s d c ≡ true → SamePlace c (cell_of k q s d v)
same_from_test k q s d v c h =
    let a = and_parts _ _ h in let b = and_parts _ _ a.1 in let e = and_parts _ _ b.1 in
    record { key = (bytes_eq-Decides c.key k).0 a.0; qualifier = eqb-true _ _ b.0; stamp = eqb-true _ _ e.0; kind = kind_from_code _ _ (eqb-true _ _ e.1) }

and_true : (a b : Bool) → a ≡ true → b ≡ true → (a && b) ≡ true
and_true true b h g = g
and_true false b h g = h

test_from_same : (k : List ℕ) (q s : ℕ) (d : CellKind) (v : List ℕ) (c : CellData) → SamePlace c (cell_of k q s d v) → stands_at k q s d c ≡ true
test_from_same k q s d v c h = and_true _ _ ((bytes_eq-Decides c.key k).1 h.key) (and_true _ _ (eq-eqb _ _ h.qualifier) (and_true _ _ (eq-eqb _ _ h.stamp) (eq-eqb _ _ (ap code_of h.kind))))

pub value_from_reads : (cells : List CellData) (k : List ℕ) (q s : ℕ) (d : CellKind) (v : List ℕ) → Reads cells (cell_of k q s d v) → value_at cells k q s d ≡ Some v
unfolding value_at
value_from_reads [] k q s d v h = absurd h
value_from_reads (c ∷ cells) k q s d v (inl e) =
    let t : stands_at k q s d c ≡ true = test_from_same k q s d v c (record { key = ap (λ (x : CellData). x.key) e; qualifier = ap (λ (x : CellData). x.qualifier) e; stamp = ap (λ (x : CellData). x.stamp) e; kind = ap (λ (x : CellData). x.kind) e }) in
    cond-true _ _ _ t ∙ ap (λ (x : CellData). Some x.value) e
value_from_reads (c ∷ cells) k q s d v (inr r) = elim (cases_Bool (stands_at k q s d c)) [
  | inl t ↦ absurd (r.0 (same_from_test k q s d v c t))
  | inr t ↦ cond-false _ _ _ t ∙ value_from_reads cells k q s d v r.1
]

pub reads_from_value : (cells : List CellData) (k : List ℕ) (q s : ℕ) (d : CellKind) (v : List ℕ) → value_at cells k q s d ≡ Some v → Reads cells (cell_of k q s d v)
unfolding value_at
reads_from_value [] k q s d v h = cc
reads_from_value (c ∷ cells) k q s d v h = elim (cases_Bool (stands_at k q s d c)) [
  | inl t ↦
      (let p = same_from_test k q s d v c t in
      let e : Some c.value ≡ Some v = sym (cond-true _ _ _ t) ∙ h in
      let u : c.value ≡ v = cc in
      inl (whole p.key p.qualifier p.stamp p.kind u))
  | inr t ↦ inr (λ p. both_ways _ t (test_from_same k q s d v c p), reads_from_value cells k q s d v (sym (cond-false _ _ _ t) ∙ h))
]
  where
    whole : c.key ≡ k → c.qualifier ≡ q → c.stamp ≡ s → c.kind ≡ d → c.value ≡ v → c ≡ cell_of k q s d v
    whole a b e f g = λ i. record { key = a i; qualifier = b i; stamp = e i; kind = f i; value = g i }

pub option_same : {A : Type 0} (a b : Option A) → ((v : A) → a ≡ Some v → b ≡ Some v) → ((v : A) → b ≡ Some v → a ≡ Some v) → a ≡ b
option_same None None f g = refl
option_same None (Some y) f g = g y refl
option_same (Some x) b f g = sym (f x refl)

-- lists that are read alike have the same values
pub same_values : (xs ys : List CellData) → ReadsSame xs ys → value_at xs ≡ value_at ys
same_values xs ys h = λ i k q s d. option_same (value_at xs k q s d) (value_at ys k q s d)
    (λ v e. value_from_reads ys k q s d v ((h (cell_of k q s d v)).0 (reads_from_value xs k q s d v e)))
    (λ v e. value_from_reads xs k q s d v ((h (cell_of k q s d v)).1 (reads_from_value ys k q s d v e))) i

cond_else : {A : Type 0} (b : Bool) (v : A) (o p : Option A) → cond b (Some v) (or_else o p) ≡ or_else (cond b (Some v) o) p
cond_else true v o p = refl
cond_else false v o p = refl

value_append : (xs ys : List CellData) (k : List ℕ) (q s : ℕ) (d : CellKind) → value_at (xs ++ ys) k q s d ≡ or_else (value_at xs k q s d) (value_at ys k q s d)
unfolding value_at
value_append [] ys k q s d = refl
value_append (c ∷ xs) ys k q s d = ap (cond (stands_at k q s d c) (Some c.value)) (value_append xs ys k q s d) ∙ cond_else (stands_at k q s d c) c.value (value_at xs k q s d) (value_at ys k q s d)

-- what stands first is read
pub values_append : (xs ys : List CellData) → value_at (xs ++ ys) ≡ over_contents (value_at xs) (value_at ys)
values_append xs ys = λ i k q s d. value_append xs ys k q s d i

-- a store after a batch
pub values_put : (batch old new : List CellData) → ReadsSame new (batch ++ old) → value_at new ≡ over_contents (value_at batch) (value_at old)
values_put batch old new h = same_values new (batch ++ old) h ∙ values_append batch old
