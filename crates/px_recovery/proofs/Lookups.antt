-- What is found by its number after a definition or a drop.
use Rattle.std.proofs.Common.{◌≡◌, ◌≢◌, inl, inr, ℕ, Bool, true, false, Some, None, List, [], ◌∷◌, refl, sym, ap, subst, ◌∙◌}
use Rattle.std.specs.Prelude.{if◌then◌else◌, not, ◌==◌}
use Rattle.std.proofs.lemmas.Bool.{cases_Bool, cases_eq, eq-eqb, eqb-true, ne_eqb}
use Rattle.px_outside.specs.Parts.{AreDistinct, HasNone}
use Rattle.px_tables.specs.declared.index.Index.{Index}
use Rattle.px_tables.specs.declared.table.Table.{Table}
use Rattle.px_trail.specs.Trail.{of_others}
use Rattle.px_schema.specs.Stands.{of_other_tables, other_tables, put_table}
use Rattle.px_recovery.specs.Tables.{index_in, indexes_of, number_of_index, table_in}

-- ---- tables

table_first : (x : Table) (xs : List Table) (q : ℕ) → x.id.0 ≡ q → table_in (x ∷ xs) q ≡ Some x
unfolding table_in
table_first x xs q same = rw (eq-eqb x.id.0 q same) refl

table_later : (x : Table) (xs : List Table) (q : ℕ) → x.id.0 ≢ q → table_in (x ∷ xs) q ≡ table_in xs q
unfolding table_in
table_later x xs q other = rw (ne_eqb x.id.0 q other) refl

put_if : (x y : Table) (xs : List Table) (c : Bool) → (x.id.0 == y.id.0) ≡ c → put_table (x ∷ xs) y ≡ (if c then y ∷ xs else x ∷ put_table xs y)
put_if x y xs c is = ap (λ (b : Bool). if b then y ∷ xs else x ∷ put_table xs y) is

pub table_put_here : (ts : List Table) (y : Table) (q : ℕ) → y.id.0 ≡ q → table_in (put_table ts y) q ≡ Some y
table_put_here [] y q same = table_first y [] q same
table_put_here (x ∷ xs) y q same = elim (cases_eq x.id.0 y.id.0) [
  | inl e ↦ ap (λ (l : List Table). table_in l q) (put_if x y xs true (eq-eqb x.id.0 y.id.0 e)) ∙ table_first y xs q same
  | inr e ↦ ap (λ (l : List Table). table_in l q) (put_if x y xs false (ne_eqb x.id.0 y.id.0 e)) ∙ (table_later x (put_table xs y) q (λ is. e (is ∙ sym same)) ∙ table_put_here xs y q same)
]

pub table_put_other : (ts : List Table) (y : Table) (q : ℕ) → y.id.0 ≢ q → table_in (put_table ts y) q ≡ table_in ts q
table_put_other [] y q other = table_later y [] q other
table_put_other (x ∷ xs) y q other = elim (cases_eq x.id.0 y.id.0) [
  | inl e ↦ ap (λ (l : List Table). table_in l q) (put_if x y xs true (eq-eqb x.id.0 y.id.0 e)) ∙ (table_later y xs q other ∙ sym (table_later x xs q (λ is. other (sym e ∙ is))))
  | inr e ↦ ap (λ (l : List Table). table_in l q) (put_if x y xs false (ne_eqb x.id.0 y.id.0 e)) ∙ (elim (cases_eq x.id.0 q) [
    | inl here ↦ table_first x (put_table xs y) q here ∙ sym (table_first x xs q here)
    | inr there ↦ table_later x (put_table xs y) q there ∙ (table_put_other xs y q other ∙ sym (table_later x xs q there))
  ])
]

drop_if : (x : Table) (xs : List Table) (n : ℕ) (c : Bool) → (x.id.0 == n) ≡ c → other_tables n (x ∷ xs) ≡ (if not c then x ∷ other_tables n xs else other_tables n xs)
drop_if x xs n c is = ap (λ (b : Bool). if not b then x ∷ other_tables n xs else other_tables n xs) is

pub table_dropped : (ts : List Table) (n q : ℕ) → n ≡ q → table_in (other_tables n ts) q ≡ None
unfolding table_in
table_dropped [] n q same = refl
table_dropped (x ∷ xs) n q same = elim (cases_eq x.id.0 n) [
  | inl e ↦ ap (λ (l : List Table). table_in l q) (drop_if x xs n true (eq-eqb x.id.0 n e)) ∙ table_dropped xs n q same
  | inr e ↦ ap (λ (l : List Table). table_in l q) (drop_if x xs n false (ne_eqb x.id.0 n e)) ∙ (table_later x (other_tables n xs) q (λ is. e (is ∙ sym same)) ∙ table_dropped xs n q same)
]

pub table_kept : (ts : List Table) (n q : ℕ) → n ≢ q → table_in (other_tables n ts) q ≡ table_in ts q
unfolding table_in
table_kept [] n q other = refl
table_kept (x ∷ xs) n q other = elim (cases_eq x.id.0 n) [
  | inl e ↦ ap (λ (l : List Table). table_in l q) (drop_if x xs n true (eq-eqb x.id.0 n e)) ∙ (table_kept xs n q other ∙ sym (table_later x xs q (λ is. other (sym e ∙ is))))
  | inr e ↦ ap (λ (l : List Table). table_in l q) (drop_if x xs n false (ne_eqb x.id.0 n e)) ∙ (elim (cases_eq x.id.0 q) [
    | inl here ↦ table_first x (other_tables n xs) q here ∙ sym (table_first x xs q here)
    | inr there ↦ table_later x (other_tables n xs) q there ∙ (table_kept xs n q other ∙ sym (table_later x xs q there))
  ])
]

-- ---- indexes

pub index_first : (x : Index) (xs : List Index) (q : ℕ) → x.id.0 ≡ q → index_in (x ∷ xs) q ≡ Some x
unfolding index_in
index_first x xs q same = rw (eq-eqb x.id.0 q same) refl

pub index_later : (x : Index) (xs : List Index) (q : ℕ) → x.id.0 ≢ q → index_in (x ∷ xs) q ≡ index_in xs q
unfolding index_in
index_later x xs q other = rw (ne_eqb x.id.0 q other) refl

pub index_none : (xs : List Index) (q : ℕ) → HasNone number_of_index q xs → index_in xs q ≡ None
unfolding index_in
index_none [] q none = refl
index_none (x ∷ xs) q none = index_later x xs q none.0 ∙ index_none xs q none.1

pub others_if : (t : ℕ) (x : Index) (xs : List Index) (c : Bool) → (x.table.0 == t) ≡ c → of_other_tables t (x ∷ xs) ≡ (if not c then x ∷ of_other_tables t xs else of_other_tables t xs)
others_if t x xs c is = ap (λ (b : Bool). if not b then x ∷ of_other_tables t xs else of_other_tables t xs) is

others_here : (t : ℕ) (x : Index) (c : Bool) → (x.table.0 == t) ≡ c → of_others t (Some x) ≡ (if c then None else Some x)
others_here t x c is = ap (λ (b : Bool). if b then None else Some x) is

-- of the indexes of other tables, where no two have one number
pub index_of_others : (t : ℕ) (is : List Index) (q : ℕ) → AreDistinct number_of_index is → index_in (of_other_tables t is) q ≡ of_others t (index_in is q)
unfolding index_in
index_of_others t [] q once = refl
index_of_others t (x ∷ xs) q once = elim (cases_Bool (x.table.0 == t)) [
  | inl its ↦ ap (λ (l : List Index). index_in l q) (others_if t x xs true its) ∙ (index_of_others t xs q once.1 ∙ elim (cases_eq x.id.0 q) [
    | inl here ↦ ap (of_others t) (index_none xs q (subst (λ (n : ℕ). HasNone number_of_index n xs) here once.0)) ∙ sym (ap (of_others t) (index_first x xs q here) ∙ others_here t x true its)
    | inr there ↦ ap (of_others t) (sym (index_later x xs q there))
  ])
  | inr others ↦ ap (λ (l : List Index). index_in l q) (others_if t x xs false others) ∙ elim (cases_eq x.id.0 q) [
    | inl here ↦ index_first x (of_other_tables t xs) q here ∙ sym (ap (of_others t) (index_first x xs q here) ∙ others_here t x false others)
    | inr there ↦ index_later x (of_other_tables t xs) q there ∙ (index_of_others t xs q once.1 ∙ ap (of_others t) (sym (index_later x xs q there)))
  ]
]

-- the indexes of a table stay where those of another are dropped
pub indexes_kept : (t q : ℕ) (is : List Index) → t ≢ q → indexes_of q (of_other_tables t is) ≡ indexes_of q is
indexes_kept t q [] other = refl
indexes_kept t q (x ∷ xs) other = elim (cases_Bool (x.table.0 == t)) [
  | inl its ↦
      ap (indexes_of q) (others_if t x xs true its)
      ∙ (indexes_kept t q xs other ∙ sym (ap (λ (b : Bool). if b then x ∷ indexes_of q xs else indexes_of q xs) (ne_eqb x.table.0 q (λ is. other (sym (eqb-true x.table.0 t its) ∙ is)))))
  | inr others ↦ ap (indexes_of q) (others_if t x xs false others) ∙ ap (λ (l : List Index). if x.table.0 == q then x ∷ l else l) (indexes_kept t q xs other)
]
