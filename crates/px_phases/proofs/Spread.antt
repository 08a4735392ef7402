-- No two cells of a row's marks, or of what closes them, have one place.
use Rattle.std.proofs.Common.{◌≡◌, ℕ, zero, suc, ◌<◌, ◌≤◌, Bool, true, false, cond, not, Option, Some, None, List, [], ◌∷◌, refl, ap, sym, ◌∙◌, arith}
use Rattle.std.specs.Prelude.{nat_eq}
use Rattle.std.specs.Cmp.Lexicographic.{pointwise}
use Rattle.std.specs.List.{AllByRecursion}
use Rattle.px_cells.specs.CellData.{CellData}
use Rattle.px_cells.specs.Order.{IsApart, SamePlace}
use Rattle.px_cells.proofs.Among.{all_has}
use Rattle.px_cells.proofs.Keys.{keys_differ}
use Rattle.px_forms.specs.Indexes.{IndexForm, IsPlaced}
use Rattle.px_indexrow.specs.Lists.{closes_of, column_cell, column_cells, family_if, left_key, marks_of, status_cell, status_if, version_if}
use Rattle.px_keptcells.proofs.Parts.{apart_join}
use Rattle.px_values.specs.States.{RowState}
use Rattle.px_values.specs.declared.row.Value.{Value}

column_at : (k : List ℕ) (s q : ℕ) (o : Option (List ℕ)) → ((column_cell k s q o).key ≡ k) × ((column_cell k s q o).qualifier ≡ q)
column_at k s q None = (refl, refl)
column_at k s q (Some v) = (refl, refl)

-- a cell of a version's columns has the version's key, and a column's qualifier
columns_at : (f : IndexForm) (k : List ℕ) (s : ℕ) (state : RowState) (m : ℕ) → AllByRecursion (λ c. (c.key ≡ k) × ((n : ℕ) × ((n < m) × (c.qualifier ≡ f.place n)))) (column_cells f k s state m)
unfolding column_cells
columns_at f k s state zero = tt
columns_at f k s state (suc m) = (((column_at k s (f.place m) (f.col state m)).0, (m, (omega arith, (column_at k s (f.place m) (f.col state m)).1))), wider m (column_cells f k s state m) (columns_at f k s state m))
  where
    wider : (m : ℕ) (cells : List CellData) → AllByRecursion (λ c. (c.key ≡ k) × ((n : ℕ) × ((n < m) × (c.qualifier ≡ f.place n)))) cells → AllByRecursion (λ c. (c.key ≡ k) × ((n : ℕ) × ((n < suc m) × (c.qualifier ≡ f.place n)))) cells
    wider m [] a = tt
    wider m (c ∷ cells) a = ((a.0.0, (a.0.1.0, ((let l = a.0.1.1.0 in omega arith), a.0.1.1.1))), wider m cells a.1)

-- what holds of all cells holds of them with a fact more
map_all : (P Q : CellData → Type 0) → ((c : CellData) → P c → Q c) → (cells : List CellData) → AllByRecursion P cells → AllByRecursion Q cells
map_all P Q f [] a = tt
map_all P Q f (c ∷ cells) a = (f c a.0, map_all P Q f cells a.1)

columns_apart : (f : IndexForm) → IsPlaced f → (k : List ℕ) (s : ℕ) (state : RowState) (m : ℕ) → m ≤ f.columns → IsApart (column_cells f k s state m)
unfolding column_cells
columns_apart f p k s state zero l = tt
columns_apart f p k s state (suc m) l = (
  map_all (λ c. (c.key ≡ k) × ((n : ℕ) × ((n < m) × (c.qualifier ≡ f.place n)))) (λ d. SamePlace (column_cell k s (f.place m) (f.col state m)) d → ⊥)
      (λ c a w. (let e : f.place m ≡ f.place a.1.0 = sym (column_at k s (f.place m) (f.col state m)).1 ∙ (w.qualifier ∙ a.1.1.1) in let n = a.1.1.0 in let q = p.apart m a.1.0 (omega arith) (omega arith) e in absurd (omega arith)))
      (column_cells f k s state m) (columns_at f k s state m),
  columns_apart f p k s state m (omega arith),
)

version_apart : (f : IndexForm) → IsPlaced f → (s byte : ℕ) (state : RowState) (o : Option (List ℕ)) → IsApart (version_if f s byte state o)
version_apart f p s byte state None = tt
version_apart f p s byte state (Some k) = (
  map_all (λ c. (c.key ≡ k) × ((n : ℕ) × ((n < f.columns) × (c.qualifier ≡ f.place n)))) (λ d. SamePlace (status_cell k s byte) d → ⊥)
      (λ c a w. (let l = p.above a.1.0 a.1.1.0 in let q = w.qualifier in let e = a.1.1.1 in absurd (omega arith)))
      (column_cells f k s state f.columns) (columns_at f k s state f.columns),
  columns_apart f p k s state f.columns (omega arith),
)

-- each cell stands at the key
abbrev IsAt : Option (List ℕ) → CellData → Type 0
IsAt o c = o ≡ Some c.key

version_at : (f : IndexForm) (s byte : ℕ) (state : RowState) (o : Option (List ℕ)) → AllByRecursion (IsAt o) (version_if f s byte state o)
version_at f s byte state None = tt
version_at f s byte state (Some k) = (refl, map_all (λ c. (c.key ≡ k) × ((n : ℕ) × ((n < f.columns) × (c.qualifier ≡ f.place n)))) (IsAt (Some k)) (λ c a. ap Some (sym a.0)) (column_cells f k s state f.columns) (columns_at f k s state f.columns))

status_at : (s byte : ℕ) (o : Option (List ℕ)) → AllByRecursion (IsAt o) (status_if s byte o)
status_at s byte None = tt
status_at s byte (Some k) = (refl, tt)

family_at : (s : ℕ) (o : Option (List ℕ)) → AllByRecursion (IsAt o) (family_if s o)
family_at s None = tt
family_at s (Some k) = (refl, tt)

status_apart : (s byte : ℕ) (o : Option (List ℕ)) → IsApart (status_if s byte o)
status_apart s byte None = tt
status_apart s byte (Some k) = (tt, tt)

family_apart : (s : ℕ) (o : Option (List ℕ)) → IsApart (family_if s o)
family_apart s None = tt
family_apart s (Some k) = (tt, tt)

-- a key that is left isn't the new one
left_differs : (old new : Option (List ℕ)) (k k' : List ℕ) → new ≡ Some k → left_key old new ≡ Some k' → k ≡ k' → ⊥
left_differs None new k k' e q z = cc
left_differs (Some a) None k k' e q z = cc
left_differs (Some a) (Some b) k k' e q z = by (pointwise nat_eq a b) refl q
  where
    by : (v : Bool) → pointwise nat_eq a b ≡ v → cond v None (Some a) ≡ Some k' → ⊥
    by true w u = cc
    by false w u = keys_differ a b a b refl refl (ap not w) (let x : a ≡ k' = cc in let y : b ≡ k = cc in x ∙ (sym z ∙ sym y))

pub marks_apart : (f : IndexForm) → IsPlaced f → (r : List Value) (s : ℕ) (old new : RowState) → IsApart (marks_of f r s old new)
marks_apart f p r s old new =
    (let n = f.key_of r new in
    let o = left_key (f.key_of r old) n in
    apart_join (version_if f s 2 new n) (status_if s 2 o) (version_apart f p s 2 new n) (status_apart s 2 o)
    (λ c d h k w. left_differs (f.key_of r old) n c.key d.key (all_has (IsAt n) (version_if f s 2 new n) c (version_at f s 2 new n) h) (all_has (IsAt o) (status_if s 2 o) d (status_at s 2 o) k) w.key))

pub closes_apart : (f : IndexForm) (r : List Value) (s : ℕ) (old new : RowState) → IsApart (closes_of f r s old new)
closes_apart f r s old new =
    (let n = f.key_of r new in
    let o = left_key (f.key_of r old) n in
    apart_join (status_if s 1 n) (family_if s o) (status_apart s 1 n) (family_apart s o)
    (λ c d h k w. left_differs (f.key_of r old) n c.key d.key (all_has (IsAt n) (status_if s 1 n) c (status_at s 1 n) h) (all_has (IsAt o) (family_if s o) d (family_at s o) k) w.key))
