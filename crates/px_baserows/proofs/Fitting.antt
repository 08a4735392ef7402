-- The cells of a version are such as a log takes, no two of them have one place, and they stand at its key with its stamp.
use Rattle.std.proofs.Common.{◌≡◌, ℕ, zero, suc, ◌<◌, ◌≤◌, Option, Some, None, List, [], ◌∷◌, length, refl, ap, sym, ◌∙◌, arith}
use Rattle.std.specs.List.{AllByRecursion}
use Rattle.px_cells.specs.CellData.{CellData}
use Rattle.px_cells.specs.Order.{IsApart, SamePlace}
use Rattle.px_forms.specs.Indexes.{IndexForm, IsPlaced}
use Rattle.px_indexrow.specs.Form.{FitsRowState, IsRightIndex, index_form}
use Rattle.px_indexrow.specs.Lists.{column_cell, column_cells, status_cell, version_cells}
use Rattle.px_indexrow.proofs.KeysHeld.{form_placed}
use Rattle.px_keptcells.specs.Kept.{IsFitting}
use Rattle.px_phases.proofs.Small.{HasSmall, fitting, index_small}
use Rattle.px_tables.specs.declared.index.Index.{Index}
use Rattle.px_tables.specs.declared.table.Table.{Table}
use Rattle.px_values.specs.States.{RowState}

-- ---- one column

-- it stands at the key, with the stamp, at the place of one of the first so many columns
record IsColumn (f : IndexForm) (k : List ℕ) (s n : ℕ) (c : CellData) : Type 0 where
  key : c.key ≡ k
  stamp : c.stamp ≡ s
  column : ℕ
  below : column < n
  place : c.qualifier ≡ f.place column

column_is : (f : IndexForm) (k : List ℕ) (s n : ℕ) (o : Option (List ℕ)) → IsColumn f k s (suc n) (column_cell k s (f.place n) o)
column_is f k s n None = record { key = refl; stamp = refl; column = n; below = omega arith; place = refl }
column_is f k s n (Some v) = record { key = refl; stamp = refl; column = n; below = omega arith; place = refl }

column_place : (k : List ℕ) (s q : ℕ) (o : Option (List ℕ)) → (column_cell k s q o).qualifier ≡ q
column_place k s q None = refl
column_place k s q (Some v) = refl

column_fits : (k : List ℕ) (s q : ℕ) → length k ≤ 1024 → q ≤ 255 → 2 ≤ q → s < 18446744073709551616 → (o : Option (List ℕ)) → ((v : List ℕ) → o ≡ Some v → length v ≤ 65535) → IsFitting (column_cell k s q o)
column_fits k s q l m p stamp None short = fitting (column_cell k s q None) ((λ e. cc), (λ e. absurd (omega arith))) (record { bare = λ n. refl; key = l; value = omega arith; qualifier = m }) stamp
column_fits k s q l m p stamp (Some v) short = fitting (column_cell k s q (Some v)) ((λ e. cc), (λ e. absurd (omega arith))) (record { bare = λ n. absurd (n refl); key = l; value = short v refl; qualifier = m }) stamp

-- ---- all columns

pub all_more : {A : Type 0} (P Q : A → Type 0) → ((x : A) → P x → Q x) → (xs : List A) → AllByRecursion P xs → AllByRecursion Q xs
all_more P Q on [] a = tt
all_more P Q on (x ∷ xs) a = (on x a.0, all_more P Q on xs a.1)

columns_are : (f : IndexForm) (k : List ℕ) (s : ℕ) (state : RowState) (n : ℕ) → AllByRecursion (IsColumn f k s n) (column_cells f k s state n)
unfolding column_cells
columns_are f k s state zero = tt
columns_are f k s state (suc n) = (column_is f k s n (f.col state n), all_more (IsColumn f k s n) (IsColumn f k s (suc n)) (λ c a. record { key = a.key; stamp = a.stamp; column = a.column; below = (let l = a.below in omega arith); place = a.place }) (column_cells f k s state n) (columns_are f k s state n))

columns_fit : (f : IndexForm) → IsPlaced f → (k : List ℕ) (s : ℕ) (state : RowState) → length k ≤ 1024 → s < 18446744073709551616 → HasSmall f state → (n : ℕ) → n ≤ f.columns → AllByRecursion IsFitting (column_cells f k s state n)
unfolding column_cells
columns_fit f placed k s state l stamp small zero m = tt
columns_fit f placed k s state l stamp small (suc n) m = (column_fits k s (f.place n) l (small.place n (omega arith)) (placed.above n (omega arith)) stamp (f.col state n) (λ v e. small.value n v (omega arith) e), columns_fit f placed k s state l stamp small n (omega arith))

columns_apart : (f : IndexForm) → IsPlaced f → (k : List ℕ) (s : ℕ) (state : RowState) (n : ℕ) → n ≤ f.columns → IsApart (column_cells f k s state n)
unfolding column_cells
columns_apart f placed k s state zero m = tt
columns_apart f placed k s state (suc n) m = (
  all_more (IsColumn f k s n) (λ d. SamePlace (column_cell k s (f.place n) (f.col state n)) d → ⊥)
      (λ c a same. (let e : f.place n ≡ f.place a.column = sym (column_place k s (f.place n) (f.col state n)) ∙ (same.qualifier ∙ a.place) in
      let l = a.below in
      let q = placed.apart n a.column (omega arith) (omega arith) e in absurd (omega arith)))
      (column_cells f k s state n) (columns_are f k s state n),
  columns_apart f placed k s state n (omega arith),
)

-- ---- a version

-- it stands at the key with the stamp
abbrev pub IsOf : List ℕ → ℕ → CellData → Type 0
IsOf k s c = (c.key ≡ k) × (c.stamp ≡ s)

pub version_of : (f : IndexForm) (k : List ℕ) (s byte : ℕ) (state : RowState) → AllByRecursion (IsOf k s) (version_cells f k s byte state)
version_of f k s byte state = ((refl, refl), all_more (IsColumn f k s f.columns) (IsOf k s) (λ c a. (a.key, a.stamp)) (column_cells f k s state f.columns) (columns_are f k s state f.columns))

columns_count : (f : IndexForm) (k : List ℕ) (s : ℕ) (state : RowState) (n : ℕ) → length (column_cells f k s state n) ≡ n
unfolding column_cells
columns_count f k s state zero = refl
columns_count f k s state (suc n) = ap suc (columns_count f k s state n)

pub version_count : (f : IndexForm) (k : List ℕ) (s byte : ℕ) (state : RowState) → length (version_cells f k s byte state) ≡ suc f.columns
version_count f k s byte state = ap suc (columns_count f k s state f.columns)

module _ (t : Table) (x : Index) (most : length t.columns ≤ 254) (right : IsRightIndex t x) (state : RowState) (fits : FitsRowState t state) (k : List ℕ) (short : length k ≤ 1024) (s : ℕ) (stamp : s < 18446744073709551616) where
  abbrev f : IndexForm
  f = index_form t x

  placed : IsPlaced f
  placed = form_placed t x right

  small : HasSmall f state
  small = index_small t x state most right fits

  pub version_fits : AllByRecursion IsFitting (version_cells f k s 1 state)
  version_fits = (
    fitting (status_cell k s 1) ((λ e. cc), (λ e. absurd (omega arith))) (record { bare = λ n. absurd (n refl); key = short; value = omega arith; qualifier = omega arith }) stamp,
    columns_fit f placed k s state short stamp small f.columns (omega arith),
  )

  pub version_apart : IsApart (version_cells f k s 1 state)
  version_apart = (
    all_more (IsColumn f k s f.columns) (λ d. SamePlace (status_cell k s 1) d → ⊥) (λ c a same. (let l = placed.above a.column a.below in let q = same.qualifier in let e = a.place in absurd (omega arith)))
        (column_cells f k s state f.columns) (columns_are f k s state f.columns),
    columns_apart f placed k s state f.columns (omega arith),
  )
