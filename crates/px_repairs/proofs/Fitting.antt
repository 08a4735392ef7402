-- The cells of a repair are such as a log takes, and no two of them have one place.
use Rattle.std.proofs.Common.{◌≡◌, ℕ, zero, suc, ◌<◌, ◌≤◌, Bool, true, false, cond, Option, Some, None, List, [], ◌∷◌, length, refl, sym, ◌∙◌, arith}
use Rattle.std.specs.Prelude.{◌≢◌, nat_lt}
use Rattle.std.specs.List.{AllByRecursion}
use Rattle.px_cells.specs.CellData.{CellData}
use Rattle.px_cells.specs.Order.{IsApart, SamePlace}
use Rattle.px_forms.specs.Indexes.{IndexForm, IsPlaced}
use Rattle.px_indexrow.specs.Form.{FitsRowState, IsRightIndex, index_form}
use Rattle.px_indexrow.specs.Lists.{column_cell, column_cells, erase_cell, family_cell, fix_of, status_cell}
use Rattle.px_indexrow.proofs.KeysHeld.{form_placed}
use Rattle.px_keptcells.specs.Kept.{IsFitting}
use Rattle.px_phases.proofs.Small.{HasSmall, fitting, index_small}
use Rattle.px_tables.specs.declared.index.Index.{Index}
use Rattle.px_tables.specs.declared.table.Table.{Table}
use Rattle.px_values.specs.States.{RowState}
use Rattle.px_world.specs.Events.{Leave, ToErase, ToRetire, ToVerify, Verdict}

-- ---- one column

-- it stands at the key, at the place of one of the first so many columns
record IsColumn (f : IndexForm) (k : List ℕ) (n : ℕ) (c : CellData) : Type 0 where
  key : c.key ≡ k
  column : ℕ
  below : column < n
  place : c.qualifier ≡ f.place column

column_key : (k : List ℕ) (s q : ℕ) (o : Option (List ℕ)) → (column_cell k s q o).key ≡ k
column_key k s q None = refl
column_key k s q (Some v) = refl

column_place : (k : List ℕ) (s q : ℕ) (o : Option (List ℕ)) → (column_cell k s q o).qualifier ≡ q
column_place k s q None = refl
column_place k s q (Some v) = refl

column_fits : (k : List ℕ) (s q : ℕ) → length k ≤ 1024 → q ≤ 255 → 2 ≤ q → s < 18446744073709551616 → (o : Option (List ℕ)) → ((v : List ℕ) → o ≡ Some v → length v ≤ 65535) → IsFitting (column_cell k s q o)
column_fits k s q l m p stamp None short = fitting (column_cell k s q None) ((λ e. cc), (λ e. absurd (omega arith))) (record { bare = λ n. refl; key = l; value = omega arith; qualifier = m }) stamp
column_fits k s q l m p stamp (Some v) short = fitting (column_cell k s q (Some v)) ((λ e. cc), (λ e. absurd (omega arith))) (record { bare = λ n. absurd (n refl); key = l; value = short v refl; qualifier = m }) stamp

-- ---- all columns

all_more : (P Q : CellData → Type 0) → ((c : CellData) → P c → Q c) → (cells : List CellData) → AllByRecursion P cells → AllByRecursion Q cells
all_more P Q on [] a = tt
all_more P Q on (c ∷ cells) a = (on c a.0, all_more P Q on cells a.1)

columns_are : (f : IndexForm) (k : List ℕ) (s : ℕ) (state : RowState) (n : ℕ) → AllByRecursion (IsColumn f k n) (column_cells f k s state n)
unfolding column_cells
columns_are f k s state zero = tt
columns_are f k s state (suc n) = (record { key = column_key k s (f.place n) (f.col state n); column = n; below = omega arith; place = column_place k s (f.place n) (f.col state n) }, all_more (IsColumn f k n) (IsColumn f k (suc n)) (λ c a. record { key = a.key; column = a.column; below = (let l = a.below in omega arith); place = a.place }) (column_cells f k s state n) (columns_are f k s state n))

columns_fit : (f : IndexForm) → IsPlaced f → (k : List ℕ) (s : ℕ) (state : RowState) → length k ≤ 1024 → s < 18446744073709551616 → HasSmall f state → (n : ℕ) → n ≤ f.columns → AllByRecursion IsFitting (column_cells f k s state n)
unfolding column_cells
columns_fit f placed k s state l stamp small zero m = tt
columns_fit f placed k s state l stamp small (suc n) m = (column_fits k s (f.place n) l (small.place n (omega arith)) (placed.above n (omega arith)) stamp (f.col state n) (λ v e. small.value n v (omega arith) e), columns_fit f placed k s state l stamp small n (omega arith))

columns_apart : (f : IndexForm) → IsPlaced f → (k : List ℕ) (s : ℕ) (state : RowState) (n : ℕ) → n ≤ f.columns → IsApart (column_cells f k s state n)
unfolding column_cells
columns_apart f placed k s state zero m = tt
columns_apart f placed k s state (suc n) m = (
  all_more (IsColumn f k n) (λ d. SamePlace (column_cell k s (f.place n) (f.col state n)) d → ⊥)
      (λ c a same. (let e : f.place n ≡ f.place a.column = sym (column_place k s (f.place n) (f.col state n)) ∙ (same.qualifier ∙ a.place) in
      let l = a.below in
      let q = placed.apart n a.column (omega arith) (omega arith) e in absurd (omega arith)))
      (column_cells f k s state n) (columns_are f k s state n),
  columns_apart f placed k s state n (omega arith),
)

-- ---- a repair

module _ (t : Table) (x : Index) (most : length t.columns ≤ 254) (right : IsRightIndex t x) (h : ℕ) (state : RowState) (fits : FitsRowState t state) (k : List ℕ) (short : length k ≤ 1024) (s : ℕ) (stamp : s < 18446744073709551616) where
  abbrev f : IndexForm
  f = index_form t x

  placed : IsPlaced f
  placed = form_placed t x right

  small : HasSmall f state
  small = index_small t x state most right fits

  status_fits : IsFitting (status_cell k s 1)
  status_fits = fitting (status_cell k s 1) ((λ e. cc), (λ e. absurd (omega arith))) (record { bare = λ n. absurd (n refl); key = short; value = omega arith; qualifier = omega arith }) stamp

  family_fits : IsFitting (family_cell k s)
  family_fits = fitting (family_cell k s) ((λ e. refl), (λ e. refl)) (record { bare = λ n. refl; key = short; value = omega arith; qualifier = omega arith }) stamp

  erase_fits : IsFitting (erase_cell k s)
  erase_fits = fitting (erase_cell k s) ((λ e. refl), (λ e. refl)) (record { bare = λ n. refl; key = short; value = omega arith; qualifier = omega arith }) stamp

  pub fix_fits : (v : Verdict) → AllByRecursion IsFitting (fix_of f h state k s v)
  fix_fits Leave = tt
  fix_fits ToVerify = (status_fits, by (nat_lt h s))
    where
      by : (b : Bool) → AllByRecursion IsFitting (cond b [] (column_cells f k s state f.columns))
      by true = tt
      by false = columns_fit f placed k s state short stamp small f.columns (omega arith)
  fix_fits ToRetire = (family_fits, tt)
  fix_fits ToErase = (erase_fits, tt)

  pub fix_apart : (v : Verdict) → IsApart (fix_of f h state k s v)
  fix_apart Leave = tt
  fix_apart ToVerify = (others (nat_lt h s), columns (nat_lt h s))
    where
      columns : (b : Bool) → IsApart (cond b [] (column_cells f k s state f.columns))
      columns true = tt
      columns false = columns_apart f placed k s state f.columns (omega arith)

      others : (b : Bool) → AllByRecursion (λ d. SamePlace (status_cell k s 1) d → ⊥) (cond b [] (column_cells f k s state f.columns))
      others true = tt
      others false = all_more (IsColumn f k f.columns) (λ d. SamePlace (status_cell k s 1) d → ⊥) (λ c a same. (let l = placed.above a.column a.below in let q = same.qualifier in let e = a.place in absurd (omega arith)))
          (column_cells f k s state f.columns) (columns_are f k s state f.columns)
  fix_apart ToRetire = (tt, tt)
  fix_apart ToErase = (tt, tt)

pub fix_some : (f : IndexForm) (h : ℕ) (state : RowState) (k : List ℕ) (s : ℕ) (v : Verdict) → v ≢ Leave → 1 ≤ length (fix_of f h state k s v)
fix_some f h state k s Leave n = absurd (n refl)
fix_some f h state k s ToVerify n = omega arith
fix_some f h state k s ToRetire n = omega arith
fix_some f h state k s ToErase n = omega arith
