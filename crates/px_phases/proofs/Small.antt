-- The cells of index rows are such as a log takes, and no two of a row have one place.
use Rattle.std.proofs.Common.{◌≡◌, ℕ, zero, suc, ◌<◌, ◌≤◌, Bool, true, false, cond, Option, Some, None, List, [], ◌∷◌, ◌++◌, length, get_or, refl, subst, arith}
use Rattle.std.specs.Prelude.{nat_eq}
use Rattle.std.specs.Cmp.Lexicographic.{pointwise}
use Rattle.std.specs.List.{AllByRecursion}
use Rattle.px_cells.specs.CellData.{CellData}
use Rattle.px_cells.specs.Order.{GoesWith}
use Rattle.px_cellbytes.specs.Reading.{IsBare}
use Rattle.px_forms.specs.Indexes.{IndexForm}
use Rattle.px_indexrow.specs.Form.{FitsRowState, IsLongInIndex, IsRightIndex, bytes_if, included_at, included_bytes, index_columns, index_form, index_values, key_of_state, owns}
use Rattle.px_indexrow.specs.Lists.{closes_of, column_cell, column_cells, family_cell, family_if, left_key, marks_of, status_cell, status_if, version_if}
use Rattle.px_keptcells.specs.Kept.{IsFitting}
use Rattle.px_keys.specs.Spelling.{rank, spelled}
use Rattle.px_keys.proofs.Compared.{length-bytes_high_first}
use Rattle.px_rows.specs.Keys.{column_in}
use Rattle.px_rows.specs.Stored.{stored}
use Rattle.px_tables.specs.declared.index.Index.{Index}
use Rattle.px_tables.specs.declared.table.Table.{Table}
use Rattle.px_values.specs.States.{RowState}
use Rattle.px_values.specs.Types.{HasType}
use Rattle.px_values.specs.declared.column.ColType.{ColType}
use Rattle.px_values.specs.declared.column.ColType.TheVariants.{TinyInt, SmallInt, Integer, BigInt, UnsignedInt, UnsignedLong, Boolean, Varchar}
use Rattle.px_values.specs.declared.row.Value.{Value}
use Rattle.px_values.specs.declared.row.Value.TheVariants.{Null, Number, Truth, Text}

-- 1. Short cells

-- a marker is bare, and key, value and qualifier fit their fields
pub record IsSmall (c : CellData) : Type 0 where
  pub bare : IsBare c
  pub key : length c.key ≤ 1024
  pub value : length c.value ≤ 65535
  pub qualifier : c.qualifier ≤ 255

pub fitting : (c : CellData) → GoesWith c → IsSmall c → c.stamp < 18446744073709551616 → IsFitting c
fitting c g s l = record {
  placed = g;
  bare = s.bare;
  short = record { key = (let k = s.key in omega arith); value = (let v = s.value in omega arith) };
  ranged = record { qualifier = (let q = s.qualifier in omega arith); stamp = omega arith };
}

-- a key that isn't too long, where there is one
abbrev pub IsShortKey : Option (List ℕ) → Type 0
IsShortKey None = Unit {0}
IsShortKey (Some k) = length k ≤ 1024

status_small : (k : List ℕ) (s byte : ℕ) → length k ≤ 1024 → IsSmall (status_cell k s byte)
status_small k s byte l = record { bare = λ n. absurd (n refl); key = l; value = omega arith; qualifier = omega arith }

family_small : (k : List ℕ) (s : ℕ) → length k ≤ 1024 → IsSmall (family_cell k s)
family_small k s l = record { bare = λ n. refl; key = l; value = omega arith; qualifier = omega arith }

-- the included columns have qualifiers and values that fit
pub record HasSmall (f : IndexForm) (state : RowState) : Type 0 where
  pub place : (c : ℕ) → c < f.columns → f.place c ≤ 255
  pub value : (c : ℕ) (v : List ℕ) → c < f.columns → f.col state c ≡ Some v → length v ≤ 65535

column_small : (k : List ℕ) (s q : ℕ) → length k ≤ 1024 → q ≤ 255 → (o : Option (List ℕ)) → ((v : List ℕ) → o ≡ Some v → length v ≤ 65535) → IsSmall (column_cell k s q o)
column_small k s q l m None f = record { bare = λ n. refl; key = l; value = omega arith; qualifier = m }
column_small k s q l m (Some v) f = record { bare = λ n. absurd (n refl); key = l; value = f v refl; qualifier = m }

columns_small : (f : IndexForm) (k : List ℕ) (s : ℕ) (state : RowState) → length k ≤ 1024 → HasSmall f state → (m : ℕ) → m ≤ f.columns → AllByRecursion IsSmall (column_cells f k s state m)
unfolding column_cells
columns_small f k s state l h zero n = tt
columns_small f k s state l h (suc m) n = (column_small k s (f.place m) l (h.place m (omega arith)) (f.col state m) (λ v e. h.value m v (omega arith) e), columns_small f k s state l h m (omega arith))

all_append : (P : CellData → Type 0) (xs ys : List CellData) → AllByRecursion P xs → AllByRecursion P ys → AllByRecursion P (xs ++ ys)
all_append P [] ys a b = b
all_append P (x ∷ xs) ys a b = (a.0, all_append P xs ys a.1 b)

version_small : (f : IndexForm) (s byte : ℕ) (state : RowState) → HasSmall f state → (o : Option (List ℕ)) → IsShortKey o → AllByRecursion IsSmall (version_if f s byte state o)
version_small f s byte state h None l = tt
version_small f s byte state h (Some k) l = (status_small k s byte l, columns_small f k s state l h f.columns (omega arith))

status_if_small : (s byte : ℕ) (o : Option (List ℕ)) → IsShortKey o → AllByRecursion IsSmall (status_if s byte o)
status_if_small s byte None l = tt
status_if_small s byte (Some k) l = (status_small k s byte l, tt)

family_if_small : (s : ℕ) (o : Option (List ℕ)) → IsShortKey o → AllByRecursion IsSmall (family_if s o)
family_if_small s None l = tt
family_if_small s (Some k) l = (family_small k s l, tt)

left_short : (old new : Option (List ℕ)) → IsShortKey old → IsShortKey (left_key old new)
left_short None new l = tt
left_short (Some k) None l = l
left_short (Some k) (Some k') l = by (pointwise nat_eq k k')
  where
    by : (b : Bool) → IsShortKey (cond b None (Some k))
    by true = tt
    by false = l

pub marks_small : (f : IndexForm) (r : List Value) (s : ℕ) (old new : RowState) → HasSmall f new → IsShortKey (f.key_of r old) → IsShortKey (f.key_of r new) → AllByRecursion IsSmall (marks_of f r s old new)
marks_small f r s old new h a b = all_append IsSmall (version_if f s 2 new (f.key_of r new)) (status_if s 2 (left_key (f.key_of r old) (f.key_of r new))) (version_small f s 2 new h (f.key_of r new) b) (status_if_small s 2 (left_key (f.key_of r old) (f.key_of r new)) (left_short (f.key_of r old) (f.key_of r new) a))

pub closes_small : (f : IndexForm) (r : List Value) (s : ℕ) (old new : RowState) → IsShortKey (f.key_of r old) → IsShortKey (f.key_of r new) → AllByRecursion IsSmall (closes_of f r s old new)
closes_small f r s old new a b = all_append IsSmall (status_if s 1 (f.key_of r new)) (family_if s (left_key (f.key_of r old) (f.key_of r new))) (status_if_small s 1 (f.key_of r new) b) (family_if_small s (left_key (f.key_of r old) (f.key_of r new)) (left_short (f.key_of r old) (f.key_of r new) a))

-- 2. Those of a table's index

pub stored_short : (ty : ColType) (v : Value) → HasType ty v → length (stored ty v) ≤ 65535
stored_short Varchar Null h = omega arith
stored_short Varchar (Number n) h = omega arith
stored_short Varchar (Truth t) h = omega arith
stored_short Varchar (Text b) h = h.1.most
stored_short TinyInt v h = (let n = length-bytes_high_first 1 (rank TinyInt v) in omega arith)
stored_short SmallInt v h = (let n = length-bytes_high_first 2 (rank SmallInt v) in omega arith)
stored_short Integer v h = (let n = length-bytes_high_first 4 (rank Integer v) in omega arith)
stored_short BigInt v h = (let n = length-bytes_high_first 8 (rank BigInt v) in omega arith)
stored_short UnsignedInt v h = (let n = length-bytes_high_first 4 (rank UnsignedInt v) in omega arith)
stored_short UnsignedLong v h = (let n = length-bytes_high_first 8 (rank UnsignedLong v) in omega arith)
stored_short Boolean v h = (let n = length-bytes_high_first 1 (rank Boolean v) in omega arith)

bytes_are : (bytes : List ℕ) (v : Value) (w : List ℕ) → bytes_if bytes v ≡ Some w → bytes ≡ w
bytes_are bytes Null w e = cc
bytes_are bytes (Number n) w e = cc
bytes_are bytes (Truth t) w e = cc
bytes_are bytes (Text b) w e = cc

pub index_small : (t : Table) (i : Index) (state : RowState) → length t.columns ≤ 254 → IsRightIndex t i → FitsRowState t state → HasSmall (index_form t i) state
index_small t i state m right fits = record {
  place = λ c l. (let w = right.within c l in omega arith);
  value = λ c v l e. by state fits c v l e;
}
  where
    by : (state : RowState) → FitsRowState t state → (c : ℕ) (v : List ℕ) → c < length i.included → included_bytes t i state c ≡ Some v → length v ≤ 65535
    by None f c v l e = cc
    by (Some row) f c v l e =
        (let ty = (column_in t.columns (included_at i c)).column_type in
        let x = get_or row (included_at i c) Null in
        subst (λ (b : List ℕ). length b ≤ 65535) (bytes_are (stored ty x) x v e) (stored_short ty x (f.1 (included_at i c) (right.within c l))))

pub key_short : (t : Table) (i : Index) (r : List Value) (state : RowState) → (IsLongInIndex t i r state → ⊥) → IsShortKey (key_of_state t i r state)
key_short t i r None n = tt
key_short t i r (Some row) n = by (owns t i r (spelled (index_columns t i) (index_values t i r row)))
  where
    by : (b : Bool) → IsShortKey (cond b (Some (spelled (index_columns t i) (index_values t i r row))) None)
    by true = not_less 1024 (length (spelled (index_columns t i) (index_values t i r row))) n
      where
        not_less : (a b : ℕ) → (a < b → ⊥) → b ≤ a
        not_less a b f = omega (arith, f)
    by false = tt
