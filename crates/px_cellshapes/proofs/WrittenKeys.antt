-- The cells of index rows are right.
use Rattle.std.proofs.Common.{◌≡◌, ◌≢◌, ℕ, zero, suc, ◌<◌, ◌≤◌, Bool, true, false, cond, Option, Some, None, List, [], ◌∷◌, length, get_or, refl, subst, inl, inr, arith}
use Rattle.std.specs.Prelude.{nat_eq, nat_lt}
use Rattle.std.specs.Cmp.Lexicographic.{pointwise}
use Rattle.std.specs.List.{AllByRecursion, list_any}
use Rattle.std.proofs.lemmas.Bool.{cases_lt, eq-eqb, false≢true}
use Rattle.std.proofs.lemmas.List.Folds.{list_any_at}
use Rattle.px_cells.specs.CellData.{CellData}
use Rattle.px_forms.specs.Several.{cells_for}
use Rattle.px_indexrow.specs.Form.{FitsRowState, IsLongInIndex, IsRightIndex, bytes_if, included_at, index_columns, index_form, index_values, key_of_state, owns}
use Rattle.px_indexrow.specs.Lists.{base_version, closes_of, column_cell, column_cells, erase_cell, family_cell, family_if, fix_of, left_key, marks_of, status_cell, status_if, version_if}
use Rattle.px_indexrow.proofs.KeysHeld.{values_fit}
use Rattle.px_keys.specs.Reading.{IsKey}
use Rattle.px_keys.specs.Spelling.{Fits, spelled}
use Rattle.px_rows.specs.Keys.{IsRightTable, column_in, row_columns}
use Rattle.px_rows.specs.Stored.{stored}
use Rattle.px_tables.specs.declared.index.Index.{Index}
use Rattle.px_tables.specs.declared.table.Table.{Table}
use Rattle.px_values.specs.Limits.{most_key}
use Rattle.px_values.specs.States.{RowState}
use Rattle.px_values.specs.Types.{HasType}
use Rattle.px_values.specs.declared.row.Value.{Value}
use Rattle.px_values.specs.declared.row.Value.TheVariants.{Null, Number, Truth, Text}
use Rattle.px_world.specs.Events.{Verdict, Leave, ToVerify, ToRetire, ToErase}
use Rattle.px_cellshapes.specs.Keys.{IsRightIndexCell, IsStatus}
use Rattle.px_cellshapes.proofs.Each.{all_append}
use Rattle.px_cellshapes.proofs.StoredValues.{stored_is}

-- 1. Cells at a key

abbrev pub IsIndexKey : Table → Index → List ℕ → Type 0
IsIndexKey t i = IsKey most_key (index_columns t i)

abbrev pub AreRight : Table → Index → List CellData → Type 0
AreRight t i = AllByRecursion (IsRightIndexCell t i)

status_right : (t : Table) (i : Index) (k : List ℕ) (s byte : ℕ) → IsStatus (byte ∷ []) → IsIndexKey t i k → IsRightIndexCell t i (status_cell k s byte)
status_right t i k s byte b h = record { key = h; placed = (λ e. absurd (false≢true e), λ e. absurd (omega arith)); no_delete = λ e. cc; fits = record { stays = λ e. cc; status = λ e. b } }

family_right : (t : Table) (i : Index) (k : List ℕ) (s : ℕ) → IsIndexKey t i k → IsRightIndexCell t i (family_cell k s)
family_right t i k s h = record { key = h; placed = (λ e. refl, λ e. refl); no_delete = λ e. cc; fits = tt }

erase_right : (t : Table) (i : Index) (k : List ℕ) (s : ℕ) → IsIndexKey t i k → IsRightIndexCell t i (erase_cell k s)
erase_right t i k s h = record { key = h; placed = (λ e. refl, λ e. refl); no_delete = λ e. cc; fits = tt }

-- 2. Included columns

is_included : (i : Index) (c : ℕ) → c < length i.included → list_any (λ x. nat_eq x (included_at i c)) i.included ≡ true
is_included i c l = list_any_at (λ x. nat_eq x (included_at i c)) i.included c 0 l (eq-eqb (included_at i c) (included_at i c) refl)

null_right : (t : Table) (i : Index) (k : List ℕ) (s c : ℕ) → c < length i.included → IsIndexKey t i k → IsRightIndexCell t i (column_cell k s (suc (suc (included_at i c))) None)
null_right t i k s c l h = record { key = h; placed = (λ e. absurd (false≢true e), λ e. absurd (omega arith)); no_delete = λ e. cc; fits = record { included = is_included i c l; stored = λ e. cc } }

value_right : (t : Table) (i : Index) (k : List ℕ) (s c : ℕ) (v : Value) → c < length i.included → IsIndexKey t i k → HasType (column_in t.columns (included_at i c)).column_type v → v ≢ Null → IsRightIndexCell t i (column_cell k s (suc (suc (included_at i c))) (Some (stored (column_in t.columns (included_at i c)).column_type v)))
value_right t i k s c v l h ty n = record { key = h; placed = (λ e. absurd (false≢true e), λ e. absurd (omega arith)); no_delete = λ e. cc; fits = record { included = is_included i c l; stored = λ e. stored_is (column_in t.columns (included_at i c)).column_type v ty n } }

column_right : (t : Table) (i : Index) (k : List ℕ) (s c : ℕ) (v : Value) → c < length i.included → IsIndexKey t i k → HasType (column_in t.columns (included_at i c)).column_type v → IsRightIndexCell t i (column_cell k s (suc (suc (included_at i c))) (bytes_if (stored (column_in t.columns (included_at i c)).column_type v) v))
column_right t i k s c Null l h ty = null_right t i k s c l h
column_right t i k s c (Number n) l h ty = value_right t i k s c (Number n) l h ty (λ e. cc)
column_right t i k s c (Truth b) l h ty = value_right t i k s c (Truth b) l h ty (λ e. cc)
column_right t i k s c (Text b) l h ty = value_right t i k s c (Text b) l h ty (λ e. cc)

columns_right : (t : Table) (i : Index) → IsRightIndex t i → (k : List ℕ) (s : ℕ) (state : RowState) → FitsRowState t state → IsIndexKey t i k → (n : ℕ) → n ≤ length i.included → AreRight t i (column_cells (index_form t i) k s state n)
unfolding column_cells
columns_right t i right k s state f h zero l = tt
columns_right t i right k s None f h (suc n) l = (null_right t i k s n (omega arith) h, columns_right t i right k s None f h n (omega arith))
columns_right t i right k s (Some row) f h (suc n) l = (column_right t i k s n (get_or row (included_at i n) Null) (omega arith) h (f.1 (included_at i n) (right.within n (omega arith))), columns_right t i right k s (Some row) f h n (omega arith))

-- 3. Keys of states

cond_is : (b : Bool) (k k' : List ℕ) → cond b (Some k) None ≡ Some k' → k ≡ k'
cond_is true k k' e = cc
cond_is false k k' e = cc

-- the key of a state is one of the index, where it isn't too long
state_key : (t : Table) (i : Index) (r : List Value) (state : RowState) → IsRightTable t → IsRightIndex t i → Fits (row_columns t) r → FitsRowState t state → (IsLongInIndex t i r state → ⊥) → (k : List ℕ) → key_of_state t i r state ≡ Some k → IsIndexKey t i k
state_key t i r None right index f s n k e = cc
state_key t i r (Some row) right index f s n k e = (
  index_values t i r row,
  record {
    fits = values_fit t i r row right index f s;
    spells = is;
    short = subst (λ (x : List ℕ). length x ≤ most_key) is (elim (cases_lt most_key (length (spelled (index_columns t i) (index_values t i r row)))) [
      | inl l ↦ absurd (n l)
      | inr l ↦ l
    ]);
  },
)
  where
    is : spelled (index_columns t i) (index_values t i r row) ≡ k
    is = cond_is (owns t i r (spelled (index_columns t i) (index_values t i r row))) (spelled (index_columns t i) (index_values t i r row)) k e

-- a key that is left is the old one
left_old : (a b : Option (List ℕ)) (k : List ℕ) → left_key a b ≡ Some k → a ≡ Some k
left_old None b k e = cc
left_old (Some x) None k e = e
left_old (Some x) (Some y) k e = by (pointwise nat_eq x y) e
  where
    by : (v : Bool) → cond v None (Some x) ≡ Some k → Some x ≡ Some k
    by true z = cc
    by false z = z

-- 4. Lists

abbrev AreKeys : Table → Index → Option (List ℕ) → Type 0
AreKeys t i o = (k : List ℕ) → o ≡ Some k → IsIndexKey t i k

version_right : (t : Table) (i : Index) → IsRightIndex t i → (s byte : ℕ) (state : RowState) → FitsRowState t state → IsStatus (byte ∷ []) → (o : Option (List ℕ)) → AreKeys t i o → AreRight t i (version_if (index_form t i) s byte state o)
version_right t i right s byte state f b None h = tt
version_right t i right s byte state f b (Some k) h = (status_right t i k s byte b (h k refl), columns_right t i right k s state f (h k refl) (length i.included) (omega arith))

status_if_right : (t : Table) (i : Index) (s byte : ℕ) → IsStatus (byte ∷ []) → (o : Option (List ℕ)) → AreKeys t i o → AreRight t i (status_if s byte o)
status_if_right t i s byte b None h = tt
status_if_right t i s byte b (Some k) h = (status_right t i k s byte b (h k refl), tt)

family_if_right : (t : Table) (i : Index) (s : ℕ) (o : Option (List ℕ)) → AreKeys t i o → AreRight t i (family_if s o)
family_if_right t i s None h = tt
family_if_right t i s (Some k) h = (family_right t i k s (h k refl), tt)

module _ (t : Table) (i : Index) (r : List Value) (s : ℕ) (old new : RowState) (right : IsRightTable t) (index : IsRightIndex t i) (fits : Fits (row_columns t) r) (old_fits : FitsRowState t old) (new_fits : FitsRowState t new) (old_short : IsLongInIndex t i r old → ⊥) (new_short : IsLongInIndex t i r new → ⊥) where
  new_key : AreKeys t i (key_of_state t i r new)
  new_key = state_key t i r new right index fits new_fits new_short

  left_is : AreKeys t i (left_key (key_of_state t i r old) (key_of_state t i r new))
  left_is k e = state_key t i r old right index fits old_fits old_short k (left_old (key_of_state t i r old) (key_of_state t i r new) k e)

  pub marks_right : AreRight t i (marks_of (index_form t i) r s old new)
  marks_right = all_append (IsRightIndexCell t i) (version_if (index_form t i) s 2 new (key_of_state t i r new)) (status_if s 2 (left_key (key_of_state t i r old) (key_of_state t i r new))) (version_right t i index s 2 new new_fits (inr refl) (key_of_state t i r new) new_key) (status_if_right t i s 2 (inr refl) (left_key (key_of_state t i r old) (key_of_state t i r new)) left_is)

  pub closes_right : AreRight t i (closes_of (index_form t i) r s old new)
  closes_right = all_append (IsRightIndexCell t i) (status_if s 1 (key_of_state t i r new)) (family_if s (left_key (key_of_state t i r old) (key_of_state t i r new))) (status_if_right t i s 1 (inl refl) (key_of_state t i r new) new_key) (family_if_right t i s (left_key (key_of_state t i r old) (key_of_state t i r new)) left_is)

pub base_right : (t : Table) (i : Index) (r : List Value) (s : ℕ) (state : RowState) → IsRightTable t → IsRightIndex t i → Fits (row_columns t) r → FitsRowState t state → (IsLongInIndex t i r state → ⊥) → AreRight t i (base_version (index_form t i) r s state)
base_right t i r s state right index f h n = version_right t i index s 1 state h (inl refl) (key_of_state t i r state) (state_key t i r state right index f h n)

pub fix_right : (t : Table) (i : Index) (h : ℕ) (state : RowState) (k : List ℕ) (s : ℕ) (v : Verdict) → IsRightIndex t i → FitsRowState t state → IsIndexKey t i k → AreRight t i (fix_of (index_form t i) h state k s v)
fix_right t i h state k s Leave right f key = tt
fix_right t i h state k s ToVerify right f key = (status_right t i k s 1 (inl refl) key, by (nat_lt h s))
  where
    by : (b : Bool) → AreRight t i (cond b [] (column_cells (index_form t i) k s state (length i.included)))
    by true = tt
    by false = columns_right t i right k s state f key (length i.included) (omega arith)
fix_right t i h state k s ToRetire right f key = (family_right t i k s key, tt)
fix_right t i h state k s ToErase right f key = (erase_right t i k s key, tt)

-- 5. Several rows

pub all_several : (t : Table) (i : Index) (m : List Value → List CellData) (rows : List (List Value)) → AllByRecursion (λ r. AreRight t i (m r)) rows → AreRight t i (cells_for m rows)
unfolding cells_for
all_several t i m [] a = tt
all_several t i m (r ∷ rows) a = all_append (IsRightIndexCell t i) (m r) (cells_for m rows) a.0 (all_several t i m rows a.1)
