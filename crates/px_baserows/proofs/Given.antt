-- Rows with their index keys, one after another: what is known of one of them, and that its cells have other keys than those before it.
use Rattle.std.proofs.Common.{◌≡◌, ℕ, zero, suc, ◌<◌, ◌+◌, Bool, true, false, cond, not, ◌||◌, Some, None, List, [], ◌∷◌, ◌++◌, length, take, get_or, refl, ap, sym, ◌∙◌, subst, inl, inr, arith}
use Rattle.std.specs.List.{AllByRecursion}
use Rattle.std.specs.Ordering.{is_eq}
use Rattle.std.proofs.lemmas.Bool.{and_parts, false≢true, not-true}
use Rattle.std.proofs.lemmas.List.{take_more}
use Rattle.px_cells.specs.Among.{Has}
use Rattle.px_cells.specs.CellData.{CellData}
use Rattle.px_cells.proofs.Among.{all_has, has_append}
use Rattle.px_forms.specs.Indexes.{IndexForm}
use Rattle.px_indexrow.specs.Form.{index_columns, index_form, index_values, owns}
use Rattle.px_indexrow.specs.Lists.{version_cells}
use Rattle.px_indexrow.proofs.KeysHeld.{form_laws}
use Rattle.px_keptcells.specs.Kept.{HaveOtherKeys, laid}
use Rattle.px_keys.specs.Spelling.{spelled}
use Rattle.px_tables.specs.declared.index.Index.{Index}
use Rattle.px_tables.specs.declared.table.Table.{Table}
use Rattle.px_trail.specs.Batches.{has, is_distinct}
use Rattle.px_values.proofs.Equal.{row_order-Decides}
use Rattle.px_values.specs.Order.{row_order}
use Rattle.px_values.specs.declared.row.Value.{Value}
use Rattle.px_baserows.specs.Rows.{AreBaseRows, IsBaseRow, base_parts, owner_in, owners_in}
use Rattle.px_calls.specs.declared.query.BaseRow.{BaseRow}
use Rattle.px_baserows.proofs.Fitting.{version_of}

-- ---- one of them

pub all_at : {A : Type 0} (P : A → Type 0) (xs : List A) (i : ℕ) (x : A) → AllByRecursion P xs → i < length xs → x ≡ get_or xs i x → P x
all_at P [] i x a l e = absurd (omega arith)
all_at P (y ∷ xs) zero x a l e = subst P (sym e) a.0
all_at P (y ∷ xs) (suc i) x a l e = all_at P xs i x a.1 (omega arith) e

-- the key of a state is owned by its row
pub key_owned : (t : Table) (i : Index) (x : BaseRow) → IsBaseRow t i x → owns t i (owner_in t x.row) x.key ≡ true
key_owned t i x is = (form_laws t i).owned (owner_in t x.row) (Some x.row) x.key is.key

-- and is what its values spell
pub key_spelled : (t : Table) (i : Index) (x : BaseRow) → IsBaseRow t i x → spelled (index_columns t i) (index_values t i (owner_in t x.row) x.row) ≡ x.key
key_spelled t i x is = by (owns t i (owner_in t x.row) (spelled (index_columns t i) (index_values t i (owner_in t x.row) x.row))) is.key
  where
    by : (b : Bool) → cond b (Some (spelled (index_columns t i) (index_values t i (owner_in t x.row) x.row))) None ≡ Some x.key → spelled (index_columns t i) (index_values t i (owner_in t x.row) x.row) ≡ x.key
    by true e = cc
    by false e = cc

-- ---- the primary keys of the first ones

or_right : (b v : Bool) → v ≡ true → (b || v) ≡ true
or_right true v e = refl
or_right false v e = e

has_at : (t : Table) (xs : List BaseRow) (n : ℕ) (x : BaseRow) → n < length xs → x ≡ get_or xs n x → has (owners_in t xs) (owner_in t x.row) ≡ true
unfolding has
has_at t [] n x l e = absurd (omega arith)
has_at t (y ∷ xs) zero x l e = ap (λ (b : Bool). b || has (owners_in t xs) (owner_in t x.row)) ((row_order-Decides (owner_in t y.row) (owner_in t x.row)).1 (ap (λ (z : BaseRow). owner_in t z.row) (sym e)))
has_at t (y ∷ xs) (suc n) x l e = or_right (is_eq (row_order (owner_in t y.row) (owner_in t x.row))) (has (owners_in t xs) (owner_in t x.row)) (has_at t xs n x (omega arith) e)

-- no row before a place has the primary key of the one there
new_at : (t : Table) (xs : List BaseRow) (n : ℕ) (x : BaseRow) → is_distinct (owners_in t xs) ≡ true → n < length xs → x ≡ get_or xs n x → has (owners_in t (take n xs)) (owner_in t x.row) ≡ false
unfolding has is_distinct
new_at t [] n x d l e = absurd (omega arith)
new_at t (y ∷ xs) zero x d l e = refl
new_at t (y ∷ xs) (suc n) x d l e =
    let parts = and_parts (not (has (owners_in t xs) (owner_in t y.row))) (is_distinct (owners_in t xs)) d in
    both (is_eq (row_order (owner_in t y.row) (owner_in t x.row))) refl (not-true (has (owners_in t xs) (owner_in t y.row)) parts.0) (new_at t xs n x parts.1 (omega arith) e)
  where
    both : (b : Bool) → is_eq (row_order (owner_in t y.row) (owner_in t x.row)) ≡ b → has (owners_in t xs) (owner_in t y.row) ≡ false → has (owners_in t (take n xs)) (owner_in t x.row) ≡ false → (is_eq (row_order (owner_in t y.row) (owner_in t x.row)) || has (owners_in t (take n xs)) (owner_in t x.row)) ≡ false
    both true q h f = absurd (false≢true (sym h ∙ (ap (has (owners_in t xs)) ((row_order-Decides (owner_in t y.row) (owner_in t x.row)).0 q) ∙ has_at t xs n x (omega arith) e)))
    both false q h f = ap (λ (b : Bool). b || has (owners_in t (take n xs)) (owner_in t x.row)) q ∙ f

-- ---- the cells of the first ones

pub parts_append : (f : IndexForm) (s : ℕ) (xs ys : List BaseRow) → base_parts f s (xs ++ ys) ≡ base_parts f s xs ++ base_parts f s ys
parts_append f s [] ys = refl
parts_append f s (x ∷ xs) ys = ap (λ (l : List (List CellData)). version_cells f x.key s 1 (Some x.row) ∷ l) (parts_append f s xs ys)

pub parts_next : (f : IndexForm) (s : ℕ) (xs : List BaseRow) (n : ℕ) (x : BaseRow) → n < length xs → x ≡ get_or xs n x → base_parts f s (take (n + 1) xs) ≡ base_parts f s (take n xs) ++ version_cells f x.key s 1 (Some x.row) ∷ []
parts_next f s xs n x l e = ap (base_parts f s) (take_more xs n x l) ∙ (parts_append f s (take n xs) (get_or xs n x ∷ []) ∙ ap (λ (z : BaseRow). base_parts f s (take n xs) ++ version_cells f z.key s 1 (Some z.row) ∷ []) (sym e))

owner : (t : Table) (i : Index) (s : ℕ) (xs : List BaseRow) → AllByRecursion (IsBaseRow t i) xs → (c : CellData) → Has (laid (base_parts (index_form t i) s xs)) c → (r : List Value) × ((has (owners_in t xs) r ≡ true) × (owns t i r c.key ≡ true))
unfolding has
owner t i s [] a c h = absurd h
owner t i s (x ∷ xs) a c h = elim (has_append (version_cells (index_form t i) x.key s 1 (Some x.row)) (laid (base_parts (index_form t i) s xs)) c h) [
  | inl q ↦ (
    owner_in t x.row,
    (
      (let e : is_eq (row_order (owner_in t x.row) (owner_in t x.row)) ≡ true = (row_order-Decides (owner_in t x.row) (owner_in t x.row)).1 refl in ap (λ (b : Bool). b || has (owners_in t xs) (owner_in t x.row)) e),
      subst (λ (k : List ℕ). owns t i (owner_in t x.row) k ≡ true) (sym (all_has (λ d. (d.key ≡ x.key) × (d.stamp ≡ s)) (version_cells (index_form t i) x.key s 1 (Some x.row)) c (version_of (index_form t i) x.key s 1 (Some x.row)) q).0) (key_owned t i x a.0),
    ),
  )
  | inr q ↦ (let w = owner t i s xs a.1 c q in (w.0, (or_right (is_eq (row_order (owner_in t x.row) w.0)) (has (owners_in t xs) w.0) w.1.0, w.1.1)))
]

all_taken : {A : Type 0} (P : A → Type 0) (xs : List A) (n : ℕ) → AllByRecursion P xs → AllByRecursion P (take n xs)
all_taken P xs zero a = tt
all_taken P [] (suc n) a = tt
all_taken P (x ∷ xs) (suc n) a = (a.0, all_taken P xs n a.1)

-- the cells of a row have other keys than those of the rows before it
pub elsewhere : (t : Table) (i : Index) (s : ℕ) (xs : List BaseRow) → AreBaseRows t i xs → (n : ℕ) (x : BaseRow) → n < length xs → x ≡ get_or xs n x → HaveOtherKeys (laid (base_parts (index_form t i) s (take n xs))) (version_cells (index_form t i) x.key s 1 (Some x.row))
elsewhere t i s xs are n x l e = record {
  each = λ c d h k q.
      (let w = owner t i s (take n xs) (all_taken (IsBaseRow t i) xs n are.each) c h in
      let mine = key_owned t i x (all_at (IsBaseRow t i) xs n x are.each l e) in
      let key : d.key ≡ x.key = (all_has (λ z. (z.key ≡ x.key) × (z.stamp ≡ s)) (version_cells (index_form t i) x.key s 1 (Some x.row)) d (version_of (index_form t i) x.key s 1 (Some x.row)) k).0 in
      let same : w.0 ≡ owner_in t x.row = (form_laws t i).apart w.0 (owner_in t x.row) x.key (subst (λ (z : List ℕ). owns t i w.0 z ≡ true) (q ∙ key) w.1.1) mine in
      false≢true (sym (new_at t xs n x are.distinct l e) ∙ subst (λ (r : List Value). has (owners_in t (take n xs)) r ≡ true) same w.1.0));
}
