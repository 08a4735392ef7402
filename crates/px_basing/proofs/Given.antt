-- Rows as the calls of a server have them are rows with their keys in an index.
use Rattle.std.proofs.Common.{◌≡◌, ℕ, zero, suc, ◌<◌, ◌≤◌, ◌⊎◌, Some, List, [], ◌∷◌, length, map, get_or, refl, ap, sym, ◌∙◌, subst, inl, inr, arith}
use Rattle.px_cellshapes.proofs.Paths.{index_columns_same, table_columns}
use Rattle.px_indexrow.specs.Form.{FitsRowState, IsRightIndex, index_columns, index_values}
use Rattle.px_indexrow.proofs.KeysHeld.{key_is}
use Rattle.px_keys.specs.Spelling.{Fits, spelled}
use Rattle.px_paths.specs.Paths.{AreOfTypes, FitsRow, columns_on, index_path, key_on, table_path, values_on}
use Rattle.px_rows.specs.Keys.{IsRightTable, column_in, row_columns}
use Rattle.px_shown.proofs.OwnKeys.{columns_of}
use Rattle.px_shown.proofs.Paths.{own_values, values_are}
use Rattle.px_tables.specs.declared.index.Index.{Index}
use Rattle.px_tables.specs.declared.table.Table.{Table}
use Rattle.px_tables.specs.declared.table.TableColumn.{TableColumn}
use Rattle.px_trail.specs.States.{key_in}
use Rattle.px_trail.specs.Trail.{table_shape}
use Rattle.px_values.specs.Limits.{most_key}
use Rattle.px_values.specs.Types.{HasType}
use Rattle.px_values.specs.declared.column.ColType.{ColType}
use Rattle.px_values.specs.declared.row.Value.{Value}
use Rattle.px_values.specs.declared.row.Value.TheVariants.{Null}
use Rattle.px_baserows.specs.Rows.{IsBaseRow, owner_in, owners_in}
use Rattle.px_calls.specs.declared.query.BaseRow.{BaseRow}

-- ---- types

has_type : (ty : ColType) (v : Value) → (v ≡ Null) ⊎ HasType ty v → HasType ty v
has_type ty v (inl e) = subst (HasType ty) (sym e) tt
has_type ty v (inr h) = h

count_is : (columns : List TableColumn) (row : List Value) → AreOfTypes columns row → length row ≡ length columns
count_is [] [] a = refl
count_is [] (v ∷ row) a = absurd a
count_is (c ∷ columns) [] a = absurd a
count_is (c ∷ columns) (v ∷ row) a = ap suc (count_is columns row a.1)

typed_at : (columns : List TableColumn) (row : List Value) → AreOfTypes columns row → (c : ℕ) → c < length columns → HasType (column_in columns c).column_type (get_or row c Null)
typed_at [] [] a c l = absurd (omega (arith, l))
typed_at [] (v ∷ row) a c l = absurd a
typed_at (d ∷ columns) [] a c l = absurd a
typed_at (d ∷ columns) (v ∷ row) a zero l = has_type d.column_type v a.0
typed_at (d ∷ columns) (v ∷ row) a (suc c) l = typed_at columns row a.1 c (omega (arith, l))

-- ---- keys

pub owner_is : (t : Table) (row : List Value) → key_in (table_shape t) row ≡ owner_in t row
owner_is t row = columns_of row t.key

owner_fits : (t : Table) (row : List Value) → Fits (columns_on (table_path t)) (values_on (table_path t) row) → Fits (row_columns t) (owner_in t row)
owner_fits t row f = subst (λ (vs : List Value). Fits (row_columns t) vs) (own_values t row ∙ owner_is t row) (subst (λ columns. Fits columns (values_on (table_path t) row)) (table_columns t) f)

pub given_row : (t : Table) (x : Index) (y : BaseRow) → IsRightTable t → IsRightIndex t x → FitsRow t y.row → key_on (index_path t x) y.row ≡ y.key → length y.key ≤ most_key → IsBaseRow t x y
given_row t x y table right fits key short =
    let state : FitsRowState t (Some y.row) = (count_is t.columns y.row fits.types, typed_at t.columns y.row fits.types) in
    let owner = owner_fits t y.row fits.key in
    let same : key_on (index_path t x) y.row ≡ spelled (index_columns t x) (index_values t x (owner_in t y.row) y.row) = (λ i. spelled (index_columns_same t x i) (values_are t x (owner_in t y.row) y.row (owner_is t y.row) i)) in
    record { fits = state; owner = owner; key = key_is t x (owner_in t y.row) y.row table right owner state ∙ ap Some (sym same ∙ key); short = short }

pub given_owners : (t : Table) (xs : List BaseRow) → map (λ y. key_in (table_shape t) y.row) xs ≡ owners_in t xs
given_owners t [] = refl
given_owners t (y ∷ xs) = (λ i. owner_is t y.row i ∷ given_owners t xs i)
