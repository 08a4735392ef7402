-- Keys of a path, and the rows of a table at a point.
use Rattle.std.proofs.Common.{◌≡◌, ◌≢◌, ℕ, suc, ◌<◌, true, not, ◌&&◌, inr, Option, Some, None, List, [], ◌∷◌, length, get_or, refl, ap, sym, subst, ◌∙◌, arith}
use Rattle.std.specs.Ordering.{is_lt}
use Rattle.std.specs.declared.cmp.Ordering.{Ordering}
use Rattle.std.specs.declared.cmp.Ordering.TheVariants.{Less, Equal, Greater}
use Rattle.std.proofs.lemmas.Bool.{and_parts}
use Rattle.px_cells.specs.Order.{key_cmp}
use Rattle.px_cells.specs.Rows.{IsBeforeEnd}
use Rattle.px_values.specs.Types.{HasType}
use Rattle.px_values.specs.States.{RowState, Shape}
use Rattle.px_values.specs.declared.row.Value.{Value}
use Rattle.px_values.specs.declared.row.Value.TheVariants.{Null}
use Rattle.px_keys.specs.Spelling.{Fits, spelled}
use Rattle.px_tables.specs.declared.index.Index.{Index}
use Rattle.px_tables.specs.declared.table.Table.{Table}
use Rattle.px_tables.specs.declared.table.TableColumn.{TableColumn}
use Rattle.px_trail.specs.States.{key_in}
use Rattle.px_trail.specs.Trail.{Base, shape_of, table_shape}
use Rattle.px_trail.specs.declared.entry.Entry.{Entry}
use Rattle.px_paths.specs.Paths.{AreOfTypes, FitsRow, columns_on, index_path, key_on, table_path, values_on}
use Rattle.px_rows.specs.Keys.{IsRightTable, column_in, row_columns}
use Rattle.px_indexrow.specs.Form.{FitsRowState, IsRightIndex, index_columns, key_of_state}
use Rattle.px_indexrow.proofs.KeysHeld.{key_is, values_fit}
use Rattle.px_calls.specs.Looks.{IsRowAt, is_below, is_on, row_at}
use Rattle.px_calls.specs.declared.query.Path.{Path}
use Rattle.px_calls.specs.declared.query.Point.{Point}
use Rattle.px_looks.specs.Keys.{IsBetweenKeys}
use Rattle.px_shown.specs.Told.{AreStates}
use Rattle.px_cellshapes.proofs.Paths.{index_columns_same, table_columns}
use Rattle.px_shown.proofs.Paths.{own_values, values_are}

-- ---- keys on a path

not_less : (o : Ordering) → o ≢ Less → not (is_lt o) ≡ true
not_less Less h = absurd (h refl)
not_less Equal h = refl
not_less Greater h = refl

less_not : (o : Ordering) → not (is_lt o) ≡ true → o ≢ Less
less_not Less h g = cc
less_not Equal h g = cc
less_not Greater h g = cc

less_from : (o : Ordering) → is_lt o ≡ true → o ≡ Less
less_from Less h = refl
less_from Equal h = cc
less_from Greater h = cc

below_end : (high : Option (List ℕ)) (k : List ℕ) → IsBeforeEnd k high → is_below high k ≡ true
below_end None k h = refl
below_end (Some high) k h = ap is_lt h

end_below : (high : Option (List ℕ)) (k : List ℕ) → is_below high k ≡ true → IsBeforeEnd k high
end_below None k h = tt
end_below (Some high) k h = less_from (key_cmp k high) h

pub within_on : (path : Path) (k : List ℕ) → IsBetweenKeys path.low path.high k → is_on path k ≡ true
within_on path k h = (λ i. not_less (key_cmp k path.low) h.0 i && below_end path.high k h.1 i)

pub on_within : (path : Path) (k : List ℕ) → is_on path k ≡ true → IsBetweenKeys path.low path.high k
on_within path k h = (let parts = and_parts _ _ h in (less_not (key_cmp k path.low) parts.0, end_below path.high k parts.1))

-- ---- rows that fit

typed_rows : (cs : List TableColumn) (row : List Value) → length row ≡ length cs → ((i : ℕ) → i < length cs → HasType (column_in cs i).column_type (get_or row i Null)) → AreOfTypes cs row
typed_rows [] [] l h = tt
typed_rows [] (v ∷ row) l h = absurd (omega arith)
typed_rows (c ∷ cs) [] l h = absurd (omega arith)
typed_rows (c ∷ cs) (v ∷ row) l h = (inr (h 0 (omega arith)), typed_rows cs row (omega arith) (λ i m. h (suc i) (omega arith)))

pub some_same : {A : Type 0} {a b : A} → Some a ≡ Some b → a ≡ b
some_same e = cc

-- ---- the rows of a table at a point

module _ (t : Table) (state : List Value → RowState) (states : AreStates t state) where
  -- the values of a row's primary key
  pub fits_key : (r row : List Value) → state r ≡ Some row → Fits (row_columns t) r
  fits_key r row e = (states.keyed r row e).fits

  pub fits_state : (r row : List Value) → state r ≡ Some row → FitsRowState t (Some row)
  fits_state r row e = subst (FitsRowState t) e (states.typed r)

  pub row_fits : (r row : List Value) → state r ≡ Some row → FitsRow t row
  row_fits r row e =
      let typed = fits_state r row e in
      let keyed : Fits (columns_on (table_path t)) (values_on (table_path t) row) = subst (λ (cs : List _). Fits cs (values_on (table_path t) row)) (sym (table_columns t)) (subst (Fits (row_columns t)) (sym (own_values t row ∙ states.own r row e)) (fits_key r row e)) in
      record { types = typed_rows t.columns row typed.0 typed.1; key = keyed }

  -- the table's key of a row
  pub table_key : (r row : List Value) → state r ≡ Some row → key_on (table_path t) row ≡ spelled (row_columns t) r
  table_key r row e = (λ i. spelled (table_columns t i) ((own_values t row ∙ states.own r row e) i))

  module _ (x : Index) (right : IsRightTable t) (index : IsRightIndex t x) where
    -- its key in an index
    pub index_key : (r row : List Value) → state r ≡ Some row → key_of_state t x r (Some row) ≡ Some (key_on (index_path t x) row)
    index_key r row e = key_is t x r row right index (fits_key r row e) (fits_state r row e) ∙ (λ i. Some (spelled (sym (index_columns_same t x) i) (sym (values_are t x r row (states.own r row e)) i)))

    pub index_fits : (r row : List Value) → state r ≡ Some row → Fits (columns_on (index_path t x)) (values_on (index_path t x) row)
    index_fits r row e =
        subst (λ (cs : List _). Fits cs (values_on (index_path t x) row)) (sym (index_columns_same t x)) (subst (Fits (index_columns t x)) (sym (values_are t x r row (states.own r row e))) (values_fit t x r row right index (fits_key r row e) (fits_state r row e)))

  module _ (b : Base) (es : List Entry) (p : Point) (at : (r : List Value) → row_at b es p r ≡ state r) (shape : shape_of b es p.table.0 ≡ table_shape t) where
    -- a row at the point is the state of its key
    pub row_state : (row : List Value) → IsRowAt b es p row → state (key_in (table_shape t) row) ≡ Some row
    row_state row h = sym (at (key_in (table_shape t) row)) ∙ subst (λ (sh : Shape). row_at b es p (key_in sh row) ≡ Some row) shape h

    pub state_row : (r row : List Value) → state r ≡ Some row → IsRowAt b es p row
    state_row r row e = subst (λ (sh : Shape). row_at b es p (key_in sh row) ≡ Some row) (sym shape) (ap (row_at b es p) (states.own r row e) ∙ at r ∙ e)
