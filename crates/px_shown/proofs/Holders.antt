-- The row that an index key holds.
use Rattle.std.proofs.Common.{◌≡◌, ℕ, Bool, true, false, ◌||◌, Option, Some, None, List, [], ◌++◌, get_or, refl, ap, sym, subst, ◌∙◌, inl, inr}
use Rattle.std.proofs.lemmas.Bool.{cases_Bool, cond-true, cond-false, both_ways}
use Rattle.std.proofs.lemmas.Slice.Eq.{bytes_eq-Decides}
use Rattle.px_values.specs.States.{RowState}
use Rattle.px_values.specs.declared.row.Value.{Value}
use Rattle.px_values.specs.declared.row.Value.TheVariants.{Null}
use Rattle.px_keys.specs.Spelling.{IsKeyOf}
use Rattle.px_keys.proofs.KeyOrders.{spelled_same}
use Rattle.px_tables.specs.declared.index.Index.{Index}
use Rattle.px_tables.specs.declared.table.Table.{Table}
use Rattle.px_trail.specs.States.{key_in}
use Rattle.px_trail.specs.Trail.{Base, shape_of, table_shape}
use Rattle.px_trail.specs.declared.entry.Entry.{Entry}
use Rattle.px_paths.specs.Paths.{columns_on, index_path, is_keyed, key_on, owner_of, value_on_path, values_on}
use Rattle.px_rows.specs.Keys.{IsRightTable}
use Rattle.px_indexrow.specs.Form.{IsRightIndex, key_of_state}
use Rattle.px_calls.specs.Looks.{IsRowAt, key_by, row_at}
use Rattle.px_calls.specs.Requires.{index_of_found}
use Rattle.px_calls.specs.declared.query.By.TheVariants.{Index as Indexed}
use Rattle.px_calls.specs.declared.query.Point.{Point}
use Rattle.px_shown.specs.Told.{AreStates, IsHolder, is_key_in, keyed_if}
use Rattle.px_shown.proofs.KeyLooks.{key_is}
use Rattle.px_shown.proofs.OwnKeys.{columns_of, map_same}
use Rattle.px_shown.proofs.RowsAt.{index_fits, index_key, row_state, some_same, state_row}
use Rattle.px_shown.proofs.ShownRows.{among_row, placed_path}

-- the primary key values of a row are among those of its index key
pub owner_is : (t : Table) (x : Index) (row : List Value) → owner_of t (index_path t x) (values_on (index_path t x) row) ≡ key_in (table_shape t) row
owner_is t x row =
    map_same (λ p. value_on_path (index_path t x) (values_on (index_path t x) row) p.column) (λ p. get_or row p.column Null) t.key
    (λ p h. among_row (index_path t x) row p.column ∙ cond-true _ _ _ (placed_path t x p.column ∙ or_there (is_keyed x.parts p.column) (is_keyed t.key p.column) h))
    ∙ sym (columns_of row t.key)
  where
    or_there : (a b : Bool) → b ≡ true → (a || b) ≡ true
    or_there true b h = refl
    or_there false b h = h

key_test : (k : List ℕ) (o : Option (List ℕ)) → is_key_in k o ≡ true → o ≡ Some k
key_test k None h = absurd (let z : ◌≡◌ {A = Bool} false true = h in cc)
key_test k (Some a) h = ap (λ (z : List ℕ). Some z) (sym ((bytes_eq-Decides k a).0 h))

key_found : (k : List ℕ) (o : Option (List ℕ)) → o ≡ Some k → is_key_in k o ≡ true
key_found k o h = ap (is_key_in k) h ∙ (bytes_eq-Decides k k).1 refl

module _ (t : Table) (x : Index) (right : IsRightTable t) (index : IsRightIndex t x) (state : List Value → RowState) (states : AreStates t state)
    (b : Base) (es : List Entry) (p : Point) (at : (r : List Value) → row_at b es p r ≡ state r) (shape : shape_of b es p.table.0 ≡ table_shape t) (table : p.found.table ≡ t) (is : index_of_found p.found x.id.0 ≡ Some x)
    (k : List ℕ) (values : List Value) (key : IsKeyOf (columns_on (index_path t x)) values k) where
  abbrev r : List Value
  r = owner_of t (index_path t x) values

  -- a row with the key is the state of its owner
  own_state : (row : List Value) → IsRowAt b es p row → key_by p.found (Indexed x.id) row ≡ k → state r ≡ Some row
  own_state row h e =
      let stands = row_state t state states b es p at shape row h in
      let is_k : key_on (index_path t x) row ≡ k = sym (key_is t x p table is row) ∙ e in
      let same : values ≡ values_on (index_path t x) row = (spelled_same (columns_on (index_path t x)) values (values_on (index_path t x) row) [] [] key.fits (index_fits t state states x right index (key_in (table_shape t) row) row stands) (ap (λ (l : List ℕ). l ++ []) (key.spells ∙ sym is_k))).0 in
      ap (λ (vs : List Value). state (owner_of t (index_path t x) vs)) same ∙ ap state (owner_is t x row) ∙ stands

  -- and its key is that of the row
  own_keyed : (row : List Value) → IsRowAt b es p row → key_by p.found (Indexed x.id) row ≡ k → is_key_in k (key_of_state t x r (state r)) ≡ true
  own_keyed row h e =
      let stands = own_state row h e in
      key_found k (key_of_state t x r (state r)) (ap (key_of_state t x r) stands ∙ index_key t state states x right index r row stands ∙ ap (λ (z : List ℕ). Some z) (sym (key_is t x p table is row) ∙ e))

  holder_by : is_key_in k (key_of_state t x r (state r)) ≡ true → (o : RowState) → state r ≡ o → IsHolder b es p x.id k o
  holder_by keyed None e = λ row h z. (let w : ◌≡◌ {A = RowState} None (Some row) = sym e ∙ own_state row h z in cc)
  holder_by keyed (Some row) e =
      let is_k : key_on (index_path t x) row ≡ k = some_same (sym (index_key t state states x right index r row e) ∙ sym (ap (key_of_state t x r) e) ∙ key_test k (key_of_state t x r (state r)) keyed) in
      (state_row t state states b es p at shape r row e, (key_is t x p table is row ∙ is_k, λ other h z. some_same (sym (own_state other h z) ∙ e)))

  pub holder : IsHolder b es p x.id k (keyed_if t x r k (state r))
  holder = elim (cases_Bool (is_key_in k (key_of_state t x r (state r)))) [
    | inl e ↦ subst (IsHolder b es p x.id k) (sym (cond-true _ _ _ e)) (holder_by e (state r) refl)
    | inr e ↦ subst (IsHolder b es p x.id k) (sym (cond-false _ _ _ e)) (λ row h z. both_ways _ e (own_keyed row h z))
  ]
