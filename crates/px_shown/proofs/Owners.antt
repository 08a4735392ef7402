-- The primary key values that an index key holds.
use Rattle.std.proofs.Common.{◌≡◌, ℕ, Bool, true, false, cond, ◌||◌, List, [], ◌∷◌, ◌++◌, map, refl, ap, sym, subst, ◌∙◌, inl, inr, append-nil}
use Rattle.std.specs.Prelude.{nat_eq}
use Rattle.std.proofs.lemmas.Bool.{cases_Bool, cond-true, cond-false, eq-eqb, eqb-true, true≢false}
use Rattle.std.proofs.lemmas.List.Folds.{list_any-append}
use Rattle.px_values.proofs.Equal.{row_order-Decides}
use Rattle.px_values.specs.Limits.{most_key}
use Rattle.px_values.specs.Types.{HasType}
use Rattle.px_values.specs.declared.row.Value.{Value}
use Rattle.px_values.specs.declared.row.Value.TheVariants.{Null}
use Rattle.px_keys.specs.Reading.{IsKey}
use Rattle.px_keys.specs.Spelling.{Fits, IsKeyOf, spelled}
use Rattle.px_keys.specs.declared.parts.KeyColumn.{KeyColumn}
use Rattle.px_tables.specs.declared.index.Index.{Index}
use Rattle.px_tables.specs.declared.table.KeyPlace.{KeyPlace}
use Rattle.px_tables.specs.declared.table.Table.{Table}
use Rattle.px_tables.specs.declared.table.TableColumn.{TableColumn}
use Rattle.px_paths.specs.Paths.{columns_on, index_part, index_path, is_keyed, key_part, owner_of}
use Rattle.px_paths.specs.Paths as paths
use Rattle.px_paths.specs.declared.path.PathColumn.{PathColumn}
use Rattle.px_rows.specs.Keys.{column_in, is_part, key_admits_null, key_column, read_parts, row_columns}
use Rattle.px_rows.proofs.KeysBack.{parts_back}
use Rattle.px_indexrow.specs.Form.{index_column, index_columns, index_places, owns, rest_of, row_of_index, value_among}
use Rattle.px_cellshapes.proofs.Paths.{index_columns_same}
use Rattle.px_shown.proofs.OwnKeys.{map_same}
use Rattle.px_shown.proofs.Paths.{path_is}
use Rattle.px_shown.proofs.ShownRows.{keyed_rest}

-- ---- values by places

among_key : (cs : List TableColumn) (qs : List KeyPlace) (vs : List Value) (c : ℕ) → paths.value_on_path (map (key_part cs) qs) vs c ≡ value_among qs vs c
unfolding paths.value_on_path value_among
among_key cs [] vs c = refl
among_key cs (q ∷ qs) [] c = refl
among_key cs (q ∷ qs) (v ∷ vs) c = ap (λ (w : Value). cond (nat_eq q.column c) v w) (among_key cs qs vs c)

among_parts : (t : Table) (ps qs : List KeyPlace) (vs : List Value) (c : ℕ) → paths.value_on_path (map (index_part t) ps ++ map (key_part t.columns) qs) vs c ≡ value_among (ps ++ qs) vs c
unfolding paths.value_on_path value_among
among_parts t [] qs vs c = among_key t.columns qs vs c
among_parts t (p ∷ ps) qs [] c = refl
among_parts t (p ∷ ps) qs (v ∷ vs) c = ap (λ (w : Value). cond (nat_eq p.column c) v w) (among_parts t ps qs vs c)

-- those that are read of a key are its values
pub owner_read : (t : Table) (x : Index) (k : List ℕ) (values : List Value) → IsKeyOf (columns_on (index_path t x)) values k → owner_of t (index_path t x) values ≡ row_of_index t x k
owner_read t x k values key =
    let fits : Fits (index_columns t x) values = subst (λ (cs : List KeyColumn). Fits cs values) (index_columns_same t x) key.fits in
    let spells : spelled (index_columns t x) values ≡ k = ap (λ (cs : List KeyColumn). spelled cs values) (sym (index_columns_same t x)) ∙ key.spells in
    let read : read_parts (index_columns t x) k ≡ values = ap (read_parts (index_columns t x)) (sym (append-nil k) ∙ ap (λ (l : List ℕ). l ++ []) (sym spells)) ∙ parts_back (index_columns t x) values [] fits in
    map_same (λ p. paths.value_on_path (index_path t x) values p.column) (λ p. value_among (index_places t x) (read_parts (index_columns t x) k) p.column) t.key
    (λ p h. ap (λ (l : List PathColumn). paths.value_on_path l values p.column) (path_is t x) ∙ among_parts t x.parts (rest_of x.parts t.key) values p.column ∙ ap (λ (vs : List Value). value_among (index_places t x) vs p.column) (sym read))

-- ---- they fit the primary key

or_there : (a b : Bool) → b ≡ true → (a || b) ≡ true
or_there true b h = refl
or_there false b h = h

places_have : (t : Table) (x : Index) (c : ℕ) → is_part t.key c ≡ true → is_part (index_places t x) c ≡ true
places_have t x c h = list_any-append (λ p. nat_eq p.column c) x.parts (rest_of x.parts t.key) ∙ keyed_rest x.parts t.key c ∙ or_there (is_keyed x.parts c) (is_keyed t.key c) h

fits_among : (t : Table) (ps : List KeyPlace) (vs : List Value) (c : ℕ) → Fits (map (index_column t) ps) vs → is_part ps c ≡ true → is_part t.key c ≡ true
    → HasType (column_in t.columns c).column_type (value_among ps vs c) × (value_among ps vs c ≡ Null → key_admits_null (column_in t.columns c).column_type (column_in t.columns c).not_null ≡ true)
unfolding value_among
fits_among t [] vs c f h k = absurd (true≢false (sym h))
fits_among t (p ∷ ps) [] c f h k = absurd f
fits_among t (p ∷ ps) (v ∷ vs) c f h k = elim (cases_Bool (nat_eq p.column c)) [
  | inl e ↦
      (let q = eqb-true p.column c e in
      let here : cond (nat_eq p.column c) v (value_among ps vs c) ≡ v = cond-true _ _ _ e in
      let is : is_part t.key p.column ≡ true = ap (is_part t.key) q ∙ k in
      subst (λ (d : ℕ). HasType (column_in t.columns d).column_type (cond (nat_eq p.column c) v (value_among ps vs c)) × (cond (nat_eq p.column c) v (value_among ps vs c) ≡ Null → key_admits_null (column_in t.columns d).column_type (column_in t.columns d).not_null ≡ true)) q
      (subst (HasType (column_in t.columns p.column).column_type) (sym here) f.0.0, λ z. sym (cond-true _ _ _ is) ∙ f.0.1 (sym here ∙ z)))
  | inr e ↦
      (let rest = fits_among t ps vs c f.1 (sym (ap (λ (b : Bool). b || is_part ps c) e) ∙ h) k in
      let here : cond (nat_eq p.column c) v (value_among ps vs c) ≡ value_among ps vs c = cond-false _ _ _ e in
      (subst (HasType (column_in t.columns c).column_type) (sym here) rest.0, λ z. rest.1 (sym here ∙ z)))
]

fits_key : (t : Table) (places : List KeyPlace) (vs : List Value) (key : List KeyPlace) → Fits (map (index_column t) places) vs → ((p : KeyPlace) → is_part key p.column ≡ true → (is_part places p.column ≡ true) × (is_part t.key p.column ≡ true)) → Fits (map (key_column t.columns) key) (map (λ p. value_among places vs p.column) key)
fits_key t places vs [] f h = tt
fits_key t places vs (p ∷ key) f h =
    let here = h p (ap (λ (b : Bool). b || is_part key p.column) (eq-eqb p.column p.column refl)) in
    (fits_among t places vs p.column f here.0 here.1, fits_key t places vs key f (λ q e. h q (or_there (nat_eq p.column q.column) (is_part key q.column) e)))

pub owner_fits : (t : Table) (x : Index) (k : List ℕ) → IsKey most_key (columns_on (index_path t x)) k → Fits (row_columns t) (row_of_index t x k)
owner_fits t x k key =
    let values = key.0 in
    let fits : Fits (index_columns t x) values = subst (λ (cs : List KeyColumn). Fits cs values) (index_columns_same t x) key.1.fits in
    let spells : spelled (index_columns t x) values ≡ k = ap (λ (cs : List KeyColumn). spelled cs values) (sym (index_columns_same t x)) ∙ key.1.spells in
    let read : read_parts (index_columns t x) k ≡ values = ap (read_parts (index_columns t x)) (sym (append-nil k) ∙ ap (λ (l : List ℕ). l ++ []) (sym spells)) ∙ parts_back (index_columns t x) values [] fits in
    subst (λ (vs : List Value). Fits (row_columns t) (map (λ p. value_among (index_places t x) vs p.column) t.key)) (sym read) (fits_key t (index_places t x) values t.key fits (λ p h. (places_have t x p.column h, h)))

-- the key is the row's
pub owner_owns : (t : Table) (x : Index) (k : List ℕ) → owns t x (row_of_index t x k) k ≡ true
unfolding owns
owner_owns t x k = (row_order-Decides (row_of_index t x k) (row_of_index t x k)).1 refl
