-- The keys of index rows hold their rows.
use Rattle.std.proofs.Common.{◌≡◌, ◌≢◌, ℕ, zero, suc, ◌<◌, ◌+◌, Bool, true, false, cond, not, ◌||◌, Some, None, List, [], ◌∷◌, ◌++◌, map, length, take, get_or, append_assoc, refl, ap, sym, ◌∙◌, subst, inl, inr, arith, append-nil}
use Rattle.std.specs.Prelude.{nat_eq}
use Rattle.std.specs.List.{All}
use Rattle.std.proofs.lemmas.Bool.{cases_Bool, cond-true, cond-false, eq-eqb, eqb-true, ne_eqb, and_parts, or_parts, not-true, both_ways, true≢false}
use Rattle.std.proofs.lemmas.List.Elements.{All-append, All-cons, All-head, All-tail}
use Rattle.std.proofs.lemmas.List.{length-map, take_more}
use Rattle.px_values.proofs.Equal.{row_order-Decides}
use Rattle.px_values.specs.States.{RowState}
use Rattle.px_values.specs.Types.{HasType}
use Rattle.px_values.specs.declared.row.Value.{Value}
use Rattle.px_values.specs.declared.row.Value.TheVariants.{Null}
use Rattle.px_keys.specs.Spelling.{Fits, FitsColumn, spelled}
use Rattle.px_keys.specs.declared.parts.KeyColumn.{KeyColumn}
use Rattle.px_tables.specs.declared.index.Index.{Index}
use Rattle.px_tables.specs.declared.table.KeyPlace.{KeyPlace}
use Rattle.px_tables.specs.declared.table.Table.{Table}
use Rattle.px_tables.specs.declared.table.TableColumn.{TableColumn}
use Rattle.px_forms.specs.Indexes.{IsIndexForm, IsPlaced}
use Rattle.px_rows.specs.Keys.{IsRightTable, are_distinct, column_in, is_part, key_admits_null, key_column, read_parts, row_columns}
use Rattle.px_rows.proofs.KeysBack.{parts_back}
use Rattle.px_indexrow.specs.Form.{FitsRowState, IsRightIndex, index_column, index_columns, index_form, index_places, index_values, key_of_state, owns, rest_of, row_of_index, value_among, value_of_column}

-- ---- the form's laws

owned_cond : (b : Bool) (k k' : List ℕ) (P : List ℕ → Bool) → P k ≡ b → cond b (Some k) None ≡ Some k' → P k' ≡ true
owned_cond true k k' P e h = (let z : k ≡ k' = cc in ap P (sym z) ∙ e)
owned_cond false k k' P e h = cc

pub form_laws : (t : Table) (i : Index) → IsIndexForm (index_form t i)
unfolding owns
form_laws t i = record {
  nothing = λ r. refl;
  owned = λ r s k e. owned t i r s k e;
  apart = λ r r' k a b. sym ((row_order-Decides (row_of_index t i k) r).0 a) ∙ (row_order-Decides (row_of_index t i k) r').0 b;
}
  where
    owned : (t : Table) (i : Index) (r : List Value) (s : RowState) (k : List ℕ) → key_of_state t i r s ≡ Some k → owns t i r k ≡ true
    owned t i r None k e = cc
    owned t i r (Some row) k e = owned_cond (owns t i r (spelled (index_columns t i) (index_values t i r row))) (spelled (index_columns t i) (index_values t i r row)) k (owns t i r) refl e

pub form_placed : (t : Table) (i : Index) → IsRightIndex t i → IsPlaced (index_form t i)
form_placed t i h = record { above = λ c l. omega arith; apart = λ c d a b e. h.once c d a b (let z = e in omega arith) }

-- ---- columns among places

any_append : (xs ys : List KeyPlace) (c : ℕ) → is_part (xs ++ ys) c ≡ (is_part xs c || is_part ys c)
any_append [] ys c = refl
any_append (x ∷ xs) ys c = ap (λ (b : Bool). nat_eq x.column c || b) (any_append xs ys c) ∙ or_assoc (nat_eq x.column c) (is_part xs c) (is_part ys c)
  where
    or_assoc : (a b d : Bool) → (a || (b || d)) ≡ ((a || b) || d)
    or_assoc true b d = refl
    or_assoc false b d = refl

among_is : (g : ℕ → Value) (places : List KeyPlace) (c : ℕ) → is_part places c ≡ true → value_among places (map (λ p. g p.column) places) c ≡ g c
unfolding value_among
among_is g [] c h = absurd (true≢false (sym h))
among_is g (p ∷ places) c h = elim (cases_Bool (nat_eq p.column c)) [
  | inl e ↦ cond-true _ _ _ e ∙ ap g (eqb-true p.column c e)
  | inr e ↦ cond-false _ _ _ e ∙ among_is g places c (sym (ap (λ (b : Bool). b || is_part places c) e) ∙ h)
]

-- a part of the key stands among the index's places
or_right : (a b : Bool) → b ≡ true → (a || b) ≡ true
or_right true b h = refl
or_right false b h = h

rest_if : (p : KeyPlace) (rest : List KeyPlace) (c : ℕ) (b : Bool) → is_part rest c ≡ true → is_part (cond b rest (p ∷ rest)) c ≡ true
rest_if p rest c true l = l
rest_if p rest c false l = or_right (nat_eq p.column c) (is_part rest c) l

rest_has : (parts key : List KeyPlace) (c : ℕ) → is_part key c ≡ true → is_part parts c ≡ false → is_part (rest_of parts key) c ≡ true
unfolding rest_of
rest_has parts [] c h n = h
rest_has parts (p ∷ key) c h n = elim (cases_Bool (nat_eq p.column c)) [
  | inl e ↦
      (let out : is_part parts p.column ≡ false = ap (is_part parts) (eqb-true p.column c e) ∙ n in
      ap (λ (b : Bool). is_part (cond b (rest_of parts key) (p ∷ rest_of parts key)) c) out ∙ ap (λ (b : Bool). b || is_part (rest_of parts key) c) e)
  | inr e ↦
      (let later = rest_has parts key c (sym (ap (λ (b : Bool). b || is_part key c) e) ∙ h) n in
      rest_if p (rest_of parts key) c (is_part parts p.column) later)
]

places_have : (t : Table) (i : Index) (c : ℕ) → is_part t.key c ≡ true → is_part (index_places t i) c ≡ true
places_have t i c h = any_append i.parts (rest_of i.parts t.key) c ∙ elim (cases_Bool (is_part i.parts c)) [
  | inl e ↦ ap (λ (b : Bool). b || is_part (rest_of i.parts t.key) c) e
  | inr e ↦ or_right (is_part i.parts c) (is_part (rest_of i.parts t.key) c) (rest_has i.parts t.key c h e)
]

-- ---- the primary key is read from the places

self_part : (p : KeyPlace) (key : List KeyPlace) → is_part (p ∷ key) p.column ≡ true
self_part p key = ap (λ (b : Bool). b || is_part key p.column) (eq-eqb p.column p.column refl)

-- each part of the key is one
same_map : (f g : KeyPlace → Value) (all key : List KeyPlace) → ((p : KeyPlace) → is_part key p.column ≡ true → f p ≡ g p) → map f key ≡ map g key
same_map f g all [] h = refl
same_map f g all (p ∷ key) h = (λ i. h p (self_part p key) i ∷ same_map f g all key (λ q e. h q (or_right (nat_eq p.column q.column) (is_part key q.column) e)) i)

key_values : (key : List KeyPlace) (r row : List Value) → are_distinct key ≡ true → length r ≡ length key → map (λ p. value_of_column key r row p.column) key ≡ r
unfolding value_of_column are_distinct
key_values [] [] row d l = refl
key_values [] (v ∷ r) row d l = absurd (omega arith)
key_values (p ∷ key) [] row d l = absurd (omega arith)
key_values (p ∷ key) (v ∷ r) row d l =
    let parts = and_parts (not (is_part key p.column)) (are_distinct key) d in
    let out : is_part key p.column ≡ false = not-true (is_part key p.column) parts.0 in
    let head : cond (nat_eq p.column p.column) v (value_of_column key r row p.column) ≡ v = cond-true _ _ _ (eq-eqb p.column p.column refl) in
    let rest : map (λ q. cond (nat_eq p.column q.column) v (value_of_column key r row q.column)) key ≡ map (λ q. value_of_column key r row q.column) key =
    same_map (λ q. cond (nat_eq p.column q.column) v (value_of_column key r row q.column)) (λ q. value_of_column key r row q.column) key key
    (λ q e. cond-false _ _ _ (ne_eqb p.column q.column (λ z. both_ways _ out (ap (is_part key) z ∙ e)))) in
    let later = key_values key r row parts.1 (omega arith) in
    (λ i. head i ∷ (rest ∙ later) i)

-- ---- the values of an index key fit

in_key : (columns : List TableColumn) (key : List KeyPlace) (r row : List Value) (c : ℕ) → Fits (map (key_column columns) key) r → is_part key c ≡ true → HasType (column_in columns c).column_type (value_of_column key r row c) × (value_of_column key r row c ≡ Null → key_admits_null (column_in columns c).column_type (column_in columns c).not_null ≡ true)
unfolding value_of_column
in_key columns [] r row c f h = absurd (true≢false (sym h))
in_key columns (p ∷ key) [] row c f h = absurd f
in_key columns (p ∷ key) (v ∷ r) row c f h = elim (cases_Bool (nat_eq p.column c)) [
  | inl e ↦
      (let q = eqb-true p.column c e in
      let here : value_of_column (p ∷ key) (v ∷ r) row c ≡ v = cond-true _ _ _ e in
      subst (λ (d : ℕ). HasType (column_in columns d).column_type (value_of_column (p ∷ key) (v ∷ r) row c) × (value_of_column (p ∷ key) (v ∷ r) row c ≡ Null → key_admits_null (column_in columns d).column_type (column_in columns d).not_null ≡ true)) q
      (subst (HasType (column_in columns p.column).column_type) (sym here) f.0.0, λ z. f.0.1 (sym here ∙ z)))
  | inr e ↦
      (let rest = in_key columns key r row c f.1 (sym (ap (λ (b : Bool). b || is_part key c) e) ∙ h) in
      let here : value_of_column (p ∷ key) (v ∷ r) row c ≡ value_of_column key r row c = cond-false _ _ _ e in
      (subst (HasType (column_in columns c).column_type) (sym here) rest.0, λ z. rest.1 (sym here ∙ z)))
]

beside_key : (key : List KeyPlace) (r row : List Value) (c : ℕ) → is_part key c ≡ false → value_of_column key r row c ≡ get_or row c Null
unfolding value_of_column
beside_key [] r row c h = refl
beside_key (p ∷ key) [] row c h = refl
beside_key (p ∷ key) (v ∷ r) row c h = (let parts = or_parts (nat_eq p.column c) (is_part key c) h in cond-false _ _ _ parts.0 ∙ beside_key key r row c parts.1)

place_fits : (t : Table) (r row : List Value) (p : KeyPlace) → Fits (row_columns t) r → FitsRowState t (Some row) → p.column < length t.columns → FitsColumn (index_column t p) (value_of_column t.key r row p.column)
place_fits t r row p f s l = elim (cases_Bool (is_part t.key p.column)) [
  | inl e ↦ (let h = in_key t.columns t.key r row p.column f e in (h.0, λ z. cond-true _ _ _ e ∙ h.1 z))
  | inr e ↦ (subst (HasType (column_in t.columns p.column).column_type) (sym (beside_key t.key r row p.column e)) (s.1 p.column l), λ z. cond-false _ _ _ e)
]

places_fit : (t : Table) (r row : List Value) (places : List KeyPlace) → Fits (row_columns t) r → FitsRowState t (Some row) → All (λ p. p.column < length t.columns) places → Fits (map (index_column t) places) (map (λ p. value_of_column t.key r row p.column) places)
places_fit t r row [] f s a = tt
places_fit t r row (p ∷ places) f s a = (place_fits t r row p f s (All-head (λ p. p.column < length t.columns) p places a), places_fit t r row places f s (All-tail (λ p. p.column < length t.columns) p places a))

within_if : (n : ℕ) (p : KeyPlace) (rest : List KeyPlace) (b : Bool) → p.column < n → All (λ p. p.column < n) rest → All (λ p. p.column < n) (cond b rest (p ∷ rest))
within_if n p rest true l a = a
within_if n p rest false l a = All-cons (λ p. p.column < n) p rest l a

rest_within : (n : ℕ) (parts key : List KeyPlace) → All (λ p. p.column < n) key → All (λ p. p.column < n) (rest_of parts key)
unfolding rest_of
rest_within n parts [] a = a
rest_within n parts (p ∷ key) a = within_if n p (rest_of parts key) (is_part parts p.column) (All-head (λ p. p.column < n) p key a) (rest_within n parts key (All-tail (λ p. p.column < n) p key a))

pub values_fit : (t : Table) (i : Index) (r row : List Value) → IsRightTable t → IsRightIndex t i → Fits (row_columns t) r → FitsRowState t (Some row) → Fits (index_columns t i) (index_values t i r row)
values_fit t i r row right index f s = places_fit t r row (index_places t i) f s (All-append (λ p. p.column < length t.columns) i.parts (rest_of i.parts t.key) index.parts (rest_within (length t.columns) i.parts t.key right.within))

fits_length : (columns : List KeyColumn) (values : List Value) → Fits columns values → length values ≡ length columns
fits_length [] [] h = refl
fits_length [] (v ∷ values) h = absurd h
fits_length (c ∷ columns) [] h = absurd h
fits_length (c ∷ columns) (v ∷ values) h = ap suc (fits_length columns values h.1)

-- the key of a state that fits holds its row
pub key_owned : (t : Table) (i : Index) (r row : List Value) → IsRightTable t → IsRightIndex t i → Fits (row_columns t) r → FitsRowState t (Some row) → owns t i r (spelled (index_columns t i) (index_values t i r row)) ≡ true
unfolding owns
key_owned t i r row right index f s =
    let k = spelled (index_columns t i) (index_values t i r row) in
    let back : read_parts (index_columns t i) k ≡ index_values t i r row = ap (read_parts (index_columns t i)) (sym (append-nil k)) ∙ parts_back (index_columns t i) (index_values t i r row) [] (values_fit t i r row right index f s) in
    let each : row_of_index t i k ≡ map (λ p. value_of_column t.key r row p.column) t.key =
    ap (λ (vs : List Value). map (λ p. value_among (index_places t i) vs p.column) t.key) back
    ∙ same_map (λ p. value_among (index_places t i) (index_values t i r row) p.column) (λ p. value_of_column t.key r row p.column) t.key t.key (λ p e. among_is (value_of_column t.key r row) (index_places t i) p.column (places_have t i p.column e)) in
    let count : length r ≡ length t.key = fits_length (row_columns t) r f ∙ length-map t.key (key_column t.columns) in
    (row_order-Decides (row_of_index t i k) r).1 (each ∙ key_values t.key r row right.distinct count)

pub key_is : (t : Table) (i : Index) (r row : List Value) → IsRightTable t → IsRightIndex t i → Fits (row_columns t) r → FitsRowState t (Some row) → key_of_state t i r (Some row) ≡ Some (spelled (index_columns t i) (index_values t i r row))
key_is t i r row right index f s = cond-true _ _ _ (key_owned t i r row right index f s)

-- ---- how they are found

-- the first place that has the column tells its value
pub found_value : (key : List KeyPlace) (r row : List Value) (c i : ℕ) (d : KeyPlace) (v : Value) → length r ≡ length key → i < length key → ((j : ℕ) → j < i → (get_or key j d).column ≢ c) → (get_or key i d).column ≡ c → get_or r i v ≡ value_of_column key r row c
unfolding value_of_column
found_value [] r row c i d v l m n e = absurd (omega arith)
found_value (p ∷ key) [] row c i d v l m n e = absurd (omega arith)
found_value (p ∷ key) (w ∷ r) row c zero d v l m n e = sym (cond-true _ _ _ (eq-eqb p.column c e))
found_value (p ∷ key) (w ∷ r) row c (suc i) d v l m n e =
    found_value key r row c i d v (omega arith) (omega arith) (λ j h. n (suc j) (omega arith)) e ∙ sym (cond-false _ _ _ (ne_eqb p.column c (n 0 (omega arith))))

pub found_none : (key : List KeyPlace) (r row : List Value) (c : ℕ) (d : KeyPlace) → ((j : ℕ) → j < length key → (get_or key j d).column ≢ c) → get_or row c Null ≡ value_of_column key r row c
unfolding value_of_column
found_none [] r row c d n = refl
found_none (p ∷ key) [] row c d n = refl
found_none (p ∷ key) (w ∷ r) row c d n = found_none key r row c d (λ j h. n (suc j) (omega arith)) ∙ sym (cond-false _ _ _ (ne_eqb p.column c (n 0 (omega arith))))

-- one part of the primary key more
rest_append : (parts key : List KeyPlace) (p : KeyPlace) → rest_of parts (key ++ p ∷ []) ≡ rest_of parts key ++ cond (is_part parts p.column) [] (p ∷ [])
unfolding rest_of
rest_append parts [] p = refl
rest_append parts (q ∷ key) p = by_part q (is_part parts q.column) (rest_of parts (key ++ p ∷ [])) (rest_of parts key) (cond (is_part parts p.column) [] (p ∷ [])) (rest_append parts key p)
  where
    by_part : (q : KeyPlace) (b : Bool) (xs ys zs : List KeyPlace) → xs ≡ ys ++ zs → cond b xs (q ∷ xs) ≡ cond b ys (q ∷ ys) ++ zs
    by_part q true xs ys zs e = e
    by_part q false xs ys zs e = ap (λ (l : List KeyPlace). q ∷ l) e

pub rest_added : (parts key : List KeyPlace) (i : ℕ) (p : KeyPlace) (xs ys : List KeyPlace) → i < length key → p ≡ get_or key i p → is_part parts p.column ≡ false → xs ≡ parts ++ rest_of parts (take i key) → ys ≡ xs ++ p ∷ [] → ys ≡ parts ++ rest_of parts (take (i + 1) key)
rest_added parts key i p xs ys l e b h q =
    q ∙ (ap (λ (z : List KeyPlace). z ++ p ∷ []) h
    ∙ (append_assoc parts (rest_of parts (take i key)) (p ∷ [])
    ∙ ap (λ (z : List KeyPlace). parts ++ z) (ap (λ (v : Bool). rest_of parts (take i key) ++ cond v [] (p ∷ [])) (sym b) ∙ (sym (rest_append parts (take i key) p) ∙ ap (rest_of parts) (ap (λ (w : KeyPlace). take i key ++ w ∷ []) e ∙ sym (take_more key i p l))))))

pub rest_passed : (parts key : List KeyPlace) (i : ℕ) (p : KeyPlace) (xs ys : List KeyPlace) → i < length key → p ≡ get_or key i p → is_part parts p.column ≡ true → xs ≡ parts ++ rest_of parts (take i key) → ys ≡ xs → ys ≡ parts ++ rest_of parts (take (i + 1) key)
rest_passed parts key i p xs ys l e b h q =
    q ∙ (h ∙ ap (λ (z : List KeyPlace). parts ++ z) (sym (append-nil (rest_of parts (take i key))) ∙ (ap (λ (v : Bool). rest_of parts (take i key) ++ cond v [] (p ∷ [])) (sym b) ∙ (sym (rest_append parts (take i key) p) ∙ ap (rest_of parts) (ap (λ (w : KeyPlace). take i key ++ w ∷ []) e ∙ sym (take_more key i p l))))))

pub places_within : (t : Table) (i : Index) → IsRightTable t → IsRightIndex t i → All (λ p. p.column < length t.columns) (index_places t i)
places_within t i right index = All-append (λ p. p.column < length t.columns) i.parts (rest_of i.parts t.key) index.parts (rest_within (length t.columns) i.parts t.key right.within)

pub row_count : (t : Table) (r : List Value) → Fits (row_columns t) r → length r ≡ length t.key
row_count t r f = fits_length (row_columns t) r f ∙ length-map t.key (key_column t.columns)

pub value_any : (xs : List Value) (i : ℕ) (d e : Value) → i < length xs → get_or xs i d ≡ get_or xs i e
value_any [] i d e l = absurd (omega arith)
value_any (x ∷ xs) zero d e l = refl
value_any (x ∷ xs) (suc i) d e l = value_any xs i d e (omega arith)

pub place_any : (xs : List KeyPlace) (i : ℕ) (d e : KeyPlace) → i < length xs → get_or xs i d ≡ get_or xs i e
place_any [] i d e l = absurd (omega arith)
place_any (x ∷ xs) zero d e l = refl
place_any (x ∷ xs) (suc i) d e l = place_any xs i d e (omega arith)
