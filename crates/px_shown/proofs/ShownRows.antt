-- What an index shows of a row.
use Rattle.std.proofs.Common.{◌≡◌, ℕ, zero, suc, ◌+◌, ◌<◌, Bool, true, false, cond, ◌||◌, Option, Some, List, [], ◌∷◌, ◌++◌, map, length, get_or, refl, ap, sym, ◌∙◌, subst, inl, inr, arith}
use Rattle.std.specs.Prelude.{nat_eq}
use Rattle.std.specs.List.{list_any}
use Rattle.std.proofs.lemmas.Bool.{cases_Bool, cases_lt, cond-true, cond-false, eqb-true, true≢false}
use Rattle.std.proofs.lemmas.List.{get_or-append-add, get_or_append_left, length-append, same_lists}
use Rattle.px_values.specs.Types.{HasType}
use Rattle.px_values.specs.declared.column.ColType.{ColType}
use Rattle.px_values.specs.declared.row.Value.{Value}
use Rattle.px_values.specs.declared.row.Value.TheVariants.{Null, Number, Truth, Text}
use Rattle.px_tables.specs.declared.index.Index.{Index}
use Rattle.px_tables.specs.declared.table.KeyPlace.{KeyPlace}
use Rattle.px_tables.specs.declared.table.Table.{Table}
use Rattle.px_tables.specs.declared.table.TableColumn.{TableColumn}
use Rattle.px_paths.specs.Paths.{index_part, index_path, is_held, is_keyed, key_part, shown_from, shown_on, value_on_path, values_on}
use Rattle.px_paths.specs.declared.path.PathColumn.{PathColumn}
use Rattle.px_rows.specs.Keys.{column_in}
use Rattle.px_rows.specs.Stored.{stored}
use Rattle.px_rows.proofs.KeysBack.{value_back}
use Rattle.px_indexrow.specs.Form.{FitsRowState, bytes_if, included_at, included_bytes, rest_of}
use Rattle.px_looks.specs.IndexKeys.{column_shown, columns_shown, is_included, shown_of_key, value_or_null}
use Rattle.px_shown.proofs.Paths.{path_is}

-- ---- values of the columns of a path

-- one of the columns is at this place
abbrev pub placed : List PathColumn → ℕ → Bool
placed path c = list_any (λ p. nat_eq p.place c) path

pub among_row : (path : List PathColumn) (row : List Value) (c : ℕ) → value_on_path path (values_on path row) c ≡ cond (placed path c) (get_or row c Null) Null
unfolding value_on_path
among_row [] row c = refl
among_row (p ∷ path) row c = elim (cases_Bool (nat_eq p.place c)) [
  | inl e ↦ cond-true _ _ _ e ∙ ap (λ (i : ℕ). get_or row i Null) (eqb-true p.place c e) ∙ sym (ap (λ (b : Bool). cond (b || placed path c) (get_or row c Null) Null) e)
  | inr e ↦ cond-false _ _ _ e ∙ among_row path row c ∙ sym (ap (λ (b : Bool). cond (b || placed path c) (get_or row c Null) Null) e)
]

or_assoc : (a b d : Bool) → (a || (b || d)) ≡ ((a || b) || d)
or_assoc true b d = refl
or_assoc false b d = refl

placed_append : (xs ys : List PathColumn) (c : ℕ) → placed (xs ++ ys) c ≡ (placed xs c || placed ys c)
placed_append [] ys c = refl
placed_append (x ∷ xs) ys c = ap (λ (b : Bool). nat_eq x.place c || b) (placed_append xs ys c) ∙ or_assoc (nat_eq x.place c) (placed xs c) (placed ys c)

placed_parts : (t : Table) (ps : List KeyPlace) (c : ℕ) → placed (map (index_part t) ps) c ≡ is_keyed ps c
placed_parts t [] c = refl
placed_parts t (p ∷ ps) c = ap (λ (b : Bool). nat_eq p.column c || b) (placed_parts t ps c)

placed_key : (cs : List TableColumn) (ps : List KeyPlace) (c : ℕ) → placed (map (key_part cs) ps) c ≡ is_keyed ps c
placed_key cs [] c = refl
placed_key cs (p ∷ ps) c = ap (λ (b : Bool). nat_eq p.column c || b) (placed_key cs ps c)

pub keyed_rest : (parts ps : List KeyPlace) (c : ℕ) → (is_keyed parts c || is_keyed (rest_of parts ps) c) ≡ (is_keyed parts c || is_keyed ps c)
unfolding rest_of
keyed_rest parts [] c = refl
keyed_rest parts (p ∷ ps) c = by (is_keyed parts p.column) refl (keyed_rest parts ps c)
  where
    swap : (a b d e : Bool) → (a || d) ≡ (a || e) → (a || (b || d)) ≡ (a || (b || e))
    swap true b d e h = refl
    swap false true d e h = refl
    swap false false d e h = h

    skip : (a b d e : Bool) → (b ≡ true → a ≡ true) → (a || d) ≡ (a || e) → (a || d) ≡ (a || (b || e))
    skip true b d e z h = refl
    skip false true d e z h = absurd (true≢false (sym (z refl)))
    skip false false d e z h = h

    by : (b : Bool) → is_keyed parts p.column ≡ b → (is_keyed parts c || is_keyed (rest_of parts ps) c) ≡ (is_keyed parts c || is_keyed ps c) → (is_keyed parts c || is_keyed (cond b (rest_of parts ps) (p ∷ rest_of parts ps)) c) ≡ (is_keyed parts c || (nat_eq p.column c || is_keyed ps c))
    by true e h = skip (is_keyed parts c) (nat_eq p.column c) (is_keyed (rest_of parts ps) c) (is_keyed ps c) (λ z. ap (λ (i : ℕ). is_keyed parts i) (sym (eqb-true p.column c z)) ∙ e) h
    by false e h = swap (is_keyed parts c) (nat_eq p.column c) (is_keyed (rest_of parts ps) c) (is_keyed ps c) h

pub placed_path : (t : Table) (x : Index) (c : ℕ) → placed (index_path t x) c ≡ (is_keyed x.parts c || is_keyed t.key c)
placed_path t x c =
    ap (λ (l : List PathColumn). placed l c) (path_is t x)
    ∙ placed_append (map (index_part t) x.parts) (map (key_part t.columns) (rest_of x.parts t.key)) c
    ∙ (λ i. placed_parts t x.parts c i || placed_key t.columns (rest_of x.parts t.key) c i)
    ∙ keyed_rest x.parts t.key c

-- ---- an included column

-- what is stored of a value is read again
back : (ty : ColType) (v : Value) → HasType ty v → value_or_null ty (bytes_if (stored ty v) v) ≡ v
back ty Null h = refl
back ty (Number n) h = value_back ty (Number n) h (λ e. cc)
back ty (Truth b) h = value_back ty (Truth b) h (λ e. cc)
back ty (Text b) h = value_back ty (Text b) h (λ e. cc)

-- an included column has a place among them
included_place : (cs : List ℕ) (c : ℕ) → list_any (λ i. nat_eq i c) cs ≡ true → (j : ℕ) × (j < length cs) × (get_or cs j 0 ≡ c)
included_place [] c h = absurd (true≢false (sym h))
included_place (d ∷ cs) c h = elim (cases_Bool (nat_eq d c)) [
  | inl e ↦ (0, (let z : 0 < suc (length cs) = omega arith in z), eqb-true d c e)
  | inr e ↦ (let r = included_place cs c (sym (ap (λ (b : Bool). b || list_any (λ i. nat_eq i c) cs) e) ∙ h) in (suc r.0, (let z = r.1 in omega arith), r.2))
]

or_any : (a b : Bool) → (a || (b || true)) ≡ true
or_any true b = refl
or_any false true = refl
or_any false false = refl

or_nothing : (a b : Bool) → (a || (b || false)) ≡ (a || b)
or_nothing true b = refl
or_nothing false true = refl
or_nothing false false = refl

-- ---- what is shown of a row, column by column

length_from : (t : Table) (x : Index) (n : ℕ) (vs : List Value) → length (shown_from t x n vs) ≡ length vs
unfolding shown_from
length_from t x n [] = refl
length_from t x n (v ∷ vs) = ap suc (length_from t x (n + 1) vs)

at_from : (t : Table) (x : Index) (n : ℕ) (vs : List Value) (c : ℕ) (d : Value) → c < length vs → get_or (shown_from t x n vs) c d ≡ cond (is_held t x (n + c)) (get_or vs c Null) Null
unfolding shown_from
at_from t x n [] c d l = absurd (omega arith)
at_from t x n (v ∷ vs) zero d l = (let e : n ≡ n + 0 = omega arith in ap (λ (i : ℕ). cond (is_held t x i) v Null) e)
at_from t x n (v ∷ vs) (suc c) d l = (let e : (n + 1) + c ≡ n + suc c = omega arith in at_from t x (n + 1) vs c d (omega arith) ∙ ap (λ (i : ℕ). cond (is_held t x i) (get_or vs c Null) Null) e)

module _ (t : Table) (x : Index) (row : List Value) (typed : FitsRowState t (Some row)) (seen : ℕ → Option (List ℕ)) (is : (c : ℕ) → c < length x.included → seen (suc (suc (included_at x c))) ≡ included_bytes t x (Some row) c) where
  column_is : (c : ℕ) → c < length t.columns → column_shown t x (values_on (index_path t x) row) seen c ≡ cond (is_held t x c) (get_or row c Null) Null
  column_is c l = elim (cases_Bool (is_included x c)) [
    | inl e ↦
        (let z = included_place x.included c e in
        let stored_is : seen (suc (suc c)) ≡ bytes_if (stored (column_in t.columns c).column_type (get_or row c Null)) (get_or row c Null) = subst (λ (d : ℕ). seen (suc (suc d)) ≡ bytes_if (stored (column_in t.columns d).column_type (get_or row d Null)) (get_or row d Null)) z.2 (is z.0 z.1) in
        cond-true _ _ _ e ∙ ap (value_or_null (column_in t.columns c).column_type) stored_is ∙ back (column_in t.columns c).column_type (get_or row c Null) (typed.1 c l)
        ∙ sym (cond-true _ _ _ (ap (λ (b : Bool). is_keyed x.parts c || (is_keyed t.key c || b)) e ∙ or_any (is_keyed x.parts c) (is_keyed t.key c))))
    | inr e ↦
        cond-false _ _ _ e ∙ among_row (index_path t x) row c
        ∙ ap (λ (b : Bool). cond b (get_or row c Null) Null) (placed_path t x c ∙ sym (ap (λ (b : Bool). is_keyed x.parts c || (is_keyed t.key c || b)) e ∙ or_nothing (is_keyed x.parts c) (is_keyed t.key c)))
  ]

  count_shown : (n : ℕ) → length (columns_shown t x (values_on (index_path t x) row) seen n) ≡ n
  unfolding columns_shown
  count_shown zero = refl
  count_shown (suc n) = length-append (columns_shown t x (values_on (index_path t x) row) seen n) (column_shown t x (values_on (index_path t x) row) seen n ∷ []) ∙ (let z = count_shown n in omega arith)

  at_shown : (n c : ℕ) (d : Value) → c < n → get_or (columns_shown t x (values_on (index_path t x) row) seen n) c d ≡ column_shown t x (values_on (index_path t x) row) seen c
  unfolding columns_shown
  at_shown zero c d l = absurd (omega arith)
  at_shown (suc n) c d l =
      let xs = columns_shown t x (values_on (index_path t x) row) seen n in
      let count = count_shown n in elim (cases_lt c n) [
        | inl m ↦ get_or_append_left xs (column_shown t x (values_on (index_path t x) row) seen n ∷ []) d c (omega arith) ∙ at_shown n c d m
        | inr m ↦
            (let here : c ≡ length xs + 0 = omega arith in
            let same : n ≡ c = omega arith in
            ap (λ (i : ℕ). get_or (xs ++ column_shown t x (values_on (index_path t x) row) seen n ∷ []) i d) here ∙ get_or-append-add xs (column_shown t x (values_on (index_path t x) row) seen n ∷ []) 0 d ∙ ap (column_shown t x (values_on (index_path t x) row) seen) same)
      ]

  -- the row that is shown is the row, with NULL in the columns that the index doesn't hold
  pub shown_is : shown_of_key t x (values_on (index_path t x) row) seen ≡ shown_on t x row
  shown_is = same_lists (columns_shown t x (values_on (index_path t x) row) seen (length t.columns)) (shown_on t x row) (count_shown (length t.columns) ∙ sym typed.0 ∙ sym (length_from t x 0 row))
      (λ c d l. (let inside : c < length t.columns = (let z = count_shown (length t.columns) in omega arith) in
      let here : c < length row = (let z = typed.0 in omega arith) in
      (let zero : c ≡ 0 + c = omega arith in at_shown (length t.columns) c d inside ∙ column_is c inside ∙ ap (λ (i : ℕ). cond (is_held t x i) (get_or row c Null) Null) zero ∙ sym (at_from t x 0 row c d here))))
