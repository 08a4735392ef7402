-- The lists of cells that a change writes.
use Rattle.std.proofs.Common.{◌≡◌, ◌≢◌, ℕ, zero, suc, ◌<◌, ◌≤◌, ◌+◌, Bool, true, false, cond, ◌&&◌, Option, Some, None, List, [], ◌∷◌, ◌++◌, length, take, get_or, refl, ap, sym, ◌∙◌, subst, inl, inr, arith}
use Rattle.std.specs.Prelude.{nat_eq, nat_lt}
use Rattle.std.specs.Cmp.Lexicographic.{pointwise}
use Rattle.std.specs.List.{AllByRecursion}
use Rattle.std.proofs.lemmas.Bool.{cases_eq, cases_lt, cond-true, cond-false, eq-eqb, ne_eqb, lt-ltb, le-ltb}
use Rattle.std.proofs.lemmas.List.{take_more}
use Rattle.px_cells.specs.declared.kind.CellKind.{CellKind}
use Rattle.px_cells.specs.declared.kind.CellKind.TheVariants.{Put, Delete, DeleteFamilyVersion, DeleteColumn, DeleteFamily}
use Rattle.px_cells.specs.Kind.{code_of}
use Rattle.px_cells.specs.CellData.{CellData}
use Rattle.px_cells.specs.Order.{Below, IsAscending, GoesWith, IsCellList}
use Rattle.px_cells.specs.Contents.{cell_of, value_at, or_else}
use Rattle.px_cells.proofs.Contents.{values_append}
use Rattle.px_cells.proofs.Orders.{below_from_order, by_qualifier}
use Rattle.px_tables.specs.declared.table.Table.{Table}
use Rattle.px_tables.specs.declared.table.TableColumn.{TableColumn}
use Rattle.px_values.specs.declared.row.Value.{Value}
use Rattle.px_values.specs.declared.row.Value.TheVariants.{Null, Number, Truth, Text}
use Rattle.px_values.specs.declared.change.Assignment.{Assignment}
use Rattle.px_values.specs.declared.change.What.{What}
use Rattle.px_values.specs.declared.change.What.TheVariants.{Set, Gone}
use Rattle.px_forms.proofs.RowViews.{bytes_swap}
use Rattle.px_rows.specs.Keys.{column_in}
use Rattle.px_rows.specs.Spelled.{RowForm, FitsColumnOf, FitsWhat, assigned_to, put_value, null_value, change_cells, change_contents, row_spelling}
use Rattle.px_rows.specs.Stored.{stored}
use Rattle.px_rows.specs.inner.Found.{AreOf}
use Rattle.px_rows.specs.Cells.{put_cell, null_cell, value_cell}
use Rattle.px_rows.specs.inner.Lists.{gone_cell, column_if, set_cells, change_list}
use Rattle.px_rows.proofs.Spelled.{assigned_fits}

-- ---- assignments

or_assoc : {A : Type 0} (a b c : Option A) → or_else (or_else a b) c ≡ or_else a (or_else b c)
or_assoc None b c = refl
or_assoc (Some x) b c = refl

or_nothing : {A : Type 0} (a : Option A) → or_else a None ≡ a
or_nothing None = refl
or_nothing (Some x) = refl

assigned_append : (as' : List Assignment) (a : Assignment) (c : ℕ) → assigned_to (as' ++ a ∷ []) c ≡ or_else (cond (nat_eq a.column c) (Some a.value) None) (assigned_to as' c)
assigned_append [] a c = sym (or_nothing (cond (nat_eq a.column c) (Some a.value) None))
assigned_append (x ∷ as') a c = ap (λ (o : Option Value). or_else o (cond (nat_eq x.column c) (Some x.value) None)) (assigned_append as' a c) ∙ or_assoc (cond (nat_eq a.column c) (Some a.value) None) (assigned_to as' c) (cond (nat_eq x.column c) (Some x.value) None)

-- the last of the first assignments counts
pub assigned_here : (as' : List Assignment) (i : ℕ) (a : Assignment) (c : ℕ) → i < length as' → a ≡ get_or as' i a → a.column ≡ c → Some a.value ≡ assigned_to (take (i + 1) as') c
assigned_here as' i a c l e q = sym (ap (λ (x : List Assignment). assigned_to x c) (take_more as' i a l) ∙ ap (λ (x : Assignment). assigned_to (take i as' ++ x ∷ []) c) (sym e) ∙ assigned_append (take i as') a c ∙ ap (λ (o : Option Value). or_else o (assigned_to (take i as') c)) (cond-true _ _ _ (eq-eqb a.column c q)))

pub assigned_before : (as' : List Assignment) (i : ℕ) (a : Assignment) (c : ℕ) → i < length as' → a ≡ get_or as' i a → a.column ≢ c → assigned_to (take i as') c ≡ assigned_to (take (i + 1) as') c
assigned_before as' i a c l e q = sym (ap (λ (x : List Assignment). assigned_to x c) (take_more as' i a l) ∙ ap (λ (x : Assignment). assigned_to (take i as' ++ x ∷ []) c) (sym e) ∙ assigned_append (take i as') a c ∙ ap (λ (o : Option Value). or_else o (assigned_to (take i as') c)) (cond-false _ _ _ (ne_eqb a.column c q)))

-- ---- what stands at each place

regroup : {A : Type 0} (a a' b c e : Bool) (x : A) → a ≡ a' → cond (a && (b && (c && e))) (Some x) None ≡ cond (a' && c) (cond (b && e) (Some x) None) None
regroup true a' b c e x q = by b c e ∙ ap (λ (v : Bool). cond (v && c) (cond (b && e) (Some x) None) None) q
  where
    by : (b c e : Bool) → cond (b && (c && e)) (Some x) None ≡ cond c (cond (b && e) (Some x) None) None
    by true true e = refl
    by true false e = refl
    by false true e = refl
    by false false e = refl
regroup false a' b c e x q = ap (λ (v : Bool). cond (v && c) (cond (b && e) (Some x) None) None) q

module _ (k : List ℕ) (s : ℕ) where
  abbrev here : List ℕ → ℕ → Bool
  here k' u = pointwise nat_eq k' k && nat_eq s u

  -- the value of a cell at a qualifier and kind
  abbrev alone : ℕ → CellKind → List ℕ → ℕ → CellKind → Option (List ℕ)
  alone q0 d0 v q d = cond (nat_eq q0 q && nat_eq (code_of d0) (code_of d)) (Some v) None

  one_cell : (q0 : ℕ) (d0 : CellKind) (v : List ℕ) (k' : List ℕ) (q u : ℕ) (d : CellKind) → value_at (cell_of k q0 s d0 v ∷ []) k' q u d ≡ cond (here k' u) (alone q0 d0 v q d) None
  unfolding value_at
  one_cell q0 d0 v k' q u d = regroup (pointwise nat_eq k k') (pointwise nat_eq k' k) (nat_eq q0 q) (nat_eq s u) (nat_eq (code_of d0) (code_of d)) v (bytes_swap k k')

  cond_or : {A : Type 0} (b : Bool) (x y : Option A) → or_else (cond b x None) (cond b y None) ≡ cond b (or_else x y) None
  cond_or true x y = refl
  cond_or false x y = refl

  no_value : (b : Bool) → let o : Option (List ℕ) = None in o ≡ cond b o o
  no_value true = refl
  no_value false = refl

  module _ (t : Table) (as' : List Assignment) where
    abbrev f : RowForm
    f = row_spelling t

    -- the values of the cell of a column
    abbrev of_column : ℕ → Option Value → ℕ → CellKind → Option (List ℕ)
    of_column c None q d = None
    of_column c (Some Null) q d = alone (suc (suc c)) DeleteColumn [] q d
    of_column c (Some (Number n)) q d = alone (suc (suc c)) Put (f.encode c (Number n)) q d
    of_column c (Some (Truth b)) q d = alone (suc (suc c)) Put (f.encode c (Truth b)) q d
    of_column c (Some (Text b)) q d = alone (suc (suc c)) Put (f.encode c (Text b)) q d

    column_values : (c : ℕ) (o : Option Value) (k' : List ℕ) (q u : ℕ) (d : CellKind) → value_at (column_if t.columns k s c o) k' q u d ≡ cond (here k' u) (of_column c o q d) None
    unfolding value_at
    column_values c None k' q u d = no_value (here k' u)
    column_values c (Some Null) k' q u d = one_cell (suc (suc c)) DeleteColumn [] k' q u d
    column_values c (Some (Number n)) k' q u d = one_cell (suc (suc c)) Put (f.encode c (Number n)) k' q u d
    column_values c (Some (Truth b)) k' q u d = one_cell (suc (suc c)) Put (f.encode c (Truth b)) k' q u d
    column_values c (Some (Text b)) k' q u d = one_cell (suc (suc c)) Put (f.encode c (Text b)) k' q u d

    up_to : ℕ → ℕ → CellKind → Option (List ℕ)
    up_to zero q d = alone 1 Put [] q d
    up_to (suc c) q d = or_else (up_to c q d) (of_column c (assigned_to as' c) q d)

    set_values : (n : ℕ) (k' : List ℕ) (q u : ℕ) (d : CellKind) → value_at (set_cells t.columns k s as' n) k' q u d ≡ cond (here k' u) (up_to n q d) None
    unfolding set_cells up_to
    set_values zero k' q u d = one_cell 1 Put [] k' q u d
    set_values (suc c) k' q u d =
        (λ i. values_append (set_cells t.columns k s as' c) (column_if t.columns k s c (assigned_to as' c)) i k' q u d)
        ∙ ((λ i. or_else (set_values c k' q u d i) (column_values c (assigned_to as' c) k' q u d i))
        ∙ cond_or (here k' u) (up_to c q d) (of_column c (assigned_to as' c) q d))

    alone_off : (q0 : ℕ) (d0 : CellKind) (v : List ℕ) (q : ℕ) (d : CellKind) → q0 ≢ q → alone q0 d0 v q d ≡ None
    alone_off q0 d0 v q d n = ap (λ (b : Bool). cond (b && nat_eq (code_of d0) (code_of d)) (Some v) None) (ne_eqb q0 q n)

    alone_on : (q0 : ℕ) (d0 : CellKind) (v : List ℕ) (d : CellKind) → alone q0 d0 v q0 d ≡ cond (nat_eq (code_of d0) (code_of d)) (Some v) None
    alone_on q0 d0 v d = ap (λ (b : Bool). cond (b && nat_eq (code_of d0) (code_of d)) (Some v) None) (eq-eqb q0 q0 refl)

    column_off : (c : ℕ) (o : Option Value) (q : ℕ) (d : CellKind) → suc (suc c) ≢ q → of_column c o q d ≡ None
    column_off c None q d n = refl
    column_off c (Some Null) q d n = alone_off (suc (suc c)) DeleteColumn [] q d n
    column_off c (Some (Number x)) q d n = alone_off (suc (suc c)) Put (f.encode c (Number x)) q d n
    column_off c (Some (Truth x)) q d n = alone_off (suc (suc c)) Put (f.encode c (Truth x)) q d n
    column_off c (Some (Text x)) q d n = alone_off (suc (suc c)) Put (f.encode c (Text x)) q d n

    -- what the cell of a column is at its own qualifier
    abbrev own_cell : ℕ → Option Value → CellKind → Option (List ℕ)
    own_cell c o Put = put_value f c o
    own_cell c o Delete = None
    own_cell c o DeleteFamilyVersion = None
    own_cell c o DeleteColumn = null_value o
    own_cell c o DeleteFamily = None

    column_on : (c : ℕ) (o : Option Value) (d : CellKind) → of_column c o (suc (suc c)) d ≡ own_cell c o d
    column_on c None Put = refl
    column_on c None Delete = refl
    column_on c None DeleteFamilyVersion = refl
    column_on c None DeleteColumn = refl
    column_on c None DeleteFamily = refl
    column_on c (Some Null) d = alone_on (suc (suc c)) DeleteColumn [] d ∙ by d
      where
        by : (d : CellKind) → cond (nat_eq (code_of DeleteColumn) (code_of d)) (Some []) None ≡ own_cell c (Some Null) d
        by Put = refl
        by Delete = refl
        by DeleteFamilyVersion = refl
        by DeleteColumn = refl
        by DeleteFamily = refl
    column_on c (Some (Number x)) d = alone_on (suc (suc c)) Put (f.encode c (Number x)) d ∙ by d
      where
        by : (d : CellKind) → cond (nat_eq (code_of Put) (code_of d)) (Some (f.encode c (Number x))) None ≡ own_cell c (Some (Number x)) d
        by Put = refl
        by Delete = refl
        by DeleteFamilyVersion = refl
        by DeleteColumn = refl
        by DeleteFamily = refl
    column_on c (Some (Truth x)) d = alone_on (suc (suc c)) Put (f.encode c (Truth x)) d ∙ by d
      where
        by : (d : CellKind) → cond (nat_eq (code_of Put) (code_of d)) (Some (f.encode c (Truth x))) None ≡ own_cell c (Some (Truth x)) d
        by Put = refl
        by Delete = refl
        by DeleteFamilyVersion = refl
        by DeleteColumn = refl
        by DeleteFamily = refl
    column_on c (Some (Text x)) d = alone_on (suc (suc c)) Put (f.encode c (Text x)) d ∙ by d
      where
        by : (d : CellKind) → cond (nat_eq (code_of Put) (code_of d)) (Some (f.encode c (Text x))) None ≡ own_cell c (Some (Text x)) d
        by Put = refl
        by Delete = refl
        by DeleteFamilyVersion = refl
        by DeleteColumn = refl
        by DeleteFamily = refl

    changes_own : (c : ℕ) (d : CellKind) → own_cell c (assigned_to as' c) d ≡ change_cells f (Set as') (suc (suc c)) d
    changes_own c Put = refl
    changes_own c Delete = refl
    changes_own c DeleteFamilyVersion = refl
    changes_own c DeleteColumn = refl
    changes_own c DeleteFamily = refl

    -- below the first columns' end, what the change writes
    up_to_is : (n q : ℕ) (d : CellKind) → up_to n q d ≡ cond (nat_lt q (n + 2)) (change_cells f (Set as') q d) None
    unfolding up_to
    up_to_is zero zero Put = refl
    up_to_is zero zero Delete = refl
    up_to_is zero zero DeleteFamilyVersion = refl
    up_to_is zero zero DeleteColumn = refl
    up_to_is zero zero DeleteFamily = refl
    up_to_is zero (suc zero) Put = refl
    up_to_is zero (suc zero) Delete = refl
    up_to_is zero (suc zero) DeleteFamilyVersion = refl
    up_to_is zero (suc zero) DeleteColumn = refl
    up_to_is zero (suc zero) DeleteFamily = refl
    up_to_is zero (suc (suc c)) d = alone_off 1 Put [] (suc (suc c)) d (λ e. absurd (omega arith)) ∙ sym (cond-false _ _ _ (le-ltb (suc (suc c)) (0 + 2) (omega arith)))
    up_to_is (suc n) q d = elim (cases_eq q (suc (suc n))) [
      | inl e ↦
          subst (λ (x : ℕ). or_else (up_to n x d) (of_column n (assigned_to as' n) x d) ≡ cond (nat_lt x (suc n + 2)) (change_cells f (Set as') x d) None) (sym e)
          (ap (λ (o : Option (List ℕ)). or_else o (of_column n (assigned_to as' n) (suc (suc n)) d)) (up_to_is n (suc (suc n)) d ∙ cond-false _ _ _ (le-ltb (suc (suc n)) (n + 2) (omega arith)))
          ∙ (column_on n (assigned_to as' n) d ∙ (changes_own n d ∙ sym (cond-true _ _ _ (lt-ltb (suc (suc n)) (suc n + 2) (omega arith))))))
      | inr e ↦
          ap (or_else (up_to n q d)) (column_off n (assigned_to as' n) q d (λ z. e (sym z)))
          ∙ (or_nothing (up_to n q d)
          ∙ (up_to_is n q d
          ∙ ap (λ (b : Bool). cond b (change_cells f (Set as') q d) None) (same_below q n e)))
    ]
      where
        same_below : (q n : ℕ) → (q ≡ suc (suc n) → ⊥) → nat_lt q (n + 2) ≡ nat_lt q (suc n + 2)
        same_below q n e = elim (cases_lt q (n + 2)) [
          | inl l ↦ lt-ltb q (n + 2) l ∙ sym (lt-ltb q (suc n + 2) (omega arith))
          | inr l ↦ le-ltb q (n + 2) l ∙ sym (le-ltb q (suc n + 2) (let z : q ≢ suc (suc n) = e in omega arith))
        ]

    -- no assignment is beyond the columns
    beyond : AllByRecursion (FitsColumnOf t) as' → (c : ℕ) → length t.columns ≤ c → assigned_to as' c ≡ None
    beyond h c l = by (assigned_to as' c) refl
      where
        by : (o : Option Value) → assigned_to as' c ≡ o → o ≡ None
        by None e = refl
        by (Some v) e = absurd (let z = (assigned_fits t as' h c v e).within in omega arith)

    none_beyond : AllByRecursion (FitsColumnOf t) as' → (q : ℕ) (d : CellKind) → length t.columns + 2 ≤ q → change_cells f (Set as') q d ≡ None
    none_beyond h zero d l = absurd (omega arith)
    none_beyond h (suc zero) d l = absurd (omega arith)
    none_beyond h (suc (suc c)) Put l = ap (put_value f c) (beyond h c (omega arith))
    none_beyond h (suc (suc c)) Delete l = refl
    none_beyond h (suc (suc c)) DeleteFamilyVersion l = refl
    none_beyond h (suc (suc c)) DeleteColumn l = ap null_value (beyond h c (omega arith))
    none_beyond h (suc (suc c)) DeleteFamily l = refl

    all_up_to : AllByRecursion (FitsColumnOf t) as' → (q : ℕ) (d : CellKind) → up_to (length t.columns) q d ≡ change_cells f (Set as') q d
    all_up_to h q d = up_to_is (length t.columns) q d ∙ elim (cases_lt q (length t.columns + 2)) [
      | inl l ↦ cond-true _ _ _ (lt-ltb q (length t.columns + 2) l)
      | inr l ↦ cond-false _ _ _ (le-ltb q (length t.columns + 2) l) ∙ sym (none_beyond h q d l)
    ]

    pub set_list_values : AllByRecursion (FitsColumnOf t) as' → (k' : List ℕ) (q u : ℕ) (d : CellKind) → value_at (set_cells t.columns k s as' (length t.columns)) k' q u d ≡ cond (here k' u) (change_cells f (Set as') q d) None
    set_list_values h k' q u d = set_values (length t.columns) k' q u d ∙ ap (λ (o : Option (List ℕ)). cond (here k' u) o None) (all_up_to h q d)

  gone_values : (t : Table) (k' : List ℕ) (q u : ℕ) (d : CellKind) → value_at (gone_cell k s ∷ []) k' q u d ≡ cond (here k' u) (change_cells (row_spelling t) Gone q d) None
  gone_values t k' q u d = one_cell 0 DeleteFamily [] k' q u d ∙ ap (λ (o : Option (List ℕ)). cond (here k' u) o None) (by q d)
    where
      by : (q : ℕ) (d : CellKind) → alone 0 DeleteFamily [] q d ≡ change_cells (row_spelling t) Gone q d
      by zero Put = refl
      by zero Delete = refl
      by zero DeleteFamilyVersion = refl
      by zero DeleteColumn = refl
      by zero DeleteFamily = refl
      by (suc q) Put = ap (λ (b : Bool). cond (b && false) (Some []) None) (ne_eqb 0 (suc q) (λ e. absurd (omega arith)))
      by (suc q) Delete = ap (λ (b : Bool). cond (b && false) (Some []) None) (ne_eqb 0 (suc q) (λ e. absurd (omega arith)))
      by (suc q) DeleteFamilyVersion = ap (λ (b : Bool). cond (b && false) (Some []) None) (ne_eqb 0 (suc q) (λ e. absurd (omega arith)))
      by (suc q) DeleteColumn = ap (λ (b : Bool). cond (b && false) (Some []) None) (ne_eqb 0 (suc q) (λ e. absurd (omega arith)))
      by (suc q) DeleteFamily = ap (λ (b : Bool). cond (b && true) (Some []) None) (ne_eqb 0 (suc q) (λ e. absurd (omega arith)))

-- the list of a change is read as its cells
pub change_values : (t : Table) (r : List Value) (s : ℕ) (w : What) → FitsWhat t w → value_at (change_list t.columns ((row_spelling t).key_of r) s w) ≡ change_contents (row_spelling t) r s w
change_values t r s (Set as') h = λ i k' q u d. set_list_values ((row_spelling t).key_of r) s t as' h k' q u d i
change_values t r s Gone h = λ i k' q u d. gone_values ((row_spelling t).key_of r) s t k' q u d i

-- ---- the list is sorted

pub record IsRowCell (k : List ℕ) (n : ℕ) (c : CellData) : Type 0 where
  pub key : c.key ≡ k
  pub below : c.qualifier < n
  pub placed : GoesWith c

all_append : (P : CellData → Type 0) (xs ys : List CellData) → AllByRecursion P xs → AllByRecursion P ys → AllByRecursion P (xs ++ ys)
all_append P [] ys h g = g
all_append P (x ∷ xs) ys h g = (h.0, all_append P xs ys h.1 g)

all_weaker : (P Q : CellData → Type 0) → ((c : CellData) → P c → Q c) → (xs : List CellData) → AllByRecursion P xs → AllByRecursion Q xs
all_weaker P Q f [] h = tt
all_weaker P Q f (x ∷ xs) h = (f x h.0, all_weaker P Q f xs h.1)

ascending_snoc : (xs : List CellData) (d : CellData) → IsAscending xs → AllByRecursion (λ c. Below c d) xs → IsAscending (xs ++ d ∷ [])
ascending_snoc [] d a h = (tt, tt)
ascending_snoc (x ∷ xs) d a h = (all_append (Below x) xs (d ∷ []) a.0 (h.0, tt), ascending_snoc xs d a.1 h.1)

put_placed : (k : List ℕ) (q s : ℕ) (v : List ℕ) → 1 ≤ q → GoesWith (put_cell k q s v)
put_placed k q s v l = (λ h. cc, λ h. absurd (omega arith))

null_placed : (k : List ℕ) (q s : ℕ) → 1 ≤ q → GoesWith (null_cell k q s)
null_placed k q s l = (λ h. cc, λ h. absurd (omega arith))

column_placed : (columns : List TableColumn) (k : List ℕ) (s c : ℕ) (v : Value) → IsRowCell k (suc c + 2) (value_cell columns k s c v) × ((value_cell columns k s c v).qualifier ≡ suc (suc c))
column_placed columns k s c Null = (record { key = refl; below = omega arith; placed = null_placed k (suc (suc c)) s (omega arith) }, refl)
column_placed columns k s c (Number n) = (record { key = refl; below = omega arith; placed = put_placed k (suc (suc c)) s (stored (column_in columns c).column_type (Number n)) (omega arith) }, refl)
column_placed columns k s c (Truth b) = (record { key = refl; below = omega arith; placed = put_placed k (suc (suc c)) s (stored (column_in columns c).column_type (Truth b)) (omega arith) }, refl)
column_placed columns k s c (Text b) = (record { key = refl; below = omega arith; placed = put_placed k (suc (suc c)) s (stored (column_in columns c).column_type (Text b)) (omega arith) }, refl)

append_none : (xs : List CellData) → xs ++ [] ≡ xs
append_none [] = refl
append_none (x ∷ xs) = ap (λ (l : List CellData). x ∷ l) (append_none xs)

column_list : (columns : List TableColumn) (k : List ℕ) (s c : ℕ) (o : Option Value) (xs : List CellData) → IsAscending xs × AllByRecursion (IsRowCell k (c + 2)) xs → IsAscending (xs ++ column_if columns k s c o) × AllByRecursion (IsRowCell k (suc c + 2)) (xs ++ column_if columns k s c o)
column_list columns k s c None xs h = (
  subst IsAscending (sym (append_none xs)) h.0,
  subst (AllByRecursion (IsRowCell k (suc c + 2))) (sym (append_none xs)) (all_weaker _ _ (λ x p. record { key = p.key; below = (let z = p.below in omega arith); placed = p.placed }) xs h.1),
)
column_list columns k s c (Some v) xs h =
    let p = column_placed columns k s c v in (
      ascending_snoc xs (value_cell columns k s c v) h.0 (all_weaker _ _ (λ x b. below_from_order x (value_cell columns k s c v) (by_qualifier (b.key ∙ sym p.0.key) (let z = b.below in let y = p.1 in omega arith))) xs h.1),
      all_append _ xs (value_cell columns k s c v ∷ []) (all_weaker _ _ (λ x p. record { key = p.key; below = (let z = p.below in omega arith); placed = p.placed }) xs h.1) (p.0, tt),
    )

set_list : (columns : List TableColumn) (k : List ℕ) (s : ℕ) (as' : List Assignment) (n : ℕ) → IsAscending (set_cells columns k s as' n) × AllByRecursion (IsRowCell k (n + 2)) (set_cells columns k s as' n)
unfolding set_cells
set_list columns k s as' zero = ((tt, tt), (record { key = refl; below = omega arith; placed = put_placed k 1 s [] (omega arith) }, tt))
set_list columns k s as' (suc c) = column_list columns k s c (assigned_to as' c) (set_cells columns k s as' c) (set_list columns k s as' c)

-- the cells of a change are a sorted list, all at the row's key
pub change_is_list : (columns : List TableColumn) (k : List ℕ) (s : ℕ) (w : What) → IsCellList (change_list columns k s w)
change_is_list columns k s (Set as') = (let h = set_list columns k s as' (length columns) in record { ascending = h.0; placed = all_weaker _ _ (λ x p. p.placed) (set_cells columns k s as' (length columns)) h.1 })
change_is_list columns k s Gone = record { ascending = (tt, tt); placed = ((λ h. refl, λ h. refl), tt) }

pub change_own : (columns : List TableColumn) (k : List ℕ) (s : ℕ) (w : What) → AreOf k (change_list columns k s w)
change_own columns k s (Set as') = all_weaker _ _ (λ x p. p.key) (set_cells columns k s as' (length columns)) (set_list columns k s as' (length columns)).1
change_own columns k s Gone = (refl, tt)

-- ---- one cell after another

pub set_first : (columns : List TableColumn) (k : List ℕ) (s : ℕ) (as' : List Assignment) (xs ys : List CellData) (c : CellData) → xs ≡ [] → c ≡ put_cell k 1 s [] → ys ≡ xs ++ c ∷ [] → ys ≡ set_cells columns k s as' 0
unfolding set_cells
set_first columns k s as' xs ys c e q p = p ∙ (λ i. e i ++ q i ∷ [])

one_more : (columns : List TableColumn) (k : List ℕ) (s : ℕ) (as' : List Assignment) (n : ℕ) (o : Option Value) → assigned_to as' n ≡ o → set_cells columns k s as' n ++ column_if columns k s n o ≡ set_cells columns k s as' (n + 1)
unfolding set_cells
one_more columns k s as' n o e =
    let z : suc n ≡ n + 1 = omega arith in
    ap (λ (o : Option Value). set_cells columns k s as' n ++ column_if columns k s n o) (sym e) ∙ ap (set_cells columns k s as') z

pub set_more : (columns : List TableColumn) (k : List ℕ) (s : ℕ) (as' : List Assignment) (n : ℕ) (xs ys : List CellData) (c : CellData) (v : Value) → xs ≡ set_cells columns k s as' n → assigned_to as' n ≡ Some v → c ≡ value_cell columns k s n v → ys ≡ xs ++ c ∷ [] → ys ≡ set_cells columns k s as' (n + 1)
set_more columns k s as' n xs ys c v e a q p = p ∙ ((λ i. e i ++ q i ∷ []) ∙ one_more columns k s as' n (Some v) a)

pub set_same : (columns : List TableColumn) (k : List ℕ) (s : ℕ) (as' : List Assignment) (n : ℕ) (xs ys : List CellData) → xs ≡ set_cells columns k s as' n → assigned_to as' n ≡ None → ys ≡ xs → ys ≡ set_cells columns k s as' (n + 1)
set_same columns k s as' n xs ys e a p = p ∙ (e ∙ (sym (append_none (set_cells columns k s as' n)) ∙ one_more columns k s as' n None a))
