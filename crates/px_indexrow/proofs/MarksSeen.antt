-- What rows see of the cells of index rows.
use Rattle.std.proofs.Common.{◌≡◌, ℕ, zero, suc, ◌<◌, ◌≤◌, Bool, true, false, cond, ◌&&◌, ◌||◌, Option, Some, None, List, [], ◌∷◌, ◌++◌, refl, ap, sym, ◌∙◌, subst, inl, inr, arith}
use Rattle.std.specs.Prelude.{nat_eq, nat_lt, is_some, is_none}
use Rattle.std.specs.Cmp.Lexicographic.{pointwise}
use Rattle.std.proofs.lemmas.Slice.Eq.{bytes_eq-Decides}
use Rattle.std.proofs.lemmas.Bool.{cases_Bool, cases_eq, cond-true, cond-false, ne_eqb, eq-eqb, eqb-true, false≢true, true≢false, both_ways, and_parts, ltb-true, lt-ltb, le-ltb, cases_lt}
use Rattle.px_cells.specs.declared.kind.CellKind.{CellKind}
use Rattle.px_cells.specs.declared.kind.CellKind.TheVariants.{Put, DeleteFamilyVersion, DeleteColumn, DeleteFamily}
use Rattle.px_cells.specs.Kind.{code_of}
use Rattle.px_cells.specs.CellData.{CellData}
use Rattle.px_cells.specs.Contents.{value_at}
use Rattle.px_cells.specs.Order.{ReadsSame}
use Rattle.px_cells.proofs.Contents.{same_values}
use Rattle.px_values.specs.declared.row.Value.{Value}
use Rattle.px_values.specs.States.{RowState, Shape}
use Rattle.px_trail.specs.Batches.{has, is_distinct}
use Rattle.px_world.specs.World.{Status, Absent, Unverified, Verified}
use Rattle.px_world.specs.Events.{put_over}
use Rattle.px_world.specs.IndexCells.{IndexCells, no_cells, over, status_over, mark_cells}
use Rattle.px_world.specs.Shape.{has_key, is_key_there}
use Rattle.px_world.proofs.IndexCells.{same_cells}
use Rattle.px_forms.specs.Indexes.{IndexForm, IsIndexForm, IsPlaced, view_of, view_at, status_in, cells_if, shape_at}
use Rattle.px_forms.proofs.Views.{view_append, view_empty}
use Rattle.px_forms.specs.Several.{AreOwned, cells_for}
use Rattle.px_forms.proofs.RowViews.{bytes_swap, over_none, rows_view}
use Rattle.px_indexrow.specs.Lists.{status_cell, column_cell, column_cells, version_cells, version_if, left_key, status_if, family_if, marks_of, closes_of, base_version}

-- ---- the marks of one row

-- the view of a list by what stands at its places
module _ (f : IndexForm) (g : IsIndexForm f) (placed : IsPlaced f) (r : List Value) (k0 : List ℕ) (own : f.owns r k0 ≡ true) (s : ℕ) where
  abbrev pub here : List ℕ → ℕ → Bool
  here k u = nat_eq s u && pointwise nat_eq k k0

  -- what is at another key or stamp than these is none
  abbrev status_alone : IndexCells (List ℕ) (List ℕ)
  status_alone = record { status = λ k u. cond (here k u) Unverified Absent; put = λ k u c. None; del = λ k u c. false; fam = λ k u. false; ver = λ k u. false }

  owned_if : (k : List ℕ) → pointwise nat_eq k k0 ≡ true → f.owns r k ≡ true
  owned_if k e = subst (λ (z : List ℕ). f.owns r z ≡ true) (sym ((bytes_eq-Decides k k0).0 e)) own

  one_status : (v a c : Bool) (x : Status) → (c ≡ true → v ≡ true) → (d : Bool) → d ≡ c → cond v (status_in (cond (d && (true && (a && true))) (Some (2 ∷ [])) None)) Absent ≡ cond (a && c) Unverified Absent
  one_status v true true x h true e = (let z = h refl in rw z refl)
  one_status v false true x h true e = if_absent v
    where
      if_absent : (v : Bool) → cond v Absent Absent ≡ Absent
      if_absent true = refl
      if_absent false = refl
  one_status v a false x h true e = absurd (true≢false e)
  one_status v a true x h false e = absurd (false≢true e)
  one_status v a false x h false e = if_absent v a
    where
      if_absent : (v a : Bool) → cond v Absent Absent ≡ cond (a && false) Unverified Absent
      if_absent true true = refl
      if_absent true false = refl
      if_absent false true = refl
      if_absent false false = refl

  none_if : {A : Type 0} (v : Bool) (o : Option A) → (v ≡ true → o ≡ None) → cond v o None ≡ None
  none_if true o h = h refl
  none_if false o h = refl

  off_if : {A : Type 0} (v : Bool) (o : Option A) → (v ≡ true → o ≡ None) → (v && is_some o) ≡ false
  off_if true o h = ap is_some (h refl)
  off_if false o h = refl

  -- a cell isn't at another place
  other_place : (c : CellData) (k : List ℕ) (q u : ℕ) (d : CellKind) → (c.qualifier ≡ q → ⊥) → value_at (c ∷ []) k q u d ≡ None
  unfolding value_at
  other_place c k q u d n = cond-false _ _ _ (off (pointwise nat_eq c.key k) (nat_eq c.qualifier q) _ (ne_eqb c.qualifier q n))
    where
      off : (a b c : Bool) → b ≡ false → (a && (b && c)) ≡ false
      off true b c h = ap (λ v. v && c) h
      off false b c h = refl

  pub view_status : view_at f r (status_cell k0 s 2 ∷ []) ≡ status_alone
  unfolding value_at
  view_status = same_cells _ _
      (λ k u. one_status (f.owns r k) (nat_eq s u) (pointwise nat_eq k k0) Absent (owned_if k) (pointwise nat_eq k0 k) (bytes_swap k0 k))
      (λ k u c. none_if (f.owns r k && nat_lt c f.columns) (value_at (status_cell k0 s 2 ∷ []) k (f.place c) u Put) (λ o. other_place (status_cell k0 s 2) k (f.place c) u Put (λ e. (let i = placed.above c (ltb-true c f.columns (and_parts (f.owns r k) (nat_lt c f.columns) o).1) in absurd (omega arith)))))
      (λ k u c. off_if (f.owns r k && nat_lt c f.columns) (value_at (status_cell k0 s 2 ∷ []) k (f.place c) u DeleteColumn) (λ o. other_place (status_cell k0 s 2) k (f.place c) u DeleteColumn (λ e. (let i = placed.above c (ltb-true c f.columns (and_parts (f.owns r k) (nat_lt c f.columns) o).1) in absurd (omega arith)))))
      (λ k u. off_if (f.owns r k) (value_at (status_cell k0 s 2 ∷ []) k 0 u DeleteFamily) (λ o. other_place (status_cell k0 s 2) k 0 u DeleteFamily (λ e. absurd (omega arith))))
      (λ k u. off_if (f.owns r k) (value_at (status_cell k0 s 2 ∷ []) k 0 u DeleteFamilyVersion) (λ o. other_place (status_cell k0 s 2) k 0 u DeleteFamilyVersion (λ e. absurd (omega arith))))

  -- ---- the cell of a column

  none_here : (v a c : Bool) (y : Option (List ℕ)) → (c ≡ true → v ≡ true) → v ≡ false → cond (a && c) y None ≡ None
  none_here v true true y h e = absurd (false≢true (sym e ∙ h refl))
  none_here v true false y h e = refl
  none_here v false c y h e = refl

  abbrev column_alone : ℕ → Option (List ℕ) → IndexCells (List ℕ) (List ℕ)
  column_alone m val = record { status = λ k u. Absent; put = λ k u c. cond (here k u && nat_eq c m) val None; del = λ k u c. here k u && (nat_eq c m && is_none val); fam = λ k u. false; ver = λ k u. false }

  absent_if : (v : Bool) (o : Option (List ℕ)) → o ≡ None → cond v (status_in o) Absent ≡ Absent
  absent_if true o e = ap status_in e
  absent_if false o e = refl

  module _ (m : ℕ) (inside : m < f.columns) (cell : CellData) (key_is : cell.key ≡ k0) (qualifier_is : cell.qualifier ≡ f.place m) (stamp_is : cell.stamp ≡ s) where
    not_at : (k : List ℕ) (q u : ℕ) (d : CellKind) → (f.place m ≡ q → ⊥) → value_at (cell ∷ []) k q u d ≡ None
    not_at k q u d n = other_place cell k q u d (λ e. n (sym qualifier_is ∙ e))

    -- what stands at a column's place
    at_column : (k : List ℕ) (u c : ℕ) (d : CellKind) → c < f.columns → value_at (cell ∷ []) k (f.place c) u d ≡ cond (here k u && nat_eq c m) (cond (nat_eq (code_of cell.kind) (code_of d)) (Some cell.value) None) None
    unfolding value_at
    at_column k u c d l = elim (cases_eq c m) [
      | inl e ↦
          (let x : pointwise nat_eq cell.key k ≡ pointwise nat_eq k k0 = ap (λ (z : List ℕ). pointwise nat_eq z k) key_is ∙ bytes_swap k0 k in
          let y : nat_eq cell.qualifier (f.place c) ≡ true = eq-eqb _ _ (qualifier_is ∙ ap f.place (sym e)) in
          let z : nat_eq cell.stamp u ≡ nat_eq s u = ap (λ (z : ℕ). nat_eq z u) stamp_is in
          let w : nat_eq c m ≡ true = eq-eqb c m e in
          (λ i. cond (x i && (y i && (z i && nat_eq (code_of cell.kind) (code_of d)))) (Some cell.value) None)
          ∙ (shuffle (pointwise nat_eq k k0) (nat_eq s u) (nat_eq (code_of cell.kind) (code_of d)) (Some cell.value) ∙ ap (λ v. cond ((nat_eq s u && pointwise nat_eq k k0) && v) (cond (nat_eq (code_of cell.kind) (code_of d)) (Some cell.value) None) None) (sym w)))
      | inr e ↦ not_at k (f.place c) u d (λ z. e (placed.apart c m l inside (sym z))) ∙ sym (ap (λ v. cond (here k u && v) (cond (nat_eq (code_of cell.kind) (code_of d)) (Some cell.value) None) None) (ne_eqb c m e) ∙ nothing (here k u) _)
    ]
      where
        shuffle : (a c d : Bool) (y : Option (List ℕ)) → cond (a && (true && (c && d))) y None ≡ cond ((c && a) && true) (cond d y None) None
        shuffle true true d y = refl
        shuffle true false d y = refl
        shuffle false true d y = refl
        shuffle false false d y = refl

        nothing : (a : Bool) (y : Option (List ℕ)) → cond (a && false) y None ≡ None
        nothing true y = refl
        nothing false y = refl

    guarded : (k : List ℕ) (u c : ℕ) (d : CellKind) → cond (f.owns r k && nat_lt c f.columns) (value_at (cell ∷ []) k (f.place c) u d) None ≡ cond (here k u && nat_eq c m) (cond (nat_eq (code_of cell.kind) (code_of d)) (Some cell.value) None) None
    guarded k u c d = elim (cases_Bool (f.owns r k && nat_lt c f.columns)) [
      | inl e ↦ cond-true _ _ _ e ∙ at_column k u c d (ltb-true c f.columns (and_parts _ _ e).1)
      | inr e ↦ cond-false _ _ _ e ∙ sym (off (nat_eq s u) (pointwise nat_eq k k0) (nat_eq c m) _ (λ a q. both_ways _ e (and_all (owned_if k a) (lt-ltb c f.columns (let z = eqb-true c m q in omega arith)))))
    ]
      where
        and_all : {a c : Bool} → a ≡ true → c ≡ true → (a && c) ≡ true
        and_all {a} {c} x y = (λ i. x i && y i)

        off : (a c d : Bool) (y : Option (List ℕ)) → (c ≡ true → d ≡ true → ⊥) → cond ((a && c) && d) y None ≡ None
        off true true true y h = absurd (h refl refl)
        off true true false y h = refl
        off true false d y h = refl
        off false c d y h = refl

    some_if : (v : Bool) (o : Option (List ℕ)) → (v && is_some o) ≡ is_some (cond v o None)
    some_if true o = refl
    some_if false o = refl

    no_status : (k : List ℕ) (u : ℕ) → cond (f.owns r k) (status_in (value_at (cell ∷ []) k 1 u Put)) Absent ≡ Absent
    no_status k u = absent_if (f.owns r k) (value_at (cell ∷ []) k 1 u Put) (not_at k 1 u Put (λ e. (let i = placed.above m inside in absurd (omega arith))))

    no_mark : (k : List ℕ) (u : ℕ) (d : CellKind) → (f.owns r k && is_some (value_at (cell ∷ []) k 0 u d)) ≡ false
    no_mark k u d = off_if (f.owns r k) (value_at (cell ∷ []) k 0 u d) (λ o. not_at k 0 u d (λ e. (let i = placed.above m inside in absurd (omega arith))))

  view_column : (m : ℕ) → m < f.columns → (val : Option (List ℕ)) → view_at f r (column_cell k0 s (f.place m) val ∷ []) ≡ column_alone m val
  view_column m inside None = same_cells _ _
      (λ k u. no_status m inside (column_cell k0 s (f.place m) None) refl refl refl k u)
      (λ k u c. guarded m inside (column_cell k0 s (f.place m) None) refl refl refl k u c Put)
      (λ k u c. some_if m inside (column_cell k0 s (f.place m) None) refl refl refl _ _ ∙ (ap is_some (guarded m inside (column_cell k0 s (f.place m) None) refl refl refl k u c DeleteColumn) ∙ deleted [] (here k u) (nat_eq c m)))
      (λ k u. no_mark m inside (column_cell k0 s (f.place m) None) refl refl refl k u DeleteFamily)
      (λ k u. no_mark m inside (column_cell k0 s (f.place m) None) refl refl refl k u DeleteFamilyVersion)
    where
      deleted : (e : List ℕ) (a c : Bool) → is_some (cond (a && c) (Some e) None) ≡ (a && (c && true))
      deleted e true true = refl
      deleted e true false = refl
      deleted e false c = refl
  view_column m inside (Some v) = same_cells _ _
      (λ k u. no_status m inside (column_cell k0 s (f.place m) (Some v)) refl refl refl k u)
      (λ k u c. guarded m inside (column_cell k0 s (f.place m) (Some v)) refl refl refl k u c Put)
      (λ k u c. some_if m inside (column_cell k0 s (f.place m) (Some v)) refl refl refl _ _ ∙ (ap is_some (guarded m inside (column_cell k0 s (f.place m) (Some v)) refl refl refl k u c DeleteColumn) ∙ kept (here k u) (nat_eq c m)))
      (λ k u. no_mark m inside (column_cell k0 s (f.place m) (Some v)) refl refl refl k u DeleteFamily)
      (λ k u. no_mark m inside (column_cell k0 s (f.place m) (Some v)) refl refl refl k u DeleteFamilyVersion)
    where
      kept : (a c : Bool) → is_some (cond (a && c) (cond false (Some v) None) None) ≡ (a && (c && false))
      kept true true = refl
      kept true false = refl
      kept false c = refl

  -- ---- the cells of the first columns

  abbrev pub columns_alone : ℕ → (ℕ → Option (List ℕ)) → IndexCells (List ℕ) (List ℕ)
  columns_alone m val = record { status = λ k u. Absent; put = λ k u c. cond (here k u && nat_lt c m) (val c) None; del = λ k u c. here k u && (nat_lt c m && is_none (val c)); fam = λ k u. false; ver = λ k u. false }

  put_next : (a : Bool) (m c : ℕ) (val : ℕ → Option (List ℕ)) → put_over (cond (a && nat_eq c m) (val m) None) (cond (a && nat_lt c m) (val c) None) ≡ cond (a && nat_lt c (suc m)) (val c) None
  put_next false m c val = refl
  put_next true m c val = elim (cases_eq c m) [
    | inl e ↦ (let x = eq-eqb c m e in let y = lt-ltb c (suc m) (omega arith) in let z = le-ltb c m (omega arith) in (λ i. put_over (cond (x i) (val m) None) (cond (z i) (val c) None)) ∙ (put_none (val m) ∙ (ap val (sym e) ∙ sym (ap (λ v. cond v (val c) None) y))))
    | inr e ↦ elim (cases_lt c m) [
      | inl l ↦ (let x = ne_eqb c m e in let y = lt-ltb c (suc m) (omega arith) in let z = lt-ltb c m l in (λ i. put_over (cond (x i) (val m) None) (cond (z i) (val c) None)) ∙ sym (ap (λ v. cond v (val c) None) y))
      | inr l ↦ (let x = ne_eqb c m e in let y = le-ltb c (suc m) (omega arith) in let z = le-ltb c m l in (λ i. put_over (cond (x i) (val m) None) (cond (z i) (val c) None)) ∙ sym (ap (λ v. cond v (val c) None) y))
    ]
  ]
    where
      put_none : (o : Option (List ℕ)) → put_over o None ≡ o
      put_none None = refl
      put_none (Some x) = refl

  del_next : (a : Bool) (m c : ℕ) (val : ℕ → Option (List ℕ)) → ((a && (nat_eq c m && is_none (val m))) || (a && (nat_lt c m && is_none (val c)))) ≡ (a && (nat_lt c (suc m) && is_none (val c)))
  del_next false m c val = refl
  del_next true m c val = elim (cases_eq c m) [
    | inl e ↦ (let x = eq-eqb c m e in let y = lt-ltb c (suc m) (omega arith) in let z = le-ltb c m (omega arith) in (λ i. (x i && is_none (val m)) || (z i && is_none (val c))) ∙ (or_none (is_none (val m)) ∙ ((λ i. is_none (val (sym e i))) ∙ sym (ap (λ v. v && is_none (val c)) y))))
    | inr e ↦ elim (cases_lt c m) [
      | inl l ↦ (let x = ne_eqb c m e in let y = lt-ltb c (suc m) (omega arith) in let z = lt-ltb c m l in (λ i. (x i && is_none (val m)) || (z i && is_none (val c))) ∙ sym (ap (λ v. v && is_none (val c)) y))
      | inr l ↦ (let x = ne_eqb c m e in let y = le-ltb c (suc m) (omega arith) in let z = le-ltb c m l in (λ i. (x i && is_none (val m)) || (z i && is_none (val c))) ∙ sym (ap (λ v. v && is_none (val c)) y))
    ]
  ]
    where
      or_none : (v : Bool) → (v || false) ≡ v
      or_none true = refl
      or_none false = refl

  pub view_columns : (state : RowState) (m : ℕ) → m ≤ f.columns → view_at f r (column_cells f k0 s state m) ≡ columns_alone m (f.col state)
  unfolding column_cells
  view_columns state zero l = view_empty f r ∙ same_cells no_cells (columns_alone 0 (f.col state)) (λ k u. refl)
      (λ k u c. sym (ap (λ v. cond (here k u && v) (f.col state c) None) (le-ltb c 0 (omega arith)) ∙ no (here k u) (f.col state c)))
      (λ k u c. sym (ap (λ v. here k u && (v && is_none (f.col state c))) (le-ltb c 0 (omega arith)) ∙ none (here k u) (is_none (f.col state c))))
      (λ k u. refl) (λ k u. refl)
    where
      no : (a : Bool) (y : Option (List ℕ)) → cond (a && false) y None ≡ None
      no true y = refl
      no false y = refl

      none : (a c : Bool) → (a && (false && c)) ≡ false
      none true c = refl
      none false c = refl
  view_columns state (suc m) l = view_append f r (column_cell k0 s (f.place m) (f.col state m) ∷ []) (column_cells f k0 s state m)
      ∙ ((λ i. over (view_column m (omega arith) (f.col state m) i) (view_columns state m (omega arith) i))
      ∙ same_cells _ _ (λ k u. refl) (λ k u c. put_next (here k u) m c (f.col state)) (λ k u c. del_next (here k u) m c (f.col state)) (λ k u. refl) (λ k u. refl))

  -- ---- a whole version

  abbrev version_alone : RowState → IndexCells (List ℕ) (List ℕ)
  version_alone state = record { status = λ k u. cond (here k u) Unverified Absent; put = λ k u c. cond (here k u && nat_lt c f.columns) (f.col state c) None; del = λ k u c. here k u && (nat_lt c f.columns && is_none (f.col state c)); fam = λ k u. false; ver = λ k u. false }

  pub view_version : (state : RowState) → view_at f r (version_cells f k0 s 2 state) ≡ version_alone state
  view_version state = view_append f r (status_cell k0 s 2 ∷ []) (column_cells f k0 s state f.columns)
      ∙ ((λ i. over (view_status i) (view_columns state f.columns (omega arith) i))
      ∙ same_cells _ _ (λ k u. absent_right (cond (here k u) Unverified Absent)) (λ k u c. refl) (λ k u c. refl) (λ k u. refl) (λ k u. refl))
    where
      absent_right : (x : Status) → status_over x Absent ≡ x
      absent_right Absent = refl
      absent_right Unverified = refl
      absent_right Verified = refl

-- ---- the marks of a row are those of its world

module _ (sh : Shape) (f : IndexForm) (g : IsIndexForm f) (placed : IsPlaced f) (r : List Value) (s : ℕ) (old new : RowState) where
  pub marks_view : view_at f r (marks_of f r s old new) ≡ mark_cells (shape_at sh f r) s old new
  unfolding has_key
  marks_view = by (f.key_of r new) (f.key_of r old) refl refl
    where
      now : Option (List ℕ) → Option (List ℕ) → IndexCells (List ℕ) (List ℕ)
      now n o = record {
        status = λ k u. cond (nat_eq s u && (is_key_there (pointwise nat_eq) k n || is_key_there (pointwise nat_eq) k o)) Unverified Absent;
        put = λ k u c. cond ((nat_eq s u && is_key_there (pointwise nat_eq) k n) && nat_lt c f.columns) (f.col new c) None;
        del = λ k u c. (nat_eq s u && is_key_there (pointwise nat_eq) k n) && (nat_lt c f.columns && is_none (f.col new c));
        fam = λ k u. false;
        ver = λ k u. false;
      }

      no_status : (a : Bool) → Absent ≡ cond (a && false) Unverified Absent
      no_status true = refl
      no_status false = refl

      no_put : (a c : Bool) (y : Option (List ℕ)) → None ≡ cond ((a && false) && c) y None
      no_put true c y = refl
      no_put false c y = refl

      no_del : (a c : Bool) → false ≡ ((a && false) && c)
      no_del true c = refl
      no_del false c = refl

      or_off : (x : Bool) → (x || false) ≡ x
      or_off true = refl
      or_off false = refl

      or_same : (x : Bool) → (x || x) ≡ x
      or_same true = refl
      or_same false = refl

      two : (a x y : Bool) → status_over (cond (a && x) Unverified Absent) (cond (a && y) Unverified Absent) ≡ cond (a && (x || y)) Unverified Absent
      two true true y = refl
      two true false true = refl
      two true false false = refl
      two false x y = refl

      alone : (n : List ℕ) → f.key_of r new ≡ Some n → view_at f r (version_cells f n s 2 new) ≡ now (Some n) None
      alone n p = view_version f g placed r n (g.owned r new n p) s new ∙ same_cells _ _
          (λ k u. ap (λ v. cond (nat_eq s u && v) Unverified Absent) (sym (or_off (pointwise nat_eq k n)))) (λ k u c. refl) (λ k u c. refl) (λ k u. refl) (λ k u. refl)

      both : (n o : List ℕ) (v : Bool) → pointwise nat_eq o n ≡ v → f.key_of r new ≡ Some n → f.key_of r old ≡ Some o → view_at f r (version_cells f n s 2 new ++ status_if s 2 (cond v None (Some o))) ≡ now (Some n) (Some o)
      both n o true e p q =
          (let same : o ≡ n = (bytes_eq-Decides o n).0 e in
          view_append f r (version_cells f n s 2 new) []
          ∙ ((λ i. over (alone n p i) (view_empty f r i))
          ∙ (over_none (now (Some n) None)
          ∙ same_cells _ _ (λ k u. ap (λ v. cond (nat_eq s u && v) Unverified Absent) (or_off (pointwise nat_eq k n) ∙ (sym (or_same (pointwise nat_eq k n)) ∙ ap (λ (z : List ℕ). pointwise nat_eq k n || pointwise nat_eq k z) (sym same)))) (λ k u c. refl) (λ k u c. refl) (λ k u. refl) (λ k u. refl))))
      both n o false e p q =
          view_append f r (version_cells f n s 2 new) (status_cell o s 2 ∷ [])
          ∙ ((λ i. over (view_version f g placed r n (g.owned r new n p) s new i) (view_status f g placed r o (g.owned r old o q) s i))
          ∙ same_cells _ _ (λ k u. two (nat_eq s u) (pointwise nat_eq k n) (pointwise nat_eq k o)) (λ k u c. right_none (cond ((nat_eq s u && pointwise nat_eq k n) && nat_lt c f.columns) (f.col new c) None)) (λ k u c. or_off ((nat_eq s u && pointwise nat_eq k n) && (nat_lt c f.columns && is_none (f.col new c)))) (λ k u. refl) (λ k u. refl))
        where
          right_none : (x : Option (List ℕ)) → put_over x None ≡ x
          right_none None = refl
          right_none (Some x) = refl

      by : (n o : Option (List ℕ)) → f.key_of r new ≡ n → f.key_of r old ≡ o → view_at f r (version_if f s 2 new n ++ status_if s 2 (left_key o n)) ≡ now n o
      by None None p q = view_empty f r ∙ same_cells no_cells (now None None) (λ k u. no_status (nat_eq s u)) (λ k u c. no_put (nat_eq s u) (nat_lt c f.columns) (f.col new c)) (λ k u c. no_del (nat_eq s u) (nat_lt c f.columns && is_none (f.col new c))) (λ k u. refl) (λ k u. refl)
      by None (Some o) p q = view_status f g placed r o (g.owned r old o q) s ∙ same_cells _ _ (λ k u. refl) (λ k u c. no_put (nat_eq s u) (nat_lt c f.columns) (f.col new c)) (λ k u c. no_del (nat_eq s u) (nat_lt c f.columns && is_none (f.col new c))) (λ k u. refl) (λ k u. refl)
      by (Some n) None p q = view_append f r (version_cells f n s 2 new) [] ∙ ((λ i. over (alone n p i) (view_empty f r i)) ∙ over_none (now (Some n) None))
      by (Some n) (Some o) p q = both n o (pointwise nat_eq o n) refl p q

-- ---- a batch's marks, of all its rows

pub owned_append : (f : IndexForm) (r : List Value) (xs ys : List CellData) → AreOwned f r xs → AreOwned f r ys → AreOwned f r (xs ++ ys)
owned_append f r [] ys a c = c
owned_append f r (x ∷ xs) ys a c = (a.0, owned_append f r xs ys a.1 c)

column_key : (k : List ℕ) (s q : ℕ) (v : Option (List ℕ)) → (column_cell k s q v).key ≡ k
column_key k s q None = refl
column_key k s q (Some v) = refl

owned_columns : (f : IndexForm) (r : List Value) (k : List ℕ) (s : ℕ) (state : RowState) (m : ℕ) → f.owns r k ≡ true → AreOwned f r (column_cells f k s state m)
unfolding column_cells
owned_columns f r k s state zero o = tt
owned_columns f r k s state (suc m) o = (ap (f.owns r) (column_key k s (f.place m) (f.col state m)) ∙ o, owned_columns f r k s state m o)

left_is : (o n : Option (List ℕ)) (k : List ℕ) → left_key o n ≡ Some k → o ≡ Some k
left_is None n k e = e
left_is (Some x) None k e = e
left_is (Some x) (Some y) k e = by (pointwise nat_eq x y) e
  where
    by : (v : Bool) → cond v None (Some x) ≡ Some k → Some x ≡ Some k
    by true e = cc
    by false e = e

owned_status : (f : IndexForm) (r : List Value) (s byte : ℕ) (o : Option (List ℕ)) → ((k : List ℕ) → o ≡ Some k → f.owns r k ≡ true) → AreOwned f r (status_if s byte o)
owned_status f r s byte None h = tt
owned_status f r s byte (Some k) h = (h k refl, tt)

owned_family : (f : IndexForm) (r : List Value) (s : ℕ) (o : Option (List ℕ)) → ((k : List ℕ) → o ≡ Some k → f.owns r k ≡ true) → AreOwned f r (family_if s o)
owned_family f r s None h = tt
owned_family f r s (Some k) h = (h k refl, tt)

owned_version : (f : IndexForm) (r : List Value) (s byte : ℕ) (state : RowState) (o : Option (List ℕ)) → ((k : List ℕ) → o ≡ Some k → f.owns r k ≡ true) → AreOwned f r (version_if f s byte state o)
owned_version f r s byte state None h = tt
owned_version f r s byte state (Some k) h = (h k refl, owned_columns f r k s state f.columns (h k refl))

-- the cells of a row stand at its own keys
pub marks_owned : (f : IndexForm) → IsIndexForm f → (r : List Value) (s : ℕ) (old new : RowState) → AreOwned f r (marks_of f r s old new)
marks_owned f g r s old new = owned_append f r (version_if f s 2 new (f.key_of r new)) (status_if s 2 (left_key (f.key_of r old) (f.key_of r new)))
    (owned_version f r s 2 new (f.key_of r new) (g.owned r new))
    (owned_status f r s 2 (left_key (f.key_of r old) (f.key_of r new)) (λ k e. g.owned r old k (left_is (f.key_of r old) (f.key_of r new) k e)))

pub closes_owned : (f : IndexForm) → IsIndexForm f → (r : List Value) (s : ℕ) (old new : RowState) → AreOwned f r (closes_of f r s old new)
closes_owned f g r s old new = owned_append f r (status_if s 1 (f.key_of r new)) (family_if s (left_key (f.key_of r old) (f.key_of r new)))
    (owned_status f r s 1 (f.key_of r new) (g.owned r new))
    (owned_family f r s (left_key (f.key_of r old) (f.key_of r new)) (λ k e. g.owned r old k (left_is (f.key_of r old) (f.key_of r new) k e)))

pub base_owned : (f : IndexForm) → IsIndexForm f → (r : List Value) (s : ℕ) (state : RowState) → AreOwned f r (base_version f r s state)
base_owned f g r s state = owned_version f r s 1 state (f.key_of r state) (g.owned r state)

-- a sorted list that is read as the marks of rows, one after another, is what each row is marked with
pub rows_marks : (sh : Shape) (f : IndexForm) → IsIndexForm f → IsPlaced f → (s : ℕ) (old new : List Value → RowState) (rows : List (List Value)) → is_distinct rows ≡ true → (batch : List CellData) → ReadsSame batch (cells_for (λ r. marks_of f r s (old r) (new r)) rows) → (r : List Value) → view_at f r batch ≡ cells_if (has rows r) (mark_cells (shape_at sh f r) s (old r) (new r))
rows_marks sh f g placed s old new rows d batch same r =
    ap (view_of (f.owns r) f.columns f.place) (same_values batch (cells_for (λ r. marks_of f r s (old r) (new r)) rows) same)
    ∙ rows_view f g (λ r. marks_of f r s (old r) (new r)) (λ r. mark_cells (shape_at sh f r) s (old r) (new r)) (λ r. marks_owned f g r s (old r) (new r)) (λ r. marks_view sh f g placed r s (old r) (new r)) rows d r
