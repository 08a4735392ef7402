-- What rows see of the cells that close marks.
use Rattle.std.proofs.Common.{◌≡◌, ℕ, ◌<◌, Bool, true, false, cond, not, ◌&&◌, Option, Some, None, List, [], ◌∷◌, ◌++◌, refl, ap, sym, ◌∙◌, subst, inl, inr, arith}
use Rattle.std.specs.Prelude.{nat_eq, nat_lt, is_some}
use Rattle.std.specs.Cmp.Lexicographic.{pointwise}
use Rattle.std.proofs.lemmas.Slice.Eq.{bytes_eq-Decides}
use Rattle.std.proofs.lemmas.Bool.{cases_Bool, cond-false, ne_eqb, false≢true, and_parts, ltb-true}
use Rattle.px_cells.specs.declared.kind.CellKind.{CellKind}
use Rattle.px_cells.specs.declared.kind.CellKind.TheVariants.{Put, DeleteFamilyVersion, DeleteColumn, DeleteFamily}
use Rattle.px_cells.specs.CellData.{CellData}
use Rattle.px_cells.specs.Contents.{value_at}
use Rattle.px_cells.specs.Order.{ReadsSame}
use Rattle.px_cells.proofs.Contents.{same_values}
use Rattle.px_values.specs.declared.row.Value.{Value}
use Rattle.px_values.specs.States.{RowState, Shape}
use Rattle.px_trail.specs.Batches.{has, is_distinct}
use Rattle.px_world.specs.Shape.{has_key, is_key_there}
use Rattle.px_world.specs.World.{Status, Absent, Unverified, Verified}
use Rattle.px_world.specs.IndexCells.{IndexCells, no_cells, over, status_over, close_cells}
use Rattle.px_world.proofs.IndexCells.{same_cells}
use Rattle.px_forms.specs.Indexes.{IndexForm, IsIndexForm, IsPlaced, view_of, view_at, status_in, cells_if, shape_at}
use Rattle.px_forms.proofs.Views.{view_append, view_empty}
use Rattle.px_indexrow.specs.Lists.{status_cell, family_cell, erase_cell, left_key, status_if, family_if, closes_of}
use Rattle.px_forms.specs.Several.{cells_for}
use Rattle.px_forms.proofs.RowViews.{bytes_swap, rows_view}
use Rattle.px_indexrow.proofs.MarksSeen.{closes_owned}

module _ (f : IndexForm) (g : IsIndexForm f) (placed : IsPlaced f) (r : List Value) (k0 : List ℕ) (own : f.owns r k0 ≡ true) (s : ℕ) where
  abbrev pub here : List ℕ → ℕ → Bool
  here k u = nat_eq s u && pointwise nat_eq k k0

  owned_if : (k : List ℕ) → pointwise nat_eq k k0 ≡ true → f.owns r k ≡ true
  owned_if k e = subst (λ (z : List ℕ). f.owns r z ≡ true) (sym ((bytes_eq-Decides k k0).0 e)) own

  -- a cell isn't at another place
  other_place : (c : CellData) (k : List ℕ) (q u : ℕ) (d : CellKind) → (c.qualifier ≡ q → ⊥) → value_at (c ∷ []) k q u d ≡ None
  unfolding value_at
  other_place c k q u d n = cond-false _ _ _ (off (pointwise nat_eq c.key k) (nat_eq c.qualifier q) _ (ne_eqb c.qualifier q n))
    where
      off : (a b c : Bool) → b ≡ false → (a && (b && c)) ≡ false
      off true b c h = ap (λ v. v && c) h
      off false b c h = refl

  none_if : {A : Type 0} (v : Bool) (o : Option A) → (v ≡ true → o ≡ None) → cond v o None ≡ None
  none_if true o h = h refl
  none_if false o h = refl

  off_if : {A : Type 0} (v : Bool) (o : Option A) → (v ≡ true → o ≡ None) → (v && is_some o) ≡ false
  off_if true o h = ap is_some (h refl)
  off_if false o h = refl

  absent_if : (v : Bool) (o : Option (List ℕ)) → o ≡ None → cond v (status_in o) Absent ≡ Absent
  absent_if true o e = ap status_in e
  absent_if false o e = refl

  -- a cell at a qualifier below the columns' is none of a column
  no_column : (c0 : CellData) → c0.qualifier < 2 → (k : List ℕ) (u c : ℕ) (d : CellKind) → (f.owns r k && nat_lt c f.columns) ≡ true → value_at (c0 ∷ []) k (f.place c) u d ≡ None
  no_column c0 l k u c d o = other_place c0 k (f.place c) u d (λ e. (let i = placed.above c (ltb-true c f.columns (and_parts (f.owns r k) (nat_lt c f.columns) o).1) in absurd (omega arith)))

  abbrev pub verified_alone : IndexCells (List ℕ) (List ℕ)
  verified_alone = record { status = λ k u. cond (here k u) Verified Absent; put = λ k u c. None; del = λ k u c. false; fam = λ k u. false; ver = λ k u. false }

  one_verified : (v a c : Bool) → (c ≡ true → v ≡ true) → (d : Bool) → d ≡ c → cond v (status_in (cond (d && (true && (a && true))) (Some (1 ∷ [])) None)) Absent ≡ cond (a && c) Verified Absent
  one_verified v true true h true e = (let z = h refl in rw z refl)
  one_verified v false true h true e = if_absent v
    where
      if_absent : (v : Bool) → cond v Absent Absent ≡ Absent
      if_absent true = refl
      if_absent false = refl
  one_verified v a false h true e = absurd (false≢true (sym e))
  one_verified v a true h false e = absurd (false≢true e)
  one_verified v a false h false e = if_absent v a
    where
      if_absent : (v a : Bool) → cond v Absent Absent ≡ cond (a && false) Verified Absent
      if_absent true true = refl
      if_absent true false = refl
      if_absent false true = refl
      if_absent false false = refl

  pub view_verified : view_at f r (status_cell k0 s 1 ∷ []) ≡ verified_alone
  unfolding value_at
  view_verified = same_cells _ _
      (λ k u. one_verified (f.owns r k) (nat_eq s u) (pointwise nat_eq k k0) (owned_if k) (pointwise nat_eq k0 k) (bytes_swap k0 k))
      (λ k u c. none_if (f.owns r k && nat_lt c f.columns) (value_at (status_cell k0 s 1 ∷ []) k (f.place c) u Put) (no_column (status_cell k0 s 1) (omega arith) k u c Put))
      (λ k u c. off_if (f.owns r k && nat_lt c f.columns) (value_at (status_cell k0 s 1 ∷ []) k (f.place c) u DeleteColumn) (no_column (status_cell k0 s 1) (omega arith) k u c DeleteColumn))
      (λ k u. off_if (f.owns r k) (value_at (status_cell k0 s 1 ∷ []) k 0 u DeleteFamily) (λ o. other_place (status_cell k0 s 1) k 0 u DeleteFamily (λ e. absurd (omega arith))))
      (λ k u. off_if (f.owns r k) (value_at (status_cell k0 s 1 ∷ []) k 0 u DeleteFamilyVersion) (λ o. other_place (status_cell k0 s 1) k 0 u DeleteFamilyVersion (λ e. absurd (omega arith))))

  abbrev pub retired_alone : IndexCells (List ℕ) (List ℕ)
  retired_alone = record { status = λ k u. Absent; put = λ k u c. None; del = λ k u c. false; fam = λ k u. here k u; ver = λ k u. false }

  one_family : (v a c : Bool) (x : List ℕ) → (c ≡ true → v ≡ true) → (d : Bool) → d ≡ c → (v && is_some (cond (d && (true && (a && true))) (Some x) None)) ≡ (a && c)
  one_family v true true x h true e = (let z = h refl in rw z refl)
  one_family v false true x h true e = off v
    where
      off : (v : Bool) → (v && false) ≡ false
      off true = refl
      off false = refl
  one_family v a false x h true e = absurd (false≢true (sym e))
  one_family v a true x h false e = absurd (false≢true e)
  one_family v a false x h false e = off v a
    where
      off : (v a : Bool) → (v && false) ≡ (a && false)
      off true true = refl
      off true false = refl
      off false true = refl
      off false false = refl

  no_version : (v a d : Bool) (x : List ℕ) → (v && is_some (cond (d && (true && (a && false))) (Some x) None)) ≡ false
  no_version true true true x = refl
  no_version true false true x = refl
  no_version true a false x = refl
  no_version false a d x = refl

  pub view_family : view_at f r (family_cell k0 s ∷ []) ≡ retired_alone
  unfolding value_at
  view_family = same_cells _ _
      (λ k u. absent_if (f.owns r k) (value_at (family_cell k0 s ∷ []) k 1 u Put) (other_place (family_cell k0 s) k 1 u Put (λ e. absurd (omega arith))))
      (λ k u c. none_if (f.owns r k && nat_lt c f.columns) (value_at (family_cell k0 s ∷ []) k (f.place c) u Put) (no_column (family_cell k0 s) (omega arith) k u c Put))
      (λ k u c. off_if (f.owns r k && nat_lt c f.columns) (value_at (family_cell k0 s ∷ []) k (f.place c) u DeleteColumn) (no_column (family_cell k0 s) (omega arith) k u c DeleteColumn))
      (λ k u. one_family (f.owns r k) (nat_eq s u) (pointwise nat_eq k k0) [] (owned_if k) (pointwise nat_eq k0 k) (bytes_swap k0 k))
      (λ k u. no_version (f.owns r k) (nat_eq s u) (pointwise nat_eq k0 k) [])

  abbrev pub erased_alone : IndexCells (List ℕ) (List ℕ)
  erased_alone = record { status = λ k u. Absent; put = λ k u c. None; del = λ k u c. false; fam = λ k u. false; ver = λ k u. here k u }

  pub view_erased : view_at f r (erase_cell k0 s ∷ []) ≡ erased_alone
  unfolding value_at
  view_erased = same_cells _ _
      (λ k u. absent_if (f.owns r k) (value_at (erase_cell k0 s ∷ []) k 1 u Put) (other_place (erase_cell k0 s) k 1 u Put (λ e. absurd (omega arith))))
      (λ k u c. none_if (f.owns r k && nat_lt c f.columns) (value_at (erase_cell k0 s ∷ []) k (f.place c) u Put) (no_column (erase_cell k0 s) (omega arith) k u c Put))
      (λ k u c. off_if (f.owns r k && nat_lt c f.columns) (value_at (erase_cell k0 s ∷ []) k (f.place c) u DeleteColumn) (no_column (erase_cell k0 s) (omega arith) k u c DeleteColumn))
      (λ k u. no_version (f.owns r k) (nat_eq s u) (pointwise nat_eq k0 k) [])
      (λ k u. one_family (f.owns r k) (nat_eq s u) (pointwise nat_eq k k0) [] (owned_if k) (pointwise nat_eq k0 k) (bytes_swap k0 k))

-- ---- the closes of a row are those of its world

module _ (sh : Shape) (f : IndexForm) (g : IsIndexForm f) (placed : IsPlaced f) (r : List Value) (s : ℕ) (old new : RowState) where
  pub closes_view : view_at f r (closes_of f r s old new) ≡ close_cells (shape_at sh f r) s old new
  unfolding has_key
  closes_view = by (f.key_of r new) (f.key_of r old) refl refl
    where
      now : Option (List ℕ) → Option (List ℕ) → IndexCells (List ℕ) (List ℕ)
      now n o = record {
        status = λ k u. cond (nat_eq s u && is_key_there (pointwise nat_eq) k n) Verified Absent;
        put = λ k u c. None;
        del = λ k u c. false;
        fam = λ k u. nat_eq s u && (is_key_there (pointwise nat_eq) k o && not (is_key_there (pointwise nat_eq) k n));
        ver = λ k u. false;
      }

      no_status : (a : Bool) → Absent ≡ cond (a && false) Verified Absent
      no_status true = refl
      no_status false = refl

      no_family : (a x : Bool) → false ≡ (a && (false && x))
      no_family true x = refl
      no_family false x = refl

      and_on : (a x : Bool) → (a && x) ≡ (a && (x && true))
      and_on true true = refl
      and_on true false = refl
      and_on false x = refl

      never : (a x : Bool) → false ≡ (a && (x && not x))
      never true true = refl
      never true false = refl
      never false x = refl

      or_none : (x : Status) → status_over x Absent ≡ x
      or_none Absent = refl
      or_none Unverified = refl
      or_none Verified = refl

      -- where the keys differ, the old one's family marker stands at the old key alone
      apart : (k n o : List ℕ) (a : Bool) → pointwise nat_eq o n ≡ false → (a && pointwise nat_eq k o) ≡ (a && (pointwise nat_eq k o && not (pointwise nat_eq k n)))
      apart k n o a e = elim (cases_Bool (pointwise nat_eq k o)) [
        | inl h ↦
            (let same : k ≡ o = (bytes_eq-Decides k o).0 h in
            let z : pointwise nat_eq k n ≡ false = ap (λ (x : List ℕ). pointwise nat_eq x n) same ∙ e in
            rw (h, z) refl)
        | inr h ↦ rw h refl
      ]

      both : (n o : List ℕ) (v : Bool) → pointwise nat_eq o n ≡ v → f.key_of r new ≡ Some n → f.key_of r old ≡ Some o → view_at f r (status_cell n s 1 ∷ family_if s (cond v None (Some o))) ≡ now (Some n) (Some o)
      both n o true e p q =
          (let same : o ≡ n = (bytes_eq-Decides o n).0 e in
          view_verified f g placed r n (g.owned r new n p) s
          ∙ same_cells _ _ (λ k u. refl) (λ k u c. refl) (λ k u c. refl)
          (λ k u. never (nat_eq s u) (pointwise nat_eq k n) ∙ ap (λ (z : List ℕ). nat_eq s u && (pointwise nat_eq k z && not (pointwise nat_eq k n))) (sym same)) (λ k u. refl))
      both n o false e p q =
          view_append f r (status_cell n s 1 ∷ []) (family_cell o s ∷ [])
          ∙ ((λ i. over (view_verified f g placed r n (g.owned r new n p) s i) (view_family f g placed r o (g.owned r old o q) s i))
          ∙ same_cells _ _ (λ k u. or_none (cond (nat_eq s u && pointwise nat_eq k n) Verified Absent)) (λ k u c. refl) (λ k u c. refl) (λ k u. apart k n o (nat_eq s u) e) (λ k u. refl))

      by : (n o : Option (List ℕ)) → f.key_of r new ≡ n → f.key_of r old ≡ o → view_at f r (status_if s 1 n ++ family_if s (left_key o n)) ≡ now n o
      by None None p q = view_empty f r ∙ same_cells no_cells (now None None) (λ k u. no_status (nat_eq s u)) (λ k u c. refl) (λ k u c. refl) (λ k u. no_family (nat_eq s u) true) (λ k u. refl)
      by None (Some o) p q = view_family f g placed r o (g.owned r old o q) s ∙ same_cells _ _ (λ k u. no_status (nat_eq s u)) (λ k u c. refl) (λ k u c. refl) (λ k u. and_on (nat_eq s u) (pointwise nat_eq k o)) (λ k u. refl)
      by (Some n) None p q = view_verified f g placed r n (g.owned r new n p) s ∙ same_cells _ _ (λ k u. refl) (λ k u c. refl) (λ k u c. refl) (λ k u. no_family (nat_eq s u) (not (pointwise nat_eq k n))) (λ k u. refl)
      by (Some n) (Some o) p q = both n o (pointwise nat_eq o n) refl p q

-- ---- all rows of a list

-- a sorted list that is read as the closes of these rows, one after another, is what each row is closed with
pub rows_closes : (sh : Shape) (f : IndexForm) → IsIndexForm f → IsPlaced f → (s : ℕ) (old new : List Value → RowState) (rows : List (List Value)) → is_distinct rows ≡ true → (batch : List CellData) → ReadsSame batch (cells_for (λ r. closes_of f r s (old r) (new r)) rows) → (r : List Value) → view_at f r batch ≡ cells_if (has rows r) (close_cells (shape_at sh f r) s (old r) (new r))
rows_closes sh f g placed s old new rows d batch same r =
    ap (view_of (f.owns r) f.columns f.place) (same_values batch (cells_for (λ r. closes_of f r s (old r) (new r)) rows) same)
    ∙ rows_view f g (λ r. closes_of f r s (old r) (new r)) (λ r. close_cells (shape_at sh f r) s (old r) (new r)) (λ r. closes_owned f g r s (old r) (new r)) (λ r. closes_view sh f g placed r s (old r) (new r)) rows d r
