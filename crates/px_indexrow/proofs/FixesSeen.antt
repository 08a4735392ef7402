-- What rows see of base versions and of repairs.
use Rattle.std.proofs.Common.{◌≡◌, ℕ, Bool, true, false, cond, not, ◌&&◌, Option, Some, None, List, [], ◌∷◌, refl, ap, sym, ◌∙◌, arith}
use Rattle.std.specs.Prelude.{nat_eq, nat_lt, is_none}
use Rattle.std.specs.Cmp.Lexicographic.{pointwise}
use Rattle.px_values.specs.declared.row.Value.{Value}
use Rattle.px_values.specs.States.{RowState, Shape}
use Rattle.px_world.specs.Events.{Verdict, Leave, ToVerify, ToRetire, ToErase}
use Rattle.px_world.specs.Shape.{has_key, is_key_there}
use Rattle.px_world.specs.World.{Status, Absent, Unverified, Verified}
use Rattle.px_world.specs.IndexCells.{IndexCells, no_cells, over, status_over, base_cells, fix_cells}
use Rattle.px_world.proofs.IndexCells.{same_cells}
use Rattle.px_forms.specs.Indexes.{IndexForm, IsIndexForm, IsPlaced, view_at, shape_at}
use Rattle.px_forms.proofs.Views.{view_append, view_empty}
use Rattle.px_indexrow.specs.Lists.{status_cell, column_cells, version_cells, version_if, base_version, fix_of}
use Rattle.px_indexrow.proofs.MarksSeen.{view_columns}
use Rattle.px_forms.proofs.RowViews.{bytes_swap}
use Rattle.px_indexrow.proofs.ClosesSeen.{view_verified, view_family, view_erased}

module _ (f : IndexForm) (g : IsIndexForm f) (placed : IsPlaced f) (r : List Value) (k0 : List ℕ) (own : f.owns r k0 ≡ true) (s : ℕ) (state : RowState) where
  abbrev at_key : List ℕ → ℕ → Bool
  at_key k u = nat_eq s u && pointwise nat_eq k k0

  -- a version that is verified
  abbrev pub true_version : IndexCells (List ℕ) (List ℕ)
  true_version = record { status = λ k u. cond (at_key k u) Verified Absent; put = λ k u c. cond (at_key k u && nat_lt c f.columns) (f.col state c) None; del = λ k u c. at_key k u && (nat_lt c f.columns && is_none (f.col state c)); fam = λ k u. false; ver = λ k u. false }

  absent_right : (x : Status) → status_over x Absent ≡ x
  absent_right Absent = refl
  absent_right Unverified = refl
  absent_right Verified = refl

  pub view_true : view_at f r (version_cells f k0 s 1 state) ≡ true_version
  view_true = view_append f r (status_cell k0 s 1 ∷ []) (column_cells f k0 s state f.columns)
      ∙ ((λ i. over (view_verified f g placed r k0 own s i) (view_columns f g placed r k0 own s state f.columns (omega arith) i))
      ∙ same_cells _ _ (λ k u. absent_right (cond (at_key k u) Verified Absent)) (λ k u c. refl) (λ k u c. refl) (λ k u. refl) (λ k u. refl))

-- ---- base versions

module _ (sh : Shape) (f : IndexForm) (g : IsIndexForm f) (placed : IsPlaced f) (r : List Value) (s : ℕ) (state : RowState) where
  pub base_view : view_at f r (base_version f r s state) ≡ base_cells (shape_at sh f r) s state
  unfolding has_key
  base_view = by (f.key_of r state) refl
    where
      now : Option (List ℕ) → IndexCells (List ℕ) (List ℕ)
      now n = record {
        status = λ k u. cond (nat_eq s u && is_key_there (pointwise nat_eq) k n) Verified Absent;
        put = λ k u c. cond ((nat_eq s u && is_key_there (pointwise nat_eq) k n) && nat_lt c f.columns) (f.col state c) None;
        del = λ k u c. (nat_eq s u && is_key_there (pointwise nat_eq) k n) && (nat_lt c f.columns && is_none (f.col state c));
        fam = λ k u. false;
        ver = λ k u. false;
      }

      no_status : (a : Bool) → Absent ≡ cond (a && false) Verified Absent
      no_status true = refl
      no_status false = refl

      no_put : (a c : Bool) (y : Option (List ℕ)) → None ≡ cond ((a && false) && c) y None
      no_put true c y = refl
      no_put false c y = refl

      no_del : (a c : Bool) → false ≡ ((a && false) && c)
      no_del true c = refl
      no_del false c = refl

      by : (n : Option (List ℕ)) → f.key_of r state ≡ n → view_at f r (version_if f s 1 state n) ≡ now n
      by None p = view_empty f r ∙ same_cells no_cells (now None) (λ k u. no_status (nat_eq s u)) (λ k u c. no_put (nat_eq s u) (nat_lt c f.columns) (f.col state c)) (λ k u c. no_del (nat_eq s u) (nat_lt c f.columns && is_none (f.col state c))) (λ k u. refl) (λ k u. refl)
      by (Some k) p = view_true f g placed r k (g.owned r state k p) s state

-- ---- repairs

module _ (sh : Shape) (f : IndexForm) (g : IsIndexForm f) (placed : IsPlaced f) (r : List Value) (h : ℕ) (state : RowState) (k0 : List ℕ) (own : f.owns r k0 ≡ true) (t : ℕ) where
  turn : (k : List ℕ) (u : ℕ) → (nat_eq t u && pointwise nat_eq k k0) ≡ (pointwise nat_eq k0 k && nat_eq t u)
  turn k u = ap (λ (b : Bool). nat_eq t u && b) (bytes_swap k k0) ∙ and_swap (nat_eq t u) (pointwise nat_eq k0 k)
    where
      and_swap : (a b : Bool) → (a && b) ≡ (b && a)
      and_swap true true = refl
      and_swap true false = refl
      and_swap false true = refl
      and_swap false false = refl

  no_more : (c : Bool) (y : Option (List ℕ)) → None ≡ cond (false && c) y None
  no_more c y = refl

  verified_view : (b : Bool) → nat_lt h t ≡ b → view_at f r (status_cell k0 t 1 ∷ cond b [] (column_cells f k0 t state f.columns)) ≡ fix_cells (shape_at sh f r) h state k0 t ToVerify
  verified_view true e = view_verified f g placed r k0 own t
      ∙ same_cells _ _ (λ k u. ap (λ v. cond v Verified Absent) (turn k u))
      (λ k u c. sym (ap (λ v. cond ((not v && (pointwise nat_eq k0 k && nat_eq t u)) && nat_lt c f.columns) (f.col state c) None) e))
      (λ k u c. sym (ap (λ v. (not v && (pointwise nat_eq k0 k && nat_eq t u)) && (nat_lt c f.columns && is_none (f.col state c))) e))
      (λ k u. refl) (λ k u. refl)
  verified_view false e = view_true f g placed r k0 own t state
      ∙ same_cells _ _ (λ k u. ap (λ v. cond v Verified Absent) (turn k u))
      (λ k u c. ap (λ v. cond (v && nat_lt c f.columns) (f.col state c) None) (turn k u) ∙ sym (ap (λ v. cond ((not v && (pointwise nat_eq k0 k && nat_eq t u)) && nat_lt c f.columns) (f.col state c) None) e))
      (λ k u c. ap (λ v. v && (nat_lt c f.columns && is_none (f.col state c))) (turn k u) ∙ sym (ap (λ v. (not v && (pointwise nat_eq k0 k && nat_eq t u)) && (nat_lt c f.columns && is_none (f.col state c))) e))
      (λ k u. refl) (λ k u. refl)

  pub fix_view : (v : Verdict) → view_at f r (fix_of f h state k0 t v) ≡ fix_cells (shape_at sh f r) h state k0 t v
  fix_view Leave = view_empty f r
  fix_view ToVerify = verified_view (nat_lt h t) refl
  fix_view ToRetire = view_family f g placed r k0 own t ∙ same_cells _ _ (λ k u. refl) (λ k u c. refl) (λ k u c. refl) (λ k u. turn k u) (λ k u. refl)
  fix_view ToErase = view_erased f g placed r k0 own t ∙ same_cells _ _ (λ k u. refl) (λ k u c. refl) (λ k u c. refl) (λ k u. refl) (λ k u. turn k u)
