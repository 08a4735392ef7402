-- The cells of rows, one row after another, each at keys of its own row.
use Rattle.std.proofs.Common.{◌≡◌, ℕ, zero, suc, ◌<◌, Bool, true, false, not, ◌||◌, ◌&&◌, List, [], ◌∷◌, length, take, get_or, refl, ap, sym, ◌∙◌, subst, inl, inr, arith}
use Rattle.std.specs.List.{AllByRecursion}
use Rattle.std.specs.Ordering.{is_eq}
use Rattle.std.proofs.lemmas.Bool.{false≢true}
use Rattle.px_cells.specs.CellData.{CellData}
use Rattle.px_cells.specs.Among.{Has}
use Rattle.px_cells.proofs.Among.{all_has, has_append}
use Rattle.px_keptcells.specs.Kept.{HaveOtherKeys, laid}
use Rattle.px_trail.specs.Batches.{has, is_distinct, rows_of}
use Rattle.px_values.proofs.Equal.{row_order-Decides}
use Rattle.px_values.specs.Order.{row_order}
use Rattle.px_values.specs.declared.change.Change.{Change}
use Rattle.px_values.specs.declared.row.Value.{Value}

-- each part's cells stand at keys of its row
abbrev pub AreTheirs : (List Value → List ℕ → Type 0) → List (List Value) → List (List CellData) → Type 0
AreTheirs Own [] [] = Unit {0}
AreTheirs Own [] (p ∷ parts) = ⊥
AreTheirs Own (r ∷ rows) [] = ⊥
AreTheirs Own (r ∷ rows) (p ∷ parts) = AllByRecursion (λ c. Own r c.key) p × AreTheirs Own rows parts

owner : (Own : List Value → List ℕ → Type 0) (rows : List (List Value)) (parts : List (List CellData)) → AreTheirs Own rows parts → (c : CellData) → Has (laid parts) c → (r : List Value) × ((has rows r ≡ true) × Own r c.key)
unfolding has
owner Own [] [] a c h = absurd h
owner Own [] (p ∷ parts) a c h = absurd a
owner Own (r ∷ rows) [] a c h = absurd a
owner Own (r ∷ rows) (p ∷ parts) a c h = elim (has_append p (laid parts) c h) [
  | inl q ↦ (r, ((let e : is_eq (row_order r r) ≡ true = (row_order-Decides r r).1 refl in ap (λ (b : Bool). b || has rows r) e), all_has (λ c. Own r c.key) p c a.0 q))
  | inr q ↦ (let w = owner Own rows parts a.1 c q in (w.0, (or_right (is_eq (row_order r w.0)) (has rows w.0) w.1.0, w.1.1)))
]
  where
    or_right : (b v : Bool) → v ≡ true → (b || v) ≡ true
    or_right true v e = refl
    or_right false v e = e

-- so the cells of another row have other keys
pub other_keys : (Own : List Value → List ℕ → Type 0) → ((r r' : List Value) (k : List ℕ) → Own r k → Own r' k → r ≡ r') → (rows : List (List Value)) (parts : List (List CellData)) → AreTheirs Own rows parts → (r : List Value) → has rows r ≡ false → (part : List CellData) → AllByRecursion (λ c. Own r c.key) part → HaveOtherKeys (laid parts) part
other_keys Own one rows parts a r n part b = record {
  each = λ c d h k e.
      (let w = owner Own rows parts a c h in
      let same : w.0 ≡ r = one w.0 r d.key (subst (Own w.0) e w.1.1) (all_has (λ c. Own r c.key) part d b k) in
      false≢true (sym n ∙ subst (λ (x : List Value). has rows x ≡ true) same w.1.0));
}

has_at : (cs : List Change) (n : ℕ) (c : Change) → n < length cs → c ≡ get_or cs n c → has (rows_of cs) c.row ≡ true
unfolding has
has_at [] n c l e = absurd (omega arith)
has_at (x ∷ cs) zero c l e = ap (λ (b : Bool). b || has (rows_of cs) c.row) ((row_order-Decides x.row c.row).1 (ap (λ (y : Change). y.row) (sym e)))
has_at (x ∷ cs) (suc n) c l e = or_right (is_eq (row_order x.row c.row)) (has (rows_of cs) c.row) (has_at cs n c (omega arith) e)
  where
    or_right : (b v : Bool) → v ≡ true → (b || v) ≡ true
    or_right true v e = refl
    or_right false v e = e

-- no row before a place is the one there
pub new_at : (cs : List Change) (n : ℕ) (c : Change) → is_distinct (rows_of cs) ≡ true → n < length cs → c ≡ get_or cs n c → has (rows_of (take n cs)) c.row ≡ false
unfolding has is_distinct
new_at [] n c d l e = absurd (omega arith)
new_at (x ∷ cs) zero c d l e = refl
new_at (x ∷ cs) (suc n) c d l e = both (is_eq (row_order x.row c.row)) refl (has (rows_of cs) x.row) refl (is_distinct (rows_of cs)) refl d (λ u. new_at cs n c u (omega arith) e)
  where
    both : (b : Bool) → is_eq (row_order x.row c.row) ≡ b → (h : Bool) → has (rows_of cs) x.row ≡ h → (v : Bool) → is_distinct (rows_of cs) ≡ v → (not h && v) ≡ true → (is_distinct (rows_of cs) ≡ true → has (rows_of (take n cs)) c.row ≡ false) → (is_eq (row_order x.row c.row) || has (rows_of (take n cs)) c.row) ≡ false
    both b q true w v u z f = absurd (false≢true z)
    both b q false w false u z f = absurd (false≢true z)
    both true q false w true u z f = absurd (false≢true (sym w ∙ (ap (has (rows_of cs)) ((row_order-Decides x.row c.row).0 q) ∙ has_at cs n c (omega arith) e)))
    both false q false w true u z f = ap (λ (b : Bool). b || has (rows_of (take n cs)) c.row) q ∙ f u
