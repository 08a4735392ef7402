-- The stamps of the cells of a row.
use Rattle.std.proofs.Common.{◌≡◌, ℕ, Bool, true, false, ◌||◌, List, [], ◌∷◌, Some, refl, ap, sym, subst, ◌∙◌, inl, inr}
use Rattle.std.specs.Prelude.{nat_eq, ◌↔◌}
use Rattle.std.proofs.lemmas.Bool.{cases_Bool, eq-eqb, eqb-true}
use Rattle.px_cells.specs.Among.{Has}
use Rattle.px_cells.specs.CellData.{CellData}
use Rattle.px_cells.specs.Contents.{cell_of, value_at}
use Rattle.px_cells.specs.Rows.{IsRow}
use Rattle.px_cells.proofs.Among.{has_from_reads, reads_from_has}
use Rattle.px_cells.proofs.Contents.{reads_from_value, value_from_reads}
use Rattle.px_looks.specs.Stamps.{HasCellOf, has_stamp}

stamp_has : (s : ℕ) (cells : List CellData) → has_stamp s cells ≡ true → (c : CellData) × Has cells c × (c.stamp ≡ s)
stamp_has s [] h = absurd (let z : false ≡ true = h in cc)
stamp_has s (x ∷ cells) h = elim (cases_Bool (nat_eq x.stamp s)) [
  | inl e ↦ (x, inl refl, eqb-true _ _ e)
  | inr e ↦ (let r = stamp_has s cells (sym (ap (λ (b : Bool). b || has_stamp s cells) e) ∙ h) in (r.0, inr r.1, r.2))
]

or_true : (b : Bool) → (b || true) ≡ true
or_true true = refl
or_true false = refl

has_stamped : (s : ℕ) (cells : List CellData) (c : CellData) → Has cells c → c.stamp ≡ s → has_stamp s cells ≡ true
has_stamped s [] c h e = absurd h
has_stamped s (x ∷ cells) c (inl q) e = ap (λ (b : Bool). b || has_stamp s cells) (eq-eqb _ _ (ap (λ (z : CellData). z.stamp) q ∙ e))
has_stamped s (x ∷ cells) c (inr h) e = ap (λ (b : Bool). nat_eq x.stamp s || b) (has_stamped s cells c h e) ∙ or_true (nat_eq x.stamp s)

-- the row has one of the stamp where the whole has at its key
pub stamp_told : (cells row : List CellData) (k : List ℕ) (s : ℕ) → IsRow cells k row → (has_stamp s row ≡ true) ↔ HasCellOf (value_at cells) k s
stamp_told cells row k s is = (
  (λ h. (let r = stamp_has s row h in
      let c = r.0 in
      let there = (is.exact c).0 (reads_from_has row c is.ascending r.1) in
      record {
        qualifier = c.qualifier;
        kind = c.kind;
        value = c.value;
        is = subst (λ (x : List ℕ). value_at cells x c.qualifier s c.kind ≡ Some c.value) there.1 (subst (λ (u : ℕ). value_at cells c.key c.qualifier u c.kind ≡ Some c.value) r.2 (value_from_reads cells c.key c.qualifier c.stamp c.kind c.value there.0));
      })),
  (λ h. (let c = cell_of k h.qualifier s h.kind h.value in has_stamped s row c (has_from_reads row c ((is.exact c).1 (reads_from_value cells k h.qualifier s h.kind h.value h.is, refl))) refl)),
)
