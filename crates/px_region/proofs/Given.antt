-- Counting rows.
use Rattle.std.proofs.Common.{◌≡◌, ℕ, zero, suc, ◌+◌, ◌≤◌, true, cond, List, refl, sym, ap, subst, ◌∙◌, add-one, arith, inl, inr}
use Rattle.std.specs.Prelude.{nat_eq, not}
use Rattle.std.specs.Cmp.Lexicographic.{pointwise}
use Rattle.std.proofs.lemmas.Bool.{cases_eq}
use Rattle.px_cells.specs.CellData.{CellData}
use Rattle.px_region.specs.Giving.{begins_row, key_at, rows_before}

pub begins_first : (cells : List CellData) (i : ℕ) → i ≡ 0 → begins_row cells i ≡ true
unfolding begins_row
begins_first cells zero is = refl
begins_first cells (suc i) is = absurd (omega arith)

pub begins_next : (cells : List CellData) (i j : ℕ) → i ≡ suc j → begins_row cells i ≡ not (pointwise nat_eq (key_at cells j) (key_at cells i))
unfolding begins_row
begins_next cells i j is = ap (begins_row cells) is ∙ ap (λ (k : ℕ). not (pointwise nat_eq (key_at cells j) (key_at cells k))) (sym is)

pub row_none : (cells : List CellData) → rows_before cells 0 ≡ 0
unfolding rows_before
row_none cells = refl

pub row_step : (cells : List CellData) (i : ℕ) → rows_before cells (i + 1) ≡ rows_before cells i + cond (begins_row cells i) 1 0
unfolding rows_before
row_step cells i = ap (rows_before cells) (add-one i)

row_rises : (cells : List CellData) (i : ℕ) → rows_before cells i ≤ rows_before cells (suc i)
unfolding rows_before
row_rises cells i = omega arith

pub rows_rise : (cells : List CellData) (m n : ℕ) → m ≤ n → rows_before cells m ≤ rows_before cells n
rows_rise cells m zero le = (let e : m ≡ zero = omega arith in subst (λ (k : ℕ). rows_before cells k ≤ rows_before cells zero) (sym e) (omega arith))
rows_rise cells m (suc n) le = elim (cases_eq m (suc n)) [
  | inl e ↦ subst (λ (k : ℕ). rows_before cells k ≤ rows_before cells (suc n)) (sym e) (omega arith)
  | inr e ↦ (let a = rows_rise cells m n (omega arith) in let b = row_rises cells n in omega arith)
]
