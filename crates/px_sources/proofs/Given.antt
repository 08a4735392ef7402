-- Rows that are given.
use Rattle.std.proofs.Common.{◌≡◌, ℕ, zero, suc, ◌+◌, ◌-◌, ◌<◌, ◌≤◌, true, cond, List, [], ◌∷◌, length, get_or, refl, sym, ap, subst, ◌∙◌, add-one, arith, inl, inr}
use Rattle.std.specs.Prelude.{min, nat_eq, not}
use Rattle.std.specs.Cmp.Lexicographic.{pointwise}
use Rattle.std.proofs.lemmas.Bool.{cases_eq}
use Rattle.px_cells.specs.CellData.{CellData}
use Rattle.px_sources.specs.Giving.{begins_row, key_at, rows_before}

pub begins_first : (cells : List CellData) (i : ℕ) → i ≡ 0 → begins_row cells i ≡ true
unfolding begins_row
begins_first cells zero is = refl
begins_first cells (suc i) is = absurd (omega arith)

pub begins_next : (cells : List CellData) (i j : ℕ) → i ≡ suc j → begins_row cells i ≡ not (pointwise nat_eq (key_at cells j) (key_at cells i))
unfolding begins_row
begins_next cells i j is = ap (begins_row cells) is ∙ ap (λ (k : ℕ). not (pointwise nat_eq (key_at cells j) (key_at cells k))) (sym is)

pub row_none : (cells : List CellData) → rows_before cells 0 ≡ 0
unfolding rows_before
row_none cells = refl

pub row_step : (cells : List CellData) (i : ℕ) → rows_before cells (i + 1) ≡ rows_before cells i + cond (begins_row cells i) 1 0
unfolding rows_before
row_step cells i = ap (rows_before cells) (add-one i)

row_rises : (cells : List CellData) (i : ℕ) → rows_before cells i ≤ rows_before cells (suc i)
unfolding rows_before
row_rises cells i = omega arith

pub rows_rise : (cells : List CellData) (m n : ℕ) → m ≤ n → rows_before cells m ≤ rows_before cells n
rows_rise cells m zero le = (let e : m ≡ zero = omega arith in subst (λ (k : ℕ). rows_before cells k ≤ rows_before cells zero) (sym e) (omega arith))
rows_rise cells m (suc n) le = elim (cases_eq m (suc n)) [
  | inl e ↦ subst (λ (k : ℕ). rows_before cells k ≤ rows_before cells (suc n)) (sym e) (omega arith)
  | inr e ↦ (let a = rows_rise cells m n (omega arith) in let b = row_rises cells n in omega arith)
]

-- ---- a cell at a place

same_at : (cells : List CellData) (i : ℕ) (a b : CellData) → i < length cells → get_or cells i a ≡ get_or cells i b
same_at [] i a b lt = absurd (omega arith)
same_at (c ∷ cells) zero a b lt = refl
same_at (c ∷ cells) (suc i) a b lt = same_at cells i a b (omega arith)

pub key_of : (cells : List CellData) (i : ℕ) (c : CellData) (key : List ℕ) → i < length cells → c ≡ get_or cells i c → key ≡ c.key → key_at cells i ≡ key
key_of cells i c key lt is key-is = ap (λ (x : CellData). x.key) (same_at cells i _ c lt ∙ sym is) ∙ sym key-is

pub begins_by : (cells : List CellData) (i : ℕ) (a b : CellData) (first second : List ℕ) → (i ≡ 0 → ⊥) → i < length cells → a ≡ get_or cells (i - 1) a → b ≡ get_or cells i b → first ≡ a.key → second ≡ b.key
    → begins_row cells i ≡ not (pointwise nat_eq first second)
begins_by cells i a b first second some lt a-is b-is first-is second-is =
    begins_next cells i (i - 1) (omega arith) ∙ ap (λ (k : List ℕ). not (pointwise nat_eq k (key_at cells i))) (key_of cells (i - 1) a first (omega arith) a-is first-is)
    ∙ ap (λ (k : List ℕ). not (pointwise nat_eq first k)) (key_of cells i b second lt b-is second-is)

-- ---- counting

pub looked_step : (start rows one old new : ℕ) → old ≡ min (start + rows) 18446744073709551615 → new ≡ min (old + one) 18446744073709551615 → new ≡ min (start + (rows + one)) 18446744073709551615
looked_step start rows one old new before after = omega arith

pub looked_most : (start rows all old : ℕ) → old ≡ min (start + rows) 18446744073709551615 → rows ≤ all → old ≤ start + all
looked_most start rows all old is le = omega arith

pub looked_least : (start rows old : ℕ) → start < 18446744073709551616 → old ≡ min (start + rows) 18446744073709551615 → start ≤ old
looked_least start rows old small is = omega arith
