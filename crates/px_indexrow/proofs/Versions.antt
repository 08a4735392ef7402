-- A version, cell by cell.
use Rattle.std.proofs.Common.{◌≡◌, ℕ, suc, ◌-◌, ◌<◌, List, [], ◌∷◌, ◌++◌, ap, sym, ◌∙◌, append_assoc, append-nil, arith}
use Rattle.px_cells.specs.CellData.{CellData}
use Rattle.px_values.specs.States.{RowState}
use Rattle.px_forms.specs.Indexes.{IndexForm}
use Rattle.px_indexrow.specs.Lists.{column_cell, column_cells}

one_more : (f : IndexForm) (k : List ℕ) (s : ℕ) (state : RowState) (m : ℕ) (xs : List CellData) → (xs ++ column_cell k s (f.place m) (f.col state m) ∷ []) ++ column_cells f k s state m ≡ xs ++ column_cells f k s state (suc m)
unfolding column_cells
one_more f k s state m xs = append_assoc xs (column_cell k s (f.place m) (f.col state m) ∷ []) (column_cells f k s state m)

pub version_more : (f : IndexForm) (k : List ℕ) (s : ℕ) (state : RowState) (n : ℕ) (c : CellData) (xs ys whole : List CellData) → 0 < n → xs ++ column_cells f k s state n ≡ whole → c ≡ column_cell k s (f.place (n - 1)) (f.col state (n - 1)) → ys ≡ xs ++ c ∷ [] → ys ++ column_cells f k s state (n - 1) ≡ whole
version_more f k s state n c xs ys whole l h e q =
    let z : suc (n - 1) ≡ n = omega arith in
    ap (λ (x : List CellData). x ++ column_cells f k s state (n - 1)) (q ∙ ap (λ (x : CellData). xs ++ x ∷ []) e)
    ∙ (one_more f k s state (n - 1) xs ∙ (ap (λ (m : ℕ). xs ++ column_cells f k s state m) z ∙ h))

pub version_done : (f : IndexForm) (k : List ℕ) (s : ℕ) (state : RowState) (n : ℕ) (xs whole : List CellData) → n ≡ 0 → xs ++ column_cells f k s state n ≡ whole → xs ≡ whole
unfolding column_cells
version_done f k s state n xs whole z h = sym (append-nil xs) ∙ (ap (λ (m : ℕ). xs ++ column_cells f k s state m) (sym z) ∙ h)
