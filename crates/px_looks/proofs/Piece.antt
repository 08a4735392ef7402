-- The first rows of a range, where they are those of one piece.
use Rattle.std.proofs.Common.{◌≡◌, ℕ, zero, suc, ◌+◌, ◌-◌, ◌<◌, ◌≤◌, ◌⊎◌, Bool, true, false, cond, Option, List, [], ◌∷◌, ◌++◌, length, take, get_or, refl, ap, sym, subst, ◌∙◌, inl, inr, arith, length-append}
use Rattle.std.proofs.lemmas.Bool.{cases_Bool}
use Rattle.std.specs.declared.cmp.Ordering.TheVariants.{Less}
use Rattle.px_cells.specs.Among.{Has}
use Rattle.px_cells.specs.CellData.{CellData}
use Rattle.px_cells.specs.Order.{IsAscending}
use Rattle.px_cells.specs.Rows.{AreRows}
use Rattle.px_cells.proofs.Among.{ascending_left}
use Rattle.px_cells.proofs.Orders.{equal_key}
use Rattle.px_memstore.specs.Pieces.{AreFirstRows, KeysApart}
use Rattle.px_region.specs.Giving.{begins_row, key_at, rows_before}
use Rattle.px_region.proofs.Given.{begins_first, row_step, rows_rise}
use Rattle.px_looks.specs.inner.Lent.{AreFirst, IsTaken}
use Rattle.px_looks.proofs.Among.{begins_not}
use Rattle.px_looks.proofs.Cut.{begins_front, front_at, has_at, no_cell, rows_front, taken_of}

take_front : (xs ys : List CellData) (n : ℕ) → n ≤ length xs → take n (xs ++ ys) ≡ take n xs
take_front xs ys zero l = refl
take_front [] ys (suc n) l = absurd (omega (arith, l))
take_front (x ∷ xs) ys (suc n) l = ap (λ (k : List CellData). x ∷ k) (take_front xs ys n (omega (arith, l)))

back_at : (xs : List CellData) (y : CellData) (ys : List CellData) → get_or (xs ++ y ∷ ys) (length xs) no_cell ≡ y
back_at [] y ys = refl
back_at (x ∷ xs) y ys = back_at xs y ys

-- another row begins behind them
begins_back : (xs : List CellData) (y : CellData) (ys : List CellData) → KeysApart xs (y ∷ ys) → begins_row (xs ++ y ∷ ys) (length xs) ≡ true
begins_back [] y ys apart = begins_first (y ∷ ys) 0 refl
begins_back (x ∷ xs) y ys apart = elim (cases_Bool (begins_row ((x ∷ xs) ++ y ∷ ys) (length (x ∷ xs)))) [
  | inl t ↦ t
  | inr f ↦ absurd (
      let n = length (x ∷ xs) in
      let same : key_at ((x ∷ xs) ++ y ∷ ys) (n - 1) ≡ key_at ((x ∷ xs) ++ y ∷ ys) n = (begins_not ((x ∷ xs) ++ y ∷ ys) n f).1 in
      let last : CellData = get_or (x ∷ xs) (n - 1) no_cell in
      let k : last.key ≡ y.key = sym (ap (λ (c : CellData). c.key) (front_at (x ∷ xs) (y ∷ ys) (n - 1) no_cell (omega arith))) ∙ (same ∙ ap (λ (c : CellData). c.key) (back_at (x ∷ xs) y ys)) in
      let e = apart last y (has_at (x ∷ xs) (n - 1) no_cell (omega arith)) (inl refl) in
      let q = equal_key last.key y.key k in
      cc)
]

first_in : (all others : List CellData) (most rows : ℕ) (got : List CellData) → KeysApart all others → AreFirst all most rows got → AreFirst (all ++ others) rows rows got
first_in all others most rows got apart f = record {
  count = f.count;
  within = (let n = length-append all others in let w = f.within in omega (arith, n, w));
  are = f.are ∙ sym (take_front all others f.count f.within);
  counted = f.counted ∙ sym (rows_front all others f.count f.within);
  few = omega arith;
  ended = by others refl;
}
  where
    by : (o : List CellData) → others ≡ o → (f.count ≡ length (all ++ others)) ⊎ ((f.count < length (all ++ others)) × (begins_row (all ++ others) f.count ≡ true) × (rows ≡ rows))
    by [] e = elim f.ended [
      | inl q ↦ inl (let n = length-append all others in let m = ap (λ (k : List CellData). length k) e in omega (arith, n, m, q))
      | inr z ↦ inr ((let n = length-append all others in let l = z.0 in omega (arith, n, l)), begins_front all others f.count z.0 ∙ z.1, refl)
    ]
    by (y ∷ ys) e = elim f.ended [
      | inl q ↦ inr (
        (let n = length-append all others in let m = ap (λ (k : List CellData). length k) e in omega (arith, n, m, q)),
        subst (λ (o : List CellData). begins_row (all ++ o) f.count ≡ true) (sym e) (subst (λ (k : ℕ). begins_row (all ++ y ∷ ys) k ≡ true) (sym q) (begins_back all y ys (subst (KeysApart all) e apart))),
        refl,
      )
      | inr z ↦ inr ((let n = length-append all others in let l = z.0 in omega (arith, n, l)), begins_front all others f.count z.0 ∙ z.1, refl)
    ]

-- the first rows are sorted
pub first_ascending : (cells : List CellData) (low : List ℕ) (high : Option (List ℕ)) (first : List CellData) (is_all : Bool) → AreFirstRows cells low high first is_all → IsAscending first
first_ascending cells low high first is_all are = ascending_left first are.others are.rows.ascending

-- where they aren't all of the range, more follow
pub taken_more : (cells : List CellData) (low : List ℕ) (high : Option (List ℕ)) (most rows : ℕ) (all got : List CellData) → rows ≤ 18446744073709551615 → AreFirstRows cells low high all false → AreFirst all most rows got → IsTaken cells low high rows rows got
taken_more cells low high most rows all got fits are first = taken_of cells low high rows rows (all ++ are.others) got fits are.rows (first_in all are.others most rows got are.apart first)

-- where they are all of it
pub taken_all : (cells : List CellData) (low : List ℕ) (high : Option (List ℕ)) (most rows : ℕ) (all got : List CellData) → rows ≤ 18446744073709551615 → AreFirstRows cells low high all true → AreFirst all most rows got → IsTaken cells low high most rows got
taken_all cells low high most rows all got fits are first = taken_of cells low high most rows all got fits (subst (AreRows cells low high) (ap (λ (o : List CellData). all ++ o) (are.all refl) ∙ none all) are.rows) first
  where
    none : (xs : List CellData) → xs ++ [] ≡ xs
    none [] = refl
    none (x ∷ xs) = ap (λ (k : List CellData). x ∷ k) (none xs)

-- one row at least is lent, where there is one
pub some_taken : (all got : List CellData) (most rows : ℕ) → 0 < length all → 0 < most → AreFirst all most rows got → 0 < rows
some_taken all got most rows some wanted f = elim f.ended [
  | inl e ↦ rows_some all f.count (omega (arith, e, some)) f.within f.counted
  | inr z ↦ (let e = z.2 in omega (arith, e, wanted))
]
  where
    rows_some : (xs : List CellData) (n : ℕ) → 0 < n → n ≤ length xs → rows ≡ rows_before xs n → 0 < rows
    rows_some xs n z w c =
        let e : rows_before xs 1 ≡ rows_before xs 0 + 1 = row_step xs 0 ∙ ap (λ (t : Bool). rows_before xs 0 + cond t 1 0) (begins_first xs 0 refl) in
        let m = rows_rise xs 1 n (omega (arith, z)) in
        omega (arith, e, m, c)
