-- Batches between two numbers.
use Rattle.std.proofs.Common.{◌≡◌, ◌⊎◌, ℕ, ◌+◌, ◌<◌, ◌≤◌, Bool, true, false, ltb, leb, List, [], ◌∷◌, ◌++◌, refl, ap, arith, inl, inr}
use Rattle.std.specs.Prelude.{filter, nat_le, nat_lt, ◌&&◌}
use Rattle.std.proofs.lemmas.Bool.{cases_Bool, cases_lt, lt-ltb, le-ltb, le-leb, lt-leb}
use Rattle.px_wal.specs.Batches.{LogBatch, batches_above, batches_between}
use Rattle.px_wal.specs.Form.{batch_byte_count, cell_count}
use Rattle.px_wal.proofs.Cuts.{above_drop, above_take}

between_take : (m n : ℕ) (b : LogBatch) (batches : List LogBatch) → m < b.number → b.number ≤ n → batches_between m n (b ∷ batches) ≡ b ∷ batches_between m n batches
between_take m n b batches l k =
    let e : ltb m b.number ≡ true = lt-ltb m b.number l in
    let f : leb b.number n ≡ true = le-leb b.number n k in
    rw (e, f) refl

outside : (m n : ℕ) (b : LogBatch) → (b.number ≤ m) ⊎ (n < b.number) → (nat_lt m b.number && nat_le b.number n) ≡ false
outside m n b (inl low) = (let e : ltb m b.number ≡ false = le-ltb m b.number low in rw e refl)
outside m n b (inr high) =
    let f : leb b.number n ≡ false = lt-leb b.number n high in
    elim (cases_Bool (ltb m b.number)) [ inl e ↦ rw (e, f) refl | inr e ↦ rw e refl ]

between_drop : (m n : ℕ) (b : LogBatch) (batches : List LogBatch) → (b.number ≤ m) ⊎ (n < b.number) → batches_between m n (b ∷ batches) ≡ batches_between m n batches
between_drop m n b batches out = (let e = outside m n b out in rw e refl)

filter_more : (P : LogBatch → Bool) (batches : List LogBatch) (b : LogBatch) → P b ≡ false → filter P (batches ++ b ∷ []) ≡ filter P batches
filter_more P [] b not-kept = rw not-kept refl
filter_more P (a ∷ batches) b not-kept = elim (cases_Bool (P a)) [
  | inl e ↦ rw e (ap (λ (l : List LogBatch). a ∷ l) (filter_more P batches b not-kept))
  | inr e ↦ rw e (filter_more P batches b not-kept)
]

-- a batch that comes later isn't between
pub between_same : (m n : ℕ) (batches : List LogBatch) (b : LogBatch) → n < b.number → batches_between m n (batches ++ b ∷ []) ≡ batches_between m n batches
between_same m n batches b high = filter_more (λ b. nat_lt m b.number && nat_le b.number n) batches b (outside m n b (inr high))

-- what is above a number is between it and a greater one, or above that
pub cells_cut : (m n : ℕ) (batches : List LogBatch) → m ≤ n → cell_count (batches_above m batches) ≡ cell_count (batches_between m n batches) + cell_count (batches_above n batches)
cells_cut m n [] le = refl
cells_cut m n (b ∷ batches) le = by (cells_cut m n batches le) (cases_lt m b.number) (cases_lt n b.number)
  where
    by : cell_count (batches_above m batches) ≡ cell_count (batches_between m n batches) + cell_count (batches_above n batches) → (m < b.number) ⊎ (b.number ≤ m) → (n < b.number) ⊎ (b.number ≤ n)
        → cell_count (batches_above m (b ∷ batches)) ≡ cell_count (batches_between m n (b ∷ batches)) + cell_count (batches_above n (b ∷ batches))
    by more (inr low) x =
        let h : b.number ≤ n = omega arith in
        let e = ap cell_count (above_drop m b batches low) in
        let f = ap cell_count (between_drop m n b batches (inl low)) in
        let g = ap cell_count (above_drop n b batches h) in
        omega (arith, e, f, g, more)
    by more (inl over) (inr mid) =
        let e = ap cell_count (above_take m b batches over) in
        let f = ap cell_count (between_take m n b batches over mid) in
        let g = ap cell_count (above_drop n b batches mid) in
        omega (arith, e, f, g, more)
    by more (inl over) (inl high) =
        let e = ap cell_count (above_take m b batches over) in
        let f = ap cell_count (between_drop m n b batches (inr high)) in
        let g = ap cell_count (above_take n b batches high) in
        omega (arith, e, f, g, more)

pub bytes_cut : (m n : ℕ) (batches : List LogBatch) → m ≤ n → batch_byte_count (batches_above m batches) ≡ batch_byte_count (batches_between m n batches) + batch_byte_count (batches_above n batches)
bytes_cut m n [] le = refl
bytes_cut m n (b ∷ batches) le = by (bytes_cut m n batches le) (cases_lt m b.number) (cases_lt n b.number)
  where
    by : batch_byte_count (batches_above m batches) ≡ batch_byte_count (batches_between m n batches) + batch_byte_count (batches_above n batches) → (m < b.number) ⊎ (b.number ≤ m) → (n < b.number) ⊎ (b.number ≤ n)
        → batch_byte_count (batches_above m (b ∷ batches)) ≡ batch_byte_count (batches_between m n (b ∷ batches)) + batch_byte_count (batches_above n (b ∷ batches))
    by more (inr low) x =
        let h : b.number ≤ n = omega arith in
        let e = ap batch_byte_count (above_drop m b batches low) in
        let f = ap batch_byte_count (between_drop m n b batches (inl low)) in
        let g = ap batch_byte_count (above_drop n b batches h) in
        omega (arith, e, f, g, more)
    by more (inl over) (inr mid) =
        let e = ap batch_byte_count (above_take m b batches over) in
        let f = ap batch_byte_count (between_take m n b batches over mid) in
        let g = ap batch_byte_count (above_drop n b batches mid) in
        omega (arith, e, f, g, more)
    by more (inl over) (inl high) =
        let e = ap batch_byte_count (above_take m b batches over) in
        let f = ap batch_byte_count (between_drop m n b batches (inr high)) in
        let g = ap batch_byte_count (above_take n b batches high) in
        omega (arith, e, f, g, more)
