-- Numbers of the sequence.
use Rattle.std.proofs.Common.{◌≡◌, ℕ, zero, suc, ◌+◌, ◌*◌, sym, ◌∙◌, ap, arith}
use Rattle.px_load.specs.Rows.{after, behind_rows, next}

-- so many and then so many more
after_more : (more count number : ℕ) → after (more + count) number ≡ after more (after count number)
after_more zero count number = (let shape : 0 + count ≡ count = omega arith in ap (λ (n : ℕ). after n number) shape)
after_more (suc more) count number =
    let shape : suc more + count ≡ suc (more + count) = omega arith in
    ap (λ (n : ℕ). after n number) shape ∙ ap next (after_more more count number)

-- the three draws of one row more
pub one_row_more : (count number drawn drawn' : ℕ) → drawn ≡ behind_rows count number → drawn' ≡ after 3 drawn → drawn' ≡ behind_rows (count + 1) number
one_row_more count number drawn drawn' at goes =
    let shape : 3 + 3 * count ≡ 3 * (count + 1) = omega arith in
    goes ∙ (ap (after 3) at ∙ (sym (after_more 3 (3 * count) number) ∙ ap (λ (n : ℕ). after n number) shape))
